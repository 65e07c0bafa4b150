-- Opens every definition of this crate and of those below it: an example that is computed says `unfolding computing`.
-- Assumes nothing.
use Rattle.words.specs.Computing as Words
use Rattle.multigraph.specs.Multigraph.{add_edge, remove_edge, add_matching, remove_matching}
use Rattle.multigraph.specs.Regular.{weigh, between, pairs_between}
use Rattle.multigraph.specs.Stored.{entries, graph_at, matching_at, matchings_at}

unfoldable pub computing : Unit {0}
unfolding Words.computing add_edge remove_edge add_matching remove_matching weigh between pairs_between entries graph_at matching_at matchings_at
computing = tt
