-- Opens every definition of this crate and of those below it: an example that is computed says `unfolding computing`.
-- Assumes nothing.
use Rattle.euler.specs.Computing as Euler
use Rattle.perfect_matching.specs.Matching.{flagged_pairs, flagged_copies, fewer_flagged, halve, add_times, add_diagonal, search_graph, rbmg_find_perfect_matching}

unfoldable pub computing : Unit {0}
unfolding Euler.computing flagged_pairs flagged_copies fewer_flagged halve add_times add_diagonal search_graph rbmg_find_perfect_matching
computing = tt
