-- Opens every definition of this crate and of those below it: an example that is computed says `unfolding computing`.
-- Assumes nothing.
use Rattle.multigraph.specs.Computing as Multigraph
use Rattle.euler.specs.Euler.{take_by, first_pair, walk_step, walk_from, names_party, visited, tour_below, euler_cycles}
use Rattle.euler.specs.Split.{add_halves, rest, every_other, add_pairs, deal, rbmg_split_into_two}

unfoldable pub computing : Unit {0}
unfolding Multigraph.computing take_by first_pair walk_step walk_from names_party visited tour_below euler_cycles add_halves rest every_other add_pairs deal rbmg_split_into_two
computing = tt
