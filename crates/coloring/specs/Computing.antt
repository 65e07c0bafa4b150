-- Opens every definition of this crate and of those below it: an example that is computed says `unfolding computing`.
-- Assumes nothing.
use Rattle.perfect_matching.specs.Computing as PerfectMatching
use Rattle.coloring.specs.EdgeColor.{rbmg_edge_color_when_power_of_two, set_aside, add_matchings, rbmg_edge_color}

unfoldable pub computing : Unit {0}
unfolding PerfectMatching.computing rbmg_edge_color_when_power_of_two set_aside add_matchings rbmg_edge_color
computing = tt
