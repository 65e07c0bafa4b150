-- Opens every definition of this crate and of those below it: an example that is computed says `unfolding computing`. The wrong
-- turn of LowestFree.antt too, so that the edit which takes it is refused by the slots that it gives.
-- Assumes nothing.
use Rattle.bipartition.specs.Computing as Bipartition
use Rattle.given_partition.specs.Computing as GivenPartition
use Rattle.planning.specs.LowestFree.{lowest_from, lowest_free}
use Rattle.planning.specs.Planning.{bipartite_edge_color, plan_answer, plan_slots, plan_scratch}

unfoldable pub computing : Unit {0}
unfolding Bipartition.computing GivenPartition.computing lowest_from lowest_free bipartite_edge_color plan_answer plan_slots plan_scratch
computing = tt
