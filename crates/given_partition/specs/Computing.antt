-- Opens every definition of this crate and of those below it: an example that is computed says `unfolding computing`.
-- Assumes nothing.
use Rattle.coloring.specs.Computing as Coloring
use Rattle.regular_graph.specs.Computing as RegularGraph
use Rattle.highest_slot.specs.Computing as HighestSlot
use Rattle.given_partition.specs.GivenPartition.{bipartite_edge_color_given_partition}

unfoldable pub computing : Unit {0}
unfolding Coloring.computing RegularGraph.computing HighestSlot.computing bipartite_edge_color_given_partition
computing = tt
