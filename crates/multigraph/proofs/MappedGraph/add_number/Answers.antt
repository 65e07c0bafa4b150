-- `MappedGraph::add_number` meets its contract: `add_edge` at the number that stands there. Assumes nothing.
use Rattle.multigraph.proofs.MappedGraph.add_number.Goals as goal

pub returns : goal.returns
returns c = rw c.pair_at-e.ensures at c.add_edge.ensures
