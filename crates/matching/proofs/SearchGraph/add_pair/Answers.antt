-- `SearchGraph::add_pair` meets its contract: `add_edge` at the diagonal's number. Assumes nothing.
use Rattle.matching.proofs.SearchGraph.add_pair.Goals as goal

pub returns : goal.returns
returns c = rw (c.mapped.ensures.0, c.mapped.ensures.1, c.pair_at-key.ensures, c.new-number.ensures) at c.add_edge.ensures
