-- `SearchGraph::build` meets its contract: the copy, then the diagonal. Assumes nothing.
use Rattle.matching.proofs.GraphWords.{builds_graph}
use Rattle.matching.proofs.SearchGraph.build.Goals as goal

pub returns : goal.returns
returns c =
    let a = c.args in
    builds_graph a.self.t a.g a.self.graph.g a.self.graph.n a.alpha a.beta a.s.now c.copy.new.s c.add_diagonal.new.s c.copy.ensures c.add_diagonal.ensures
