-- `SearchGraph::add_diagonal` meets its contract. Invariant: the first i numbers are added. Assumes nothing.
use Rattle.std.proofs.Common.{arith}
use Rattle.matching.proofs.DiagonalWords.{extending_none, extending_more, extending_done}
use Rattle.matching.proofs.SearchGraph.add_diagonal.Goals as goal

pub loop-i-init : goal.loop-i-init
loop-i-init c =
    let a = c.args in
    λ most f. extending_none most a.self.t a.self.graph.g a.self.graph.n a.beta a.s.now f c.map_places.new.s (rw (c.mapped.ensures.0, c.mapped.ensures.1) at c.map_places.ensures)

pub loop-i-preserved : goal.loop-i-preserved
loop-i-preserved c =
    let lp = c.loop-i in
    let a = c.args in
    λ most f. extending_more most a.self.t a.self.graph.g a.self.graph.n a.beta a.s.now f lp.i lp.s c.add_pair.new.s c.loop-i-test.true (lp.invariant most f) c.add_pair.ensures

pub returns : goal.returns
returns c =
    let lp = c.loop-i in
    let a = c.args in
    λ most f. extending_done most a.self.t a.self.graph.g a.self.graph.n a.beta a.s.now f lp.i lp.s (omega arith) (lp.invariant most f)
