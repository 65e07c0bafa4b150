-- `SearchGraph::add_diagonal` meets its contract. Invariant: the first i numbers are added. Assumes nothing.
use Rattle.std.proofs.Common.{ℕ}
use Rattle.matching.specs.Searched.{DiagonalFits}
use Rattle.matching.proofs.DiagonalWords.{Extending}
use Rattle.matching.proofs.SearchGraph.add_diagonal.Given as goal

abbrev pub invariant-loop-i : goal.invariant-loop-i
invariant-loop-i l = (most : ℕ) → DiagonalFits most l.self.t l.self.graph.g l.self.graph.n l.beta l.fn.s → Extending most l.self.t l.self.graph.g l.self.graph.n l.beta l.i l.fn.s l.s
