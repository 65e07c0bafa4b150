-- The first i numbers are added.
use Rattle.std.proofs.Common.{ℕ}
use Rattle.multigraph.specs.Places.{MatchingFits}
use Rattle.multigraph.proofs.MatchingWords.{Adding}
use Rattle.multigraph.proofs.MappedGraph.add_matching.Given as goal

abbrev pub invariant-loop-i : goal.invariant-loop-i
invariant-loop-i l = (ends pairs most : ℕ) → MatchingFits ends pairs most l.self.places l.self.g l.m.at l.m.n l.fn.s → Adding ends pairs most l.self.places l.self.g l.m.at l.m.n l.i l.fn.s l.s
