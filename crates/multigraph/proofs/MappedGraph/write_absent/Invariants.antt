-- The keys before i are written.
use Rattle.std.proofs.Common.{ℕ, ◌+◌}
use Rattle.multigraph.proofs.Mapping.{Writing}
use Rattle.multigraph.proofs.MappedGraph.write_absent.Given as goal

abbrev pub invariant-loop-i : goal.invariant-loop-i
invariant-loop-i l = Writing (λ (j : ℕ). l.keys.at + j) (λ (j : ℕ). 0) l.keys.n l.i l.self.places l.initial.s l.s
