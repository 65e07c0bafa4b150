-- The entries before i are written.
use Rattle.std.proofs.Common.{ℕ, ◌+◌, ◌*◌}
use Rattle.multigraph.proofs.Mapping.{Writing}
use Rattle.multigraph.proofs.MappedGraph.write_places.Given as goal

abbrev pub invariant-loop-i : goal.invariant-loop-i
invariant-loop-i l = Writing (λ (j : ℕ). l.self.g + 2 + 2 * j) (λ (j : ℕ). j + 1) l.m l.i l.self.places l.initial.s l.s
