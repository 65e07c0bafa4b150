-- `copy_entries` meets its contract. Invariant: the first i entries are copied. Assumes nothing.
use Rattle.std.proofs.Common.{◌≡◌}
use Rattle.multigraph.specs.Places.{size}
use Rattle.matching.specs.Choosing.{CanCopy, Copying}
use Rattle.matching.proofs.GraphCopy.copy_entries.Given as goal

abbrev pub invariant-loop-i : goal.invariant-loop-i
invariant-loop-i l = l.m ≡ size l.fn.s l.self.from → CanCopy l.self.from l.self.to l.self.alpha l.fn.s → Copying l.self.from l.self.to l.self.alpha l.i l.fn.s l.s
