-- The copies of the entries passed are added up.
use Rattle.std.proofs.Common.{◌≡◌, ◌*◌, ◌≤◌}
use Rattle.circuits.specs.Model.{copies_sum_m}
use Rattle.circuits.proofs.copies.copies_sum.Given as goal

abbrev pub invariant-loop-i : goal.invariant-loop-i
invariant-loop-i l = (l.sum ≤ l.i * 4294967296) × (l.sum ≡ copies_sum_m l.g l.i l.s)
