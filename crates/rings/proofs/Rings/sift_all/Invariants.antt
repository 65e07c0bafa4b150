-- The entries passed are sifted, and the count is never above the entry.
use Rattle.std.proofs.Common.{◌≡◌, ◌≤◌}
use Rattle.rings.specs.Model.{sift_all_m}
use Rattle.rings.proofs.Rings.sift_all.Given as goal

abbrev pub invariant-loop-i : goal.invariant-loop-i
invariant-loop-i l = (l.odd ≤ l.i) × (record { words = l.s; count = l.odd } ≡ sift_all_m l.self l.i l.initial.s)
