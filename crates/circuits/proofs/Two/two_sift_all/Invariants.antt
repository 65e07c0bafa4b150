-- The entries passed are sifted, and neither count is above the entry.
use Rattle.std.proofs.Common.{◌≡◌, ◌≤◌}
use Rattle.circuits.specs.Model.{two_sift_all_m}
use Rattle.circuits.proofs.Two.two_sift_all.Given as goal

abbrev pub invariant-loop-i : goal.invariant-loop-i
invariant-loop-i l = record {
  even_le : l.n.even ≤ l.i;
  odd_le : l.n.odd ≤ l.i;
  sifted : record { words = l.s; sifted = l.n } ≡ two_sift_all_m l.self l.i l.initial.s;
}
