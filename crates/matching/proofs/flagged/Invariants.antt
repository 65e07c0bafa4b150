-- `flagged` meets its contract. Invariant: what the entries before i count. Assumes nothing.
use Rattle.std.proofs.Common.{◌≡◌, ◌*◌, ◌≤◌}
use Rattle.words.specs.Basics.{sum_below}
use Rattle.matching.specs.Choosing.{flagged_entry}
use Rattle.matching.proofs.flagged.Given as goal

abbrev pub invariant-loop-i : goal.invariant-loop-i
invariant-loop-i l = (l.c ≤ 4294967295 * l.i) × (l.c ≡ sum_below (flagged_entry l.count l.g l.pairs 0) l.i)
