-- The entries passed are written, with the place never above the entry.
use Rattle.std.proofs.Common.{◌≡◌, ◌≤◌}
use Rattle.words.specs.Sides.{offset_of}
use Rattle.splitting.specs.Model.{entries_m}
use Rattle.splitting.proofs.halves.Half.half_entries.Given as goal

abbrev pub invariant-loop-i : goal.invariant-loop-i
invariant-loop-i l = (l.at ≤ l.i) × (record { words = l.s; count = l.at } ≡ entries_m l.l l.self.h (offset_of l.self.side) l.i l.initial.s)
