-- The places passed are written, and no more than they.
use Rattle.std.proofs.Common.{◌≡◌, ◌+◌, ◌≤◌}
use Rattle.words.specs.Sides.{offset_of}
use Rattle.splitting.specs.Model.{singles_m}
use Rattle.splitting.proofs.halves.Half.half_singles.Given as goal

abbrev pub invariant-loop-k : goal.invariant-loop-k
invariant-loop-k l = (l.at ≤ l.from + l.k) × (record { words = l.s; count = l.at } ≡ singles_m l.l l.self.h (offset_of l.self.side) l.k (record { words = l.initial.s; count = l.from }))
