-- From the last noted entry down, what is left to fill is the same from each turn on.
use Rattle.std.proofs.Common.{◌≡◌}
use Rattle.words.specs.Sides.{offset_of}
use Rattle.rings.specs.Model.{ends_m}
use Rattle.rings.specs.Bounds.{FillsEnds}
use Rattle.rings.proofs.Rings.fill_ends.Given as goal

abbrev pub invariant-loop-k : goal.invariant-loop-k
invariant-loop-k l =
    FillsEnds l.self (offset_of l.side) l.k l.s
    × (ends_m l.self (offset_of l.side) l.k l.s ≡ ends_m l.self (offset_of l.side) l.odd l.initial.s)
