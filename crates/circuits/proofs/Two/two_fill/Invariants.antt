-- From the last noted pair down, what is left to note is the same from each turn on.
use Rattle.std.proofs.Common.{◌≡◌}
use Rattle.words.specs.Sides.{offset_of}
use Rattle.circuits.specs.Model.{two_fill_m}
use Rattle.circuits.specs.Bounds.{TwoFills}
use Rattle.circuits.proofs.Two.two_fill.Given as goal

abbrev pub invariant-loop-k : goal.invariant-loop-k
invariant-loop-k l =
    TwoFills l.self (offset_of l.side) l.k l.s
    × (two_fill_m l.self (offset_of l.side) l.k l.s ≡ two_fill_m l.self (offset_of l.side) l.odd l.initial.s)
