-- `pad_side` meets its contract: the new parties passed are appended. Assumes nothing.
use Rattle.evening.specs.Sides.{Padding}
use Rattle.evening.proofs.sides.pad_side.Given as goal

abbrev pub invariant-loop-i : goal.invariant-loop-i
invariant-loop-i l = Padding l.at l.k l.i l.p l.fn.s l.s
