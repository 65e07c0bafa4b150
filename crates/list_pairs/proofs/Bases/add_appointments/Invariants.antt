-- `add_appointments` meets its contract: the appointments passed have their pairs. Assumes nothing.
use Rattle.list_pairs.specs.FromList.{Built}
use Rattle.list_pairs.proofs.Bases.add_appointments.Given as goal

abbrev pub invariant-loop-i : goal.invariant-loop-i
invariant-loop-i l = Built l.list l.self l.i l.fn.s l.s
