-- `put_appointments` meets its contract: a line more with each turn. Assumes nothing.
use lib.ListN.{drop}
use Rattle.appointments.specs.Appointments.{appts}
use Rattle.printing.specs.Printing.{appointment_lines}
use Rattle.printing.proofs.PlacingSteps.{Underway}
use Rattle.printing.proofs.put_appointments.Given as goal

abbrev pub invariant-loop-i : goal.invariant-loop-i
invariant-loop-i g l =
    Underway (g.O.Output.state l.initial.out) (appointment_lines 0 (appts l.list) l.slots) (g.O.Output.state l.out) (appointment_lines l.i (drop l.i (appts l.list)) l.slots)
