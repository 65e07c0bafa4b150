-- `put_parties` meets its contract: a line more with each turn. Assumes nothing.
use Prim.Native.Nat.{◌-◌}
use Rattle.appointments.specs.Appointments.{appts}
use Rattle.printing.specs.Printing.{party_lines}
use Rattle.printing.proofs.PlacingSteps.{Underway}
use Rattle.printing.proofs.put_parties.Given as goal

abbrev pub invariant-loop-party : goal.invariant-loop-party
invariant-loop-party g l =
    Underway (g.O.Output.state l.initial.out) (party_lines (appts l.list) l.slots 0 l.p) (g.O.Output.state l.out) (party_lines (appts l.list) l.slots l.party (l.p - l.party))
