-- `note_all` meets its contract: with each turn what was noted are the party's slots of one appointment more. Assumes nothing.
use lib.ListN.{take}
use Rattle.appointments.specs.Appointments.{appts}
use Rattle.asking.specs.PartySlots.{slots_of}
use Rattle.asking.specs.Noted.{Noted}
use Rattle.asking.proofs.note_all.Given as goal

abbrev pub invariant-loop-i : goal.invariant-loop-i
invariant-loop-i l =
    Noted (slots_of l.party (take l.i (appts l.list)) l.slots) l.flags l.kept.span.lowest l.kept.span.highest l.kept.different
