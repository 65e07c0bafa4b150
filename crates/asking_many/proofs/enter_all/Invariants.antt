-- `enter_all` meets its contract: with each turn the table is that of one appointment more. Assumes nothing.
use lib.ListN.{length, take}
use Rattle.appointments.specs.Appointments.{appts}
use Rattle.asking_many.specs.Tables.{Table}
use Rattle.asking_many.proofs.enter_all.Given as goal

abbrev pub invariant-loop-first : goal.invariant-loop-first
invariant-loop-first l = Table (take (length l.yielded) (appts l.list)) l.slots l.rows
