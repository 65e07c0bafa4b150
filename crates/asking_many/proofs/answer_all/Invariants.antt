-- `answer_all` meets its contract: the output holds the answers to the first queries, one more with each turn. Assumes nothing.
use Prim.Native.Nat.{◌*◌}
use mathlib.Core.Path.{◌≡◌}
use lib.ListN.{length}
use Rattle.words.specs.Words.{filled}
use Rattle.appointments.specs.Appointments.{appts}
use Rattle.asking_many.specs.Many.{asked_of_all}
use Rattle.asking_many.proofs.answer_all.Given as goal

abbrev pub invariant-loop-j : goal.invariant-loop-j
invariant-loop-j l = (length l.output ≡ length l.initial.output) × (l.output ≡ filled (asked_of_all (appts l.list) l.slots l.queries) (3 * l.j) l.initial.output)
