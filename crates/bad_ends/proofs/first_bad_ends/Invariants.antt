-- `first_bad_ends` meets its contract: what is kept, or else what is found from here on, is the first of the whole list, for each of the two tests.
-- Assumes nothing.
use Rattle.appointments.specs.Appointments.{appts}
use Rattle.appointments.specs.Checks.{has_blank, has_unlisted}
use Rattle.bad_ends.specs.Noted.{Kept}
use Rattle.bad_ends.proofs.first_bad_ends.Given as goal

abbrev pub invariant-loop-i : goal.invariant-loop-i
invariant-loop-i l =
    record {
      for_4 : Kept has_blank (appts l.list) l.i l.seen.blank;
      for_5 : Kept (has_unlisted l.p) (appts l.list) l.i l.seen.unlisted;
    }
