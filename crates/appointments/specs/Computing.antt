-- Opens every definition of this crate and of those below it: an example that is computed says `unfolding computing`.
-- Assumes nothing.
use Rattle.words.specs.Computing as Words
use Rattle.appointments.specs.Appointments.{appts, names, load, largest_load}
use Rattle.appointments.specs.Plans.{different, meets}
use Rattle.appointments.specs.Checks.{first_from, checks_1_to_5, checks_with_slots, checks_1_to_6, checks_1_to_8}
use Rattle.appointments.specs.Needed.{needs_answer}

unfoldable pub computing : Unit {0}
unfolding Words.computing appts names load largest_load different meets first_from checks_1_to_5 checks_with_slots checks_1_to_6 checks_1_to_8 needs_answer
computing = tt
