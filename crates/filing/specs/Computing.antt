-- Opens every definition of this crate and of those below it: an example that is computed says `unfolding computing`.
-- Assumes nothing.
use Rattle.appointments.specs.Computing as Appointments
use Rattle.filing.specs.Filed.{writing_output, reading_list, reading_slots}

unfoldable pub computing : Unit {0}
unfolding Appointments.computing writing_output reading_list reading_slots
computing = tt
