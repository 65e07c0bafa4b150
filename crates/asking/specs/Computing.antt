-- Opens every definition of this crate and of those below it: an example that is computed says `unfolding computing`.
-- Assumes nothing.
use Rattle.appointments.specs.Computing as Appointments
use Rattle.asking.specs.PartySlots.{slots_of, lowest, highest}
use Rattle.asking.specs.Waiting.{waiting_answer}

unfoldable pub computing : Unit {0}
unfolding Appointments.computing slots_of lowest highest waiting_answer
computing = tt
