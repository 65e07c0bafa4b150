-- Opens every definition of this crate and of those below it: an example that is computed says `unfolding computing`.
-- Assumes nothing.
use Rattle.appointments.specs.Computing as Appointments
use Rattle.multigraph.specs.Computing as Multigraph
use Rattle.highest_slot.specs.Slots.{give, give_slots}

unfoldable pub computing : Unit {0}
unfolding Appointments.computing Multigraph.computing give give_slots
computing = tt
