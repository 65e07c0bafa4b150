-- Opens every definition of this crate and of those below it: an example that is computed says `unfolding computing`.
-- Assumes nothing.
use Rattle.appointments.specs.Computing as Appointments
use Rattle.viewing.specs.Viewer.{viewer_answer, view_steps, view}

unfoldable pub computing : Unit {0}
unfolding Appointments.computing viewer_answer view_steps view
computing = tt
