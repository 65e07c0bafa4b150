-- Opens every definition of this crate and of those below it: an example that is computed says `unfolding computing`.
-- Assumes nothing.
use Rattle.appointments.specs.Computing as Appointments
use Rattle.bipartition.specs.TwoColor.{colour_of, far_ends, neighbours, touch, touch_all, pop, start, search_below, side, two_color}

unfoldable pub computing : Unit {0}
unfolding Appointments.computing colour_of far_ends neighbours touch touch_all pop start search_below side two_color
computing = tt
