-- Opens every definition of this crate and of those below it: an example that is computed says `unfolding computing`.
-- Assumes nothing.
use Rattle.calendar.specs.Calendar.{times, clock_answer, number_in, slot_answer}

unfoldable pub computing : Unit {0}
unfolding times clock_answer number_in slot_answer
computing = tt
