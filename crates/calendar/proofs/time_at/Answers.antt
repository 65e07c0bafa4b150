-- `time_at` meets its contract: the table's sixteen numbers are the definition's times. Assumes nothing.
use mathlib.Core.Path.{refl}
use Rattle.calendar.specs.Calendar.{times}
use Rattle.calendar.proofs.time_at.Goals as goal

pub returns : goal.returns
unfolding times
returns c = refl
