-- Opens every definition of this crate and of those below it: an example that is computed says `unfolding computing`.
-- Assumes nothing.
use Rattle.planning.specs.Computing as Planning
use Rattle.reading.specs.Computing as Reading
use Rattle.printing.specs.Computing as Printing
use Rattle.text.specs.Text.{text_output}

unfoldable pub computing : Unit {0}
unfolding Planning.computing Reading.computing Printing.computing text_output
computing = tt
