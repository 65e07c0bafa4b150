-- Opens every definition of this crate and of those below it: an example that is computed says `unfolding computing`.
-- Assumes nothing.
use Rattle.asking.specs.Computing as Asking
use Rattle.asking_many.specs.Many.{asked_of_one, asked_of_all, many_checks, many_answer, many_output}

unfoldable pub computing : Unit {0}
unfolding Asking.computing asked_of_one asked_of_all many_checks many_answer many_output
computing = tt
