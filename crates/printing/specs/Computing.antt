-- Opens every definition of this crate and of those below it: an example that is computed says `unfolding computing`.
-- Assumes nothing.
use Rattle.asking.specs.Computing as Asking
use Rattle.printing.specs.Printing.{plan_lines, refusal_line}

unfoldable pub computing : Unit {0}
unfolding Asking.computing plan_lines refusal_line
computing = tt
