-- Opens every definition of this crate and of those below it: an example that is computed says `unfolding computing`.
-- Assumes nothing.
use Rattle.words.specs.Basics.{is, total, count, iterate, sum_below}
use Rattle.words.specs.Words.{region}
use Rattle.words.specs.PowersOfTwo.{log_up}
use Rattle.words.specs.Ascii.{ascii}

unfoldable pub computing : Unit {0}
unfolding is total count iterate sum_below region log_up ascii
computing = tt
