-- Opens every definition of this crate and of those below it: an example that is computed says `unfolding computing`.
-- Assumes nothing.
use Rattle.words.specs.Computing as Words
use Rattle.reading.specs.Reading.{read_input}
use Rattle.reading.specs.Broken.{ended}

unfoldable pub computing : Unit {0}
unfolding Words.computing read_input ended
computing = tt
