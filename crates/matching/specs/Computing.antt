-- Opens every definition of this crate and of those below it: an example that is computed says `unfolding computing`.
-- Assumes nothing.
use Rattle.perfect_matching.specs.Computing as PerfectMatching
use Rattle.matching.specs.Searched.{column}

unfoldable pub computing : Unit {0}
unfolding PerfectMatching.computing column
computing = tt
