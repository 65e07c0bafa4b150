-- Small lists worked out by hand from the Rust's text, in which a wrong turn shows. Assumes nothing.
use mathlib.Core.Path.{◌≡◌, refl}
use mathlib.Core.List.{[], ◌∷◌}
use Rattle.words.specs.Basics.{ran}
use Rattle.appointments.specs.Appointments.{appt}
use Rattle.multigraph.specs.Multigraph.{pair}
use Rattle.regular_graph.specs.Evening.{add_appointments, padded, even_out}
use Rattle.regular_graph.specs.Computing.{computing}

-- 0-1 2-1 3-4 3-4 3-4 1-0: a pair that comes again, either way round, gets another copy
pub pairs :
    add_appointments [] (appt 0 1 ∷ appt 2 1 ∷ appt 3 4 ∷ appt 3 4 ∷ appt 3 4 ∷ appt 1 0 ∷ [])
    ≡ pair 0 1 2 0 ∷ pair 2 1 1 0 ∷ pair 3 4 3 0 ∷ []
unfolding computing
pairs = refl

-- P 5: left 1 4 gets one new party, right 0 2 3 none
pub padding : padded 5 3 (1 ∷ 4 ∷ []) ≡ 1 ∷ 4 ∷ 5 ∷ []
unfolding computing
padding = refl

pub no_padding : padded 5 3 (0 ∷ 2 ∷ 3 ∷ []) ≡ 0 ∷ 2 ∷ 3 ∷ []
unfolding computing
no_padding = refl

-- 0-1 2-1 3-4 3-4 3-4, D 3: 1 lacks one and 0 lacks two, so one copy more of 0-1, which keeps its ends; 4 is full; 5 lacks three,
-- of which one goes to 0 and two to 2, each time 5 as first end
pub evened :
    even_out 3 (pair 0 1 1 0 ∷ pair 2 1 1 0 ∷ pair 3 4 3 0 ∷ []) (1 ∷ 4 ∷ 5 ∷ []) (0 ∷ 2 ∷ 3 ∷ [])
    ≡ ran (pair 0 1 2 0 ∷ pair 2 1 1 0 ∷ pair 3 4 3 0 ∷ pair 5 0 1 0 ∷ pair 5 2 2 0 ∷ [])
unfolding computing
evened = refl
