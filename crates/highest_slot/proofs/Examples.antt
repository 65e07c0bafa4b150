-- Small plans worked out by hand from the Rust's text, in which a wrong turn shows. Assumes nothing.
use mathlib.Core.Path.{◌≡◌, refl}
use mathlib.Core.List.{[], ◌∷◌}
use Rattle.words.specs.Basics.{ran, failed}
use Rattle.appointments.specs.Appointments.{appt}
use Rattle.multigraph.specs.Multigraph.{pair}
use Rattle.highest_slot.specs.Slots.{give_slots}
use Rattle.highest_slot.specs.Computing.{computing}

-- 0-1 2-3 1-0: the pair 0-1 has slots 0 and 2, the highest goes first; 2-3 has slot 1
pub highest_first :
    give_slots (appt 0 1 ∷ appt 2 3 ∷ appt 1 0 ∷ [])
    ((pair 0 1 1 0 ∷ pair 4 3 1 0 ∷ []) ∷ (pair 3 2 1 0 ∷ pair 4 1 1 0 ∷ []) ∷ (pair 0 1 1 0 ∷ []) ∷ [])
    ≡ ran (2 ∷ 1 ∷ 0 ∷ [])
unfolding computing
highest_first = refl

-- a pair without a slot left: the Rust would panic
pub none_left : give_slots (appt 0 1 ∷ appt 0 1 ∷ []) ((pair 0 1 1 0 ∷ []) ∷ []) ≡ failed
unfolding computing
none_left = refl
