-- `two_color` on small lists, computed: its orders, and its refusals. Each of document 01's wrong turns of module 2 changes an
-- answer here: a queue in place of the stack, neighbours in another order, the first party put left. Assumes nothing.
use mathlib.Core.Path.{◌≡◌, refl}
use mathlib.Core.List.{[], ◌∷◌}
use Rattle.appointments.specs.Appointments.{appts}
use Rattle.bipartition.specs.TwoColor.{sides, not_bipartite, two_color}
use Rattle.bipartition.specs.Computing.{computing}

-- The list 1-2 1-4 2-5 5-3 0-2. 0 gets 1 and, coming off, colours 2; 2 colours 5 and then 1. 1 was pushed last and comes off
-- first, so 4 is coloured before 3. (In a queue 5 would come off first, and 3 stand before 4.) 6 has no appointment.
pub stack_example : two_color 7 (appts (1 ∷ 2 ∷ 1 ∷ 4 ∷ 2 ∷ 5 ∷ 5 ∷ 3 ∷ 0 ∷ 2 ∷ [])) ≡ sides (2 ∷ 4 ∷ 3 ∷ []) (0 ∷ 5 ∷ 1 ∷ 6 ∷ [])
unfolding computing
stack_example = refl

-- The list 0-2 5-0 5-4 1-0. The neighbours of 0 are 2, where it is first end, then 1 and 5, where it is second end, newest
-- first. (Oldest first would put 5 before 1, and second ends first would put 2 last.) 5 comes off first and colours 4.
pub newest_example : two_color 6 (appts (0 ∷ 2 ∷ 5 ∷ 0 ∷ 5 ∷ 4 ∷ 1 ∷ 0 ∷ [])) ≡ sides (2 ∷ 1 ∷ 5 ∷ []) (0 ∷ 4 ∷ 3 ∷ [])
unfolding computing
newest_example = refl

-- The first party is put right.
pub first_right_example : two_color 2 (appts (0 ∷ 1 ∷ [])) ≡ sides (1 ∷ []) (0 ∷ [])
unfolding computing
first_right_example = refl

-- No party, and parties without an appointment.
pub empty_example : two_color 0 [] ≡ sides [] []
unfolding computing
empty_example = refl

pub lone_example : two_color 3 [] ≡ sides [] (0 ∷ 1 ∷ 2 ∷ [])
unfolding computing
lone_example = refl

-- A party with itself, and a round of three: refused.
pub itself_example : two_color 1 (appts (0 ∷ 0 ∷ [])) ≡ not_bipartite
unfolding computing
itself_example = refl

pub triangle_example : two_color 3 (appts (0 ∷ 1 ∷ 1 ∷ 2 ∷ 2 ∷ 0 ∷ [])) ≡ not_bipartite
unfolding computing
triangle_example = refl
