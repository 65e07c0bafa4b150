-- A wrong turn that document 01 names: the lowest free slot per appointment. It is no part of the meaning; it stands here so that
-- an edit can put it in the planner's place and be refused, and so that a reader sees where it gives a longer plan.
-- Assumes nothing.
use Rattle.std.specs.Prelude.{ℕ, zero, suc, ◌+◌, ◌≡◌, refl, List, [], ◌∷◌, ◌++◌, eqb, length}
use Rattle.words.specs.Basics.{pick}
use Rattle.appointments.specs.Appointments.{Appt, appt, largest_load}
use Rattle.appointments.specs.Plans.{meets}
use Rattle.appointments.specs.Computing as Appointments

-- the lowest slot from s on, among the next n, that neither end meets in the appointments before
unfoldable pub lowest_from : ℕ → ℕ → List Appt → List ℕ → Appt → ℕ
lowest_from zero s before slots x = s
lowest_from (suc n) s before slots x =
    let later : ℕ = lowest_from n (s + 1) before slots x in
    pick (eqb (meets x.first s before slots + meets x.second s before slots) 0) s later

-- the slots of a list, the appointments before it having theirs
unfoldable pub lowest_free : List Appt → List ℕ → List Appt → List ℕ
lowest_free before slots [] = slots
lowest_free before slots (x ∷ xs) =
    lowest_free (before ++ (x ∷ [])) (slots ++ (lowest_from (length before) 0 before slots x ∷ [])) xs

-- 3-4 2-3 0-1 1-2 has D 2, and the lowest free slots are three
three_slots :
    lowest_free [] [] (appt 3 4 ∷ appt 2 3 ∷ appt 0 1 ∷ appt 1 2 ∷ []) ≡ 0 ∷ 1 ∷ 0 ∷ 2 ∷ []
unfolding Appointments.computing lowest_from lowest_free
three_slots = refl

two_needed : largest_load 5 (appt 3 4 ∷ appt 2 3 ∷ appt 0 1 ∷ appt 1 2 ∷ []) ≡ 2
unfolding Appointments.computing
two_needed = refl
