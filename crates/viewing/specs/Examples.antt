-- Worked examples of the viewer, each computed: opening and its refusals, a party with itself, the steps and the end. A wrong
-- definition is refused here. Assumes nothing.
use Rattle.std.specs.Prelude.{Some, None, ℕ, ◌≡◌, refl, List, [], ◌∷◌}
use Rattle.appointments.specs.Answers.{accepted, refused}
use Rattle.viewing.specs.Viewer.{viewer_answer, view_step, view_next, view_steps, view}
use Rattle.viewing.specs.declared.Seen.{Seen}
use Rattle.viewing.specs.Computing.{computing}

abbrev shown : ℕ → ℕ → Seen
shown i s = record { position = i; slot = s }

-- party 0 is named at positions 0, 2 (with itself) and 3
abbrev four : List ℕ
four = 0 ∷ 1 ∷ 1 ∷ 2 ∷ 0 ∷ 0 ∷ 2 ∷ 0 ∷ []

abbrev four_slots : List ℕ
four_slots = 9 ∷ 8 ∷ 7 ∷ 6 ∷ 5 ∷ []

viewer_examples :
    (viewer_answer four four_slots ≡ accepted tt)
    × (viewer_answer (0 ∷ 1 ∷ 2 ∷ []) [] ≡ refused 2 0)
    × (viewer_answer four (0 ∷ 1 ∷ []) ≡ refused 7 0)
    × (view 0 four four_slots ≡ shown 0 9 ∷ shown 2 7 ∷ shown 3 6 ∷ [])
    × (view 1 four four_slots ≡ shown 0 9 ∷ shown 1 8 ∷ [])
    × (view 65535 four four_slots ≡ [])
    -- the steps, one after the other, and the end, where it stays
    × (view_step 0 four four_slots 0 ≡ Some (shown 0 9))
    × (view_next 0 four four_slots 0 ≡ 1)
    × (view_step 0 four four_slots 1 ≡ Some (shown 2 7))
    × (view_step 0 four four_slots 3 ≡ Some (shown 3 6))
    × (view_step 0 four four_slots 4 ≡ None)
    × (view_step 1 four four_slots 2 ≡ None)
    × (view_next 1 four four_slots 2 ≡ 4)
    × (view_next 1 four four_slots 4 ≡ 4)
    × (view_step 0 four four_slots 9 ≡ None)
    × (view_steps 4 0 four four_slots 0 ≡ view 0 four four_slots)
unfolding computing
viewer_examples = (refl, refl, refl, refl, refl, refl, refl, refl, refl, refl, refl, refl, refl, refl, refl, refl)
