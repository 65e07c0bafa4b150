-- Worked examples of the filed plan, each computed: its bytes, and writing's and reading's refusals in their order. A wrong
-- definition is refused here. Assumes nothing.
use Rattle.std.specs.Prelude.{ℕ, ◌≡◌, refl, List, [], ◌∷◌, replicate}
use Rattle.appointments.specs.Answers.{Answer, accepted, refused}
use Rattle.filing.specs.Filed.{filed_bytes, writing_answer, writing_output, reading_answer, reading_list, reading_slots}
use Rattle.filing.specs.declared.Header.{Header}
use Rattle.filing.specs.Computing.{computing}

-- P 1,000 (232 and 3 as bytes) and the appointment 0-999 in slot 258, filed
abbrev filed : List ℕ
filed = 232 ∷ 3 ∷ 1 ∷ 0 ∷ 0 ∷ 0 ∷ 231 ∷ 3 ∷ 2 ∷ 1 ∷ []

abbrev read : ℕ → ℕ → Answer Header
read P A = accepted (record { parties = P; appointments = A })

writing_examples :
    (filed_bytes 1000 (0 ∷ 999 ∷ []) (258 ∷ []) ≡ filed)
    × (writing_answer 1000 (0 ∷ 999 ∷ []) (258 ∷ 4 ∷ []) (replicate 10 5) ≡ accepted 10)
    × (writing_output 1025 (0 ∷ 999 ∷ []) (258 ∷ 4 ∷ []) (replicate 12 5) ≡ replicate 12 5)
    × (writing_output 0 [] [] (replicate 6 5) ≡ 0 ∷ 0 ∷ 0 ∷ 0 ∷ 5 ∷ 5 ∷ [])
    -- the refusals in their order
    × (writing_answer 1025 (0 ∷ []) [] [] ≡ refused 1 0)
    × (writing_answer 1024 (0 ∷ 1 ∷ 2 ∷ []) [] [] ≡ refused 2 0)
    × (writing_answer 1024 (replicate 8194 0) [] [] ≡ refused 3 0)
    × (writing_answer 1024 (replicate 8192 0) [] [] ≡ refused 7 0)
    × (writing_answer 1024 (0 ∷ 1 ∷ []) (0 ∷ []) (replicate 9 5) ≡ refused 13 0)
unfolding computing
writing_examples = (refl, refl, refl, refl, refl, refl, refl, refl, refl)

reading_examples :
    (reading_answer filed (replicate 2 5) (replicate 1 5) ≡ read 1000 1)
    × (reading_list filed (replicate 3 5) (replicate 1 5) ≡ 0 ∷ 999 ∷ 5 ∷ [])
    × (reading_slots filed (replicate 2 5) (replicate 3 5) ≡ 258 ∷ 5 ∷ 5 ∷ [])
    × (reading_list filed (replicate 1 5) (replicate 1 5) ≡ replicate 1 5)
    -- the refusals in their order
    × (reading_answer [] [] [] ≡ refused 12 0)
    × (reading_answer (0 ∷ 0 ∷ 0 ∷ []) [] [] ≡ refused 12 0)
    × (reading_answer (1 ∷ 4 ∷ 1 ∷ 0 ∷ []) [] [] ≡ refused 12 0)
    × (reading_answer (1 ∷ 4 ∷ 0 ∷ 0 ∷ []) [] [] ≡ refused 1 0)
    × (reading_answer (0 ∷ 4 ∷ 0 ∷ 0 ∷ []) [] [] ≡ read 1024 0)
    × (reading_answer (0 ∷ 0 ∷ 1 ∷ 16 ∷ replicate 24582 0) [] [] ≡ refused 3 0)
    × (reading_answer (0 ∷ 0 ∷ 0 ∷ 16 ∷ replicate 24576 0) [] [] ≡ refused 13 0)
    × (reading_answer filed (0 ∷ []) (0 ∷ []) ≡ refused 13 0)
    × (reading_answer filed (0 ∷ 0 ∷ []) [] ≡ refused 13 0)
unfolding computing
reading_examples = (refl, refl, refl, refl, refl, refl, refl, refl, refl, refl, refl, refl, refl)
