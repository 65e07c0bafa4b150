-- What a stored line tells of an answer, as numbers, and what the definitions tell. Assumes nothing.
use Rattle.std.specs.Prelude.{ℕ, List, [], ◌∷◌, length, take}
use Rattle.appointments.specs.Answers.{Answer, accepted, refused}
use Rattle.appointments.specs.Lent.{Lent, lent_appts}
use Rattle.planning.specs.Planning.{plan_answer, plan_slots}

-- a plan is told as 0, D and its slots, a refusal as its number and place
abbrev pub told : Answer ℕ → List ℕ → List ℕ
told (accepted D) plan = 0 ∷ D ∷ plan
told (refused number place) plan = number ∷ place ∷ []

-- the definitions' answer to a list, with the first A slot entries
abbrev pub answer_told : Lent → List ℕ
answer_told l = told (plan_answer l) (take (length (lent_appts l)) (plan_slots l))
