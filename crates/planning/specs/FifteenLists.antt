-- Document 01's fifteen small lists, as one table and one statement over it. Assumes nothing.
use Rattle.std.specs.Prelude.{ℕ, ◌≡◌, refl, List, [], ◌∷◌, map, length, replicate}
use Rattle.appointments.specs.Appointments.{appts, largest_load, scratch_words}
use Rattle.appointments.specs.Answers.{Answer, number_of, place_of, figure_of}
use Rattle.appointments.specs.Lent.{Lent, lent}
use Rattle.planning.specs.Planning.{plan_answer, plan_slots}
use Rattle.planning.specs.Computing.{computing}

-- P, the list, and the number, place and D that the call gives, with what its slot buffer then holds: the slots, or where it
-- refuses the sevens that it held before.
pub record Row : Type 0 where
  pub parties : ℕ
  pub list : List ℕ
  pub number : ℕ
  pub place : ℕ
  pub D : ℕ
  pub slots : List ℕ

abbrev pub row : ℕ → List ℕ → ℕ → ℕ → ℕ → List ℕ → Row
row P list number place D slots =
    record { parties = P; list = list; number = number; place = place; D = D; slots = slots }

abbrev pub fifteen_lists : List Row
fifteen_lists =
    row 0 [] 0 0 0 []
    ∷ row 3 [] 0 0 0 []
    ∷ row 2 (0 ∷ 1 ∷ []) 0 0 1 (0 ∷ [])
    ∷ row 2 (1 ∷ 0 ∷ []) 0 0 1 (0 ∷ [])
    ∷ row 3 (0 ∷ 1 ∷ 1 ∷ 2 ∷ []) 0 0 2 (0 ∷ 1 ∷ [])
    ∷ row 4 (0 ∷ 1 ∷ 1 ∷ 2 ∷ 2 ∷ 3 ∷ []) 0 0 2 (0 ∷ 1 ∷ 0 ∷ [])
    ∷ row 4 (0 ∷ 1 ∷ 1 ∷ 2 ∷ 2 ∷ 3 ∷ 3 ∷ 0 ∷ []) 0 0 2 (0 ∷ 1 ∷ 0 ∷ 1 ∷ [])
    ∷ row 2 (0 ∷ 1 ∷ 0 ∷ 1 ∷ []) 0 0 2 (1 ∷ 0 ∷ [])
    ∷ row 2 (0 ∷ 1 ∷ 0 ∷ 1 ∷ 0 ∷ 1 ∷ []) 0 0 3 (2 ∷ 1 ∷ 0 ∷ [])
    ∷ row 2 (0 ∷ 1 ∷ 1 ∷ 0 ∷ []) 0 0 2 (1 ∷ 0 ∷ [])
    ∷ row 4 (0 ∷ 1 ∷ 2 ∷ 3 ∷ []) 0 0 1 (0 ∷ 0 ∷ [])
    ∷ row 1 (0 ∷ 0 ∷ []) 9 0 0 (7 ∷ [])
    ∷ row 3 (0 ∷ 1 ∷ 1 ∷ 2 ∷ 2 ∷ 0 ∷ []) 9 0 0 (7 ∷ 7 ∷ 7 ∷ [])
    ∷ row 2 (0 ∷ 65535 ∷ []) 4 0 0 (7 ∷ [])
    ∷ row 2 (0 ∷ 1 ∷ 2 ∷ 65535 ∷ []) 4 1 0 (7 ∷ 7 ∷ [])
    ∷ []

-- The planning call on a row's P and list, with buffers exactly long enough and filled with sevens.
abbrev pub call : Row → Row
call r =
    let A : ℕ = length (appts r.list) in
    let W : ℕ = scratch_words r.parties (largest_load r.parties (appts r.list)) in
    let l : Lent = lent r.parties r.list (replicate A 7) (replicate W 7) in
    let answer : Answer ℕ = plan_answer l in
    row r.parties r.list (number_of answer) (place_of answer) (figure_of answer) (plan_slots l)

-- All fifteen rows hold: the call gives each row's number, place, D and slots.
pub fifteen_hold : map call fifteen_lists ≡ fifteen_lists
unfolding computing
fifteen_hold = refl
