-- Worked examples of a party's slots and of waiting, each computed: document 01's printed plan (P 3, list 0-1 1-2), a party with gaps,
-- slots that repeat, clash or aren't below D, and refusals in their order. A wrong definition is refused here. Assumes nothing.
use Rattle.std.specs.Prelude.{ℕ, ◌≡◌, refl, List, [], ◌∷◌}
use Rattle.appointments.specs.Appointments.{appts}
use Rattle.appointments.specs.Answers.{accepted, refused}
use Rattle.asking.specs.PartySlots.{slots_of, lowest, highest}
use Rattle.asking.specs.Waiting.{waiting_answer}
use Rattle.asking.specs.Computing.{computing}

-- the list of document 01's printed plan
abbrev two : List ℕ
two = 0 ∷ 1 ∷ 1 ∷ 2 ∷ []

-- five appointments: 0-1 2-0 0-1 0-3 2-2
abbrev five : List ℕ
five = 0 ∷ 1 ∷ 2 ∷ 0 ∷ 0 ∷ 1 ∷ 0 ∷ 3 ∷ 2 ∷ 2 ∷ []

-- their slots, and an entry behind them that is none
abbrev gaps : List ℕ
gaps = 5 ∷ 2 ∷ 5 ∷ 9 ∷ 7 ∷ 1 ∷ []

party_slots :
    (slots_of 0 (appts five) gaps ≡ 5 ∷ 2 ∷ 5 ∷ 9 ∷ [])
    -- a party with itself once
    × (slots_of 2 (appts five) gaps ≡ 2 ∷ 7 ∷ [])
    × (slots_of 4 (appts five) gaps ≡ [])
    × (lowest (5 ∷ 2 ∷ 5 ∷ 9 ∷ []) ≡ 2)
    × (highest (5 ∷ 2 ∷ 5 ∷ 9 ∷ []) ≡ 9)
    × (lowest (70000 ∷ []) ≡ 70000)
    × (lowest [] ≡ 65535)
    × (highest [] ≡ 0)
unfolding computing
party_slots = (refl, refl, refl, refl, refl, refl, refl, refl)

waits :
    -- the printed plan's three parties, and one that the list doesn't name
    (waiting_answer 4 two (0 ∷ 1 ∷ []) 0 ≡ accepted 0)
    × (waiting_answer 4 two (0 ∷ 1 ∷ []) 1 ≡ accepted 0)
    × (waiting_answer 4 two (0 ∷ 1 ∷ []) 2 ≡ accepted 0)
    × (waiting_answer 4 two (0 ∷ 1 ∷ []) 3 ≡ accepted 0)
    -- from 2 to 9 but for 5, which comes twice: 3 4 6 7 8
    × (waiting_answer 4 five gaps 0 ≡ accepted 5)
    -- the same slot twice, though others have slots around it
    × (waiting_answer 4 five gaps 1 ≡ accepted 0)
    -- from 2 to 7: 3 4 5 6
    × (waiting_answer 4 five gaps 2 ≡ accepted 4)
    × (waiting_answer 4 five gaps 3 ≡ accepted 0)
    -- a party with itself alone
    × (waiting_answer 1 (0 ∷ 0 ∷ []) (3 ∷ []) 0 ≡ accepted 0)
    -- whole numbers below D or not: D is 2 here
    × (waiting_answer 2 (0 ∷ 1 ∷ 0 ∷ 1 ∷ []) (0 ∷ 300 ∷ []) 1 ≡ accepted 299)
unfolding computing
waits = (refl, refl, refl, refl, refl, refl, refl, refl, refl, refl)

-- 7 after everything that the list is refused for, and before 5 with place 0, which is the party's
refusals :
    (waiting_answer 2 (0 ∷ 1 ∷ []) [] 9 ≡ refused 7 0)
    × (waiting_answer 2 (0 ∷ 1 ∷ []) (0 ∷ []) 9 ≡ refused 5 0)
    × (waiting_answer 3 two (0 ∷ 1 ∷ []) 3 ≡ refused 5 0)
    × (waiting_answer 3 two (0 ∷ []) 2 ≡ refused 7 0)
    × (waiting_answer 2 two [] 3 ≡ refused 5 1)
    × (waiting_answer 2 (0 ∷ 7 ∷ 65535 ∷ 1 ∷ []) [] 3 ≡ refused 4 1)
    × (waiting_answer 2 (0 ∷ 1 ∷ 1 ∷ []) [] 3 ≡ refused 2 0)
    × (waiting_answer 1025 (0 ∷ []) [] 0 ≡ refused 1 0)
unfolding computing
refusals = (refl, refl, refl, refl, refl, refl, refl, refl)
