-- Worked examples of asking for many parties, each computed: every refusal in its order, each limit from both sides, parties with themselves,
-- asked for twice or without an appointment. A wrong definition is refused here. Assumes nothing.
use Rattle.std.specs.Prelude.{ℕ, ◌≡◌, refl, List, [], ◌∷◌, replicate}
use Rattle.appointments.specs.Answers.{accepted, refused}
use Rattle.asking_many.specs.Many.{many_answer, many_output}
use Rattle.asking_many.specs.Computing.{computing}

-- five appointments: 0-1 2-0 0-1 0-3 2-2
abbrev five : List ℕ
five = 0 ∷ 1 ∷ 2 ∷ 0 ∷ 0 ∷ 1 ∷ 0 ∷ 3 ∷ 2 ∷ 2 ∷ []

-- their slots, and an entry behind them that is none
abbrev gaps : List ℕ
gaps = 5 ∷ 2 ∷ 5 ∷ 9 ∷ 7 ∷ 1 ∷ []

-- an output to be written over
abbrev held : List ℕ
held = 11 ∷ 12 ∷ 13 ∷ 14 ∷ 15 ∷ 16 ∷ 17 ∷ 18 ∷ 19 ∷ 20 ∷ []

-- what a call with `held` leaves in it
abbrev leaves : ℕ → List ℕ → List ℕ → List ℕ → List ℕ
leaves P list slots queries = many_output P list slots queries held

told :
    -- party 2 has the slots 2 and 7, and its load counts the appointment with itself twice; 4 has none; entries past the ninth stay
    (leaves 5 five gaps (2 ∷ 0 ∷ 4 ∷ []) ≡ 3 ∷ 2 ∷ 7 ∷ 4 ∷ 2 ∷ 9 ∷ 0 ∷ 65535 ∷ 65535 ∷ 20 ∷ [])
    -- asked for twice, told twice
    × (leaves 2 (0 ∷ 0 ∷ []) (5 ∷ []) (0 ∷ 1 ∷ 0 ∷ []) ≡ 2 ∷ 5 ∷ 5 ∷ 0 ∷ 65535 ∷ 65535 ∷ 2 ∷ 5 ∷ 5 ∷ 20 ∷ [])
    -- slots may clash, needn't be below D, and may be 65,535: the load tells it from none
    × (many_output 3 (0 ∷ 1 ∷ 0 ∷ 2 ∷ []) (5 ∷ 5 ∷ []) (0 ∷ []) (1 ∷ 1 ∷ 1 ∷ []) ≡ 2 ∷ 5 ∷ 5 ∷ [])
    × (many_output 2 (0 ∷ 1 ∷ []) (65535 ∷ []) (0 ∷ []) (1 ∷ 1 ∷ 1 ∷ []) ≡ 1 ∷ 65535 ∷ 65535 ∷ [])
    -- nothing asked, nothing written
    × (leaves 5 five gaps [] ≡ held)
    × (many_output 0 [] [] [] [] ≡ [])
unfolding computing
told = (refl, refl, refl, refl, refl, refl)

-- a refusal leaves the output: four asked need twelve entries, and 5 isn't below P
left :
    (many_answer 5 five gaps (0 ∷ 1 ∷ 2 ∷ 3 ∷ []) held ≡ refused 13 0)
    × (leaves 5 five gaps (0 ∷ 1 ∷ 2 ∷ 3 ∷ []) ≡ held)
    × (many_answer 5 five gaps (0 ∷ 5 ∷ []) held ≡ refused 15 1)
    × (leaves 5 five gaps (0 ∷ 5 ∷ []) ≡ held)
unfolding computing
left = (refl, refl, refl, refl)

-- 64 asked and 65, of one appointment of party 0 with itself; three entries for each and one less; the last party and one more
limits :
    (many_answer 1 (0 ∷ 0 ∷ []) (3 ∷ []) (replicate 64 0) (replicate 192 0) ≡ accepted tt)
    × (many_answer 1 (0 ∷ 0 ∷ []) (3 ∷ []) (replicate 64 0) (replicate 191 0) ≡ refused 13 0)
    × (many_answer 1 (0 ∷ 0 ∷ []) (3 ∷ []) (replicate 65 0) (replicate 195 0) ≡ refused 14 0)
    × (many_answer 5 five gaps (4 ∷ []) (0 ∷ 0 ∷ 0 ∷ []) ≡ accepted tt)
    × (many_answer 5 five gaps (4 ∷ []) (0 ∷ 0 ∷ []) ≡ refused 13 0)
    × (many_answer 5 five gaps (5 ∷ []) (0 ∷ 0 ∷ 0 ∷ []) ≡ refused 15 0)
    × (many_answer 0 [] [] [] [] ≡ accepted tt)
    × (many_answer 5 five gaps [] held ≡ accepted tt)
unfolding computing
limits = (refl, refl, refl, refl, refl, refl, refl, refl)

-- Everything that the list is refused for comes first, then 7, 14, 15 and 13.
refusals :
    -- 14, whatever is asked for, before 15 and 13
    (many_answer 1 [] [] (replicate 65 7) [] ≡ refused 14 0)
    -- 15 with the first such query, before 13; 65,535 is just a number that isn't below P
    × (many_answer 1 [] [] (0 ∷ 65535 ∷ 7 ∷ []) [] ≡ refused 15 1)
    × (many_answer 4 five gaps (0 ∷ 3 ∷ 4 ∷ 9 ∷ []) [] ≡ refused 15 2)
    × (many_answer 4 five gaps (0 ∷ 3 ∷ []) (0 ∷ 0 ∷ 0 ∷ 0 ∷ 0 ∷ []) ≡ refused 13 0)
    -- 7 before 14
    × (many_answer 2 (0 ∷ 1 ∷ []) [] (replicate 65 7) [] ≡ refused 7 0)
    × (many_answer 2 (0 ∷ 1 ∷ 1 ∷ 2 ∷ []) [] (replicate 65 7) [] ≡ refused 5 1)
    × (many_answer 2 (0 ∷ 7 ∷ 65535 ∷ 1 ∷ []) [] (7 ∷ []) [] ≡ refused 4 1)
    × (many_answer 1024 (replicate 8194 0) [] (replicate 65 7) [] ≡ refused 3 0)
    × (many_answer 2 (0 ∷ 1 ∷ 1 ∷ []) [] (7 ∷ []) [] ≡ refused 2 0)
    × (many_answer 1025 (0 ∷ []) [] (7 ∷ []) [] ≡ refused 1 0)
unfolding computing
refusals = (refl, refl, refl, refl, refl, refl, refl, refl, refl, refl)
