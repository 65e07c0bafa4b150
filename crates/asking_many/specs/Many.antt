-- Document 02's request 1, asking for many parties together: what is told of each, the call, and that each answer is what asking for that party by
-- itself gives. Assumes nothing.
use Rattle.std.specs.Prelude.{ℕ, ◌*◌, ◌<◌, ◌≤◌, ◌≡◌, List, [], ◌∷◌, ◌++◌, eqb, ltb, leb, length, take, drop}
use Rattle.words.specs.Basics.{pick, count, All}
use Rattle.words.specs.Words.{word}
use Rattle.appointments.specs.Appointments.{Appt, appts, load}
use Rattle.appointments.specs.Checks.{Check, passed, first_from, bar, bar_at, checks_with_slots}
use Rattle.appointments.specs.Answers.{Answer, accepted, answer, after}
use Rattle.asking.specs.PartySlots.{slots_of, lowest, highest}

-- a slot of a party with this load; 65,535 where the load is 0
abbrev pub or_none : ℕ → ℕ → ℕ
or_none n slot = pick (eqb n 0) 65535 slot

-- What is told of one party: load, lowest slot and highest slot.
unfoldable pub asked_of_one : List Appt → List ℕ → ℕ → List ℕ
unfolding load slots_of lowest highest
asked_of_one xs slots v =
    let mine : List ℕ = slots_of v xs slots in
    let n : ℕ = load v xs in
    n ∷ or_none n (lowest mine) ∷ or_none n (highest mine) ∷ []

-- What is told of all parties asked for, in the order of the queries; a party asked for twice is told twice.
unfoldable pub asked_of_all : List Appt → List ℕ → List ℕ → List ℕ
unfolding asked_of_one
asked_of_all xs slots [] = []
asked_of_all xs slots (v ∷ queries) = asked_of_one xs slots v ++ asked_of_all xs slots queries

-- The checks of the queries. 14: more than 64 asked; 15: one not below P, with the place of the first such query
abbrev pub check_queries : ℕ → List ℕ → Check → Check
check_queries P queries next =
    bar (ltb 64 (length queries)) 14
    (bar_at (first_from 0 (leb P) queries) 15
    next)

-- Checks 1 to 5 and 7, then 14 and 15, then 13: an output of less than three entries for each query. Of slots and output the length is asked.
unfoldable pub many_checks : ℕ → List ℕ → ℕ → List ℕ → ℕ → Check
many_checks P list slots queries output =
    checks_with_slots P list slots
    (check_queries P queries
    (bar (ltb output (3 * length queries)) 13
    passed))

-- The answer: it has no figure.
unfoldable pub many_answer : ℕ → List ℕ → List ℕ → List ℕ → List ℕ → Answer Unit
unfolding many_checks
many_answer P list slots queries output = answer (many_checks P list (length slots) queries (length output)) tt

-- the output after the call
unfoldable pub many_output : ℕ → List ℕ → List ℕ → List ℕ → List ℕ → List ℕ
unfolding many_answer asked_of_all
many_output P list slots queries output = after (many_answer P list slots queries output) (asked_of_all (appts list) slots queries) output

-- ── what the three entries mean ──

-- What is told of a party: with load 0 the two are 65,535; else, where each appointment has a slot, they are slots of the party's own, and
-- none of its slots lies below the one or above the other.
pub record ToldOf (xs : List Appt) (slots : List ℕ) (v : ℕ) : Type 0 where
  pub without : load v xs ≡ 0 → asked_of_one xs slots v ≡ 0 ∷ 65535 ∷ 65535 ∷ []
  pub with : 0 < load v xs → asked_of_one xs slots v ≡ load v xs ∷ lowest (slots_of v xs slots) ∷ highest (slots_of v xs slots) ∷ []
  pub own : length xs ≤ length slots → 0 < load v xs → (0 < count (lowest (slots_of v xs slots)) (slots_of v xs slots)) × (0 < count (highest (slots_of v xs slots)) (slots_of v xs slots))
  pub between : All (λ s. (lowest (slots_of v xs slots) ≤ s) × (s ≤ highest (slots_of v xs slots))) (slots_of v xs slots)

-- ── each as by itself ──

-- What query j comes to, beside the call with that query alone and an output of its own.
pub record ByItself (P : ℕ) (list slots queries output : List ℕ) (j : ℕ) (own : List ℕ) : Type 0 where
  pub accepts : many_answer P list slots (word queries j ∷ []) own ≡ accepted tt
  -- the three entries from 3·j on are what it writes
  pub same : take 3 (drop (3 * j) (many_output P list slots queries output)) ≡ many_output P list slots (word queries j ∷ []) own

-- The answer to each query equals what asking for it by itself gives, whatever else is asked, in whatever order and how often: where the
-- call accepts, so does the call with that query alone and any output of three entries, and it writes the same.
abbrev pub EachByItself : Type 0
EachByItself =
    (P : ℕ) (list slots queries output : List ℕ) → many_answer P list slots queries output ≡ accepted tt →
    (j : ℕ) → j < length queries → (own : List ℕ) → length own ≡ 3 → ByItself P list slots queries output j own
