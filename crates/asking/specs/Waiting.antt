-- Document 02's waiting of a party (request 2: waiting means waiting in the hall), the call that gives it, and what holds of it.
-- Assumes nothing.
use Rattle.std.specs.Prelude.{ℕ, Result, IfOk, ◌+◌, ◌-◌, ◌≤◌, ◌<◌, ◌≡◌, List, leb, length, take}
use Rattle.words.specs.Basics.{is, count, All, sum_below}
use Rattle.appointments.specs.Appointments.{Appt, appts, load}
use Rattle.appointments.specs.Plans.{different}
use Rattle.appointments.specs.Checks.{Check, passed, bar, checks_with_slots}
use Rattle.appointments.specs.Answers.{Answer, answer}
use Rattle.asking.specs.PartySlots.{slots_of, lowest, highest}

-- how many whole numbers strictly between two are none of the slots
unfoldable pub free_between : ℕ → ℕ → List ℕ → ℕ
free_between low high slots = sum_below (λ k. is (count (low + 1 + k) slots) 0) (high - (low + 1))

-- Waiting of a party: the number of whole numbers, below D or not, strictly between its lowest and highest slot that are the slot
-- of none of its appointments.
unfoldable pub waiting : List Appt → List ℕ → ℕ → ℕ
unfolding free_between slots_of lowest highest
waiting xs slots party =
    let mine : List ℕ = slots_of party xs slots in
    free_between (lowest mine) (highest mine) mine

-- Checks 1 to 5 and 7, then 5 with place 0 if the party inquired about is not below P. Of the slot buffer its length is asked.
unfoldable pub waiting_checks : ℕ → List ℕ → ℕ → ℕ → Check
waiting_checks P list slots party = checks_with_slots P list slots (bar (leb P party) 5 passed)

unfoldable pub waiting_answer : ℕ → List ℕ → List ℕ → ℕ → Answer ℕ
unfolding waiting_checks waiting
waiting_answer P list slots party = answer (waiting_checks P list (length slots) party) (waiting (appts list) slots party)

-- An accepted waiting is at most 65,534, that of the slots 0 and 65,535: slots have 16 bits.
abbrev pub WaitingFits : {E : Type 0} → Result ℕ E → Type 0
WaitingFits r = IfOk r (λ n. n ≤ 65534)

-- What holds of waiting, whatever the slots are: they needn't be below D, and may clash.
pub record WaitsInTheHall (xs : List Appt) (slots : List ℕ) (party : ℕ) : Type 0 where
  -- load 0 or 1 gives 0
  pub no_gap : load party xs ≤ 1 → waiting xs slots party ≡ 0
  -- a party with a slot waits in, or meets, each whole number from its lowest slot to its highest, and none of them both
  pub whole :
      0 < length (slots_of party xs slots) →
      waiting xs slots party + different (slots_of party xs slots) ≡ highest (slots_of party xs slots) - lowest (slots_of party xs slots) + 1
  -- where all slots are below D it is at most D − 2, and 0 for a D of 0 or 1 (there D − 2 counts as 0)
  pub below_d : (D : ℕ) → All (λ (s : ℕ). s < D) (take (length xs) slots) → waiting xs slots party ≤ D - 2
