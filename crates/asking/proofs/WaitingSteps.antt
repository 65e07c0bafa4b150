-- The waiting call case by case: a refusal of the list or its slots stays, then a party that is not below P, and the figure.
-- Assumes nothing.
use Prim.Native.Nat.{ℕ, ◌≤◌, ◌<◌}
use mathlib.Core.Path.{◌≡◌}
use mathlib.Core.List.{List}
use borrow.Author.Tests.{le-leb, lt-leb}
use lib.Dec.{leb}
use lib.ListN.{length}
use Rattle.appointments.specs.Appointments.{appts}
use Rattle.appointments.specs.Checks.{Check, passed, refused, bar, checks_with_slots}
use Rattle.appointments.specs.Answers.{accepted}
use Rattle.appointments.specs.Answers as answers
use Rattle.checking.specs.Checked.{checked}
use Rattle.checking.proofs.Answering.{checked_stays, checked_slotted, slotted_goes_on}
use Rattle.asking.specs.Waiting.{waiting, waiting_checks, waiting_answer}

module _ (P : ℕ) (list slots : List ℕ) (party : ℕ) where
  -- what the checks of the list and its slots came to
  abbrev with_slots : Check
  with_slots = checks_with_slots P list (length slots) passed

  -- that of the party
  abbrev of_the_party : Check
  of_the_party = bar (leb P party) 5 passed

  stays : (n i : ℕ) → answers.refused n i ≡ checked with_slots → waiting_checks P list (length slots) party ≡ refused n i
  unfolding waiting_checks
  stays n i e = checked_stays P list (length slots) of_the_party n i e

  pub asked_refused : (n i : ℕ) → answers.refused n i ≡ checked with_slots → answers.refused n i ≡ waiting_answer P list slots party
  unfolding waiting_answer
  asked_refused n i e = rw (stays n i e)

  module _ (e : accepted tt ≡ checked with_slots) where
    goes_on : waiting_checks P list (length slots) party ≡ of_the_party
    unfolding waiting_checks
    goes_on = slotted_goes_on P list (length slots) of_the_party (checked_slotted P list (length slots) e)

    pub asked_5 : P ≤ party → answers.refused 5 0 ≡ waiting_answer P list slots party
    unfolding waiting_answer
    asked_5 h = rw (goes_on, le-leb P party h)

    pub asked_waits : (n : ℕ) → party < P → n ≡ waiting (appts list) slots party → accepted n ≡ waiting_answer P list slots party
    unfolding waiting_answer
    asked_waits n h q = rw (q, goes_on, lt-leb P party h)
