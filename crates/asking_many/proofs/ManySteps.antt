-- The call case by case: a refusal of the list or its slots stays, then too many queries, a query for a party that is not below P, an output that
-- is too short, and the answers. Assumes nothing.
use Prim.Native.Nat.{ℕ, ◌+◌, ◌*◌, ◌≤◌, ◌<◌}
use mathlib.Core.Path.{◌≡◌, ◌∙◌}
use mathlib.Core.Bool.{false}
use mathlib.Core.List.{List}
use native.Mathlib.Omega.{arith}
use borrow.Author.Tests.{lt-ltb, le-ltb, leb-false}
use lib.Dec.{ltb, leb}
use lib.ListN.{length}
use Rattle.words.specs.Words.{word}
use Rattle.words.proofs.Sums.{all_at}
use Rattle.appointments.specs.Appointments.{Appt, appt, appts}
use Rattle.appointments.specs.Checks.{at, nowhere, first_from, Check, passed, refused, bar, checks_with_slots}
use Rattle.appointments.specs.Answers.{accepted, over}
use Rattle.appointments.specs.Answers as answers
use Rattle.appointments.proofs.FirstFrom.{nowhere_at}
use Rattle.appointments.proofs.Flat.{appts_count, appt_at}
use Rattle.appointments.proofs.Loads.{Listed}
use Rattle.checking.specs.Checked.{checked}
use Rattle.checking.proofs.Answering.{checked_stays, checked_slotted, Slotted, slotted_goes_on}
use Rattle.asking_many.specs.Many.{asked_of_all, check_queries, many_checks, many_answer, many_output}
use Rattle.asking_many.specs.Tables.{Walkable}

module _ (P : ℕ) (list slots queries output : List ℕ) where
  -- refused with a number and a place, the output as it was
  abbrev Barred : ℕ → ℕ → Type 0
  Barred number place =
      (answers.refused number place ≡ many_answer P list slots queries output) × (output ≡ many_output P list slots queries output)

  barred : (n i : ℕ) → many_checks P list (length slots) queries (length output) ≡ refused n i → Barred n i
  unfolding many_answer many_output
  barred n i e = (rw e, rw e)

  -- what the checks of the list and its slots came to
  abbrev with_slots : Check
  with_slots = checks_with_slots P list (length slots) passed

  abbrev then_13 : Check
  then_13 = bar (ltb (length output) (3 * length queries)) 13 passed

  pub barred_first : (n i : ℕ) → answers.refused n i ≡ checked with_slots → Barred n i
  unfolding many_checks
  barred_first n i e = barred n i (checked_stays P list (length slots) (check_queries P queries then_13) n i e)

  module _ (e : accepted tt ≡ checked with_slots) where
    goes_on : many_checks P list (length slots) queries (length output) ≡ check_queries P queries then_13
    unfolding many_checks
    goes_on = slotted_goes_on P list (length slots) (check_queries P queries then_13) (checked_slotted P list (length slots) e)

    pub barred_14 : 64 < length queries → Barred 14 0
    barred_14 h = barred 14 0 (goes_on ∙ rw (lt-ltb 64 (length queries) h))

    module _ (few : length queries ≤ 64) where
      pub barred_15 : (j : ℕ) → first_from 0 (leb P) queries ≡ at j → Barred 15 j
      barred_15 j f = barred 15 j (goes_on ∙ rw (le-ltb 64 (length queries) few, f))

      module _ (f : first_from 0 (leb P) queries ≡ nowhere) where
        pub barred_13 : length output < 3 * length queries → Barred 13 0
        barred_13 h = barred 13 0 (goes_on ∙ rw (le-ltb 64 (length queries) few, f, lt-ltb (length output) (3 * length queries) h))

        all_passed : 3 * length queries ≤ length output → many_checks P list (length slots) queries (length output) ≡ passed
        all_passed h = goes_on ∙ rw (le-ltb 64 (length queries) few, f, le-ltb (length output) (3 * length queries) h)

        -- the answers, and behind them what was there
        pub answered :
            3 * length queries ≤ length output →
            (accepted tt ≡ many_answer P list slots queries output)
            × (over (asked_of_all (appts list) slots queries) output ≡ many_output P list slots queries output)
        unfolding many_answer many_output
        answered h = (rw (all_passed h), rw (all_passed h))

-- ── what the walk and the tables ask ──

module _ (P : ℕ) (list slots : List ℕ) (e : accepted tt ≡ checked (checks_with_slots P list (length slots) passed)) where
  slotted : Slotted P list (length slots)
  slotted = checked_slotted P list (length slots) e

  pub walkable : Walkable list slots
  walkable =
      record {
        few = omega (arith, slotted.0.few, slotted.0.even, appts_count list);
        ends = λ i h.
            let d : Appt = appt 0 0 in
            let listed : Listed P (appt (word list (2 * i)) (word list (2 * i + 1))) =
            rw (appt_at list i d h) at (all_at (Listed P) (appts list) d slotted.0.listed i (omega (arith, appts_count list))) in
            (omega (arith, listed, slotted.0.parties), omega (arith, listed, slotted.0.parties));
        slot_room = omega (arith, slotted.1, appts_count list);
      }

  -- no query passes the test: each asks for a party
  pub queries_below : (queries : List ℕ) → first_from 0 (leb P) queries ≡ nowhere → (j : ℕ) → j < length queries → word queries j < 1024
  queries_below queries f j h =
      let below : leb P (word queries j) ≡ false = nowhere_at (leb P) queries 0 f j h in
      omega (arith, leb-false P (word queries j) below, slotted.0.parties)
