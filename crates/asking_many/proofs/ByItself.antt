-- The answer to each query is what asking for it by itself gives. Assumes nothing.
use Prim.Native.Nat.{ℕ, ◌*◌, ◌<◌}
use mathlib.Core.Path.{◌≡◌, sym, ◌∙◌, ap}
use mathlib.Core.Bool.{false}
use mathlib.Core.List.{List, [], ◌∷◌, ◌++◌, append-nil}
use native.Mathlib.Omega.{arith}
use lib.Dec.{ltb, leb}
use lib.ListN.{length, take, drop, drop_of_length-le}
use Rattle.words.specs.Words.{word}
use Rattle.appointments.specs.Appointments.{appts}
use Rattle.appointments.specs.Checks.{first_from, passed, bar}
use Rattle.appointments.specs.Answers.{accepted}
use Rattle.appointments.proofs.AnswerLaws.{accepted_passed, after_accepted}
use Rattle.appointments.proofs.ChecksLaws.{bar_passed, bar_at_passed}
use Rattle.appointments.proofs.FirstFrom.{nowhere_at}
use Rattle.checking.proofs.Answering.{Slotted, slotted_goes_on, passed_slotted}
use Rattle.asking_many.specs.Many.{asked_of_one, asked_of_all, check_queries, many_checks, many_answer, many_output, ByItself, EachByItself}
use Rattle.asking_many.proofs.Answers.{answers_length, entries_at, one_alone}

module _ (P : ℕ) (list slots queries output : List ℕ) (e : many_answer P list slots queries output ≡ accepted tt) where
  -- the call has passed its checks
  all_passed : Slotted P list (length slots) × (check_queries P queries (bar (ltb (length output) (3 * length queries)) 13 passed) ≡ passed)
  unfolding many_answer many_checks
  all_passed = passed_slotted P list (length slots) _ (accepted_passed _ tt tt e).0

  -- each query asks for a party
  below : (j : ℕ) → j < length queries → leb P (word queries j) ≡ false
  below j h =
      let c₁₄ = bar_passed (ltb 64 (length queries)) 14 _ all_passed.1 in
      let c₁₅ = bar_at_passed (first_from 0 (leb P) queries) 15 _ c₁₄.1 in
      nowhere_at (leb P) queries 0 c₁₅.0 j h

  module _ (j : ℕ) (h : j < length queries) (own : List ℕ) (three : length own ≡ 3) where
    abbrev v : ℕ
    v = word queries j

    accepts : many_answer P list slots (v ∷ []) own ≡ accepted tt
    unfolding many_answer many_checks first_from
    accepts =
        let on = slotted_goes_on P list (length slots) (check_queries P (v ∷ []) (bar (ltb (length own) 3) 13 passed)) all_passed.0 in
        rw (on, below j h, three)

    -- its output is what is told of the party
    alone : many_output P list slots (v ∷ []) own ≡ asked_of_one (appts list) slots v
    unfolding many_output
    alone =
        let answers : List ℕ = asked_of_all (appts list) slots (v ∷ []) in
        let none : drop (length answers) own ≡ [] = drop_of_length-le own {i = length answers} (omega (arith, answers_length (appts list) slots (v ∷ []))) in
        after_accepted _ tt answers own accepts
        ∙ ap (λ (l : List ℕ). answers ++ l) none
        ∙ append-nil answers
        ∙ one_alone (appts list) slots v

    pub by_itself : ByItself P list slots queries output j own
    unfolding many_output
    by_itself =
        record {
          accepts = accepts;
          same =
              ap (λ (l : List ℕ). take 3 (drop (3 * j) l)) (after_accepted _ tt (asked_of_all (appts list) slots queries) output e)
              ∙ entries_at (appts list) slots queries _ j h
              ∙ sym alone;
        }

pub each_by_itself : EachByItself
each_by_itself P list slots queries output e j h own three = by_itself P list slots queries output e j h own three
