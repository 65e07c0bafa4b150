-- The theorem of demand 3, of the answer and the slots that the planning call's definition gives: refusal 9 exactly for the
-- lists that pass checks 1 to 8 and have a closed round of odd length; every other list that passes is accepted; and an
-- accepted list's plan has no clash and as few slots as any, D of them, each of which every busiest party meets exactly once.
-- That such a plan exists is König's theorem (a bipartite multigraph has an edge colouring with as many colours as its
-- largest degree). And no planning fails. Assumes nothing.
use Prim.Native.Nat.{ℕ, ◌≤◌, ◌<◌}
use mathlib.Core.Path.{◌≡◌, refl, sym, ◌∙◌}
use mathlib.Core.List.{List, ◌++◌}
use native.Mathlib.Omega.{arith}
use lib.ListN.{length, take, drop}
use lib.Seq.{take_at}
use Rattle.appointments.specs.Checks.{Check, passed}
use Rattle.appointments.specs.Answers.{Answer, accepted, refused}
use Rattle.appointments.specs.Lent.{Lent, lent_appts, lent_d, lent_checks}
use Rattle.appointments.proofs.ChecksLaws.{refused_passed}
use Rattle.appointments.proofs.AnswerLaws.{accepted_refused, accepted_same, refused_number, refused_place}
use Rattle.appointments.proofs.LentLaws.{lent_number}
use Rattle.planning.specs.Planning.{plan_answer, plan_slots}
use Rattle.planning.specs.Demand3.{ShortestPlan, Demand3}
use Rattle.planning.proofs.Outcomes.{shortest_plan, FoundPlan, NoPlan, Came, barred, found, odd, came, barred_answer, found_answer, odd_answer, found_slots}

-- A refusal's number is one of document 01's table, and its place is 0 or lies in a list of at most 4,096 appointments.
pub record SmallRefusal (n i : ℕ) : Type 0 where
  pub some : 0 < n
  pub number : n ≤ 9
  pub place : i ≤ 4096

module _ (l : Lent) where
  -- ── the three cases ──

  -- a check refuses
  refused_demand : (n i : ℕ) → lent_checks l passed ≡ Check.refused n i → (slots : List ℕ) → Demand3 l (refused n i) slots
  refused_demand n i e slots =
      record {
        nine = λ place q. absurd (omega (arith, (lent_number l n i e).1, refused_number n i 9 place q));
        nine_only = λ q odd. refused_passed n i (sym e ∙ q);
        accepts = λ q even. refused_passed n i (sym e ∙ q);
        only_passed = λ D q. accepted_refused D n i (sym q);
        plan = λ D q. accepted_refused D n i (sym q);
      }

  module _ (e : lent_checks l passed ≡ passed) where
    -- the list passes and is not bipartite
    nine_demand : NoPlan l.parties (lent_appts l) → (slots : List ℕ) → Demand3 l (refused 9 0) slots
    nine_demand no_plan slots =
        record {
          nine = λ place q. (sym (refused_place 9 0 9 place q), e, no_plan.odd);
          nine_only = λ q odd. refl;
          accepts = λ q even. absurd (even no_plan.odd);
          only_passed = λ D q. e;
          plan = λ D q. accepted_refused D 9 0 (sym q);
        }

    -- the list passes and gets a plan
    plan_demand :
        (f : FoundPlan l.parties (lent_appts l)) (rest : List ℕ) → Demand3 l (accepted (lent_d l)) (f.slots ++ rest)
    plan_demand f rest =
        record {
          nine = λ place q. accepted_refused (lent_d l) 9 place q;
          nine_only = λ q odd. absurd (f.none_odd odd);
          accepts = λ q even. refl;
          only_passed = λ D q. e;
          plan = shortest;
        }
      where
        first : take (length (lent_appts l)) (f.slots ++ rest) ≡ f.slots
        first = take_at f.slots rest (length (lent_appts l)) f.proper.plan_of

        shortest :
            (D : ℕ) → ◌≡◌ {A = Answer ℕ} (accepted (lent_d l)) (accepted D) →
            ShortestPlan l.parties (lent_appts l) D (take (length (lent_appts l)) (f.slots ++ rest))
        shortest D q =
            rw (first, ← accepted_same (lent_d l) D q) (shortest_plan l.parties (lent_appts l) f.slots f.proper)

  -- ── the planning call ──

  -- Demand 3, for every list and for all buffers.
  pub demand_3 : Demand3 l (plan_answer l) (plan_slots l)
  demand_3 = go (came l)
    where
      go : Came l → Demand3 l (plan_answer l) (plan_slots l)
      go (barred n i e) = rw (barred_answer l n i e) (refused_demand n i e (plan_slots l))
      go (found e f) =
          rw (found_answer l e f, found_slots l e f) (plan_demand e f (drop (length f.slots) l.slots))
      go (odd e f) = rw (odd_answer l e f) (nine_demand e f (plan_slots l))

  -- Every refusal is small.
  pub refusal_small : (n i : ℕ) → plan_answer l ≡ refused n i → SmallRefusal n i
  refusal_small n i q = go (came l)
    where
      same : (k j : ℕ) → plan_answer l ≡ refused k j → (k ≡ n) × (j ≡ i)
      same k j p = (refused_number k j n i (sym p ∙ q), refused_place k j n i (sym p ∙ q))

      go : Came l → SmallRefusal n i
      go (barred k j e) =
          let e' = same k j (barred_answer l k j e) in
          let small = lent_number l k j e in
          record { some = omega arith; number = omega arith; place = omega arith }
      go (found e f) = accepted_refused (lent_d l) n i (sym (found_answer l e f) ∙ q)
      go (odd e f) =
          let e' = same 9 0 (odd_answer l e f) in
          record { some = omega arith; number = omega arith; place = omega arith }

  -- No planning fails: the number that no table has is never given.
  pub never_failed : plan_answer l ≡ refused 1000 0 → ⊥
  never_failed e = omega (arith, (refusal_small 1000 0 e).number)
