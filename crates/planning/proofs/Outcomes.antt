-- What `bipartite_edge_color` comes to: a plan where no closed round is odd, `GraphNotBipartite` where one is, and never
-- neither; such a plan is a shortest one; and so a call comes to one of three ends, each with its answer. Assumes nothing.
use Prim.Native.Nat.{ℕ}
use mathlib.Core.Path.{◌≡◌, refl, ◌∙◌, ap}
use mathlib.Core.List.{List}
use mathlib.Core.Logic.{◌⊎◌, inl, inr, ⊎_elim}
use Rattle.words.specs.Basics.{All, Run}
use Rattle.words.proofs.Runs.{ran_is}
use Rattle.appointments.specs.Appointments.{Appt, largest_load}
use Rattle.appointments.specs.Rounds.{OddRound}
use Rattle.appointments.specs.Checks.{Check, passed, refused}
use Rattle.appointments.specs.Answers.{Answer, accepted, over}
use Rattle.appointments.specs.Lent.{Lent, lent_appts, lent_d, lent_checks}
use Rattle.appointments.proofs.Loads.{Listed}
use Rattle.appointments.proofs.LowerBound.{lower_bound, different_is}
use Rattle.appointments.proofs.Pigeonhole.{busiest_meets_once}
use Rattle.appointments.proofs.AnswerLaws.{after_accepted}
use Rattle.appointments.proofs.LentLaws.{lent_passes, lent_goes_on, lent_stays}
use Rattle.bipartition.specs.TwoSides.{FoundSides}
use Rattle.bipartition.proofs.TwoColorLaws.{two_color_decides}
use Rattle.given_partition.specs.GivenPartition.{bipartite_edge_color_given_partition}
use Rattle.planning.specs.Planning.{plan, graph_not_bipartite, outcome, given_sides, bipartite_edge_color, check_outcome, outcome_slots, lent_outcome, plan_answer, plan_slots}
use Rattle.planning.specs.Demand3.{ShortestPlan}
use Rattle.given_partition.proofs.GivenPartitionLaws.{ProperPlan, given_partition_law}

-- A plan without a clash whose slots are below D is a shortest plan: by the lower bound no other is shorter, and by the
-- pigeonhole principle a busiest party meets each of its slots once.
pub shortest_plan :
    (P : ℕ) (xs : List Appt) (slots : List ℕ) → ProperPlan P xs slots → ShortestPlan P xs (largest_load P xs) slots
shortest_plan P xs slots p =
    record {
      plan_of = p.plan_of;
      below = p.below;
      different_slots = different_is P xs slots p.plan_of p.clash_free p.below;
      largest = refl;
      clash_free = p.clash_free;
      shortest = λ other o free. lower_bound P xs other o free;
      busiest = λ v b. busiest_meets_once P v xs slots b p.plan_of p.clash_free p.below;
    }

-- a plan was found, and no closed round is odd
pub record FoundPlan (P : ℕ) (xs : List Appt) : Type 0 where
  pub slots : List ℕ
  pub found : bipartite_edge_color P xs ≡ plan slots
  pub proper : ProperPlan P xs slots
  pub none_odd : OddRound xs → ⊥

-- the list is not bipartite, and a closed round is odd
pub record NoPlan (P : ℕ) (xs : List Appt) : Type 0 where
  pub found : bipartite_edge_color P xs ≡ graph_not_bipartite
  pub odd : OddRound xs

-- One or the other.
pub outcome_decides : (P : ℕ) (xs : List Appt) → All (Listed P) xs → FoundPlan P xs ⊎ NoPlan P xs
unfolding bipartite_edge_color
outcome_decides P xs listed =
    ⊎_elim planned (λ r. inr (record { found = ap (given_sides P xs) r.answer; odd = r.odd }))
    (two_color_decides P xs listed)
  where
    planned : FoundSides P xs → FoundPlan P xs ⊎ NoPlan P xs
    planned f =
        let r : Run (List ℕ) = bipartite_edge_color_given_partition P xs f.left f.right in
        let p = ran_is (ProperPlan P xs) r (given_partition_law P xs f.side f.left f.right listed f.two_sides) in
        inl
        (record {
          slots = p.0;
          found = ap (given_sides P xs) f.answer ∙ ap outcome p.1;
          proper = p.2;
          none_odd = f.none_odd;
        })

-- What a call comes to: a check refuses; or the list passes and gets a plan; or it passes and is not bipartite.
pub data Came (l : Lent) : Type 0 where
  barred : (n i : ℕ) → lent_checks l passed ≡ refused n i → Came l
  found : lent_checks l passed ≡ passed → FoundPlan l.parties (lent_appts l) → Came l
  odd : lent_checks l passed ≡ passed → NoPlan l.parties (lent_appts l) → Came l

module _ (l : Lent) where
  pub came : Came l
  came = go (lent_checks l passed) refl
    where
      go : (c : Check) → lent_checks l passed ≡ c → Came l
      go (refused n i) e = barred n i e
      go passed e =
          ⊎_elim (λ f. found e f) (λ f. odd e f)
          (outcome_decides l.parties (lent_appts l) (lent_passes l e).good.listed)

  -- the answer at each end
  pub barred_answer : (n i : ℕ) → lent_checks l passed ≡ refused n i → plan_answer l ≡ Answer.refused n i
  unfolding plan_answer
  barred_answer n i e = rw (lent_stays l (check_outcome (lent_outcome l)) n i e)

  pub odd_answer :
      lent_checks l passed ≡ passed → NoPlan l.parties (lent_appts l) → plan_answer l ≡ Answer.refused 9 0
  unfolding plan_answer
  odd_answer e f = rw (f.found, lent_goes_on l (refused 9 0) e)

  module _ (e : lent_checks l passed ≡ passed) (f : FoundPlan l.parties (lent_appts l)) where
    pub found_answer : plan_answer l ≡ accepted (lent_d l)
    unfolding plan_answer
    found_answer = rw (f.found, e)

    -- and the slots where there is a plan
    pub found_slots : plan_slots l ≡ over f.slots l.slots
    unfolding plan_slots
    found_slots =
        after_accepted (plan_answer l) (lent_d l) (outcome_slots (lent_outcome l)) l.slots found_answer ∙ rw f.found
