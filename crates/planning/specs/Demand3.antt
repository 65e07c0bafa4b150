-- Demand 3, of an answer and of the slots that came with it: what a customs hall relies on. Assumes nothing.
use Rattle.std.specs.Prelude.{ℕ, ◌≤◌, ◌<◌, ◌≡◌, List, length, take}
use Rattle.words.specs.Basics.{All}
use Rattle.appointments.specs.Appointments.{Appt, largest_load}
use Rattle.appointments.specs.Rounds.{OddRound}
use Rattle.appointments.specs.Plans.{PlanOf, different, meets, ClashFree, Busiest}
use Rattle.appointments.specs.Checks.{passed}
use Rattle.appointments.specs.Answers.{Answer, accepted, refused}
use Rattle.appointments.specs.Lent.{Lent, lent_appts, lent_d, lent_checks}

-- What an accepted plan is (König: a bipartite multigraph has a colouring with as many colours as its largest degree).
pub record ShortestPlan (P : ℕ) (xs : List Appt) (D : ℕ) (plan : List ℕ) : Type 0 where
  -- a number for each appointment, each below D
  pub plan_of : PlanOf xs plan
  pub below : All (λ (s : ℕ). s < D) plan
  -- D = number of different slots = largest load
  pub different_slots : different plan ≡ D
  pub largest : largest_load P xs ≡ D
  -- no party meets a slot twice
  pub clash_free : ClashFree P xs plan
  -- every other clash-free plan has at least as many slots
  pub shortest : (other : List ℕ) → PlanOf xs other → ClashFree P xs other → D ≤ different other
  -- each busiest party meets every slot below D exactly once
  pub busiest : (v : ℕ) → Busiest P xs v → (s : ℕ) → s < D → meets v s xs plan ≡ 1

-- Demand 3, of what the call is lent, its answer, and the slots at exit.
pub record Demand3 (l : Lent) (answer : Answer ℕ) (slots : List ℕ) : Type 0 where
  -- refusal 9, and its place is 0, exactly where the list passes checks 1 to 8 and has a closed round of odd length
  pub nine :
      (place : ℕ) → answer ≡ refused 9 place →
      (place ≡ 0) × (lent_checks l passed ≡ passed) × OddRound (lent_appts l)
  pub nine_only : lent_checks l passed ≡ passed → OddRound (lent_appts l) → answer ≡ refused 9 0
  -- every other list that passes is accepted, and no list that doesn't pass
  pub accepts : lent_checks l passed ≡ passed → (OddRound (lent_appts l) → ⊥) → answer ≡ accepted (lent_d l)
  pub only_passed : (D : ℕ) → answer ≡ accepted D → lent_checks l passed ≡ passed
  -- the plan that an accepted list gets
  pub plan : (D : ℕ) → answer ≡ accepted D → ShortestPlan l.parties (lent_appts l) D (take (length (lent_appts l)) slots)
