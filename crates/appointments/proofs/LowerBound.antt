-- The lower bound: in a clash-free plan the slots of one party's appointments differ, so no plan without a clash has fewer
-- slots than D. Any whole numbers may be its slots. Assumes nothing.
use Prim.Native.Nat.{ℕ, ◌≤◌, ◌<◌}
use mathlib.Core.Path.{◌≡◌}
use mathlib.Core.List.{List}
use native.Mathlib.Omega.{arith}
use native.Mathlib.Decide.{ℕ_discrete}
use Rattle.words.specs.Basics.{count, All, sum_below}
use Rattle.words.proofs.Sums.{sum_below_le, sum_below_const}
use Rattle.appointments.specs.Appointments.{Appt, load, largest_load}
use Rattle.appointments.specs.Plans.{PlanOf, ClashFree, different, meets}
use Rattle.appointments.proofs.Loads.{largest_load_le}
use Rattle.appointments.proofs.PlanSums.{used, above, above_is, meets_none, load_by_slots, different_by_slots}

-- without a clash a party meets a used slot at most once, and another slot never
pub meets_le_used : (P v : ℕ) (xs : List Appt) (plan : List ℕ) → v < P → ClashFree P xs plan → (s : ℕ) → meets v s xs plan ≤ used s plan
unfolding used
meets_le_used P v xs plan h free s =
    elim (ℕ_discrete (count s plan) 0)
    [ yes e ↦ omega (arith, meets_none v s xs plan e) | no n ↦ omega (arith, free v s h) ]

-- A party's load is at most the number of slots of a clash-free plan.
pub load_le_different : (P v : ℕ) (xs : List Appt) (plan : List ℕ) → v < P → PlanOf xs plan → ClashFree P xs plan → load v xs ≤ different plan
load_le_different P v xs plan h p free =
    let B : ℕ = above plan in
    omega (
      arith,
      load_by_slots v B xs plan p (above_is plan),
      different_by_slots B plan (above_is plan),
      sum_below_le B (λ s k. meets_le_used P v xs plan h free s),
    )

-- The lower bound: no clash-free plan has fewer slots than D.
pub lower_bound : (P : ℕ) (xs : List Appt) (plan : List ℕ) → PlanOf xs plan → ClashFree P xs plan → largest_load P xs ≤ different plan
lower_bound P xs plan p free = largest_load_le P xs (different plan) (λ v h. load_le_different P v xs plan h p free)

-- a plan whose slots are all below D has at most D of them
pub different_le : (D : ℕ) (plan : List ℕ) → All (λ s. s < D) plan → different plan ≤ D
unfolding used
different_le D plan h =
    let least : sum_below (λ s. used s plan) D ≤ sum_below (λ s. 1) D = sum_below_le D (λ s k. omega arith) in
    omega (arith, different_by_slots D plan h, sum_below_const 1 D)

-- A clash-free plan whose slots are all below D has D slots: as few as any, and D is borne out by them.
pub different_is : (P : ℕ) (xs : List Appt) (plan : List ℕ) → PlanOf xs plan → ClashFree P xs plan → All (λ s. s < largest_load P xs) plan → different plan ≡ largest_load P xs
different_is P xs plan p free h = omega (arith, lower_bound P xs plan p free, different_le (largest_load P xs) plan h)
