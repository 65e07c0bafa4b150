-- Pigeonhole: in a clash-free plan with slots below D, a party of load D meets each slot below D exactly once. Assumes
-- nothing.
use Prim.Native.Nat.{ℕ, ◌<◌}
use mathlib.Core.Path.{◌≡◌}
use mathlib.Core.List.{List}
use native.Mathlib.Omega.{arith}
use Rattle.words.specs.Basics.{All, sum_below}
use Rattle.words.proofs.Sums.{sum_below_tight, sum_below_const}
use Rattle.appointments.specs.Appointments.{Appt, load, largest_load}
use Rattle.appointments.specs.Plans.{PlanOf, ClashFree, Busiest, meets}
use Rattle.appointments.proofs.PlanSums.{load_by_slots}

-- D pigeons in D holes, at most one in each: one in each.
pub full_meets_once : (P D v : ℕ) (xs : List Appt) (plan : List ℕ) → v < P → load v xs ≡ D → PlanOf xs plan → ClashFree P xs plan → All (λ s. s < D) plan → (s : ℕ) → s < D → meets v s xs plan ≡ 1
full_meets_once P D v xs plan h full p free small s k =
    sum_below_tight (λ t. meets v t xs plan) (λ t. 1) D (λ t l. free v t h) sums s k
  where
    sums : sum_below (λ t. meets v t xs plan) D ≡ sum_below (λ t. 1) D
    sums = omega (arith, load_by_slots v D xs plan p small, sum_below_const 1 D)

-- A busiest party meets each slot below D exactly once.
pub busiest_meets_once : (P v : ℕ) (xs : List Appt) (plan : List ℕ) → Busiest P xs v → PlanOf xs plan → ClashFree P xs plan → All (λ s. s < largest_load P xs) plan → (s : ℕ) → s < largest_load P xs → meets v s xs plan ≡ 1
busiest_meets_once P v xs plan b p free small =
    full_meets_once P (largest_load P xs) v xs plan b.party b.busiest p free small
