-- The numbers that a list which passed the checks gives its steps, with the products as numbers of their own, so that "these
-- words lie apart" is linear arithmetic. Assumes nothing.
use Prim.Native.Nat.{ℕ, ◌+◌, ◌*◌, ◌%◌, ◌<◌, ◌≤◌}
use mathlib.Core.Path.{◌≡◌, ◌∙◌}
use mathlib.Core.List.{List}
use native.Mathlib.Omega.{arith}
use native.Mathlib.Nat.{mul-le-mul_left}
use lib.ListN.{length}
use Rattle.words.specs.Basics.{All}
use Rattle.words.proofs.Sums.{sum_below_le, sum_below_const}
use Rattle.appointments.specs.Appointments.{appts, load, largest_load}
use Rattle.appointments.proofs.Loads.{Listed, load_le_largest, list_loads_sum}
use Rattle.appointments.proofs.ChecksLaws.{Passes, passed_passes}
use Rattle.given_partition.specs.Steps.{Ready}

-- What the checks give: D-as-P, and the unit q.
pub record Sizes (P D q : ℕ) (list s : List ℕ) : Type 0 where
  pub parties : P ≤ 1024
  pub product : D * P ≤ 8192
  pub unit : q ≡ D * P + P
  pub named : length list ≤ D * P
  pub even : length list % 2 ≡ 0
  pub listed : All (Listed P) (appts list)
  pub loads : (v : ℕ) → v < P → load v (appts list) ≤ D
  pub whole : length s ≡ 128 * q

unit_is : (P D : ℕ) → P * (D + 1) ≡ D * P + P
unit_is P D = omega arith

pub sizes : {P D q : ℕ} {list s : List ℕ} → Ready P D q list s → Sizes P D q list s
sizes {P} {D} {q} {list} {s} r = rw r.largest with_largest
  where
    ok : Passes P list (length (appts list)) (length s)
    ok = passed_passes P list (length (appts list)) (length s) r.checked

    named : length list ≤ largest_load P (appts list) * P
    named =
        let each = sum_below_le {f = λ v. load v (appts list)} {g = λ v. largest_load P (appts list)} P (load_le_largest P (appts list)) in
        omega (arith, each, sum_below_const (largest_load P (appts list)) P, list_loads_sum P list ok.good.even ok.good.listed)

    unit : q ≡ largest_load P (appts list) * P + P
    unit = rw (← r.largest) (r.unit ∙ unit_is P D)

    with_largest : Sizes P (largest_load P (appts list)) q list s
    with_largest =
        record {
          parties = ok.good.parties;
          product = ok.product;
          unit = unit;
          named = named;
          even = ok.good.even;
          listed = ok.good.listed;
          loads = load_le_largest P (appts list);
          whole = r.whole;
        }

-- n parties a side, at most P
pub record SideSizes (D P n : ℕ) : Type 0 where
  pub fewer : n ≤ P
  pub product : n * D ≤ D * P
  pub twice : D * (n + n) ≡ n * D + n * D
  pub pairs : n * (D + 1) ≡ n * D + n

pub side_sizes : (D P n : ℕ) → n ≤ P → SideSizes D P n
side_sizes D P n h =
    record {
      fewer = h;
      product = let m : D * n ≤ D * P = mul-le-mul_left D h in omega arith;
      twice = omega arith;
      pairs = omega arith;
    }

-- a factor of at least one
pub le_product : (D n : ℕ) → 0 < n → D ≤ D * n
le_product D n h = let m : D * 1 ≤ D * n = mul-le-mul_left D h in omega arith
