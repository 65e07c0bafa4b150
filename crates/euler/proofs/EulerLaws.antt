-- The law of `euler_cycles`: of pairs between two sides, in which every party has an even number of ends, it makes balanced
-- cycles that hold each pair once. Assumes nothing.
use Prim.Native.Nat.{ℕ, suc, ◌+◌, ◌-◌, ◌%◌, ◌<◌}
use mathlib.Core.Path.{◌≡◌, refl}
use mathlib.Core.List.{List, [], ◌∷◌}
use native.Mathlib.Omega.{arith}
use native.Mathlib.Decide.{dec_lt}
use Rattle.words.specs.Basics.{total, All, Ran, ran}
use Rattle.words.proofs.Sums.{is_same, is_ne, total_all_zero, all_map}
use Rattle.words.proofs.Runs.{ran_then}
use Rattle.multigraph.specs.Multigraph.{Pair}
use Rattle.multigraph.specs.Regular.{names, Across}
use Rattle.euler.specs.Euler.{Tour, tour_below, euler_cycles}
use Rattle.euler.specs.Halved.{CyclesOf}
use Rattle.euler.proofs.Taken.{ends}
use Rattle.euler.proofs.Trail.{aslant}
use Rattle.euler.proofs.Tours.{Toured, tour_below_tours}

-- how far a pair is from joining the two sides with ends below N, as a number, so that sums carry it
abbrev pub astray : ℕ → (ℕ → ℕ) → Pair → ℕ
astray N side p = aslant side p + (suc p.first - N) + (suc p.second - N)

across_astray : (N : ℕ) (side : ℕ → ℕ) (p : Pair) → Across N side p → astray N side p ≡ 0
across_astray N side p a = omega arith

pub astray_across : (N : ℕ) (side : ℕ → ℕ) (p : Pair) → astray N side p ≡ 0 → Across N side p
astray_across N side p z = omega arith

-- pairs across the sides are not astray, and not aslant
pub none_astray : (N : ℕ) (side : ℕ → ℕ) (ps : List Pair) → All (Across N side) ps → total (astray N side) ps ≡ 0
none_astray N side ps h = total_all_zero (astray N side) ps (all_map (across_astray N side) ps h)

-- where no party below N has a pair left, none is left
none_left :
    (N : ℕ) (side : ℕ → ℕ) (ps : List Pair) → total (astray N side) ps ≡ 0 → ((v : ℕ) → v < N → total (ends v) ps ≡ 0) →
    (f : Pair → ℕ) → total f ps ≡ 0
unfolding total
none_left N side [] z h f = refl
none_left N side (p ∷ ps) z h f = absurd (omega (arith, h p.first (omega arith), is_same p.first))

pub none_aslant : (N : ℕ) (side : ℕ → ℕ) (ps : List Pair) → All (Across N side) ps → total (aslant side) ps ≡ 0
none_aslant N side ps h = total_all_zero (aslant side) ps (all_map (λ p a. omega arith) ps h)

-- a party not below N has no ends
pub beyond :
    (N : ℕ) (side : ℕ → ℕ) (r : List Pair) → All (Across N side) r → (v : ℕ) → (v < N → ⊥) → total (ends v) r ≡ 0
beyond N side r h v n = total_all_zero (ends v) r (all_map off r h)
  where
    off : (p : Pair) → Across N side p → ends v p ≡ 0
    off p a =
        omega
        (arith, is_ne {u = v} {v = p.first} (λ e. n (omega arith)), is_ne {u = v} {v = p.second} (λ e. n (omega arith)))

-- Module 3 of document 01. Every pair stands in one cycle, once, and in each cycle every party stands as often at places
-- 0, 2, .. as at places 1, 3, ..
pub euler_law :
    (N : ℕ) (side : ℕ → ℕ) (r : List Pair) → All (Across N side) r →
    ((v : ℕ) → v < N → total (λ p. names v p.first p.second) r % 2 ≡ 0) → Ran (CyclesOf r) (euler_cycles N r)
unfolding euler_cycles
euler_law N side r h even =
    ran_then (Toured r N) (CyclesOf r) (tour_below N r) (λ t. ran t.cycles)
    (tour_below_tours side r (none_aslant N side r h) all_even N) finish
  where
    all_even : (v : ℕ) → total (ends v) r % 2 ≡ 0
    all_even v = elim (dec_lt v N) [ yes k ↦ even v k | no n ↦ omega (arith, beyond N side r h v n) ]

    nothing : (t : Tour) → Toured r N t → (f : Pair → ℕ) → total f t.left ≡ 0
    nothing t k = none_left N side t.left (omega (arith, none_astray N side r h, k.whole (astray N side))) k.below

    finish : (t : Tour) → Toured r N t → CyclesOf r t.cycles
    finish t k =
        record {
          whole = λ f. omega (arith, nothing t k f, k.whole f);
          balanced = k.balanced;
        }
