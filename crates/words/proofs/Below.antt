-- The numbers below a bound: below 1 and 2 there are one and two of them, and rows side by side lie apart and inside. Assumes nothing.
use Prim.Native.Nat.{ℕ, zero, suc, ◌+◌, ◌*◌, ◌<◌, ◌≤◌}
use mathlib.Core.Path.{◌≡◌}
use native.Mathlib.Omega.{arith}
use native.Mathlib.Nat.{mul-le-mul_left}
use native.Mathlib.Decide.{dec_lt}

pub only : (P : ℕ → Type 0) → P 0 → (i : ℕ) → i < 1 → P i
only P p zero h = p
only P p (suc i) h = absurd (omega arith)

pub both : (P : ℕ → Type 0) → P 0 → P 1 → (i : ℕ) → i < 2 → P i
both P p q zero h = p
both P p q (suc zero) h = q
both P p q (suc (suc i)) h = absurd (omega arith)

-- ── rows of d places side by side ──

-- a row ends among them
pub row_end : (d v q : ℕ) → v < q → d * v + d ≤ d * q
row_end d v q h =
    let le : d * (v + 1) ≤ d * q = mul-le-mul_left d (omega arith) in
    omega arith

-- a place of a row is inside
pub row_inside : (d v t q : ℕ) → v < q → t < d → d * v + t < d * q
row_inside d v t q a b = omega (arith, row_end d v q a)

-- places of two rows are different
pub rows_apart : (d v t u k : ℕ) → t < d → k < d → (v ≡ u → ⊥) → d * v + t ≡ d * u + k → ⊥
rows_apart d v t u k a b n e =
    elim (dec_lt v u) [
      | yes l ↦ omega (arith, mul-le-mul_left d l)
      | no l ↦ let less : u + 1 ≤ v = omega arith in omega (arith, mul-le-mul_left d less)
    ]
