-- Powers of two and their exponents: `log_up m` is the exponent of the least one not below m. Assumes nothing.
use Prim.Native.Nat.{ℕ, zero, suc, ◌+◌, ◌*◌, ◌^◌, ◌≤◌, ◌<◌}
use mathlib.Core.Path.{◌≡◌, refl}
use mathlib.Core.Bool.{Bool, true, false}
use native.Mathlib.Omega.{arith}
use native.Mathlib.Decide.{dec_le}
use native.Mathlib.Nat.{pow-succ'}
use native.Mathlib.Numerals.{add-one}
use borrow.Author.Tests.{leb-true, leb-false}
use lib.Dec.{leb}
use lib.Pow.{pow_pos, pow_mono}
use Rattle.words.specs.Basics.{pick}
use Rattle.words.specs.PowersOfTwo.{log_up}

pub two_pow : (e : ℕ) → 2 ^ suc e ≡ 2 * 2 ^ e
two_pow e = pow-succ' 2 e

-- a higher power has a higher exponent
pub exponent_lt : (e i : ℕ) → 2 ^ e < 2 ^ i → e < i
exponent_lt e i h = elim (dec_le i e) [ yes k ↦ absurd (omega (arith, pow_mono {i = i} {j = e} k)) | no k ↦ omega arith ]

-- a power has one exponent
pub pow_same : (e i : ℕ) → 2 ^ e ≡ 2 ^ i → e ≡ i
pow_same e i h =
    elim (dec_le e i) [
      | yes k ↦ elim (dec_le i e) [ yes l ↦ omega arith | no l ↦ absurd (omega (arith, pow_less e i (omega arith))) ]
      | no k ↦ absurd (omega (arith, pow_less i e (omega arith)))
    ]
  where
    pow_less : (a b : ℕ) → suc a ≤ b → 2 ^ a < 2 ^ b
    pow_less a b l = omega (arith, pow_mono {i = suc a} {j = b} l, two_pow a, pow_pos a)

-- a power that is at most 1
pub no_power : (x e : ℕ) → x ≡ 2 ^ e → x ≤ 1 → e ≡ 0
no_power x zero p h = refl
no_power x (suc e) p h = absurd (omega (arith, two_pow e, pow_pos e))

-- 2^e is the least power of two not below m.
pub record LeastPower (m e : ℕ) : Type 0 where
  pub reaches : m ≤ 2 ^ e
  pub least : (i : ℕ) → m ≤ 2 ^ i → e ≤ i

pub log_up_law : (m : ℕ) → LeastPower m (log_up m)
unfolding log_up
log_up_law zero = record { reaches = omega arith; least = λ i h. omega arith }
log_up_law (suc m) = go (leb (suc m) (2 ^ log_up m)) refl (log_up_law m)
  where
    go : (t : Bool) → leb (suc m) (2 ^ log_up m) ≡ t → LeastPower m (log_up m) →
        LeastPower (suc m) (pick t (log_up m) (log_up m + 1))
    go true e l = record { reaches = leb-true _ _ e; least = λ i h. l.least i (omega arith) }
    go false e l =
        let past : 2 ^ log_up m < suc m = leb-false _ _ e in
        let twice : 2 ^ (log_up m + 1) ≡ 2 * 2 ^ log_up m = rw add-one (two_pow (log_up m)) in
        record {
          reaches = omega (arith, l.reaches, past, twice, pow_pos (log_up m));
          least = λ i h. omega (arith, exponent_lt (log_up m) i (omega (arith, l.reaches, past, h)));
        }

-- the power is below twice the number
pub under_twice : (m e : ℕ) → 0 < m → LeastPower m e → 2 ^ e < 2 * m
under_twice m zero pos l = omega arith
under_twice m (suc e) pos l =
    elim (dec_le m (2 ^ e)) [
      | yes k ↦ absurd (omega (arith, l.least e k))
      | no k ↦ omega (arith, two_pow e)
    ]

pub log_up_under : (m : ℕ) → 0 < m → 2 ^ log_up m < 2 * m
log_up_under m pos = under_twice m (log_up m) pos (log_up_law m)
