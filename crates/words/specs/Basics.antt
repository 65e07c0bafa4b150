-- What every definition above is written with: choice by a test, a 0-or-1 number for an equality, sums over a list, a step
-- taken many times, and a result that may have failed. Assumes nothing.
use Rattle.std.specs.Prelude.{ℕ, zero, suc, ◌+◌, Bool, true, false, List, [], ◌∷◌, eqb}

-- the first of two where the test passes, else the second
abbrev pub pick {ℓ} : {A : Type ℓ} → Bool → A → A → A
pick true a b = a
pick false a b = b

-- 1 where the two numbers are equal, else 0
unfoldable pub is : ℕ → ℕ → ℕ
is u v = pick (eqb u v) 1 0

-- the sum of f over a list
unfoldable pub total {ℓ} : {A : Type ℓ} → (A → ℕ) → List A → ℕ
total f [] = 0
total f (x ∷ xs) = f x + total f xs

-- how often a number stands in a list
unfoldable pub count : ℕ → List ℕ → ℕ
count v [] = 0
count v (x ∷ xs) = is v x + count v xs

-- a step taken n times
unfoldable pub iterate {ℓ} : {A : Type ℓ} → ℕ → (A → A) → A → A
iterate zero f a = a
iterate (suc n) f a = iterate n f (f a)

-- every member of a list has the property
abbrev pub All {ℓ} : {A : Type ℓ} → (A → Type 0) → List A → Type 0
All P [] = Unit {0}
All P (x ∷ xs) = P x × All P xs

-- A result, or failed: fuel ran out, or a place was reached that the Rust marks unreachable or at which it would panic. The
-- laws show that no planning ever fails.
pub data Run {ℓ} (A : Type ℓ) : Type ℓ where
  ran : A → Run A
  failed : Run A

-- go on with the result, if there is one
abbrev pub and_then {ℓ κ} : {A : Type ℓ} {B : Type κ} → Run A → (A → Run B) → Run B
and_then (ran a) f = f a
and_then failed f = failed

-- there is a result, and it has the property
abbrev pub Ran {ℓ} : {A : Type ℓ} → (A → Type 0) → Run A → Type 0
Ran P (ran a) = P a
Ran P failed = ⊥

-- the sum of f over the numbers below n
unfoldable pub sum_below : (ℕ → ℕ) → ℕ → ℕ
sum_below f zero = 0
sum_below f (suc n) = sum_below f n + f n
