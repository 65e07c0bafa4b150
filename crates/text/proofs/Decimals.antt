-- Printing a number and reading it back: its digits are digits, 1 to 5 of them below 100,000, and their value is the number.
-- Assumes nothing.
use Prim.Native.Nat.{ℕ, zero, suc, ◌+◌, ◌%◌, ◌/◌, ◌≤◌, ◌<◌}
use mathlib.Core.Path.{◌≡◌, refl, ◌∙◌, ap}
use mathlib.Core.Bool.{Bool, true, false}
use mathlib.Core.List.{List, [], ◌∷◌, ◌++◌}
use Rattle.std.specs.Prelude.{Some}
use native.Mathlib.Omega.{arith}
use borrow.Author.Tests.{lt-ltb, le-ltb, ltb-true, ltb-false, ne_eqb}
use lib.Dec.{ltb}
use lib.ListN.{length, length-append}
use Rattle.words.specs.Basics.{pick, All}
use Rattle.words.proofs.Sums.{all_append}
use Rattle.appointments.specs.Checks.{blank}
use Rattle.reading.specs.Reading.{digits_value, number}
use Rattle.reading.proofs.Digits.{Digit, value_append, value_last}
use Rattle.printing.specs.Printing.{decimal_by, decimal}
use Rattle.printing.proofs.Lengths.{five_digits}

-- ── the digits of a number ──

-- the two ways a digit of decimal-by comes about
by_cases : (fuel n : ℕ) (Q : List ℕ → Type 0) → (n < 10 → Q ((48 + n) ∷ [])) → (10 ≤ n → Q (decimal_by fuel (n / 10) ++ ((48 + n % 10) ∷ []))) → Q (decimal_by (suc fuel) n)
unfolding decimal_by
by_cases fuel n Q small large = go (ltb n 10) refl
  where
    go : (t : Bool) → ltb n 10 ≡ t → Q (pick t ((48 + n) ∷ []) (decimal_by fuel (n / 10) ++ ((48 + n % 10) ∷ [])))
    go true e = small (ltb-true n 10 e)
    go false e = large (ltb-false n 10 e)

decimal_by_digits : (fuel n : ℕ) → All Digit (decimal_by fuel n)
unfolding decimal_by
decimal_by_digits zero n = tt
decimal_by_digits (suc fuel) n = go (decimal_by_digits fuel (n / 10))
  where
    go : All Digit (decimal_by fuel (n / 10)) → All Digit (decimal_by (suc fuel) n)
    go front =
        by_cases fuel n (All Digit)
        (λ h. (record { low = omega arith; high = omega arith }, tt))
        (λ h. all_append Digit (decimal_by fuel (n / 10)) ((48 + n % 10) ∷ []) front (record { low = omega arith; high = omega arith }, tt))

pub decimal_digits : (n : ℕ) → All Digit (decimal n)
unfolding decimal
decimal_digits n = decimal_by_digits (suc n) n

pub decimal_some : (n : ℕ) → 0 < length (decimal n)
unfolding decimal
decimal_some n =
    by_cases n n (λ (l : List ℕ). 0 < length l) (λ h. omega arith)
    (λ h. omega (arith, length-append (decimal_by n (n / 10)) ((48 + n % 10) ∷ [])))

-- ── their value ──

decimal_by_value : (fuel n : ℕ) → n < fuel → digits_value 0 (decimal_by fuel n) ≡ Some n
decimal_by_value zero n h = absurd (omega arith)
decimal_by_value (suc fuel) n h =
    by_cases fuel n (λ (l : List ℕ). digits_value 0 l ≡ Some n)
    (λ k. value_last 0 n k ∙ ap Some (omega arith))
    (λ k.
    value_append 0 (n / 10) (decimal_by fuel (n / 10)) ((48 + n % 10) ∷ []) (decimal_by_digits fuel (n / 10)) (decimal_by_value fuel (n / 10) (omega arith))
    ∙ value_last (n / 10) (n % 10) (omega arith)
    ∙ ap Some (omega arith))

pub decimal_value : (n : ℕ) → digits_value 0 (decimal n) ≡ Some n
unfolding decimal
decimal_value n = decimal_by_value (suc n) n (omega arith)

-- A printed number below 65,535 is read as that number.
pub number_decimal : (n : ℕ) → n < 65535 → number (decimal n) ≡ Some n
unfolding number
number_decimal n h =
    rw (ne_eqb (length (decimal n)) 0 (omega (arith, decimal_some n)), le-ltb 5 (length (decimal n)) (five_digits n (omega arith)), decimal_value n, lt-ltb n blank h)
