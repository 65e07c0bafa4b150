-- The value of digits: what one more digit makes of it, in front or behind. Assumes nothing.
use Prim.Native.Nat.{ℕ, ◌+◌, ◌-◌, ◌*◌, ◌≤◌, ◌<◌}
use mathlib.Core.Path.{◌≡◌, sym, ◌∙◌, ap}
use mathlib.Core.Bool.{true}
use mathlib.Core.List.{List, [], ◌∷◌, ◌++◌}
use Rattle.std.specs.Prelude.{Some}
use native.Mathlib.Omega.{arith}
use borrow.Author.Tests.{le-leb}
use Rattle.words.specs.Basics.{All}
use Rattle.reading.specs.Reading.{is_digit, digits_value}

pub record Digit (b : ℕ) : Type 0 where
  pub low : 48 ≤ b
  pub high : b ≤ 57

digit_test : (b : ℕ) → Digit b → is_digit b ≡ true
digit_test b d = rw (le-leb 48 b d.low, le-leb b 57 d.high)

pub value_digit : (v b : ℕ) (rest : List ℕ) → Digit b → digits_value v (b ∷ rest) ≡ digits_value (10 * v + (b - 48)) rest
unfolding digits_value
value_digit v b rest d = rw (digit_test b d)

pub value_append : (v m : ℕ) (front rest : List ℕ) → All Digit front → digits_value v front ≡ Some m → digits_value v (front ++ rest) ≡ digits_value m rest
unfolding digits_value
value_append v m [] rest h e = let same : v ≡ m = cc in rw same
value_append v m (b ∷ front) rest h e =
    value_digit v b (front ++ rest) h.0
    ∙ value_append (10 * v + (b - 48)) m front rest h.1 (sym (value_digit v b front h.0) ∙ e)

-- the value of one more digit
pub value_last : (m d : ℕ) → d < 10 → digits_value m ((48 + d) ∷ []) ≡ Some (10 * m + d)
unfolding digits_value
value_last m d h =
    value_digit m (48 + d) [] (record { low = omega arith; high = omega arith })
    ∙ ap Some (omega arith)
