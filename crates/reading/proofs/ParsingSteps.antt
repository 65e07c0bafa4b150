-- The steps of reading by the definitions: a digit more, a number, an end, a line. Assumes nothing.
use Prim.Native.Nat.{ℕ, suc, ◌+◌, ◌-◌, ◌*◌, ◌^◌, ◌≤◌, ◌<◌}
use mathlib.Core.Path.{◌≡◌, refl, sym, ◌∙◌, ap}
use mathlib.Core.Bool.{true, false}
use mathlib.Core.List.{List, [], ◌∷◌}
use Rattle.std.specs.Prelude.{Option, None, Some, is_some, option_map}
use native.Mathlib.Omega.{arith}
use native.Mathlib.Nat.{pow-le-pow_right}
use native.Mathlib.Numerals.{add-one}
use lib.ListN.{length, get_or, take, drop}
use lib.Seq.{drop-cons, drop-length}
use Rattle.words.specs.Ascii.{comma}
use Rattle.reading.specs.Reading.{parts, is_digit, digits_value, end_of, both, two_ends, appointment_of}
use Rattle.reading.specs.Told.{FirstAt, ends_of}
use Rattle.reading.proofs.Parting.{Unfound, Finds, parts_at, parts_none, parts_some}
use Rattle.reading.proofs.Digits.{value_digit}

-- ── digits ──

-- v is the value of the first i digits, and the others follow
pub record DigitsSoFar (bytes : List ℕ) (v i : ℕ) : Type 0 where
  pub inside : i ≤ length bytes
  pub small : v < 10 ^ i
  pub rest : digits_value 0 bytes ≡ digits_value v (drop i bytes)

pub digits_start : (bytes : List ℕ) → DigitsSoFar bytes 0 0
digits_start bytes = record { inside = omega arith; small = omega arith; rest = refl }

-- five digits have a value below 100,000
pub digits_small : {bytes : List ℕ} {v i : ℕ} → DigitsSoFar bytes v i → i ≤ 5 → v < 100000
digits_small {bytes} {v} {i} d h = omega (arith, pow-le-pow_right {n = 10} (omega arith) {i = i} {j = 5} h)

module _ {bytes : List ℕ} {v i : ℕ} (d : DigitsSoFar bytes v i) where
  next_digit : i < length bytes → digits_value 0 bytes ≡ digits_value v (get_or bytes i 0 ∷ drop (suc i) bytes)
  next_digit h = d.rest ∙ ap (digits_value v) (drop-cons bytes i 0 h)

  pub digits_more : i < length bytes → 48 ≤ get_or bytes i 0 → get_or bytes i 0 ≤ 57 → DigitsSoFar bytes (10 * v + (get_or bytes i 0 - 48)) (i + 1)
  digits_more h low high =
      record {
        inside = omega arith;
        small = rw (add-one i) (omega (arith, d.small));
        rest =
            rw (add-one i)
            (next_digit h ∙ value_digit v (get_or bytes i 0) (drop (suc i) bytes) (record { low = low; high = high }));
      }

  -- a byte that is no digit
  pub digits_other : i < length bytes → is_digit (get_or bytes i 0) ≡ false → None ≡ digits_value 0 bytes
  unfolding digits_value
  digits_other h other =
      let gone : digits_value v (get_or bytes i 0 ∷ drop (suc i) bytes) ≡ None = rw other in
      sym (next_digit h ∙ gone)

  pub digits_all : i ≡ length bytes → Some v ≡ digits_value 0 bytes
  unfolding digits_value
  digits_all e =
      let over : drop i bytes ≡ [] = ap (λ (k : ℕ). drop k bytes) e ∙ drop-length bytes in
      sym (d.rest ∙ ap (digits_value v) over)

-- ── a line of an appointment ──

-- what the line tells: its ends, or that it has none
both_none : (o : Option ℕ) → both o None ≡ None
both_none (Some v) = refl
both_none None = refl

-- a line without a comma
pub ends_unparted : (line : List ℕ) → Unfound comma line → None ≡ option_map ends_of (appointment_of line)
unfolding appointment_of
ends_unparted line f = rw (parts_none comma line f)

module _ (line back : List ℕ) (i : ℕ) (f : FirstAt comma line i) (e : back ≡ drop (i + 1) line) (o : Option ℕ) (g : Finds comma back o) where
  parted : parts comma line ≡ take i line ∷ parts comma back
  parted = rw e (parts_at comma line i f)

  -- a second comma
  pub ends_three : is_some o ≡ true → None ≡ option_map ends_of (appointment_of line)
  unfolding appointment_of
  ends_three s = go o g s
    where
      two : (ps : List (List ℕ)) → 0 < length ps → (b : List ℕ) → two_ends (take i line ∷ b ∷ ps) ≡ None
      two [] l b = absurd (omega arith)
      two (p ∷ ps) l b = refl

      go : (o : Option ℕ) → Finds comma back o → is_some o ≡ true → None ≡ option_map ends_of (two_ends (parts comma line))
      go None g s = cc
      go (Some j) g s = rw (parted, parts_at comma back j g, two (parts comma (drop (j + 1) back)) (parts_some comma (drop (j + 1) back)) (take j back))

  -- none
  module _ (s : is_some o ≡ false) where
    two_parts : appointment_of line ≡ both (end_of (take i line)) (end_of back)
    unfolding appointment_of
    two_parts = rw (parted, go o g s)
      where
        go : (o : Option ℕ) → Finds comma back o → is_some o ≡ false → parts comma back ≡ back ∷ []
        go None g s = parts_none comma back g
        go (Some j) g s = cc

    pub ends_no_first : None ≡ end_of (take i line) → None ≡ option_map ends_of (appointment_of line)
    ends_no_first a = rw (two_parts, ← a)

    pub ends_no_second : None ≡ end_of back → None ≡ option_map ends_of (appointment_of line)
    ends_no_second b = rw (two_parts, ← b, both_none (end_of (take i line)))

    pub ends_both : (a b : ℕ) → Some a ≡ end_of (take i line) → Some b ≡ end_of back → Some (record { first = a; second = b }) ≡ option_map ends_of (appointment_of line)
    ends_both a b p q = rw (two_parts, ← p, ← q)
