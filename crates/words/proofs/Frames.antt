-- The laws of `word`, `put_word` and the frames that everything above cites. Assumes nothing.
use Prim.Native.Nat.{ℕ, ◌+◌, ◌*◌, ◌%◌, ◌<◌, ◌≤◌}
use mathlib.Core.Path.{◌≡◌, refl, ◌∙◌}
use mathlib.Core.List.{List}
use native.Mathlib.Omega.{arith}
use native.Mathlib.Nat.{mod-eq_of_lt, mul-le-mul_left, mul-le-mul_right}
use lib.ListN.{length, take, drop, length-set}
use lib.Seq.{get_or-set_same, get_or-set_other, get_or-take, get_or-drop}
use Rattle.words.specs.Words.{word, put_word}
use Rattle.words.specs.Frames.{Keeps, Stays}

-- a number that fits a word is not cut
pub fits : {x : ℕ} → x < 4294967296 → x % 4294967296 ≡ x
fits h = mod-eq_of_lt h

-- the product of two words
pub product_fits : (a b : ℕ) → a < 4294967296 → b < 4294967296 → a * b < 18446744073709551616
product_fits a b h k =
    let x : a ≤ 4294967295 = omega arith in
    let y : b ≤ 4294967295 = omega arith in
    omega (arith, mul-le-mul_left a y, mul-le-mul_right 4294967295 x)

-- the word just put
pub here : (s : List ℕ) (i x : ℕ) → i < length s → x < 4294967296 → word (put_word s i x) i ≡ x
here s i x h f = get_or-set_same s i (x % 4294967296) 0 h ∙ fits f

-- another word
pub away : (s : List ℕ) (i j x : ℕ) → (j ≡ i → ⊥) → word (put_word s i x) j ≡ word s j
away s i j x h = get_or-set_other s i j (x % 4294967296) 0 h

pub length_put : (s : List ℕ) (i x : ℕ) → length (put_word s i x) ≡ length s
length_put s i x = length-set s i (x % 4294967296)

-- a word of the n that begin at a
pub stretch_word : (s : List ℕ) (a n j : ℕ) → j < n → word (take n (drop a s)) j ≡ word s (a + j)
stretch_word s a n j h = rw (get_or-take, get_or-drop)

pub keeps_refl : (mark : ℕ) (s : List ℕ) → Keeps mark s s
keeps_refl mark s = record { len = refl; same = λ i h. refl }

pub keeps_trans : {mark : ℕ} {s t u : List ℕ} → Keeps mark s t → Keeps mark t u → Keeps mark s u
keeps_trans a b = record { len = b.len ∙ a.len; same = λ i h. b.same i h ∙ a.same i h }

pub keeps_less : (less : ℕ) {mark : ℕ} {s t : List ℕ} → less ≤ mark → Keeps mark s t → Keeps less s t
keeps_less less h a = record { len = a.len; same = λ i k. a.same i (omega arith) }

-- a word put at the mark or above it
pub keeps_put : (mark : ℕ) (s : List ℕ) (i x : ℕ) → mark ≤ i → Keeps mark s (put_word s i x)
keeps_put mark s i x h = record { len = length_put s i x; same = λ j k. away s i j x (λ e. omega arith) }

-- one more word put above the mark
pub keeps_then_put : {mark : ℕ} {s t : List ℕ} (i x : ℕ) → mark ≤ i → Keeps mark s t → Keeps mark s (put_word t i x)
keeps_then_put {mark} {s} {t} i x h a = keeps_trans a (keeps_put mark t i x h)

pub stays_trans : {mark o w : ℕ} {s t u : List ℕ} → Stays mark o w s t → Stays mark o w t u → Stays mark o w s u
stays_trans a b =
    record {
      len = b.len ∙ a.len;
      under = λ i h k. b.under i h k ∙ a.under i h k;
      over = λ i h k. b.over i h k ∙ a.over i h k;
    }

pub keeps_stays : {mark : ℕ} {s t : List ℕ} (o w : ℕ) → Keeps mark s t → Stays mark o w s t
keeps_stays o w a = record { len = a.len; under = λ i h k. a.same i h; over = λ i h k. a.same i h }

-- a narrower range or a lower mark
pub stays_wide :
    {mark o w : ℕ} {s t : List ℕ} (less low wide : ℕ) → less ≤ mark → low ≤ o → o + w ≤ low + wide →
    Stays mark o w s t → Stays less low wide s t
stays_wide less low wide m l e a =
    record {
      len = a.len;
      under = λ i h k. a.under i (omega arith) (omega arith);
      over = λ i h k. a.over i (omega arith) (omega arith);
    }
