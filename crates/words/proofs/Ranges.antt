-- The laws of the frames with several ranges: `Spares` and `Changes` with two, `ChangesThree`. Assumes nothing.
use Prim.Native.Nat.{ℕ, ◌+◌, ◌≤◌, ◌<◌}
use mathlib.Core.Path.{◌≡◌, refl, ◌∙◌}
use mathlib.Core.List.{List}
use native.Mathlib.Omega.{arith}
use native.Mathlib.Decide.{dec_lt}
use lib.ListN.{length}
use Rattle.words.specs.Words.{word, put_word}
use Rattle.words.specs.Frames.{Keeps, Stays, Spares, Changes, ChangesThree}
use Rattle.words.proofs.Frames.{away, length_put}

-- ── two ranges below a mark ──

pub spares_refl : (mark a v b w : ℕ) (s : List ℕ) → Spares mark a v b w s s
spares_refl mark a v b w s =
    record { len = refl; under = λ i h k. refl; between = λ i h k l. refl; over = λ i h k. refl }

pub spares_trans :
    {mark a v b w : ℕ} {s t u : List ℕ} → Spares mark a v b w s t → Spares mark a v b w t u → Spares mark a v b w s u
spares_trans x y =
    record {
      len = y.len ∙ x.len;
      under = λ i h k. y.under i h k ∙ x.under i h k;
      between = λ i h k l. y.between i h k l ∙ x.between i h k l;
      over = λ i h k. y.over i h k ∙ x.over i h k;
    }

-- a lower mark, and a wider second range above the first
pub spares_wide :
    {mark a v b w : ℕ} {s t : List ℕ} (less low wide : ℕ) → less ≤ mark → a + v ≤ low → low ≤ b → b + w ≤ low + wide →
    Spares mark a v b w s t → Spares less a v low wide s t
spares_wide less low wide m p l e x =
    record {
      len = x.len;
      under = λ i h k. x.under i (omega arith) k;
      between = λ i h k j. x.between i (omega arith) k (omega arith);
      over = λ i h k. x.over i (omega arith) (omega arith);
    }

pub keeps_spares : {mark : ℕ} {s t : List ℕ} (less a v b w : ℕ) → less ≤ mark → Keeps mark s t → Spares less a v b w s t
keeps_spares less a v b w m x =
    record {
      len = x.len;
      under = λ i h k. x.same i (omega arith);
      between = λ i h k l. x.same i (omega arith);
      over = λ i h k. x.same i (omega arith);
    }

pub stays_spares :
    {mark o x : ℕ} {s t : List ℕ} (less a v b w : ℕ) → less ≤ mark → a + v ≤ b → b ≤ o → o + x ≤ b + w → Stays mark o x s t →
    Spares less a v b w s t
stays_spares less a v b w m p l e x =
    record {
      len = x.len;
      under = λ i h k. x.under i (omega arith) (omega arith);
      between = λ i h k j. x.under i (omega arith) (omega arith);
      over = λ i h k. x.over i (omega arith) (omega arith);
    }

-- ── two ranges ──

pub changes_refl : (a v b w : ℕ) (s : List ℕ) → Changes a v b w s s
changes_refl a v b w s =
    record { len = refl; under = λ i h. refl; between = λ i h k. refl; over = λ i h. refl }

pub changes_trans :
    {a v b w : ℕ} {s t u : List ℕ} → Changes a v b w s t → Changes a v b w t u → Changes a v b w s u
changes_trans x y =
    record {
      len = y.len ∙ x.len;
      under = λ i h. y.under i h ∙ x.under i h;
      between = λ i h k. y.between i h k ∙ x.between i h k;
      over = λ i h. y.over i h ∙ x.over i h;
    }

-- more words of the second range may change
pub changes_wide :
    {a v b w : ℕ} {s t : List ℕ} (wide : ℕ) → w ≤ wide → Changes a v b w s t → Changes a v b wide s t
changes_wide wide h x =
    record {
      len = x.len;
      under = λ i p. x.under i p;
      between = λ i p q. x.between i p q;
      over = λ i p. x.over i (omega arith);
    }

-- a word put into the second range
pub changes_put :
    (a v b w : ℕ) (s : List ℕ) (i x : ℕ) → a + v ≤ b → b ≤ i → i < b + w → Changes a v b w s (put_word s i x)
changes_put a v b w s i x p q r =
    record {
      len = length_put s i x;
      under = λ j h. away s i j x (λ e. omega arith);
      between = λ j h k. away s i j x (λ e. omega arith);
      over = λ j h. away s i j x (λ e. omega arith);
    }

-- a word put into the first range
pub changes_put_low :
    (a v b w : ℕ) (s : List ℕ) (i x : ℕ) → a + v ≤ b → a ≤ i → i < a + v → Changes a v b w s (put_word s i x)
changes_put_low a v b w s i x p q r =
    record {
      len = length_put s i x;
      under = λ j h. away s i j x (λ e. omega arith);
      between = λ j h k. away s i j x (λ e. omega arith);
      over = λ j h. away s i j x (λ e. omega arith);
    }

-- where the second range lies above the mark, only the first one counts
pub changes_stays :
    {a v b w : ℕ} {s t : List ℕ} (mark : ℕ) → mark ≤ b → Changes a v b w s t → Stays mark a v s t
changes_stays mark h x =
    record {
      len = x.len;
      under = λ i p q. x.under i q;
      over = λ i p q. x.between i q (omega arith);
    }

-- the second range lies above the mark, and only the first one counts
pub changes_spares :
    {a x c y : ℕ} {s t : List ℕ} (mark v b w : ℕ) → mark ≤ c → x ≤ v → a + v ≤ b → Changes a x c y s t → Spares mark a v b w s t
changes_spares mark v b w m l p x =
    record {
      len = x.len;
      under = λ i h k. x.under i k;
      between = λ i h k j. x.between i (omega arith) (omega arith);
      over = λ i h k. x.between i (omega arith) (omega arith);
    }

-- where nothing of the second range changes, all behind the first one stays
pub changes_behind :
    {a v b : ℕ} {s t : List ℕ} → Changes a v b 0 s t → (i : ℕ) → a + v ≤ i → word t i ≡ word s i
changes_behind {b = b} ch i a = elim (dec_lt i b) [ yes h ↦ ch.between i a h | no h ↦ ch.over i (omega arith) ]

-- ── three ranges below a mark ──

pub three_refl : (a u b v c w mark : ℕ) (s : List ℕ) → ChangesThree a u b v c w mark s s
three_refl a u b v c w mark s =
    record {
      len = refl;
      under = λ i x y. refl;
      after_first = λ i x y z. refl;
      after_second = λ i x y z. refl;
      after_third = λ i x y. refl;
    }

pub three_trans :
    {a u b v c w mark : ℕ} {s t r : List ℕ} → ChangesThree a u b v c w mark s t → ChangesThree a u b v c w mark t r →
    ChangesThree a u b v c w mark s r
three_trans x y =
    record {
      len = y.len ∙ x.len;
      under = λ i h k. y.under i h k ∙ x.under i h k;
      after_first = λ i h k l. y.after_first i h k l ∙ x.after_first i h k l;
      after_second = λ i h k l. y.after_second i h k l ∙ x.after_second i h k l;
      after_third = λ i h k. y.after_third i h k ∙ x.after_third i h k;
    }

-- nothing below the mark changes
pub three_keeps : {mark : ℕ} {s t : List ℕ} (a u b v c w : ℕ) → Keeps mark s t → ChangesThree a u b v c w mark s t
three_keeps a u b v c w k =
    record {
      len = k.len;
      under = λ i h x. k.same i h;
      after_first = λ i h x y. k.same i h;
      after_second = λ i h x y. k.same i h;
      after_third = λ i h x. k.same i h;
    }

-- what changes lies in the ranges
pub three_within :
    (a u b v c w mark : ℕ) (s t : List ℕ) → a + u ≤ b → b + v ≤ c → length t ≡ length s →
    ((i : ℕ) → i < mark → (a ≤ i → i < a + u → ⊥) → (b ≤ i → i < b + v → ⊥) → (c ≤ i → i < c + w → ⊥) → word t i ≡ word s i) →
    ChangesThree a u b v c w mark s t
three_within a u b v c w mark s t ab bc len same =
    record {
      len = len;
      under = λ i h x. same i h (λ y z. omega arith) (λ y z. omega arith) (λ y z. omega arith);
      after_first = λ i h x k. same i h (λ y z. omega arith) (λ y z. omega arith) (λ y z. omega arith);
      after_second = λ i h x k. same i h (λ y z. omega arith) (λ y z. omega arith) (λ y z. omega arith);
      after_third = λ i h x. same i h (λ y z. omega arith) (λ y z. omega arith) (λ y z. omega arith);
    }

-- two ranges inside the first and the second, or inside the first and the third
pub three_low :
    {i x j y : ℕ} {s t : List ℕ} (a u b v c w mark : ℕ) → a ≤ i → i + x ≤ a + u → a + u ≤ b → b ≤ j → j + y ≤ b + v → b + v ≤ c →
    Changes i x j y s t → ChangesThree a u b v c w mark s t
three_low a u b v c w mark p q ab k l bc ch =
    record {
      len = ch.len;
      under = λ i h x. ch.under i (omega arith);
      after_first = λ i h x y. ch.between i (omega arith) (omega arith);
      after_second = λ i h x y. ch.over i (omega arith);
      after_third = λ i h x. ch.over i (omega arith);
    }

pub three_outer :
    {i x j y : ℕ} {s t : List ℕ} (a u b v c w mark : ℕ) → a ≤ i → i + x ≤ a + u → a + u ≤ b → b + v ≤ c → c ≤ j → j + y ≤ c + w →
    Changes i x j y s t → ChangesThree a u b v c w mark s t
three_outer a u b v c w mark p q ab bc k l ch =
    record {
      len = ch.len;
      under = λ i h x. ch.under i (omega arith);
      after_first = λ i h x y. ch.between i (omega arith) (omega arith);
      after_second = λ i h x y. ch.between i (omega arith) (omega arith);
      after_third = λ i h x. ch.over i (omega arith);
    }

-- one range, the second
pub three_middle :
    {mark b v : ℕ} {s t : List ℕ} (a u c w : ℕ) → a + u ≤ b → b + v ≤ c → Stays mark b v s t → ChangesThree a u b v c w mark s t
three_middle a u c w ab bc st =
    record {
      len = st.len;
      under = λ i h x. st.under i h (omega arith);
      after_first = λ i h x y. st.under i h y;
      after_second = λ i h x y. st.over i h x;
      after_third = λ i h x. st.over i h (omega arith);
    }
