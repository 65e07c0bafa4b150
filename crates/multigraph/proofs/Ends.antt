-- What `joins`, `between` and `SameEnds` say of a pair's ends. Assumes nothing.
use Prim.Native.Nat.{ℕ, ◌+◌}
use mathlib.Core.Path.{◌≡◌, refl, sym, ◌∙◌}
use mathlib.Core.Bool.{Bool, true, false, ◌&&◌, or_comm, and_comm}
use mathlib.Core.Logic.{◌⊎◌, inl, inr, ⊎_elim}
use native.Mathlib.Omega.{arith}
use borrow.Author.Tests.{eq-eqb, eqb-true}
use lib.Dec.{eqb}
use Rattle.words.specs.Basics.{pick}
use Rattle.words.proofs.Bools.{either, never_true, both_true, true_left, true_right, true_both}
use Rattle.multigraph.specs.Multigraph.{Pair, pair, joins}
use Rattle.multigraph.specs.Regular.{names, between, Symmetric}
pub use Rattle.multigraph.specs.Regular.{SameEnds}

pub joins_true : (a b : ℕ) (p : Pair) → joins a b p ≡ true → SameEnds a b p.first p.second
joins_true a b p e =
    ⊎_elim
    (λ h. let k = both_true (eqb p.first a) (eqb p.second b) h in inl (eqb-true _ _ k.0, eqb-true _ _ k.1))
    (λ h. let k = both_true (eqb p.first b) (eqb p.second a) h in inr (eqb-true _ _ k.0, eqb-true _ _ k.1))
    (either (eqb p.first a && eqb p.second b) (eqb p.first b && eqb p.second a) e)

pub true_joins : (a b : ℕ) (p : Pair) → SameEnds a b p.first p.second → joins a b p ≡ true
true_joins a b p h =
    ⊎_elim
    (λ k.
    true_left (eqb p.first a && eqb p.second b) (eqb p.first b && eqb p.second a)
    (true_both (eqb p.first a) (eqb p.second b) (eq-eqb _ _ k.0) (eq-eqb _ _ k.1)))
    (λ k.
    true_right (eqb p.first a && eqb p.second b) (eqb p.first b && eqb p.second a)
    (true_both (eqb p.first b) (eqb p.second a) (eq-eqb _ _ k.0) (eq-eqb _ _ k.1))) h

-- a symmetric weight is the same at the same ends
pub same_weight : (w : ℕ → ℕ → ℕ) → Symmetric w → (a b c d : ℕ) → SameEnds a b c d → w c d ≡ w a b
same_weight w s a b c d h =
    ⊎_elim (λ k. rw (k.0, k.1)) (λ k. rw (k.0, k.1) (s b a)) h

pub names_symmetric : (v : ℕ) → Symmetric (names v)
names_symmetric v a b = omega arith

pub between_symmetric : (u v : ℕ) → Symmetric (between u v)
unfolding between
between_symmetric u v a b =
    rw (or_comm (eqb a u && eqb b v) (eqb a v && eqb b u), and_comm (eqb a v) (eqb b u), and_comm (eqb a u) (eqb b v))

-- 1 where the ends are the same, 0 where they are not
pub between_cases :
    (u v a b : ℕ) →
    (SameEnds u v a b × (between u v a b ≡ 1)) ⊎ ((SameEnds u v a b → ⊥) × (between u v a b ≡ 0))
unfolding between
between_cases u v a b = go (joins u v p) refl
  where
    p : Pair
    p = pair a b 0 0

    one : Bool → ℕ
    one t = pick t 1 0

    go : (t : Bool) → joins u v p ≡ t → (SameEnds u v a b × (one t ≡ 1)) ⊎ ((SameEnds u v a b → ⊥) × (one t ≡ 0))
    go true e = inl (joins_true u v p e, refl)
    go false e = inr (λ h. never_true (sym e ∙ true_joins u v p h), refl)

pub between_self : (a b : ℕ) → between a b a b ≡ 1
between_self a b = ⊎_elim (λ h. h.1) (λ h. absurd (h.0 (inl (refl, refl)))) (between_cases a b a b)

pub between_same : (u v a b : ℕ) → SameEnds u v a b → between u v a b ≡ 1
between_same u v a b s = ⊎_elim (λ h. h.1) (λ h. absurd (h.0 s)) (between_cases u v a b)

-- asked with the same ends, either way round, it answers the same
pub between_ends : (u v c d a b : ℕ) → SameEnds u v c d → between c d a b ≡ between u v a b
unfolding between
between_ends u v c d a b h =
    ⊎_elim (λ k. rw (k.0, k.1)) (λ k. rw (k.0, k.1, or_comm (eqb a v && eqb b u) (eqb a u && eqb b v))) h

-- a pair that doesn't join the ends asked about
pub not_between : (a b : ℕ) (p : Pair) → joins a b p ≡ false → between a b p.first p.second ≡ 0
not_between a b p e =
    ⊎_elim (λ k. never_true (sym e ∙ true_joins a b p k.0)) (λ k. k.1) (between_cases a b p.first p.second)

-- ── `SameEnds` ──

pub same_ends_sym : {a b c d : ℕ} → SameEnds a b c d → SameEnds c d a b
same_ends_sym h = ⊎_elim (λ k. inl (sym k.0, sym k.1)) (λ k. inr (sym k.1, sym k.0)) h

pub same_ends_trans : {a b c d x y : ℕ} → SameEnds a b c d → SameEnds c d x y → SameEnds a b x y
same_ends_trans h k =
    ⊎_elim
    (λ p. ⊎_elim (λ q. inl (q.0 ∙ p.0, q.1 ∙ p.1)) (λ q. inr (q.0 ∙ p.1, q.1 ∙ p.0)) k)
    (λ p. ⊎_elim (λ q. inr (q.0 ∙ p.0, q.1 ∙ p.1)) (λ q. inl (q.0 ∙ p.1, q.1 ∙ p.0)) k) h

-- by the sum of the two: the first end settles it
pub sums_same : (a b x y : ℕ) → SameEnds a b x y → x + y ≡ a + b
sums_same a b x y h = ⊎_elim (λ k. omega arith) (λ k. omega arith) h

pub ends_first : (a b x y : ℕ) → x + y ≡ a + b → x ≡ a → SameEnds a b x y
ends_first a b x y h k = inl (k, omega arith)

pub ends_second : (a b x y : ℕ) → x + y ≡ a + b → x ≡ b → SameEnds a b x y
ends_second a b x y h k = inr (k, omega arith)

pub ends_neither : (a b x y : ℕ) → (x ≡ a → ⊥) → (x ≡ b → ⊥) → SameEnds a b x y → ⊥
ends_neither a b x y h k e = ⊎_elim (λ i. h i.0) (λ i. k i.0) e
