-- The laws of a step taken many times and of results that may have failed. Assumes nothing.
use Prim.Native.Nat.{ℕ, zero, suc, ◌+◌, ◌≤◌, ◌<◌}
use mathlib.Core.Path.{◌≡◌, refl}
use mathlib.Core.Logic.{◌⊎◌, ⊎_elim}
use native.Mathlib.Omega.{arith}
use native.Mathlib.Nat.{zero-add, suc-add}
use Rattle.words.specs.Basics.{iterate, Run, ran, failed, and_then, Ran}

-- ── results that may have failed ──

module _ {ℓ} {A : Type ℓ} where
  -- P passes to Q at every result
  pub ran_map : {P Q : A → Type 0} → ((a : A) → P a → Q a) → (r : Run A) → Ran P r → Ran Q r
  ran_map f (ran a) h = f a h
  ran_map f failed h = h

  pub ran_both : (P Q : A → Type 0) (r : Run A) → Ran P r → Ran Q r → Ran (λ a. P a × Q a) r
  ran_both P Q (ran a) h k = (h, k)
  ran_both P Q failed h k = h

  -- the result itself
  pub ran_is : (P : A → Type 0) (r : Run A) → Ran P r → (a : A) × (r ≡ ran a) × P a
  ran_is P (ran a) h = (a, refl, h)
  ran_is P failed h = absurd h

-- two steps, one after the other
pub ran_then {ℓ κ} : {A : Type ℓ} {B : Type κ} (P : A → Type 0) (Q : B → Type 0) (r : Run A) (f : A → Run B) → Ran P r → ((a : A) → P a → Ran Q (f a)) → Ran Q (and_then r f)
ran_then P Q (ran a) f h k = k a h
ran_then P Q failed f h k = h

-- ── a step taken many times ──

module _ {ℓ} {A : Type ℓ} where
  -- what each step keeps, all steps keep
  pub iterate_keeps : {Inv : A → Type 0} (f : A → A) → ((a : A) → Inv a → Inv (f a)) → (n : ℕ) (a : A) → Inv a → Inv (iterate n f a)
  unfolding iterate
  iterate_keeps f keep zero a h = h
  iterate_keeps f keep (suc n) a h = iterate_keeps f keep n (f a) (keep a h)

  -- the last step apart instead of the first
  pub iterate_suc_out : (n : ℕ) (f : A → A) (a : A) → iterate (suc n) f a ≡ f (iterate n f a)
  unfolding iterate
  iterate_suc_out zero f a = refl
  iterate_suc_out (suc n) f a = iterate_suc_out n f (f a)

  -- m steps, then n steps
  pub iterate_add : (m n : ℕ) (f : A → A) (a : A) → iterate (m + n) f a ≡ iterate n f (iterate m f a)
  unfolding iterate
  iterate_add zero n f a = rw zero-add
  iterate_add (suc m) n f a = rw suc-add (iterate_add m n f (f a))

  -- steps that change nothing
  pub iterate_rest : (n : ℕ) (f : A → A) (a : A) → f a ≡ a → iterate n f a ≡ a
  unfolding iterate
  iterate_rest zero f a e = refl
  iterate_rest (suc n) f a e = rw e (iterate_rest n f a e)

  -- Enough steps end: from each state with the invariant, either all is done, and stays done, or a step lowers the measure.
  pub iterate_ends : {Inv Done : A → Type 0} (f : A → A) (μ : A → ℕ) → ((a : A) → Inv a → Inv (f a)) → ((a : A) → Inv a → Done a ⊎ (μ (f a) < μ a)) → ((a : A) → Inv a → Done a → Done (f a)) → (n : ℕ) (a : A) → μ a ≤ n → Inv a → Done (iterate n f a)
  unfolding iterate
  iterate_ends {Inv} {Done} f μ keep turn stay zero a h i = ⊎_elim (λ d. d) (λ less. absurd (omega arith)) (turn a i)
  iterate_ends {Inv} {Done} f μ keep turn stay (suc n) a h i =
      ⊎_elim
      (λ d. (iterate_keeps {Inv = λ b. Inv b × Done b} f (λ b k. (keep b k.0, stay b k.0 k.1)) (suc n) a (i, d)).1)
      (λ less. iterate_ends {Inv = Inv} {Done = Done} f μ keep turn stay n (f a) (omega arith) (keep a i))
      (turn a i)
