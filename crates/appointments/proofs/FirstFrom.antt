-- What the first position of a test is, in a list of anything: `nowhere` where nothing passes the test, else the position of one that
-- does, with none before it. Assumes nothing.
use Prim.Native.Nat.{ℕ, zero, suc, ◌+◌, ◌≤◌, ◌<◌}
use mathlib.Core.Path.{◌≡◌, refl, sym, ◌∙◌, ap, subst}
use mathlib.Core.Bool.{Bool, true, false}
use mathlib.Core.List.{List, [], ◌∷◌}
use native.Mathlib.Omega.{arith}
use native.Mathlib.Numerals.{add-one}
use lib.ListN.{length, get_or, drop, drop_of_length-le}
use lib.Seq.{drop-cons}
use Rattle.words.specs.Basics.{All}
use Rattle.words.proofs.Sums.{all_at}
use Rattle.appointments.specs.Checks.{First, at, nowhere, first_from, FirstAt}

-- it can't be both somewhere and nowhere
pub at_nowhere {ℓ} : {X : Type ℓ} (f : First) (i : ℕ) → f ≡ at i → f ≡ nowhere → X
at_nowhere f i p q = let z : ◌≡◌ {A = ℕ} 0 1 = cc in absurd (omega arith)

module _ {A : Type 0} where
  -- ── one more in front ──

  first_here : (k : ℕ) (test : A → Bool) (x : A) (xs : List A) → test x ≡ true → first_from k test (x ∷ xs) ≡ at k
  unfolding first_from
  first_here k test x xs h = rw h

  first_later : (k : ℕ) (test : A → Bool) (x : A) (xs : List A) → test x ≡ false → first_from k test (x ∷ xs) ≡ first_from (k + 1) test xs
  unfolding first_from
  first_later k test x xs h = rw h

  -- ── nowhere ──

  pub nowhere_all : (k : ℕ) (test : A → Bool) (xs : List A) → first_from k test xs ≡ nowhere → All (λ x. test x ≡ false) xs
  nowhere_all k test [] e = tt
  nowhere_all k test (x ∷ xs) e = go (test x) refl (nowhere_all (k + 1) test xs)
    where
      go : (b : Bool) → test x ≡ b → (first_from (k + 1) test xs ≡ nowhere → All (λ y. test y ≡ false) xs) → All (λ y. test y ≡ false) (x ∷ xs)
      go true h rest = at_nowhere (first_from k test (x ∷ xs)) k (first_here k test x xs h) e
      go false h rest = (h, rest (sym (first_later k test x xs h) ∙ e))

  pub nowhere_at : (test : A → Bool) (xs : List A) (d : A) → first_from 0 test xs ≡ nowhere → (j : ℕ) → j < length xs → test (get_or xs j d) ≡ false
  nowhere_at test xs d e j h = all_at (λ x. test x ≡ false) xs d (nowhere_all 0 test xs e) j h

  pub all_nowhere : (k : ℕ) (test : A → Bool) (xs : List A) → All (λ x. test x ≡ false) xs → first_from k test xs ≡ nowhere
  unfolding first_from
  all_nowhere k test [] h = refl
  all_nowhere k test (x ∷ xs) h = first_later k test x xs h.0 ∙ all_nowhere (k + 1) test xs h.1

  -- ── at a position ──

  -- the record of a longer list, from its head and the record of its tail
  first_at_later : (test : A → Bool) (x : A) (xs : List A) (i : ℕ) → test x ≡ false → FirstAt test xs i → FirstAt test (x ∷ xs) (suc i)
  first_at_later test x xs i h f = record { inside = omega (arith, f.inside); holds = f.holds; before = before }
    where
      before : (j : ℕ) (d : A) → j < suc i → test (get_or (x ∷ xs) j d) ≡ false
      before zero d l = h
      before (suc j) d l = f.before j d (omega arith)

  first_at_here : (test : A → Bool) (x : A) (xs : List A) → test x ≡ true → FirstAt test (x ∷ xs) 0
  first_at_here test x xs h = record { inside = omega arith; holds = λ d. h; before = λ j d l. absurd (omega arith) }

  -- counted from k, position k + j
  at_from : (k : ℕ) (test : A → Bool) (xs : List A) (i : ℕ) → first_from k test xs ≡ at i → (j : ℕ) × (i ≡ k + j) × FirstAt test xs j
  unfolding first_from
  at_from k test [] i e = at_nowhere nowhere i e refl
  at_from k test (x ∷ xs) i e = go (test x) refl (at_from (k + 1) test xs i)
    where
      go : (b : Bool) → test x ≡ b → (first_from (k + 1) test xs ≡ at i → (j : ℕ) × (i ≡ k + 1 + j) × FirstAt test xs j) → (j : ℕ) × (i ≡ k + j) × FirstAt test (x ∷ xs) j
      go true h rest =
          let here : at k ≡ at i = sym (first_here k test x xs h) ∙ e in
          let same : k ≡ i = cc in
          (0, omega arith, first_at_here test x xs h)
      go false h rest =
          let r : (j : ℕ) × (i ≡ k + 1 + j) × FirstAt test xs j = rest (sym (first_later k test x xs h) ∙ e) in
          (suc r.0, omega (arith, r.1), first_at_later test x xs r.0 h r.2)

  -- The position found is the first at which something passes the test.
  pub found_is_first : (test : A → Bool) (xs : List A) (i : ℕ) → first_from 0 test xs ≡ at i → FirstAt test xs i
  found_is_first test xs i e =
      let r : (j : ℕ) × (i ≡ 0 + j) × FirstAt test xs j = at_from 0 test xs i e in
      let same : r.0 ≡ i = omega (arith, r.1) in
      subst (λ (j : ℕ). FirstAt test xs j) same r.2

  -- the tail's record
  first_at_tail : (test : A → Bool) (x : A) (xs : List A) (i : ℕ) → FirstAt test (x ∷ xs) (suc i) → FirstAt test xs i
  first_at_tail test x xs i f =
      record { inside = omega (arith, f.inside); holds = f.holds; before = λ j d l. f.before (suc j) d (omega arith) }

  from_at : (k : ℕ) (test : A → Bool) (xs : List A) (i : ℕ) → FirstAt test xs i → first_from k test xs ≡ at (k + i)
  from_at k test [] i f = absurd (omega (arith, f.inside))
  from_at k test (x ∷ xs) zero f = first_here k test x xs (f.holds x) ∙ ap at (omega arith)
  from_at k test (x ∷ xs) (suc i) f =
      first_later k test x xs (f.before 0 x (omega arith)) ∙ from_at (k + 1) test xs i (first_at_tail test x xs i f) ∙ ap at (omega arith)

  -- And that position is the one found.
  pub first_is_found : (test : A → Bool) (xs : List A) (i : ℕ) → FirstAt test xs i → first_from 0 test xs ≡ at i
  first_is_found test xs i f = from_at 0 test xs i f ∙ ap at (omega arith)

  -- Two tests that agree on everything in the list have the same first position.
  pub first_same :
      (k : ℕ) (test other : A → Bool) (xs : List A) → All (λ x. test x ≡ other x) xs → first_from k test xs ≡ first_from k other xs
  unfolding first_from
  first_same k test other [] h = refl
  first_same k test other (x ∷ xs) h = rw (h.0, first_same (k + 1) test other xs h.1)

  -- ── a search, position by position ──

  -- the first from a position on
  abbrev pub seek : (A → Bool) → List A → ℕ → First
  seek test xs i = first_from i test (drop i xs)

  module _ (test : A → Bool) (xs : List A) (i : ℕ) where
    pub seek_here : (d : A) → i < length xs → test (get_or xs i d) ≡ true → seek test xs i ≡ at i
    seek_here d h e = ap (first_from i test) (drop-cons xs i d h) ∙ first_here i test _ _ e

    pub seek_on : (d : A) → i < length xs → test (get_or xs i d) ≡ false → seek test xs i ≡ seek test xs (i + 1)
    seek_on d h e =
        ap (first_from i test) (drop-cons xs i d h)
        ∙ first_later i test _ _ e
        ∙ ap (λ (n : ℕ). first_from (i + 1) test (drop n xs)) (sym (add-one i))

    pub seek_past : length xs ≤ i → seek test xs i ≡ nowhere
    unfolding first_from
    seek_past h = rw (drop_of_length-le xs h)
