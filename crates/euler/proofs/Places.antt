-- Pairs by their places. The pairs that remain are the places that remain, newest first, and a party's first remaining pair
-- is the first of its row: the places where it is first end, then those where it is second end. Assumes nothing.
use Prim.Native.Nat.{ℕ, zero, suc, ◌≤◌, ◌<◌}
use mathlib.Core.Path.{◌≡◌, refl, sym, ◌∙◌, ap, subst}
use mathlib.Core.Bool.{Bool, true, false, not}
use mathlib.Core.List.{List, [], ◌∷◌, ◌++◌, map}
use native.Mathlib.Omega.{arith}
use borrow.Author.Tests.{eq-eqb, ne_eqb}
use lib.Dec.{eqb}
use lib.ListN.{length, length-map}
use Rattle.words.specs.Basics.{pick, is, All}
use Rattle.multigraph.specs.Multigraph.{Pair}
use Rattle.euler.specs.Euler.{Taken, taken, none, past, take_by, or_else, first_pair}
use Rattle.euler.proofs.Taken.{ends, Found, first_pair_finds}

-- ── lists of places ──

-- the members that pass a test
unfoldable pub keep : (ℕ → Bool) → List ℕ → List ℕ
keep q [] = []
keep q (x ∷ xs) = let later = keep q xs in pick (q x) (x ∷ later) later

-- all members but i
abbrev pub without : ℕ → List ℕ → List ℕ
without i xs = keep (λ k. not (eqb i k)) xs

-- the numbers below k, largest first
unfoldable pub descend : ℕ → List ℕ
descend zero = []
descend (suc k) = k ∷ descend k

-- each member is smaller than those before it
abbrev pub Falling : List ℕ → Type 0
Falling [] = Unit {0}
Falling (x ∷ xs) = All (λ (y : ℕ). y < x) xs × Falling xs

-- a member that passes, and one that doesn't
pub keep_yes : (q : ℕ → Bool) (x : ℕ) (xs : List ℕ) → q x ≡ true → keep q (x ∷ xs) ≡ x ∷ keep q xs
unfolding keep
keep_yes q x xs e = rw e

pub keep_no : (q : ℕ → Bool) (x : ℕ) (xs : List ℕ) → q x ≡ false → keep q (x ∷ xs) ≡ keep q xs
unfolding keep
keep_no q x xs e = rw e

-- two lists, two tests, what all are, and falling lists
pub keep_append : (q : ℕ → Bool) (xs ys : List ℕ) → keep q (xs ++ ys) ≡ keep q xs ++ keep q ys
unfolding keep
keep_append q [] ys = refl
keep_append q (x ∷ xs) ys = go (q x) (keep_append q xs ys)
  where
    go :
        (b : Bool) → keep q (xs ++ ys) ≡ keep q xs ++ keep q ys →
        pick b (x ∷ keep q (xs ++ ys)) (keep q (xs ++ ys)) ≡ pick b (x ∷ keep q xs) (keep q xs) ++ keep q ys
    go true h = ap (λ (l : List ℕ). x ∷ l) h
    go false h = h

pub keep_comm : (p q : ℕ → Bool) (xs : List ℕ) → keep p (keep q xs) ≡ keep q (keep p xs)
unfolding keep
keep_comm p q [] = refl
keep_comm p q (x ∷ xs) = go (p x) (q x) refl refl (keep_comm p q xs)
  where
    go :
        (a b : Bool) → p x ≡ a → q x ≡ b → keep p (keep q xs) ≡ keep q (keep p xs) →
        keep p (pick b (x ∷ keep q xs) (keep q xs)) ≡ keep q (pick a (x ∷ keep p xs) (keep p xs))
    go true true e f h = keep_yes p x (keep q xs) e ∙ ap (λ (l : List ℕ). x ∷ l) h ∙ sym (keep_yes q x (keep p xs) f)
    go true false e f h = h ∙ sym (keep_no q x (keep p xs) f)
    go false true e f h = keep_no p x (keep q xs) e ∙ h
    go false false e f h = h

pub keep_all : (Q : ℕ → Type 0) (q : ℕ → Bool) (xs : List ℕ) → All Q xs → All Q (keep q xs)
unfolding keep
keep_all Q q [] h = tt
keep_all Q q (x ∷ xs) h = go (q x) (keep_all Q q xs h.1)
  where
    go : (b : Bool) → All Q (keep q xs) → All Q (pick b (x ∷ keep q xs) (keep q xs))
    go true k = (h.0, k)
    go false k = k

pub keep_falling : (q : ℕ → Bool) (xs : List ℕ) → Falling xs → Falling (keep q xs)
unfolding keep
keep_falling q [] h = tt
keep_falling q (x ∷ xs) h = go (q x) (keep_all (λ y. y < x) q xs h.0) (keep_falling q xs h.1)
  where
    go : (b : Bool) → All (λ (y : ℕ). y < x) (keep q xs) → Falling (keep q xs) → Falling (pick b (x ∷ keep q xs) (keep q xs))
    go true a k = (a, k)
    go false a k = k

-- the numbers below k are below k, fall, and are k
pub descend_below : (k : ℕ) → All (λ (y : ℕ). y < k) (descend k)
unfolding descend
descend_below k = go k k (omega arith)
  where
    go : (j k : ℕ) → j ≤ k → All (λ (y : ℕ). y < k) (descend j)
    go zero k h = tt
    go (suc j) k h = (omega arith, go j k (omega arith))

pub descend_falling : (k : ℕ) → Falling (descend k)
unfolding descend
descend_falling zero = tt
descend_falling (suc k) = (descend_below k, descend_falling k)

pub descend_length : (k : ℕ) → length (descend k) ≡ k
unfolding descend
descend_length zero = refl
descend_length (suc k) = ap suc (descend_length k)

-- no more than before
pub keep_length : (q : ℕ → Bool) (xs : List ℕ) → length (keep q xs) ≤ length xs
unfolding keep
keep_length q [] = omega arith
keep_length q (x ∷ xs) = go (q x) (keep_length q xs)
  where
    go : (b : Bool) → length (keep q xs) ≤ length xs → length (pick b (x ∷ keep q xs) (keep q xs)) ≤ suc (length xs)
    go true h = omega arith
    go false h = omega arith

-- what is not there is not left out
without_none : (i : ℕ) (xs : List ℕ) → All (λ (y : ℕ). y < i) xs → without i xs ≡ xs
unfolding keep
without_none i [] h = refl
without_none i (x ∷ xs) h =
    rw (ne_eqb i x (λ e. omega arith)) (ap (λ (l : List ℕ). x ∷ l) (without_none i xs h.1))

-- what is left out first, or later
pub without_first : (i : ℕ) (xs : List ℕ) → without i (i ∷ xs) ≡ without i xs
without_first i xs = keep_no (λ k. not (eqb i k)) i xs (rw (eq-eqb i i refl))

pub without_other : (i x : ℕ) (xs : List ℕ) → (i ≡ x → ⊥) → without i (x ∷ xs) ≡ x ∷ without i xs
without_other i x xs n = keep_yes (λ k. not (eqb i k)) x xs (rw (ne_eqb i x n))

-- ── a party's row ──

module _ (P : ℕ → Pair) where
  -- the places whose pair's end, as `end` reads it, is v
  abbrev pub places_by : (Pair → ℕ) → ℕ → List ℕ → List ℕ
  places_by end v xs = keep (λ i. eqb v (end (P i))) xs

  -- those where v is first end, those where it is second end, and the one behind the other
  abbrev pub firsts : ℕ → List ℕ → List ℕ
  firsts v xs = places_by (λ p. p.first) v xs

  abbrev pub seconds : ℕ → List ℕ → List ℕ
  seconds v xs = places_by (λ p. p.second) v xs

  unfoldable pub row : ℕ → List ℕ → List ℕ
  row v xs = firsts v xs ++ seconds v xs

  -- the first place of a list taken out of the places xs
  abbrev as_taken : List ℕ → List ℕ → Taken
  as_taken xs [] = none
  as_taken xs (i ∷ is) = taken (P i) (map P (without i xs))

  -- one place more in front that doesn't pass
  as_past :
      (x : ℕ) (xs ys : List ℕ) → All (λ (y : ℕ). y < x) ys → past (P x) (as_taken xs ys) ≡ as_taken (x ∷ xs) ys
  as_past x xs [] h = refl
  as_past x xs (i ∷ is) h =
      ap (λ (l : List ℕ). taken (P i) (map P l)) (sym (without_other i x xs (λ e. omega arith)))

  taken_by : (end : Pair → ℕ) (v : ℕ) (xs : List ℕ) → Falling xs → take_by end v (map P xs) ≡ as_taken xs (places_by end v xs)
  unfolding take_by keep
  taken_by end v [] f = refl
  taken_by end v (x ∷ xs) f = go (eqb v (end (P x))) (taken_by end v xs f.1)
    where
      later : List ℕ
      later = places_by end v xs

      go :
          (b : Bool) → take_by end v (map P xs) ≡ as_taken xs later →
          pick b (taken (P x) (map P xs)) (past (P x) (take_by end v (map P xs)))
          ≡ as_taken (x ∷ xs) (pick b (x ∷ later) later)
      go true e = ap (λ (l : List ℕ). taken (P x) (map P l)) (sym (without_first x xs ∙ without_none x xs f.0))
      go false e = ap (past (P x)) e ∙ as_past x xs later (keep_all (λ y. y < x) (λ i. eqb v (end (P i))) xs f.0)

  first_is : (v : ℕ) (xs : List ℕ) → Falling xs → first_pair v (map P xs) ≡ as_taken xs (row v xs)
  unfolding first_pair row
  first_is v xs f = rw (taken_by (λ p. p.first) v xs f, taken_by (λ p. p.second) v xs f) (go (firsts v xs) (seconds v xs))
    where
      go : (ys zs : List ℕ) → or_else (as_taken xs ys) (as_taken xs zs) ≡ as_taken xs (ys ++ zs)
      go [] zs = refl
      go (y ∷ ys) zs = refl

  -- A party's first remaining pair is the first of its row.
  pub first_taken :
      (v i : ℕ) (xs ys : List ℕ) → Falling xs → row v xs ≡ i ∷ ys →
      first_pair v (map P xs) ≡ taken (P i) (map P (without i xs))
  first_taken v i xs ys f e = first_is v xs f ∙ ap (as_taken xs) e

  -- and where the row is empty there is none
  pub first_none : (v : ℕ) (xs : List ℕ) → Falling xs → row v xs ≡ [] → first_pair v (map P xs) ≡ none
  first_none v xs f e = first_is v xs f ∙ ap (as_taken xs) e

  -- taking it out leaves one place fewer
  pub without_shorter :
      (v i : ℕ) (xs ys : List ℕ) → Falling xs → row v xs ≡ i ∷ ys → length xs ≡ suc (length (without i xs))
  without_shorter v i xs ys f e =
      let t : Found v (ends v) (map P xs) (taken (P i) (map P (without i xs))) =
      subst (Found v (ends v) (map P xs)) (first_taken v i xs ys f e) (first_pair_finds v (map P xs)) in
      omega (arith, t.shorter, length-map xs P, length-map (without i xs) P)
