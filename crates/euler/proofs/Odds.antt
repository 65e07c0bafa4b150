-- The entries of odd copies, by their places. Assumes nothing.
use Prim.Native.Nat.{ℕ, zero, suc, ◌%◌, ◌≤◌, ◌<◌}
use mathlib.Core.Path.{◌≡◌, sym, ◌∙◌, ap, subst}
use mathlib.Core.Bool.{Bool, true, false}
use mathlib.Core.List.{List, [], ◌∷◌}
use native.Mathlib.Omega.{arith}
use native.Mathlib.Decide.{ℕ_discrete}
use borrow.Author.Tests.{eq-eqb, ne_eqb}
use lib.Dec.{eqb}
use lib.ListN.{length}
use Rattle.words.specs.Basics.{pick, All}
use Rattle.euler.proofs.Places.{keep, keep_yes, keep_all, keep_falling, keep_length, descend, descend_below, descend_falling, descend_length, Falling}

-- the ends of m entries are two of N parties
pub record EndsFit (N m : ℕ) (F S : ℕ → ℕ) : Type 0 where
  pub first_below : (i : ℕ) → i < m → F i < N
  pub second_below : (i : ℕ) → i < m → S i < N
  pub different : (i : ℕ) → i < m → F i ≡ S i → ⊥

-- an entry with odd copies
pub record Odd (m : ℕ) (C : ℕ → ℕ) (i : ℕ) : Type 0 where
  pub below : i < m
  pub odd : C i % 2 ≡ 1

-- the odd ones of some entries
abbrev pub odds : (ℕ → ℕ) → List ℕ → List ℕ
odds C xs = keep (λ i. eqb (C i % 2) 1) xs

-- the odd entries, newest first
unfoldable pub odd_places : ℕ → (ℕ → ℕ) → List ℕ
odd_places m C = odds C (descend m)

-- the odd ones of the first m entries are below m, fall, and are odd
pub odds_below : (C : ℕ → ℕ) (m : ℕ) → All (λ (i : ℕ). i < m) (odds C (descend m))
odds_below C m = keep_all (λ i. i < m) (λ i. eqb (C i % 2) 1) (descend m) (descend_below m)

pub odds_falling : (C : ℕ → ℕ) (m : ℕ) → Falling (odds C (descend m))
odds_falling C m = keep_falling (λ i. eqb (C i % 2) 1) (descend m) (descend_falling m)

-- at most as many as entries
pub odds_length : (C : ℕ → ℕ) (m : ℕ) → length (odds C (descend m)) ≤ m
odds_length C m = omega (arith, keep_length (λ i. eqb (C i % 2) 1) (descend m), descend_length m)

pub odds_odd : (C : ℕ → ℕ) (xs : List ℕ) → All (λ (i : ℕ). C i % 2 ≡ 1) (odds C xs)
unfolding keep
odds_odd C [] = tt
odds_odd C (x ∷ xs) =
    elim (ℕ_discrete (C x % 2) 1)
    [ yes e ↦ rw (eq-eqb (C x % 2) 1 e) (e, odds_odd C xs) | no n ↦ rw (ne_eqb (C x % 2) 1 n) (odds_odd C xs) ]

-- what all odd ones are, each of them is
pub odds_all :
    (C : ℕ → ℕ) (R : ℕ → Type 0) (m : ℕ) → All R (odds C (descend m)) → (i : ℕ) → i < m → C i % 2 ≡ 1 → R i
unfolding keep descend
odds_all C R zero h i b o = absurd (omega arith)
odds_all C R (suc m) h i b o =
    elim (ℕ_discrete i m) [
      | yes e ↦
          subst R (sym e)
          (subst (All R) (keep_yes (λ j. eqb (C j % 2) 1) m (descend m) (eq-eqb (C m % 2) 1 (ap (λ (j : ℕ). C j % 2) (sym e) ∙ o))) h).0
      | no n ↦ odds_all C R m (later (eqb (C m % 2) 1) h) i (omega arith) o
    ]
  where
    later : (c : Bool) → All R (pick c (m ∷ odds C (descend m)) (odds C (descend m))) → All R (odds C (descend m))
    later true k = k.1
    later false k = k
