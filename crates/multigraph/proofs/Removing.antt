-- `remove_edge` takes one copy from every weight. Assumes nothing.
use Prim.Native.Nat.{ℕ, ◌+◌, ◌*◌, ◌-◌, ◌≤◌, ◌<◌}
use mathlib.Core.Path.{◌≡◌, refl, ◌∙◌, ap}
use mathlib.Core.Bool.{Bool, true, false}
use mathlib.Core.List.{[], ◌∷◌}
use native.Mathlib.Omega.{arith}
use borrow.Author.Tests.{eqb-true, eqb-false}
use lib.Dec.{eqb}
use Rattle.words.specs.Basics.{pick, All}
use Rattle.multigraph.specs.Multigraph.{Pair, Graph, with_copies, joins, remove_edge}
use Rattle.multigraph.specs.Regular.{weigh, pairs_between, Apart, Across, Positive, Symmetric}
use Rattle.multigraph.proofs.Ends.{joins_true, same_weight, not_between}
use Rattle.multigraph.proofs.Weights.{weigh_cons, pairs_between_none, pairs_between_cons}

-- removing one copy of a pair that is there
pub weigh_remove_edge :
    (w : ℕ → ℕ → ℕ) → Symmetric w → (g : Graph) (a b : ℕ) → Positive g → 0 < pairs_between a b g →
    weigh w (remove_edge g a b 1) + w a b ≡ weigh w g
unfolding remove_edge
weigh_remove_edge w s [] a b pos h = absurd (omega (arith, pairs_between_none a b))
weigh_remove_edge w s (p ∷ g) a b pos h = go (joins a b p) refl (weigh_remove_edge w s g a b pos.1)
  where
    one : (t : Bool) → eqb (p.copies - 1) 0 ≡ t → w p.first p.second ≡ w a b →
        weigh w (pick t g (with_copies (p.copies - 1) p ∷ g)) + w a b ≡ weigh w (p ∷ g)
    one true e same =
        let z : p.copies - 1 ≡ 0 = eqb-true _ _ e in
        let c : p.copies ≡ 1 = omega (arith, pos.0) in
        rw (weigh_cons w p g, c, same) (omega arith)
    one false e same =
        let c : p.copies ≡ (p.copies - 1) + 1 = omega (arith, pos.0) in
        let l = weigh_cons w (with_copies (p.copies - 1) p) g in
        let m : p.copies * w a b ≡ (p.copies - 1) * w a b + w a b = ap (λ n. n * w a b) c ∙ omega arith in
        rw (weigh_cons w p g, l, same, m) (omega arith)

    go : (t : Bool) → joins a b p ≡ t →
        (0 < pairs_between a b g → weigh w (remove_edge g a b 1) + w a b ≡ weigh w g) →
        weigh w (pick t (pick (eqb (p.copies - 1) 0) g (with_copies (p.copies - 1) p ∷ g)) (p ∷ remove_edge g a b 1)) + w a b
        ≡ weigh w (p ∷ g)
    go true e ih = one (eqb (p.copies - 1) 0) refl (same_weight w s a b _ _ (joins_true a b p e))
    go false e ih =
        omega (
          arith,
          weigh_cons w p g,
          weigh_cons w p (remove_edge g a b 1),
          ih (omega (arith, pairs_between_cons a b p g, not_between a b p e)),
        )

-- a property of all pairs is kept where it passes to a pair with fewer copies
pub all_remove_edge :
    (Q : Pair → Type 0) (g : Graph) (a b m : ℕ) → All Q g →
    ((p : Pair) → Q p → (p.copies - m ≡ 0 → ⊥) → Q (with_copies (p.copies - m) p)) →
    All Q (remove_edge g a b m)
unfolding remove_edge
all_remove_edge Q [] a b m h less = tt
all_remove_edge Q (p ∷ g) a b m h less = go (joins a b p) (all_remove_edge Q g a b m h.1 less)
  where
    one : (t : Bool) → eqb (p.copies - m) 0 ≡ t → All Q (pick t g (with_copies (p.copies - m) p ∷ g))
    one true e = h.1
    one false e = (less p h.0 (eqb-false _ _ e), h.1)

    go : (t : Bool) → All Q (remove_edge g a b m) →
        All Q (pick t (pick (eqb (p.copies - m) 0) g (with_copies (p.copies - m) p ∷ g)) (p ∷ remove_edge g a b m))
    go true ih = one (eqb (p.copies - m) 0) refl
    go false ih = (h.0, ih)

pub across_remove_edge :
    (N : ℕ) (side : ℕ → ℕ) (g : Graph) (a b m : ℕ) → All (Across N side) g → All (Across N side) (remove_edge g a b m)
across_remove_edge N side g a b m h =
    all_remove_edge (Across N side) g a b m h
    (λ p q n. record { first_below = q.first_below; second_below = q.second_below; sides = q.sides })

pub positive_remove_edge : (g : Graph) (a b m : ℕ) → Positive g → Positive (remove_edge g a b m)
positive_remove_edge g a b m h = all_remove_edge (λ p. 0 < p.copies) g a b m h (λ p q n. omega (arith, n))

-- no pair comes by removal
pub pairs_remove_le : (u v : ℕ) (g : Graph) (a b m : ℕ) → pairs_between u v (remove_edge g a b m) ≤ pairs_between u v g
unfolding remove_edge
pairs_remove_le u v [] a b m = omega arith
pairs_remove_le u v (p ∷ g) a b m = go (joins a b p) (pairs_remove_le u v g a b m)
  where
    one : (t : Bool) → pairs_between u v (pick t g (with_copies (p.copies - m) p ∷ g)) ≤ pairs_between u v (p ∷ g)
    one true = omega (arith, pairs_between_cons u v p g)
    one false = omega (arith, pairs_between_cons u v p g, pairs_between_cons u v (with_copies (p.copies - m) p) g)

    go : (t : Bool) → pairs_between u v (remove_edge g a b m) ≤ pairs_between u v g →
        pairs_between u v (pick t (pick (eqb (p.copies - m) 0) g (with_copies (p.copies - m) p ∷ g)) (p ∷ remove_edge g a b m))
        ≤ pairs_between u v (p ∷ g)
    go true ih = one (eqb (p.copies - m) 0)
    go false ih = omega (arith, pairs_between_cons u v p g, pairs_between_cons u v p (remove_edge g a b m))

pub apart_remove_edge : (g : Graph) (a b m : ℕ) → Apart g → Apart (remove_edge g a b m)
unfolding remove_edge
apart_remove_edge [] a b m h = tt
apart_remove_edge (p ∷ g) a b m h = go (joins a b p) (apart_remove_edge g a b m h.1)
  where
    one : (t : Bool) → Apart (pick t g (with_copies (p.copies - m) p ∷ g))
    one true = h.1
    one false = (h.0, h.1)

    go : (t : Bool) → Apart (remove_edge g a b m) →
        Apart (pick t (pick (eqb (p.copies - m) 0) g (with_copies (p.copies - m) p ∷ g)) (p ∷ remove_edge g a b m))
    go true ih = one (eqb (p.copies - m) 0)
    go false ih = (omega (arith, pairs_remove_le p.first p.second g a b m, h.0), ih)
