-- `add_edge` adds its copies to every weight, and keeps the graph's pairs apart. Assumes nothing.
use Prim.Native.Nat.{ℕ, ◌+◌, ◌*◌, ◌<◌}
use mathlib.Core.Path.{◌≡◌, refl, sym, ◌∙◌}
use mathlib.Core.Bool.{Bool, true, false}
use mathlib.Core.List.{[], ◌∷◌}
use mathlib.Core.Logic.{inl, inr, ⊎_elim}
use native.Mathlib.Omega.{arith}
use Rattle.words.specs.Basics.{pick, All}
use Rattle.words.proofs.Bools.{never_true}
use Rattle.multigraph.specs.Multigraph.{Pair, pair, Graph, with_copies, joins, add_edge}
use Rattle.multigraph.specs.Regular.{weigh, names, degree, between, pairs_between, Apart, Across, Positive, Symmetric, Agrees}
use Rattle.multigraph.proofs.Ends.{joins_true, true_joins, same_weight, names_symmetric, between_cases, not_between}
use Rattle.multigraph.proofs.Weights.{weigh_none, weigh_cons, pairs_between_none, pairs_between_cons}

-- one law for degrees, copies between two parties and flagged copies
pub weigh_add_edge :
    (w : ℕ → ℕ → ℕ) → Symmetric w → (g : Graph) (a b m f : ℕ) →
    weigh w (add_edge g a b m f) ≡ weigh w g + m * w a b
unfolding add_edge
weigh_add_edge w s [] a b m f = omega (arith, weigh_cons w (pair a b m f) [], weigh_none w)
weigh_add_edge w s (p ∷ g) a b m f = go (joins a b p) refl (weigh_add_edge w s g a b m f)
  where
    go : (t : Bool) → joins a b p ≡ t → weigh w (add_edge g a b m f) ≡ weigh w g + m * w a b →
        weigh w (pick t (with_copies (p.copies + m) p ∷ g) (p ∷ add_edge g a b m f)) ≡ weigh w (p ∷ g) + m * w a b
    go true e ih =
        let same : w p.first p.second ≡ w a b = same_weight w s a b _ _ (joins_true a b p e) in
        let l = weigh_cons w (with_copies (p.copies + m) p) g in
        let r = weigh_cons w p g in
        rw (l, r, same) (omega arith)
    go false e ih = rw (weigh_cons w p g, weigh_cons w p (add_edge g a b m f), ih) (omega arith)

-- degrees after copies of a pair l, r have been added
pub degree_added : (v : ℕ) (g : Graph) (l r m f : ℕ) → degree v (add_edge g l r m f) ≡ degree v g + m * names v l r
degree_added v g l r m f = weigh_add_edge (names v) (names_symmetric v) g l r m f

-- A property of all pairs is kept where it passes to a new pair, if no pair has its ends, and to an old one with more copies.
pub all_add_edge :
    (Q : Pair → Type 0) (g : Graph) (a b m f : ℕ) → All Q g →
    (pairs_between a b g ≡ 0 → Q (pair a b m f)) →
    ((p : Pair) → Q p → Q (with_copies (p.copies + m) p)) →
    All Q (add_edge g a b m f)
unfolding add_edge
all_add_edge Q [] a b m f h new old = (new (pairs_between_none a b), tt)
all_add_edge Q (p ∷ g) a b m f h new old =
    go (joins a b p) refl (λ k. all_add_edge Q g a b m f h.1 k old)
  where
    go : (t : Bool) → joins a b p ≡ t → ((pairs_between a b g ≡ 0 → Q (pair a b m f)) → All Q (add_edge g a b m f)) →
        All Q (pick t (with_copies (p.copies + m) p ∷ g) (p ∷ add_edge g a b m f))
    go true e ih = (old p h.0, h.1)
    go false e ih =
        (h.0, ih (λ z. new (omega (arith, pairs_between_cons a b p g, not_between a b p e))))

pub across_add_edge :
    (N : ℕ) (side : ℕ → ℕ) (g : Graph) (a b m f : ℕ) → All (Across N side) g → Across N side (pair a b m f) →
    All (Across N side) (add_edge g a b m f)
across_add_edge N side g a b m f h new =
    all_add_edge (Across N side) g a b m f h (λ z. new)
    (λ p q. record { first_below = q.first_below; second_below = q.second_below; sides = q.sides })

pub positive_add_edge : (g : Graph) (a b m f : ℕ) → Positive g → 0 < m → Positive (add_edge g a b m f)
positive_add_edge g a b m f h pos =
    all_add_edge (λ p. 0 < p.copies) g a b m f h (λ z. pos) (λ p q. omega arith)

pub agrees_add_edge :
    (flag : ℕ → ℕ → ℕ) (g : Graph) (a b m f : ℕ) → Agrees flag g → (pairs_between a b g ≡ 0 → f ≡ flag a b) →
    Agrees flag (add_edge g a b m f)
agrees_add_edge flag g a b m f h new =
    all_add_edge (λ p. p.bad ≡ flag p.first p.second) g a b m f h new (λ p q. q)

-- pairs with other ends are as before
pub pairs_between_other :
    (u v : ℕ) (g : Graph) (a b m f : ℕ) → between u v a b ≡ 0 → pairs_between u v (add_edge g a b m f) ≡ pairs_between u v g
unfolding add_edge
pairs_between_other u v [] a b m f h =
    omega (arith, pairs_between_cons u v (pair a b m f) [], pairs_between_none u v)
pairs_between_other u v (p ∷ g) a b m f h = go (joins a b p) (pairs_between_other u v g a b m f h)
  where
    go : (t : Bool) → pairs_between u v (add_edge g a b m f) ≡ pairs_between u v g →
        pairs_between u v (pick t (with_copies (p.copies + m) p ∷ g) (p ∷ add_edge g a b m f)) ≡ pairs_between u v (p ∷ g)
    go true ih =
        omega (arith, pairs_between_cons u v p g, pairs_between_cons u v (with_copies (p.copies + m) p) g)
    go false ih = omega (arith, pairs_between_cons u v p g, pairs_between_cons u v p (add_edge g a b m f))

-- a graph of pairs apart stays one
pub apart_add_edge : (g : Graph) (a b m f : ℕ) → Apart g → Apart (add_edge g a b m f)
unfolding add_edge
apart_add_edge [] a b m f h = (pairs_between_none a b, tt)
apart_add_edge (p ∷ g) a b m f h = go (joins a b p) refl (apart_add_edge g a b m f h.1)
  where
    swap : (t : Bool) → joins a b p ≡ false → between p.first p.second a b ≡ 0
    swap t e =
        ⊎_elim
        (λ k. never_true (sym e ∙ true_joins a b p (⊎_elim (λ i. inl (sym i.0, sym i.1)) (λ i. inr (sym i.1, sym i.0)) k.0)))
        (λ k. k.1) (between_cases p.first p.second a b)

    go : (t : Bool) → joins a b p ≡ t → Apart (add_edge g a b m f) →
        Apart (pick t (with_copies (p.copies + m) p ∷ g) (p ∷ add_edge g a b m f))
    go true e ih = (h.0, h.1)
    go false e ih = (pairs_between_other p.first p.second g a b m f (swap false e) ∙ h.0, ih)
