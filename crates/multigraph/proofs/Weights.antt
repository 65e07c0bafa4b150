-- Weights of a graph, copies and pairs between two parties. Assumes nothing.
use Prim.Native.Nat.{ℕ, ◌+◌, ◌*◌, ◌≤◌, ◌<◌}
use mathlib.Core.Path.{◌≡◌, refl}
use mathlib.Core.List.{List, [], ◌∷◌}
use mathlib.Core.Logic.{⊎_elim}
use native.Mathlib.Omega.{arith}
use native.Mathlib.Nat.{mul-le-mul_left, mul-one, mul-zero}
use Rattle.words.specs.Basics.{is, total, count, All}
use Rattle.words.proofs.Sums.{total_is, total_mul, total_add, total_cong, all_map}
use Rattle.multigraph.specs.Multigraph.{Pair, Graph}
use Rattle.multigraph.specs.Regular.{weigh, names, between, copies_between, pairs_between, Apart, Positive, Symmetric}
use Rattle.multigraph.proofs.Ends.{SameEnds, same_weight, between_cases, between_self, between_ends}

pub weigh_none : (w : ℕ → ℕ → ℕ) → weigh w [] ≡ 0
unfolding weigh total
weigh_none w = refl

pub weigh_cons : (w : ℕ → ℕ → ℕ) (p : Pair) (g : Graph) → weigh w (p ∷ g) ≡ p.copies * w p.first p.second + weigh w g
unfolding weigh total
weigh_cons w p g = refl

pub pairs_between_none : (u v : ℕ) → pairs_between u v [] ≡ 0
unfolding pairs_between total
pairs_between_none u v = refl

pub pairs_between_cons :
    (u v : ℕ) (p : Pair) (g : Graph) →
    pairs_between u v (p ∷ g) ≡ between u v p.first p.second + pairs_between u v g
unfolding pairs_between total
pairs_between_cons u v p g = refl

-- a smaller weight weighs less
pub weigh_le : (w x : ℕ → ℕ → ℕ) → ((a b : ℕ) → w a b ≤ x a b) → (g : Graph) → weigh w g ≤ weigh x g
weigh_le w x h [] = omega (arith, weigh_none w, weigh_none x)
weigh_le w x h (p ∷ g) =
    omega
    (arith, weigh_cons w p g, weigh_cons x p g, weigh_le w x h g, mul-le-mul_left p.copies (h p.first p.second))

-- a pair of the graph is a part of every weight
pub part_of_weight :
    (g : Graph) → All (λ (p : Pair). (w : ℕ → ℕ → ℕ) → p.copies * w p.first p.second ≤ weigh w g) g
part_of_weight [] = tt
part_of_weight (p ∷ g) = (
  λ w. omega (arith, weigh_cons w p g),
  all_map (λ q h w. omega (arith, weigh_cons w p g, h w)) g (part_of_weight g),
)

-- asked with the same ends, either way round, both counts answer the same
pub pairs_between_ends :
    (u v c d : ℕ) → SameEnds u v c d → (g : Graph) → pairs_between c d g ≡ pairs_between u v g
unfolding pairs_between
pairs_between_ends u v c d h g = total_cong (λ p. between_ends u v c d p.first p.second h) g

-- where no pair joins two parties, no copy does
pub no_pairs_no_copies : (u v : ℕ) (g : Graph) → pairs_between u v g ≡ 0 → copies_between u v g ≡ 0
no_pairs_no_copies u v [] h = weigh_none (between u v)
no_pairs_no_copies u v (p ∷ g) h =
    let b0 : between u v p.first p.second ≡ 0 = omega (arith, pairs_between_cons u v p g) in
    let ih = no_pairs_no_copies u v g (omega (arith, pairs_between_cons u v p g)) in
    rw (weigh_cons (between u v) p g, b0, ih, mul-zero) (omega arith)

-- no two pairs with the same ends: at most one joins two parties
pub apart_le : (u v : ℕ) (g : Graph) → Apart g → pairs_between u v g ≤ 1
apart_le u v [] h = omega (arith, pairs_between_none u v)
apart_le u v (p ∷ g) h =
    ⊎_elim
    (λ k. omega (arith, pairs_between_cons u v p g, k.1, h.0, pairs_between_ends u v p.first p.second k.0 g))
    (λ k. omega (arith, pairs_between_cons u v p g, k.1, apart_le u v g h.1)) (between_cases u v p.first p.second)

-- each pair of a graph in which every pair has a copy is joined in it
pub own_copies : (g : Graph) → Positive g → All (λ (p : Pair). 0 < copies_between p.first p.second g) g
own_copies g h = go g h (part_of_weight g)
  where
    go : (k : Graph) → Positive k →
        All (λ (p : Pair). (w : ℕ → ℕ → ℕ) → p.copies * w p.first p.second ≤ weigh w g) k →
        All (λ (p : Pair). 0 < copies_between p.first p.second g) k
    go [] pos parts = tt
    go (p ∷ k) pos parts =
        let part = parts.0 (between p.first p.second) in
        let own : p.copies * between p.first p.second p.first p.second ≡ p.copies =
        rw (between_self p.first p.second, mul-one) in
        (omega (arith, part, own, pos.0), go k pos.1 parts.1)

-- how often the ends of c copies stand in a list of parties
pub total_names : (c a b : ℕ) (vs : List ℕ) → total (λ v. c * names v a b) vs ≡ c * (count a vs + count b vs)
total_names c a b vs =
    rw (total_mul c (λ v. names v a b) vs, total_add (λ v. is v a) (λ v. is v b) vs, total_is a vs, total_is b vs)

-- the copies between two parties are a part of every symmetric weight
pub copies_in_weight : (w : ℕ → ℕ → ℕ) → Symmetric w → (u v : ℕ) (g : Graph) → copies_between u v g * w u v ≤ weigh w g
copies_in_weight w s u v [] = rw (weigh_none (between u v), weigh_none w) (omega arith)
copies_in_weight w s u v (p ∷ g) =
    rw (weigh_cons (between u v) p g, weigh_cons w p g)
    (⊎_elim
    (λ k. rw (k.1, same_weight w s u v p.first p.second k.0) (omega (arith, copies_in_weight w s u v g)))
    (λ k. rw (k.1, mul-zero) (omega (arith, copies_in_weight w s u v g)))
    (between_cases u v p.first p.second))
