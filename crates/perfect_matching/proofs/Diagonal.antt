-- What a search's graph weighs: the graph's copies times α, and β copies of left i with right i. Assumes nothing.
use Prim.Native.Nat.{ℕ, ◌+◌, ◌*◌, ◌≤◌, ◌<◌}
use mathlib.Core.Path.{◌≡◌, refl}
use mathlib.Core.List.{List, [], ◌∷◌}
use native.Mathlib.Omega.{arith}
use native.Mathlib.Nat.{mul-zero, mul-add, mul_assoc}
use lib.ListN.{length}
use Rattle.words.specs.Basics.{count, All}
use Rattle.multigraph.specs.Multigraph.{pair, Graph, add_edge}
use Rattle.multigraph.specs.Regular.{weigh, names, Apart, Across, Symmetric}
use Rattle.multigraph.proofs.Weights.{weigh_none, weigh_cons}
use Rattle.multigraph.proofs.Adding.{weigh_add_edge, across_add_edge, apart_add_edge}
use Rattle.perfect_matching.specs.Matching.{add_times, add_diagonal}

-- the weight of left i with right i, over all i
unfoldable pub diagonal : (ℕ → ℕ → ℕ) → List ℕ → List ℕ → ℕ
diagonal w [] right = 0
diagonal w (l ∷ left) [] = 0
diagonal w (l ∷ left) (r ∷ right) = w l r + diagonal w left right

-- each party of the two lists is named as often as it stands in them
pub diagonal_names :
    (v : ℕ) (left right : List ℕ) → length left ≡ length right → diagonal (names v) left right ≡ count v left + count v right
unfolding diagonal count
diagonal_names v [] [] e = refl
diagonal_names v [] (r ∷ right) e = absurd (omega arith)
diagonal_names v (l ∷ left) [] e = absurd (omega arith)
diagonal_names v (l ∷ left) (r ∷ right) e = omega (arith, diagonal_names v left right (omega arith))

-- a weight of at most 1 comes at most once for each of the list
pub diagonal_le :
    (w : ℕ → ℕ → ℕ) → ((a b : ℕ) → w a b ≤ 1) → (left right : List ℕ) → diagonal w left right ≤ length left
unfolding diagonal
diagonal_le w h [] right = omega arith
diagonal_le w h (l ∷ left) [] = omega arith
diagonal_le w h (l ∷ left) (r ∷ right) = omega (arith, h l r, diagonal_le w h left right)

pub weigh_add_times :
    (w : ℕ → ℕ → ℕ) → Symmetric w → (α : ℕ) (h g : Graph) → weigh w (add_times α h g) ≡ weigh w h + α * weigh w g
unfolding add_times
weigh_add_times w s α h [] = rw (weigh_none w, mul-zero α) (omega arith)
weigh_add_times w s α h (p ∷ g) =
    let put = weigh_add_edge w s h p.first p.second (α * p.copies) 0 in
    let both : α * weigh w (p ∷ g) ≡ α * p.copies * w p.first p.second + α * weigh w g =
    rw (weigh_cons w p g, mul-add α (p.copies * w p.first p.second) (weigh w g), mul_assoc) in
    omega (arith, put, both, weigh_add_times w s α (add_edge h p.first p.second (α * p.copies) 0) g)

pub weigh_add_diagonal :
    (w : ℕ → ℕ → ℕ) → Symmetric w → (β : ℕ) (h : Graph) (left right : List ℕ) →
    weigh w (add_diagonal β h left right) ≡ weigh w h + β * diagonal w left right
unfolding add_diagonal diagonal
weigh_add_diagonal w s β h [] right = omega arith
weigh_add_diagonal w s β h (l ∷ left) [] = omega arith
weigh_add_diagonal w s β h (l ∷ left) (r ∷ right) =
    omega (
      arith,
      weigh_add_edge w s h l r β 1,
      weigh_add_diagonal w s β (add_edge h l r β 1) left right,
      mul-add β (w l r) (diagonal w left right),
    )

-- ends on two sides, and no two pairs with the same ends
pub record BetweenSides (N : ℕ) (side : ℕ → ℕ) (g : Graph) : Type 0 where
  pub across : All (Across N side) g
  pub apart : Apart g

between_add_edge :
    (N : ℕ) (side : ℕ → ℕ) (h : Graph) (a b m f : ℕ) → BetweenSides N side h → Across N side (pair a b m f) →
    BetweenSides N side (add_edge h a b m f)
between_add_edge N side h a b m f k new =
    record { across = across_add_edge N side h a b m f k.across new; apart = apart_add_edge h a b m f k.apart }

pub between_add_times :
    (N : ℕ) (side : ℕ → ℕ) (α : ℕ) (h g : Graph) → BetweenSides N side h → All (Across N side) g →
    BetweenSides N side (add_times α h g)
unfolding add_times
between_add_times N side α h [] k a = k
between_add_times N side α h (p ∷ g) k a =
    between_add_times N side α (add_edge h p.first p.second (α * p.copies) 0) g
    (between_add_edge N side h p.first p.second (α * p.copies) 0 k
    (record { first_below = a.0.first_below; second_below = a.0.second_below; sides = a.0.sides }))
    a.1

pub between_add_diagonal :
    (N : ℕ) (side : ℕ → ℕ) (β : ℕ) (h : Graph) (left right : List ℕ) → BetweenSides N side h →
    All (λ (v : ℕ). (v < N) × (side v ≡ 0)) left → All (λ (v : ℕ). (v < N) × (side v ≡ 1)) right →
    BetweenSides N side (add_diagonal β h left right)
unfolding add_diagonal
between_add_diagonal N side β h [] right k ls rs = k
between_add_diagonal N side β h (l ∷ left) [] k ls rs = k
between_add_diagonal N side β h (l ∷ left) (r ∷ right) k ls rs =
    between_add_diagonal N side β (add_edge h l r β 1) left right
    (between_add_edge N side h l r β 1 k
    (record { first_below = ls.0.0; second_below = rs.0.0; sides = omega (arith, ls.0.1, rs.0.1) }))
    ls.1 rs.1
