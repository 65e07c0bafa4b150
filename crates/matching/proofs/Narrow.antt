-- How many pairs the graph of a search has at a party, and what fits below a split's mark. Assumes nothing.
use Prim.Native.Nat.{ℕ, ◌+◌, ◌*◌, ◌-◌, ◌/◌, ◌^◌, ◌≤◌, ◌<◌}
use mathlib.Core.Path.{◌≡◌, ap}
use mathlib.Core.List.{List, [], ◌∷◌}
use native.Mathlib.Omega.{arith}
use native.Mathlib.Nat.{mul-le-mul_right}
use native.Mathlib.Decide.{ℕ_discrete}
use lib.ListN.{length}
use Rattle.words.specs.Basics.{total, All}
use Rattle.multigraph.specs.Multigraph.{Graph, add_edge}
use Rattle.multigraph.specs.Regular.{names, Across, Regular, Positive, Partition}
use Rattle.multigraph.proofs.Matchings.{weigh_ends}
use Rattle.multigraph.proofs.Parts.{pairs_le_degree, pairs_by_width, ends_add_edge}
use Rattle.multigraph.proofs.Sizes.{one_pair}
use Rattle.perfect_matching.specs.Matching.{add_times, add_diagonal, search_graph}
use Rattle.words.specs.PowersOfTwo.{log_up}
use Rattle.perfect_matching.proofs.Diagonal.{diagonal, diagonal_names}

-- ── at most one pair more at a party ──

ends_add_times :
    (w : ℕ → ℕ → ℕ) (α : ℕ) (h g : Graph) → weigh_ends w (add_times α h g) ≤ weigh_ends w h + weigh_ends w g
unfolding add_times total
ends_add_times w α h [] = omega arith
ends_add_times w α h (p ∷ g) =
    omega (
      arith,
      ends_add_times w α (add_edge h p.first p.second (α * p.copies) 0) g,
      ends_add_edge w h p.first p.second (α * p.copies) 0,
    )

ends_add_diagonal :
    (w : ℕ → ℕ → ℕ) (β : ℕ) (h : Graph) (left right : List ℕ) →
    weigh_ends w (add_diagonal β h left right) ≤ weigh_ends w h + diagonal w left right
unfolding add_diagonal diagonal
ends_add_diagonal w β h [] right = omega arith
ends_add_diagonal w β h (l ∷ left) [] = omega arith
ends_add_diagonal w β h (l ∷ left) (r ∷ right) =
    omega (arith, ends_add_diagonal w β (add_edge h l r β 1) left right, ends_add_edge w h l r β 1)

-- A party has no more pairs in the graph of a search than its degree and one more.
pub search_narrow :
    (N : ℕ) (side : ℕ → ℕ) (left right : List ℕ) (k : ℕ) (g : Graph) → Regular N side k g → Positive g →
    Partition N side left right → (v : ℕ) → v < N → weigh_ends (names v) (search_graph left right k g) ≤ k + 1
unfolding search_graph total
search_narrow N side left right k g reg pos part v h =
    let t : ℕ = 2 ^ log_up (k * length left) in
    omega (
      arith,
      ends_add_diagonal (names v) (t - k * (t / k)) (add_times (t / k) [] g) left right,
      ends_add_times (names v) (t / k) [] g,
      pairs_le_degree v g pos,
      reg.even v h,
      diagonal_names v left right part.same_length,
      part.once v h,
    )

-- ── what fits below the mark ──

-- What a narrow graph needs: at most n·width pairs, and with header and count they lie below 2·n·(width + 1).
pub record LiesWithin (n width size : ℕ) : Type 0 where
  pub count : size ≤ n * width
  pub under : 3 + 2 * size ≤ 2 * (n * (width + 1))

pub lies_within :
    (n width : ℕ) (side : ℕ → ℕ) (d : ℕ) (g : Graph) → Regular (2 * n) side d g →
    ((v : ℕ) → v < 2 * n → weigh_ends (names v) g ≤ width) → 0 < n → 2 ≤ width → LiesWithin n width (length g)
lies_within n width side d g r few some two =
    record { count = most; under = elim (ℕ_discrete n 1) [ yes e ↦ single e | no e ↦ omega (arith, most) ] }
  where
    double : 2 * n ≡ n + n
    double = omega arith

    most : length g ≤ n * width
    most = pairs_by_width n width side g (rw double at r.across) (λ v h. few v (omega arith))

    single : n ≡ 1 → 3 + 2 * length g ≤ 2 * (n * (width + 1))
    single e =
        let pairs : All (Across 2 side) g = rw e at r.across in
        omega (arith, one_pair side g pairs r.apart, ap (λ (x : ℕ). x * (width + 1)) e)

pub width_small : (n width : ℕ) → 0 < n → n * (width + 1) ≤ 2097152 → width + 1 ≤ 2097152
width_small n width some h = omega (arith, mul-le-mul_right (width + 1) some)
