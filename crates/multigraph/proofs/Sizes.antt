-- How many copies and pairs a graph has by its degrees, and how many entries in words. Assumes nothing.
use Prim.Native.Nat.{ℕ, ◌+◌, ◌*◌, ◌≤◌, ◌<◌}
use mathlib.Core.Path.{◌≡◌, sym, ◌∙◌, ap}
use mathlib.Core.List.{List, [], ◌∷◌}
use mathlib.Core.Logic.{inl, inr}
use native.Mathlib.Omega.{arith}
use native.Mathlib.Decide.{ℕ_discrete}
use native.Mathlib.Nat.{mul-le-mul_left, mul-one}
use lib.ListN.{length}
use Rattle.words.specs.Basics.{is, total, All, sum_below}
use Rattle.words.proofs.Sums.{is_same, all_map, all_both, sum_below_cong, sum_below_le, sum_below_const, sum_below_add, sum_below_mul, sum_below_is, sum_below_total, total_cong_all, total_mul, total_le_all, total_const}
use Rattle.multigraph.specs.Multigraph.{Pair, Graph}
use Rattle.multigraph.specs.Regular.{weigh, names, degree, SameEnds, Apart, Across, Regular, Positive}
use Rattle.multigraph.specs.Stored.{entry, graph_at}
use Rattle.multigraph.specs.Places.{size, copies_of}
use Rattle.multigraph.proofs.Ends.{between_same}
use Rattle.multigraph.proofs.Weights.{part_of_weight, pairs_between_cons}
use Rattle.multigraph.proofs.Matchings.{single_copies}
use Rattle.multigraph.proofs.Spans.{graph_span, length_graph, all_span}

-- all copies of a graph
unfoldable pub all_copies : Graph → ℕ
all_copies g = total (λ (p : Pair). p.copies) g

-- each copy is counted at both of its ends
pub degrees_sum :
    (N : ℕ) (side : ℕ → ℕ) (g : Graph) → All (Across N side) g → sum_below (λ v. degree v g) N ≡ 2 * all_copies g
unfolding weigh all_copies
degrees_sum N side g h =
    sum_below_total (λ v p. p.copies * names v p.first p.second) N g
    ∙ total_cong_all _ _ g (all_map twice g h)
    ∙ total_mul 2 (λ p. p.copies) g
  where
    twice : (p : Pair) → Across N side p → sum_below (λ v. p.copies * names v p.first p.second) N ≡ 2 * p.copies
    twice p a =
        rw (
          sum_below_mul p.copies (λ v. names v p.first p.second) N,
          sum_below_add (λ v. is v p.first) (λ v. is v p.second) N,
          sum_below_is p.first N a.first_below,
          sum_below_is p.second N a.second_below,
        )
        (omega arith)

-- a regular graph of degree d on n parties a side has n·d copies
pub regular_copies : (n : ℕ) (side : ℕ → ℕ) (d : ℕ) (g : Graph) → Regular (n + n) side d g → all_copies g ≡ n * d
regular_copies n side d g r =
    let s : sum_below (λ v. degree v g) (n + n) ≡ (n + n) * d = sum_below_cong (n + n) r.even ∙ sum_below_const d (n + n) in
    omega (arith, degrees_sum (n + n) side g r.across, s)

-- A graph on n parties a side in which no party has more than d copies has at most n·d pairs.
pub pairs_le :
    (n : ℕ) (side : ℕ → ℕ) (d : ℕ) (g : Graph) → All (Across (n + n) side) g → Positive g →
    ((v : ℕ) → v < n + n → degree v g ≤ d) → length g ≤ n * d
unfolding all_copies
pairs_le n side d g across pos most =
    let few : total (λ (p : Pair). 1) g ≤ total (λ (p : Pair). p.copies) g = total_le_all _ _ g pos in
    let sum : sum_below (λ v. degree v g) (n + n) ≤ sum_below (λ v. d) (n + n) = sum_below_le (n + n) most in
    omega (arith, few, total_const 1 g, sum, sum_below_const d (n + n), degrees_sum (n + n) side g across)

-- and no pair of it has more copies
pub copies_le :
    (N : ℕ) (side : ℕ → ℕ) (d : ℕ) (g : Graph) → All (Across N side) g → ((v : ℕ) → v < N → degree v g ≤ d) →
    All (λ (p : Pair). p.copies ≤ d) g
copies_le N side d g across most = all_map one g (all_both _ _ g across (part_of_weight g))
  where
    one : (p : Pair) → Across N side p × ((w : ℕ → ℕ → ℕ) → p.copies * w p.first p.second ≤ weigh w g) → p.copies ≤ d
    one p h =
        let n : 1 ≤ names p.first p.first p.second = omega (arith, is_same p.first) in
        omega (
          arith,
          h.1 (names p.first),
          most p.first h.0.first_below,
          mul-le-mul_left p.copies n,
          mul-one p.copies,
        )

-- Every perfect matching has exactly n pairs.
pub matching_pairs : (n : ℕ) (side : ℕ → ℕ) (m : Graph) → Regular (n + n) side 1 m → Positive m → length m ≡ n
unfolding all_copies
matching_pairs n side m r pos =
    let ones : total (λ (p : Pair). p.copies) m ≡ total (λ (p : Pair). 1) m =
    total_cong_all _ _ m (single_copies (n + n) side m r pos) in
    omega (arith, ones, total_const 1 m, regular_copies n side 1 m r)

-- ── one party a side ──

-- two pairs between two parties have the same ends
two_parties :
    (side : ℕ → ℕ) (p q : Pair) → Across 2 side p → Across 2 side q → SameEnds p.first p.second q.first q.second
two_parties side p q a b =
    elim (ℕ_discrete q.first p.first) [
      | yes e ↦ inl (e, omega (arith, one p a, one q b))
      | no e ↦
          inr (
            omega (arith, one p a, one q b, a.first_below, b.first_below),
            omega (arith, one p a, one q b, a.first_below, b.first_below),
          )
    ]
  where
    one : (x : Pair) → Across 2 side x → x.first + x.second ≡ 1
    one x c =
        elim (ℕ_discrete x.first x.second) [
          | yes e ↦ absurd (omega (arith, c.sides, ap side e))
          | no e ↦ omega (arith, c.first_below, c.second_below)
        ]

-- one party a side: at most one pair
pub one_pair : (side : ℕ → ℕ) (g : Graph) → All (Across 2 side) g → Apart g → length g ≤ 1
one_pair side [] a b = omega arith
one_pair side (p ∷ []) a b = omega arith
one_pair side (p ∷ q ∷ g) a b =
    absurd (
    omega (
      arith,
      b.0,
      pairs_between_cons p.first p.second q g,
      between_same p.first p.second q.first q.second (two_parties side p q a.0 a.1.0),
    )
    )

-- ── a regular graph in words ──

module _ (s : List ℕ) (ends pairs g n : ℕ) (side : ℕ → ℕ) where
  pub entries_few :
      (d : ℕ) → Regular (2 * n) side d (graph_at s ends pairs g) → Positive (graph_at s ends pairs g) → size s g ≤ n * d
  entries_few d r pos =
      let e : 2 * n ≡ n + n = omega arith in
      let q : Regular (n + n) side d (graph_at s ends pairs g) = rw e at r in
      omega (
        arith,
        length_graph s ends pairs g,
        pairs_le n side d (graph_at s ends pairs g) q.across pos (λ v h. omega (arith, q.even v h)),
      )

  -- a matching's entries
  pub entries_one :
      Regular (2 * n) side 1 (graph_at s ends pairs g) → Positive (graph_at s ends pairs g) → size s g ≡ n
  entries_one r pos =
      let e : 2 * n ≡ n + n = omega arith in
      sym (length_graph s ends pairs g) ∙ matching_pairs n side (graph_at s ends pairs g) (rw e at r) pos

  -- each with one copy
  pub entries_single :
      Regular (2 * n) side 1 (graph_at s ends pairs g) → Positive (graph_at s ends pairs g) →
      (i : ℕ) → i < size s g → copies_of s g i ≡ 1
  entries_single r pos i h =
      all_span (λ (p : Pair). p.copies ≡ 1) (entry s ends pairs g) 0 (size s g)
      (rw (graph_span s ends pairs g) at (single_copies (2 * n) side (graph_at s ends pairs g) r pos)) i (omega arith) (omega arith)

-- no entry has more copies than the degree
pub entries_copies :
    (N : ℕ) (side : ℕ → ℕ) (d : ℕ) (s : List ℕ) (ends pairs g : ℕ) → Regular N side d (graph_at s ends pairs g) →
    (i : ℕ) → i < size s g → copies_of s g i ≤ d
entries_copies N side d s ends pairs g r i h =
    all_span (λ (p : Pair). p.copies ≤ d) (entry s ends pairs g) 0 (size s g)
    (rw (graph_span s ends pairs g)
    at (copies_le N side d (graph_at s ends pairs g) r.across (λ v b. omega (arith, r.even v b)))) i (omega arith) (omega arith)
