-- Double counting: each copy of a graph has one end on either side, so the degrees of the left parties and those of the right
-- parties have the same sum, all copies; and so have the shortfalls from D. Assumes nothing.
use Prim.Native.Nat.{ℕ, ◌+◌, ◌*◌, ◌-◌, ◌≤◌, ◌<◌}
use mathlib.Core.Path.{◌≡◌, sym, ◌∙◌, ap}
use mathlib.Core.List.{List}
use native.Mathlib.Omega.{arith}
use native.Mathlib.Nat.{mul-one}
use native.Mathlib.Decide.{ℕ_discrete}
use lib.ListN.{length}
use Rattle.words.specs.Basics.{total, count, All}
use Rattle.words.proofs.Sums.{total_cong_all, total_add, total_swap, total_const, total_zero_all, total_all_zero, zero_count, all_counted, all_map, all_both}
use Rattle.multigraph.specs.Multigraph.{Pair, Graph}
use Rattle.multigraph.specs.Regular.{weigh, names, degree, Across, Partition}
use Rattle.multigraph.proofs.Sizes.{all_copies}
use Rattle.multigraph.proofs.Weights.{total_names}

-- ── counts on a side ──

-- no list of one side holds a party of the other
pub off_side :
    (N : ℕ) (side : ℕ → ℕ) (c v : ℕ) (vs : List ℕ) → All (λ u. (u < N) × (side u ≡ c)) vs → (side v ≡ c → ⊥) → count v vs ≡ 0
off_side N side c v vs h n = zero_count v vs (all_map (λ u b e. n (ap side e ∙ b.1)) vs h)

module _ (N : ℕ) (side : ℕ → ℕ) (left right : List ℕ) (part : Partition N side left right) where
  -- a party below N is counted on its side, once
  pub side_counts : (v : ℕ) → v < N → (count v left + side v ≡ 1) × (count v right ≡ side v)
  side_counts v h =
      let one : count v left + count v right ≡ 1 = part.once v h in
      elim (ℕ_discrete (count v left) 0) [
        | yes e ↦
            let s = all_counted (λ u. (u < N) × (side u ≡ 1)) v right part.right_side (omega arith) in
            (omega arith, omega arith)
        | no n ↦
            let s = all_counted (λ u. (u < N) × (side u ≡ 0)) v left part.left_side (omega arith) in
            (omega arith, omega arith)
      ]

-- ── the degrees of a list of parties ──

-- a pair has just one end in a list of parties
abbrev pub OneEnd : List ℕ → Pair → Type 0
OneEnd vs p = count p.first vs + count p.second vs ≡ 1

-- where each pair has just one end in a list of parties, their degrees add up to all copies
pub degrees_once :
    (vs : List ℕ) (g : Graph) → All (OneEnd vs) g → total (λ v. degree v g) vs ≡ all_copies g
unfolding weigh all_copies
degrees_once vs g h =
    total_swap (λ v (p : Pair). p.copies * names v p.first p.second) vs g
    ∙ total_cong_all _ _ g (all_map one g h)
  where
    one : (p : Pair) → OneEnd vs p → total (λ v. p.copies * names v p.first p.second) vs ≡ p.copies
    one p e = rw (total_names p.copies p.first p.second vs, e, mul-one)

-- ── shortfalls ──

-- what a party's degree lacks of D
abbrev pub short : ℕ → Graph → ℕ → ℕ
short D g v = D - degree v g

-- shortfalls and degrees add up to D for each party
pub shorts_degrees :
    (D : ℕ) (g : Graph) (vs : List ℕ) → All (λ v. degree v g ≤ D) vs →
    total (short D g) vs + total (λ v. degree v g) vs ≡ length vs * D
shorts_degrees D g vs h =
    sym (total_add (short D g) (λ v. degree v g) vs)
    ∙ total_cong_all (λ v. short D g v + degree v g) (λ v. D) vs (all_map (λ v l. omega arith) vs h)
    ∙ total_const D vs

-- where two lists of parties lack the same, and one lacks nothing, neither does the other
pub both_full :
    (D : ℕ) (g : Graph) (us vs : List ℕ) → total (short D g) us ≡ total (short D g) vs → All (λ v. degree v g ≡ D) us →
    All (λ v. degree v g ≤ D) vs → All (λ v. degree v g ≡ D) vs
both_full D g us vs same full most =
    let none : total (short D g) us ≡ 0 = total_all_zero (short D g) us (all_map (λ v e. omega arith) us full) in
    all_map (λ v h. omega arith) vs (all_both _ _ vs most (total_zero_all (short D g) vs (sym same ∙ none)))

module _
    (N : ℕ) (side : ℕ → ℕ) (left right : List ℕ) (part : Partition N side left right) (g : Graph)
    (across : All (Across N side) g) where
  -- one end of each pair is on the left, one on the right
  ends_once : All (λ (p : Pair). OneEnd left p × OneEnd right p) g
  ends_once = all_map one g across
    where
      one : (p : Pair) → Across N side p → OneEnd left p × OneEnd right p
      one p a =
          let c = side_counts N side left right part p.first a.first_below in
          let d = side_counts N side left right part p.second a.second_below in
          (omega (arith, a.sides), omega (arith, a.sides))

  -- The left and the right shortfalls have the same sum.
  pub shorts_same : (D : ℕ) → ((v : ℕ) → v < N → degree v g ≤ D) → total (short D g) left ≡ total (short D g) right
  shorts_same D most =
      let l = shorts_degrees D g left (all_map (λ v h. most v h.0) left part.left_side) in
      let r = shorts_degrees D g right (all_map (λ v h. most v h.0) right part.right_side) in
      let dl = degrees_once left g (all_map (λ p h. h.0) g ends_once) in
      let dr = degrees_once right g (all_map (λ p h. h.1) g ends_once) in
      let len : length left * D ≡ length right * D = ap (λ (k : ℕ). k * D) part.same_length in
      omega arith
