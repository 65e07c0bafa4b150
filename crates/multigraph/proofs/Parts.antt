-- A graph whose pairs are all joined in another has no more pairs than it, at any party and in all. Assumes nothing.
use Prim.Native.Nat.{ℕ, zero, suc, ◌+◌, ◌*◌, ◌≤◌, ◌<◌}
use mathlib.Core.Path.{◌≡◌, refl, sym, ◌∙◌}
use mathlib.Core.Bool.{Bool, true, false}
use mathlib.Core.List.{[], ◌∷◌}
use mathlib.Core.Logic.{⊎_elim}
use native.Mathlib.Omega.{arith}
use native.Mathlib.Nat.{mul-le-mul_right, one-mul}
use lib.ListN.{length}
use Rattle.words.specs.Basics.{pick, is, total, All, sum_below}
use Rattle.words.proofs.Sums.{total_zero_all, total_const, total_cong_all, all_map, all_both, sum_below_add, sum_below_is, sum_below_le, sum_below_const, sum_below_total}
use Rattle.multigraph.specs.Multigraph.{Pair, Graph, with_copies, joins, add_edge}
use Rattle.multigraph.specs.Regular.{weigh, names, degree, between, copies_between, pairs_between, Apart, Across, Positive, Symmetric}
use Rattle.multigraph.proofs.Ends.{same_ends_sym, same_weight, between_cases, between_same, between_symmetric, names_symmetric}
use Rattle.multigraph.proofs.Weights.{own_copies, no_pairs_no_copies}
use Rattle.multigraph.proofs.Matchings.{weigh_ends}

-- the ends asked about and those of the copy may change places
pub between_swap : (u v a b : ℕ) → between u v a b ≡ between a b u v
between_swap u v a b =
    ⊎_elim
    (λ h. h.1 ∙ sym (between_same a b u v (same_ends_sym h.0)))
    (λ h. h.1 ∙ sym (⊎_elim (λ k. absurd (h.0 (same_ends_sym k.0))) (λ k. k.1) (between_cases a b u v)))
    (between_cases u v a b)

-- a graph without one pair that has the given ends
pub record Without (a b : ℕ) (g : Graph) : Type 0 where
  pub others : Graph
  pub ends : (w : ℕ → ℕ → ℕ) → Symmetric w → weigh_ends w others + w a b ≡ weigh_ends w g

pub without : (a b : ℕ) (g : Graph) → 0 < pairs_between a b g → Without a b g
unfolding pairs_between total
without a b [] h = absurd (omega arith)
without a b (p ∷ g) h =
    ⊎_elim
    (λ k. record { others = g; ends = λ w s. omega (arith, same_weight w s a b p.first p.second k.0) })
    (λ k. more (without a b g (omega (arith, k.1))))
    (between_cases a b p.first p.second)
  where
    more : Without a b g → Without a b (p ∷ g)
    more r = record { others = p ∷ r.others; ends = λ w s. omega (arith, r.ends w s) }

-- the pairs are joined in the graph
abbrev pub JoinedIn : Graph → Graph → Type 0
JoinedIn g h = All (λ (p : Pair). 0 < pairs_between p.first p.second g) h

pub joined_le :
    (w : ℕ → ℕ → ℕ) → Symmetric w → (h g : Graph) → Apart h → JoinedIn g h → weigh_ends w h ≤ weigh_ends w g
unfolding pairs_between total
joined_le w s [] g apart joined = omega arith
joined_le w s (p ∷ h) g apart joined =
    go (without p.first p.second g joined.0) (λ k still. joined_le w s h k apart.1 still)
  where
    others : All (λ (q : Pair). between p.first p.second q.first q.second ≡ 0) h
    others = total_zero_all (λ (q : Pair). between p.first p.second q.first q.second) h apart.0

    go : Without p.first p.second g → ((k : Graph) → JoinedIn k h → weigh_ends w h ≤ weigh_ends w k) →
        weigh_ends w (p ∷ h) ≤ weigh_ends w g
    go r rest =
        let still : JoinedIn r.others h =
        all_map
        (λ q k.
        omega (
          arith,
          k.0,
          k.1,
          between_swap q.first q.second p.first p.second,
          r.ends (between q.first q.second) (between_symmetric q.first q.second),
        ))
        h (all_both _ _ h others joined.1) in
        omega (arith, r.ends w s, rest r.others still)

-- Where no copies are gained, no pairs are: at any party, and in all.
pub parts_joined :
    (h g : Graph) → Positive h → ((u v : ℕ) → copies_between u v h ≤ copies_between u v g) → JoinedIn g h
parts_joined h g pos le = all_map joined h (own_copies h pos)
  where
    joined : (p : Pair) → 0 < copies_between p.first p.second h → 0 < pairs_between p.first p.second g
    joined p c = some (pairs_between p.first p.second g) refl
      where
        some : (n : ℕ) → pairs_between p.first p.second g ≡ n → 0 < n
        some zero e = absurd (omega (arith, le p.first p.second, no_pairs_no_copies p.first p.second g e))
        some (suc n) e = omega arith

pub parts_at :
    (v : ℕ) (h g : Graph) → Apart h → Positive h → ((u v : ℕ) → copies_between u v h ≤ copies_between u v g) →
    weigh_ends (names v) h ≤ weigh_ends (names v) g
parts_at v h g apart pos le = joined_le (names v) (names_symmetric v) h g apart (parts_joined h g pos le)

-- with at most `width` pairs at any party, n parties a side have at most n·width pairs
pub pairs_by_width :
    (n width : ℕ) (side : ℕ → ℕ) (g : Graph) → All (Across (n + n) side) g →
    ((v : ℕ) → v < n + n → weigh_ends (names v) g ≤ width) → length g ≤ n * width
pairs_by_width n width side g across few =
    let swap : sum_below (λ v. weigh_ends (names v) g) (n + n) ≡ total (λ (p : Pair). sum_below (λ v. names v p.first p.second) (n + n)) g =
    sum_below_total (λ v (p : Pair). names v p.first p.second) (n + n) g in
    let twice : total (λ (p : Pair). sum_below (λ v. names v p.first p.second) (n + n)) g ≡ total (λ (p : Pair). 2) g =
    total_cong_all _ _ g (all_map both g across) in
    let most : sum_below (λ v. weigh_ends (names v) g) (n + n) ≤ sum_below (λ v. width) (n + n) = sum_below_le (n + n) few in
    omega (arith, swap, twice, most, total_const {A = Pair} 2 g, sum_below_const width (n + n))
  where
    both : (p : Pair) → Across (n + n) side p → sum_below (λ v. names v p.first p.second) (n + n) ≡ 2
    both p a =
        rw (
          sum_below_add (λ v. is v p.first) (λ v. is v p.second) (n + n),
          sum_below_is p.first (n + n) a.first_below,
          sum_below_is p.second (n + n) a.second_below,
        )
        (omega arith)

-- where every pair has a copy, a party has no more pairs than its degree
pub pairs_le_degree : (v : ℕ) (g : Graph) → Positive g → weigh_ends (names v) g ≤ degree v g
unfolding weigh total
pairs_le_degree v [] pos = omega arith
pairs_le_degree v (p ∷ g) pos =
    omega (
      arith,
      pairs_le_degree v g pos.1,
      mul-le-mul_right (names v p.first p.second) pos.0,
      one-mul (names v p.first p.second),
    )

-- `add_edge` adds at most one pair
pub ends_add_edge :
    (w : ℕ → ℕ → ℕ) (g : Graph) (a b m f : ℕ) → weigh_ends w (add_edge g a b m f) ≤ weigh_ends w g + w a b
unfolding add_edge total
ends_add_edge w [] a b m f = omega arith
ends_add_edge w (p ∷ g) a b m f = go (joins a b p) (ends_add_edge w g a b m f)
  where
    go : (t : Bool) → weigh_ends w (add_edge g a b m f) ≤ weigh_ends w g + w a b →
        weigh_ends w (pick t (with_copies (p.copies + m) p ∷ g) (p ∷ add_edge g a b m f)) ≤ weigh_ends w (p ∷ g) + w a b
    go true ih = omega arith
    go false ih = omega arith
