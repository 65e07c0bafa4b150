-- Perfect matchings: single copies, and what adding and removing one does to every weight. Assumes nothing.
use Prim.Native.Nat.{ℕ, zero, suc, ◌+◌, ◌*◌, ◌≤◌, ◌<◌}
use mathlib.Core.Path.{◌≡◌, refl, ◌∙◌, ap}
use mathlib.Core.List.{List, [], ◌∷◌}
use native.Mathlib.Omega.{arith}
use native.Mathlib.Nat.{mul-le-mul_left, mul-one, one-mul}
use Rattle.words.specs.Basics.{total, All}
use Rattle.words.proofs.Sums.{is_same, all_map, all_both, total_cong_all}
use Rattle.multigraph.specs.Multigraph.{Pair, Graph, add_edge, remove_edge, add_matching, remove_matching}
use Rattle.multigraph.specs.Regular.{weigh, names, degree, between, copies_between, pairs_between, Apart, Across, Regular, Positive, Symmetric}
use Rattle.multigraph.proofs.Ends.{between_symmetric, between_self}
use Rattle.multigraph.proofs.Weights.{pairs_between_cons, part_of_weight, no_pairs_no_copies}
use Rattle.multigraph.proofs.Adding.{weigh_add_edge, across_add_edge, positive_add_edge, apart_add_edge}
use Rattle.multigraph.proofs.Removing.{weigh_remove_edge, across_remove_edge, positive_remove_edge, apart_remove_edge}

-- the ends of a list of pairs weighed, each pair once
abbrev pub weigh_ends : (ℕ → ℕ → ℕ) → List Pair → ℕ
weigh_ends w m = total (λ (p : Pair). w p.first p.second) m

-- in a perfect matching every pair has one copy
pub single_copies :
    (N : ℕ) (side : ℕ → ℕ) (m : Graph) → Regular N side 1 m → Positive m → All (λ (p : Pair). p.copies ≡ 1) m
single_copies N side m r pos =
    all_map one m (all_both _ _ m pos (all_both _ _ m r.across (part_of_weight m)))
  where
    one : (p : Pair) →
        (0 < p.copies) × (Across N side p × ((w : ℕ → ℕ → ℕ) → p.copies * w p.first p.second ≤ weigh w m)) →
        p.copies ≡ 1
    one p h =
        let d : degree p.first m ≡ 1 = r.even p.first h.1.0.first_below in
        let part = h.1.1 (names p.first) in
        let n : 1 ≤ names p.first p.first p.second = omega (arith, is_same p.first) in
        omega (arith, h.0, part, d, mul-le-mul_left p.copies n, mul-one p.copies)

-- so its weight is that of its pairs
pub single_weigh : (w : ℕ → ℕ → ℕ) (m : Graph) → All (λ (p : Pair). p.copies ≡ 1) m → weigh w m ≡ weigh_ends w m
unfolding weigh
single_weigh w m h =
    total_cong_all _ _ m (all_map (λ p e. ap (λ n. n * w p.first p.second) e ∙ one-mul (w p.first p.second)) m h)

-- Adding a matching adds its pairs to every weight.
pub weigh_add_matching :
    (w : ℕ → ℕ → ℕ) → Symmetric w → (g : Graph) (m : List Pair) → weigh w (add_matching g m) ≡ weigh w g + weigh_ends w m
unfolding add_matching total
weigh_add_matching w s g [] = omega arith
weigh_add_matching w s g (p ∷ m) =
    omega (
      arith,
      weigh_add_matching w s (add_edge g p.first p.second 1 0) m,
      weigh_add_edge w s g p.first p.second 1 0,
    )

-- what a graph keeps when matchings are added or removed
pub record Sound (N : ℕ) (side : ℕ → ℕ) (g : Graph) : Type 0 where
  pub across : All (Across N side) g
  pub apart : Apart g
  pub positive : Positive g

pub add_matching_sound :
    (N : ℕ) (side : ℕ → ℕ) (g : Graph) (m : List Pair) → Sound N side g → All (Across N side) m → Sound N side (add_matching g m)
unfolding add_matching
add_matching_sound N side g [] h k = h
add_matching_sound N side g (p ∷ m) h k =
    add_matching_sound N side (add_edge g p.first p.second 1 0) m
    (record {
      across =
          across_add_edge N side g p.first p.second 1 0 h.across
          (record { first_below = k.0.first_below; second_below = k.0.second_below; sides = k.0.sides });
      apart = apart_add_edge g p.first p.second 1 0 h.apart;
      positive = positive_add_edge g p.first p.second 1 0 h.positive (omega arith);
    })
    k.1

-- Removing a matching that the graph holds takes its pairs from every weight.
pub record Removed (N : ℕ) (side : ℕ → ℕ) (g : Graph) (m : List Pair) : Type 0 where
  pub sound : Sound N side (remove_matching g m)
  pub copies : (w : ℕ → ℕ → ℕ) → Symmetric w → weigh w (remove_matching g m) + weigh_ends w m ≡ weigh w g

pub remove_matching_law :
    (N : ℕ) (side : ℕ → ℕ) (g : Graph) (m : List Pair) → Sound N side g →
    ((u v : ℕ) → pairs_between u v m ≤ copies_between u v g) → Removed N side g m
unfolding remove_matching total
remove_matching_law N side g [] h holds = record { sound = h; copies = λ w s. omega arith }
remove_matching_law N side g (p ∷ m) h holds = go (remove_matching_law N side k m sound_k holds_k)
  where
    k : Graph
    k = remove_edge g p.first p.second 1

    joined : 0 < pairs_between p.first p.second g
    joined =
        let have = holds p.first p.second in
        let own = between_self p.first p.second in
        let cons = pairs_between_cons p.first p.second p m in
        some_pair (pairs_between p.first p.second g) refl (omega arith)
      where
        some_pair : (n : ℕ) → pairs_between p.first p.second g ≡ n → 0 < copies_between p.first p.second g → 0 < n
        some_pair zero e c = absurd (omega (arith, no_pairs_no_copies p.first p.second g e))
        some_pair (suc n) e c = omega arith

    taken : (w : ℕ → ℕ → ℕ) → Symmetric w → weigh w k + w p.first p.second ≡ weigh w g
    taken w s = weigh_remove_edge w s g p.first p.second h.positive joined

    sound_k : Sound N side k
    sound_k =
        record {
          across = across_remove_edge N side g p.first p.second 1 h.across;
          apart = apart_remove_edge g p.first p.second 1 h.apart;
          positive = positive_remove_edge g p.first p.second 1 h.positive;
        }

    holds_k : (u v : ℕ) → pairs_between u v m ≤ copies_between u v k
    holds_k u v = omega (arith, holds u v, pairs_between_cons u v p m, taken (between u v) (between_symmetric u v))

    go : Removed N side k m → Removed N side g (p ∷ m)
    go r = record { sound = r.sound; copies = λ w s. omega (arith, r.copies w s, taken w s) }
