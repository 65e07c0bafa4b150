-- The graph that a matching search splits: regular of degree t = 2^e, flagged exactly where the graph itself has no copy,
-- with fewer than t flagged copies. Assumes nothing.
use Prim.Native.Nat.{ℕ, ◌+◌, ◌*◌, ◌-◌, ◌/◌, ◌^◌, ◌≤◌, ◌<◌}
use mathlib.Core.Path.{◌≡◌, refl, sym, ap}
use mathlib.Core.List.{List, [], ◌∷◌}
use mathlib.Core.Logic.{inr}
use native.Mathlib.Omega.{arith}
use native.Mathlib.Nat.{mul-zero, mul-one, mul_comm, mul-le-mul_left, mul-le-mul_right, mul-lt-mul_of_pos_right}
use lib.ListN.{length}
use Rattle.words.specs.Basics.{is, All}
use Rattle.words.proofs.Sums.{is_ne, is_eq, is_le, all_map, total_cong, total_all_zero}
use Rattle.multigraph.specs.Multigraph.{Pair, Graph, add_edge}
use Rattle.multigraph.specs.Regular.{weigh, names, degree, between, copies_between, Regular, Positive, Partition, Symmetric, Agrees}
use Rattle.multigraph.proofs.Ends.{names_symmetric, between_symmetric, between_ends}
use Rattle.multigraph.proofs.Weights.{weigh_none, own_copies, no_pairs_no_copies}
use Rattle.multigraph.proofs.Adding.{agrees_add_edge, weigh_add_edge}
use Rattle.perfect_matching.specs.Matching.{add_times, add_diagonal, search_graph}
use Rattle.words.specs.PowersOfTwo.{log_up}
use Rattle.perfect_matching.proofs.Powers.{Shares, shares}
use Rattle.words.proofs.PowersOfTwo.{log_up_law}
use Rattle.perfect_matching.proofs.Diagonal.{diagonal, diagonal_names, diagonal_le, weigh_add_times, weigh_add_diagonal, BetweenSides, between_add_times, between_add_diagonal}

-- 1 where the graph has no copy between the two parties, else 0
abbrev pub lacks : Graph → ℕ → ℕ → ℕ
lacks g u v = is (copies_between u v g) 0

pub lacks_symmetric : (g : Graph) → Symmetric (lacks g)
unfolding weigh
lacks_symmetric g a b =
    ap (λ (n : ℕ). is n 0)
    (total_cong (λ p. ap (λ (n : ℕ). p.copies * n) (between_ends b a a b p.first p.second (inr (refl, refl)))) g)

-- none of its own pairs is lacking
pub lacks_own : (g : Graph) → Positive g → All (λ (p : Pair). lacks g p.first p.second ≡ 0) g
lacks_own g pos = all_map (λ p h. is_ne (λ e. omega arith)) g (own_copies g pos)

pub lacks_nothing : (g : Graph) → Positive g → weigh (lacks g) g ≡ 0
unfolding weigh
lacks_nothing g pos =
    total_all_zero _ g (all_map (λ p e. rw (e, mul-zero)) g (lacks_own g pos))

-- Copies times α are unflagged, and so are the graph's own pairs.
agrees_add_times :
    (flag : ℕ → ℕ → ℕ) (α : ℕ) (h g : Graph) → Agrees flag h → All (λ (p : Pair). flag p.first p.second ≡ 0) g →
    Agrees flag (add_times α h g)
unfolding add_times
agrees_add_times flag α h [] a z = a
agrees_add_times flag α h (p ∷ g) a z =
    agrees_add_times flag α (add_edge h p.first p.second (α * p.copies) 0) g
    (agrees_add_edge flag h p.first p.second (α * p.copies) 0 a (λ n. sym z.0)) z.1

-- A pair of left i and right i is new, and flagged, only where the graph g has no copy, since h has all copies of g.
agrees_add_diagonal :
    (g : Graph) (β : ℕ) (h : Graph) (left right : List ℕ) → ((u v : ℕ) → copies_between u v g ≤ copies_between u v h) →
    Agrees (lacks g) h → Agrees (lacks g) (add_diagonal β h left right)
unfolding add_diagonal
agrees_add_diagonal g β h [] right more a = a
agrees_add_diagonal g β h (l ∷ left) [] more a = a
agrees_add_diagonal g β h (l ∷ left) (r ∷ right) more a =
    agrees_add_diagonal g β (add_edge h l r β 1) left right
    (λ u v. omega (arith, more u v, weigh_add_edge (between u v) (between_symmetric u v) h l r β 1))
    (agrees_add_edge (lacks g) h l r β 1 a
    (λ n. sym (is_eq {u = copies_between l r g} {v = 0} (omega (arith, more l r, no_pairs_no_copies l r h n)))))

-- What a search begins with: a graph of degree 2^e, flagged exactly where g has no copy, with fewer than 2^e flagged copies.
pub record SearchOf (N : ℕ) (side : ℕ → ℕ) (e : ℕ) (g h : Graph) : Type 0 where
  pub regular : Regular N side (2 ^ e) h
  pub flags : Agrees (lacks g) h
  pub few : weigh (lacks g) h < 2 ^ e

-- the search graph's weight
pub weigh_search :
    (w : ℕ → ℕ → ℕ) → Symmetric w → (left right : List ℕ) (k : ℕ) (g : Graph) →
    let t : ℕ = 2 ^ log_up (k * length left) in
    weigh w (search_graph left right k g) ≡ t / k * weigh w g + (t - k * (t / k)) * diagonal w left right
unfolding search_graph
weigh_search w s left right k g =
    let t : ℕ = 2 ^ log_up (k * length left) in
    omega (
      arith,
      weigh_add_diagonal w s (t - k * (t / k)) (add_times (t / k) [] g) left right,
      weigh_add_times w s (t / k) [] g,
      weigh_none w,
    )

-- The graph's degree times α, and β from the diagonal, is t; at most β·n copies are flagged, and β·n < k·n ≤ t.
pub search_law :
    (N : ℕ) (side : ℕ → ℕ) (left right : List ℕ) (k : ℕ) (g : Graph) → Regular N side k g → Positive g →
    Partition N side left right → 0 < k → 0 < N →
    SearchOf N side (log_up (k * length left)) g (search_graph left right k g)
unfolding search_graph
search_law N side left right k g reg pos part kpos npos =
    record {
      regular = record { even = even; across = sides.across; apart = sides.apart };
      flags =
          agrees_add_diagonal g β (add_times α [] g) left right more
          (agrees_add_times (lacks g) α [] g tt (lacks_own g pos));
      few = few;
    }
  where
    e : ℕ
    e = log_up (k * length left)

    α : ℕ
    α = 2 ^ e / k

    β : ℕ
    β = 2 ^ e - k * α

    n_pos : 0 < length left
    n_pos = omega (arith, part.whole, part.same_length)

    enough : k * length left ≤ 2 ^ e
    enough = (log_up_law (k * length left)).reaches

    share : Shares k (2 ^ e)
    share = shares k (2 ^ e) kpos (omega (arith, enough, mul-le-mul_left k n_pos, mul-one k))

    more : (u v : ℕ) → copies_between u v g ≤ copies_between u v (add_times α [] g)
    more u v =
        omega (
          arith,
          weigh_add_times (between u v) (between_symmetric u v) α [] g,
          mul-le-mul_right (copies_between u v g) share.some,
        )

    sides : BetweenSides N side (search_graph left right k g)
    sides =
        between_add_diagonal N side β (add_times α [] g) left right
        (between_add_times N side α [] g (record { across = tt; apart = tt }) reg.across) part.left_side
        part.right_side

    even : (v : ℕ) → v < N → degree v (search_graph left right k g) ≡ 2 ^ e
    even v h =
        rw (
          weigh_search (names v) (names_symmetric v) left right k g,
          reg.even v h,
          diagonal_names v left right part.same_length,
          part.once v h,
        )
        (omega (arith, share.cut, mul_comm α k))

    few : weigh (lacks g) (search_graph left right k g) < 2 ^ e
    few =
        let w = lacks g in
        let once : diagonal w left right ≤ length left = diagonal_le w (λ a b. is_le (copies_between a b g) 0) left right in
        let less : β * length left < k * length left = mul-lt-mul_of_pos_right share.rest n_pos in
        rw (weigh_search w (lacks_symmetric g) left right k g, lacks_nothing g pos, mul-zero α)
        (omega (arith, mul-le-mul_left β once, less, enough))
