-- Evening out always succeeds: from a graph whose degrees are at most D it makes one in which every party has degree D, and
-- takes no copy away. While a left party is short a right one is, since both sides lack the same. Assumes nothing.
use Prim.Native.Nat.{ℕ, ◌+◌, ◌*◌, ◌≤◌, ◌<◌}
use mathlib.Core.Path.{◌≡◌, refl, sym}
use mathlib.Core.List.{List, [], ◌∷◌}
use mathlib.Core.Logic.{◌⊎◌, inl, inr}
use native.Mathlib.Omega.{arith}
use native.Mathlib.Decide.{ℕ_discrete}
use borrow.Author.Tests.{eq-eqb, ne_eqb}
use lib.ListN.{length}
use Rattle.words.specs.Basics.{total, count, All, iterate, Ran}
use Rattle.words.proofs.Sums.{count_le, all_counted, all_map}
use Rattle.words.proofs.Runs.{iterate_keeps, iterate_ends}
use Rattle.multigraph.specs.Multigraph.{Graph}
use Rattle.multigraph.specs.Regular.{degree, copies_between, Partition, Regular, Positive}
use Rattle.multigraph.proofs.Matchings.{Sound}
use Rattle.regular_graph.specs.Evening.{Evening, evening, even_out_pair, even_out_next, even_out_step, evened, even_out}
use Rattle.regular_graph.proofs.Shortfalls.{off_side, side_counts, short, both_full, shorts_same}
use Rattle.regular_graph.proofs.StepLaws.{Evens, steps, steps_le, pass_left_less, pass_right_less, fill_less, pass_left, pass_right, g', fill, filled}

-- What evening out gives.
pub record Evened (N : ℕ) (side : ℕ → ℕ) (D : ℕ) (start g : Graph) : Type 0 where
  pub regular : Regular N side D g
  pub positive : Positive g
  pub kept : (u v : ℕ) → copies_between u v start ≤ copies_between u v g

module _ (N : ℕ) (side : ℕ → ℕ) (D : ℕ) (start : Graph) where
  -- a step from a state in which a left party is still to be filled
  record Turned (s s' : Evening) : Type 0 where
    evens : Evens N side D start s'
    less : steps D s' < steps D s

  module _ (left₀ right₀ : List ℕ) (part : Partition N side left₀ right₀) where
    -- where one side is done, all its parties are full, and so are those of the other
    module _ (g : Graph) (left right : List ℕ) (e : Evens N side D start (evening g left right)) where
      same : total (short D g) left₀ ≡ total (short D g) right₀
      same = shorts_same N side left₀ right₀ part g e.sound.across D e.most

      -- parties of one side are full if none of that side is still to be filled
      side_full :
          (c : ℕ) (vs : List ℕ) → All (λ v. (v < N) × (side v ≡ c)) vs →
          ((v : ℕ) → side v ≡ c → (count v left ≡ 0) × (count v right ≡ 0)) → All (λ v. degree v g ≡ D) vs
      side_full c vs on none = all_map (λ v h. e.full v h.0 (none v h.1).0 (none v h.1).1) vs on

      lefts_full : length left ≡ 0 → All (λ v. degree v g ≡ D) left₀
      lefts_full z =
          side_full 0 left₀ part.left_side
          (λ v h. (omega (arith, count_le v left), off_side N side 1 v right e.rights (λ q. omega arith)))

      rights_full : length right ≡ 0 → All (λ v. degree v g ≡ D) right₀
      rights_full z =
          side_full 1 right₀ part.right_side
          (λ v h. (off_side N side 0 v left e.lefts (λ q. omega arith), omega (arith, count_le v right)))

      left_done : length left ≡ 0 → All (λ v. degree v g ≡ D) right₀
      left_done z =
          both_full D g left₀ right₀ same (lefts_full z) (all_map (λ v h. e.most v h.0) right₀ part.right_side)

      right_done : length right ≡ 0 → All (λ v. degree v g ≡ D) left₀
      right_done z =
          both_full D g right₀ left₀ (sym same) (rights_full z) (all_map (λ v h. e.most v h.0) left₀ part.left_side)

    -- a short left party is never left alone
    alone : (g : Graph) (l : ℕ) (left : List ℕ) → Evens N side D start (evening g (l ∷ left) []) → degree l g ≡ D
    alone g l left e =
        let c = side_counts N side left₀ right₀ part l e.lefts.0.0 in
        all_counted (λ v. degree v g ≡ D) l left₀ (right_done g (l ∷ left) [] e refl) (omega (arith, e.lefts.0.1))

    turn_pair :
        (g : Graph) (l : ℕ) (left right : List ℕ) → Evens N side D start (evening g (l ∷ left) right) → (degree l g ≡ D → ⊥) →
        Turned (evening g (l ∷ left) right) (even_out_pair D g l left right)
    unfolding even_out_pair
    turn_pair g l left [] e n = absurd (n (alone g l left e))
    turn_pair g l left (r ∷ right) e n =
        elim (ℕ_discrete (degree r g) D) [
          | yes d ↦
              rw (eq-eqb (degree r g) D d)
              (record {
                evens = pass_right N side D start g r (l ∷ left) right e d;
                less = pass_right_less D g r (l ∷ left) right;
              })
          | no k ↦
              let a : degree l g < D = omega (arith, n, e.most l e.lefts.0.0) in
              let b : degree r g < D = omega (arith, k, e.most r e.rights.0.0) in
              let h : Graph = g' N side D start g l r left right e a b in
              rw (ne_eqb (degree r g) D k)
              (record {
                evens = fill N side D start g l r left right e a b;
                less = fill_less D g h l r left right a b (filled N side D start g l r left right e a b);
              })
        ]

    turn :
        (g : Graph) (l : ℕ) (left right : List ℕ) → Evens N side D start (evening g (l ∷ left) right) →
        Turned (evening g (l ∷ left) right) (even_out_next D g (l ∷ left) right)
    unfolding even_out_next
    turn g l left right e =
        elim (ℕ_discrete (degree l g) D) [
          | yes d ↦
              rw (eq-eqb (degree l g) D d)
              (record { evens = pass_left N side D start g l left right e d; less = pass_left_less D g l left right })
          | no n ↦ rw (ne_eqb (degree l g) D n) (turn_pair g l left right e n)
        ]

    -- what holds is kept by every step
    pub keep :
        (g : Graph) (left right : List ℕ) → Evens N side D start (evening g left right) →
        Evens N side D start (even_out_next D g left right)
    unfolding even_out_next
    keep g [] right e = e
    keep g (l ∷ left) right e = (turn g l left right e).evens

    lower :
        (g : Graph) (left right : List ℕ) → Evens N side D start (evening g left right) →
        (length left ≡ 0) ⊎ (steps D (even_out_next D g left right) < steps D (evening g left right))
    lower g [] right e = inl refl
    lower g (l ∷ left) right e = inr (turn g l left right e).less

    stay : (g : Graph) (left right : List ℕ) → length left ≡ 0 → length (even_out_next D g left right).left ≡ 0
    unfolding even_out_next
    stay g [] right z = refl
    stay g (l ∷ left) right z = absurd (omega arith)

    -- with every left party passed, all parties are full
    finish :
        (g : Graph) (left right : List ℕ) → Evens N side D start (evening g left right) → length left ≡ 0 →
        Ran (Evened N side D start) (evened (evening g left right) left)
    finish g (l ∷ left) right e z = absurd (omega arith)
    finish g [] right e z =
        record {
          regular = record { even = even; across = e.sound.across; apart = e.sound.apart };
          positive = e.sound.positive;
          kept = e.kept;
        }
      where
        even : (v : ℕ) → v < N → degree v g ≡ D
        even v h =
            elim (ℕ_discrete (count v right₀) 0) [
              | yes c ↦
                  all_counted (λ u. degree u g ≡ D) v left₀ (lefts_full g [] right e refl) (omega (arith, part.once v h))
              | no c ↦ all_counted (λ u. degree u g ≡ D) v right₀ (left_done g [] right e refl) (omega arith)
            ]

-- Evening out gives every party degree D, keeps the graph bipartite with its pairs apart, and takes no copy away.
pub even_out_law :
    (N : ℕ) (side : ℕ → ℕ) (D : ℕ) (g : Graph) (left right : List ℕ) → Partition N side left right → Sound N side g →
    ((v : ℕ) → v < N → degree v g ≤ D) → Ran (Evened N side D g) (even_out D g left right)
unfolding even_out
even_out_law N side D g left right part sound most =
    finish N side D g left right part end.graph end.left end.right
    (iterate_keeps {Inv = Inv} (even_out_step D) kept n (evening g left right) first)
    (iterate_ends {Inv = Inv} {Done = Done} (even_out_step D) (steps D) kept
    (λ s. lower N side D g left right part s.graph s.left s.right)
    (λ s i. stay N side D g left right part s.graph s.left s.right) n (evening g left right) enough first)
  where
    Inv : Evening → Type 0
    Inv s = Evens N side D g s

    Done : Evening → Type 0
    Done s = length s.left ≡ 0

    n : ℕ
    n = 2 * (length left + length right)

    end : Evening
    end = iterate n (even_out_step D) (evening g left right)

    kept : (s : Evening) → Inv s → Inv (even_out_step D s)
    kept s = keep N side D g left right part s.graph s.left s.right

    first : Inv (evening g left right)
    first =
        record {
          sound = sound;
          most = most;
          kept = λ u v. omega arith;
          full = λ v h cl cr. absurd (omega (arith, part.once v h));
          lefts = part.left_side;
          rights = part.right_side;
        }

    enough : steps D (evening g left right) ≤ n
    enough = steps_le D (evening g left right)
