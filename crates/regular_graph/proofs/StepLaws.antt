-- One step of evening out: it passes a full party, or adds copies between two short ones, which fills one of them. What holds
-- at every step is kept, and the steps still needed go down. Assumes nothing.
use Prim.Native.Nat.{ℕ, ◌+◌, ◌*◌, ◌-◌, ◌≤◌, ◌<◌, min, max}
use mathlib.Core.Path.{◌≡◌, refl, sym, ◌∙◌, ap}
use mathlib.Core.List.{List, [], ◌∷◌}
use mathlib.Core.Logic.{⊎_elim}
use native.Mathlib.Omega.{arith}
use native.Mathlib.Decide.{ℕ_discrete, dec_le}
use borrow.Author.Tests.{eq-eqb, ne_eqb}
use lib.ListN.{length}
use Rattle.words.specs.Basics.{is, count, All}
use Rattle.words.proofs.Sums.{is_same, is_ne, is_eq, is_le, is_cases}
use Rattle.multigraph.specs.Multigraph.{Graph, add_edge}
use Rattle.multigraph.specs.Regular.{degree, between, copies_between}
use Rattle.multigraph.proofs.Ends.{between_symmetric}
use Rattle.multigraph.proofs.Adding.{weigh_add_edge, across_add_edge, positive_add_edge, apart_add_edge, degree_added}
use Rattle.multigraph.proofs.Matchings.{Sound}
use Rattle.regular_graph.specs.Evening.{Evening, evening, even_out_pair, even_out_next}

-- What holds at every step: D bounds all degrees, no copy of the graph at the start is gone, the parties that have been
-- passed are full, and those still to be filled are on their sides.
pub record Evens (N : ℕ) (side : ℕ → ℕ) (D : ℕ) (start : Graph) (s : Evening) : Type 0 where
  pub sound : Sound N side s.graph
  pub most : (v : ℕ) → v < N → degree v s.graph ≤ D
  pub kept : (u v : ℕ) → copies_between u v start ≤ copies_between u v s.graph
  pub full : (v : ℕ) → v < N → count v s.left ≡ 0 → count v s.right ≡ 0 → degree v s.graph ≡ D
  pub lefts : All (λ (v : ℕ). (v < N) × (side v ≡ 0)) s.left
  pub rights : All (λ (v : ℕ). (v < N) × (side v ≡ 1)) s.right

-- ── steps that suffice ──

-- 1 where the first party of a list is full
unfoldable pub head_full : ℕ → Graph → List ℕ → ℕ
head_full D g [] = 0
head_full D g (v ∷ vs) = is (degree v g) D

-- two steps for each party, less one where the next step passes a full one
unfoldable pub steps : ℕ → Evening → ℕ
steps D s =
    2 * (length s.left + length s.right)
    - max (head_full D s.graph s.left) (head_full D s.graph s.right)

-- two steps for each party suffice
pub steps_le : (D : ℕ) (s : Evening) → steps D s ≤ 2 * (length s.left + length s.right)
unfolding steps
steps_le D s = omega arith

head_full_le : (D : ℕ) (g : Graph) (vs : List ℕ) → head_full D g vs ≤ 1
unfolding head_full
head_full_le D g [] = omega arith
head_full_le D g (v ∷ vs) = is_le (degree v g) D

-- passing a party lowers the steps, and so does filling one of two short ones
pub pass_left_less :
    (D : ℕ) (g : Graph) (l : ℕ) (left right : List ℕ) → steps D (evening g left right) < steps D (evening g (l ∷ left) right)
unfolding steps
pass_left_less D g l left right = omega (arith, head_full_le D g (l ∷ left), head_full_le D g right)

-- a party passed on the right
pub pass_right_less :
    (D : ℕ) (g : Graph) (r : ℕ) (left right : List ℕ) → steps D (evening g left right) < steps D (evening g left (r ∷ right))
unfolding steps
pass_right_less D g r left right = omega (arith, head_full_le D g left, head_full_le D g (r ∷ right))

-- two short parties, one of which is full then
pub fill_less :
    (D : ℕ) (g h : Graph) (l r : ℕ) (left right : List ℕ) → degree l g < D → degree r g < D →
    1 ≤ max (is (degree l h) D) (is (degree r h) D) →
    steps D (evening h (l ∷ left) (r ∷ right)) < steps D (evening g (l ∷ left) (r ∷ right))
unfolding steps head_full
fill_less D g h l r left right a b full =
    rw (is_ne {u = degree l g} {v = D} (λ e. omega arith), is_ne {u = degree r g} {v = D} (λ e. omega arith))
    (omega (arith, is_le (degree l h) D, is_le (degree r h) D))

-- ── one step ──

-- a party that is not among those still to be filled is full, or it is the one that has just been found full
passed :
    (D : ℕ) (g : Graph) (w : ℕ) (ws : List ℕ) → degree w g ≡ D → (v : ℕ) → (count v (w ∷ ws) ≡ 0 → degree v g ≡ D) →
    count v ws ≡ 0 → degree v g ≡ D
unfolding count
passed D g w ws d v full c =
    ⊎_elim (λ i. ap (λ (u : ℕ). degree u g) i.0 ∙ d) (λ i. full (omega (arith, i.1))) (is_cases v w)

-- the smaller shortfall of two short parties is not 0, and fills one of them
shortfall_pos : (D a b : ℕ) → a < D → b < D → 0 < min (D - a) (D - b)
shortfall_pos D a b h k = omega arith

shortfall_fills : (D a b : ℕ) → a < D → b < D → 1 ≤ max (is (a + min (D - a) (D - b)) D) (is (b + min (D - a) (D - b)) D)
shortfall_fills D a b h k =
    elim (dec_le a b) [
      | yes le ↦ let e : b + min (D - a) (D - b) ≡ D = omega arith in omega (arith, is_eq e)
      | no n ↦ let e : a + min (D - a) (D - b) ≡ D = omega arith in omega (arith, is_eq e)
    ]

module _ (g : Graph) (l r m : ℕ) (apart : l ≡ r → ⊥) where
  -- the degrees after m copies more between l and r: that of l
  pub added_left : degree l (add_edge g l r m 0) ≡ degree l g + m
  added_left = degree_added l g l r m 0 ∙ rw (is_same l, is_ne {u = l} {v = r} apart) (omega arith)

  -- that of r
  pub added_right : degree r (add_edge g l r m 0) ≡ degree r g + m
  added_right = degree_added r g l r m 0 ∙ rw (is_same r, is_ne {u = r} {v = l} (λ e. apart (sym e))) (omega arith)

  -- that of any other party
  pub added_else : (v : ℕ) → (v ≡ l → ⊥) → (v ≡ r → ⊥) → degree v (add_edge g l r m 0) ≡ degree v g
  added_else v a b = degree_added v g l r m 0 ∙ rw (is_ne {u = v} {v = l} a, is_ne {u = v} {v = r} b) (omega arith)

module _ (N : ℕ) (side : ℕ → ℕ) (D : ℕ) (start : Graph) where
  -- fewer parties are still to be filled, where those that are not are full
  fewer :
      (g : Graph) (left₀ right₀ left right : List ℕ) → Evens N side D start (evening g left₀ right₀) →
      ((v : ℕ) → v < N → count v left ≡ 0 → count v right ≡ 0 → degree v g ≡ D) → All (λ v. (v < N) × (side v ≡ 0)) left →
      All (λ v. (v < N) × (side v ≡ 1)) right → Evens N side D start (evening g left right)
  fewer g left₀ right₀ left right e full lefts rights =
      record { sound = e.sound; most = e.most; kept = e.kept; full = full; lefts = lefts; rights = rights }

  -- a full party is passed, on the left or on the right
  pub pass_left :
      (g : Graph) (l : ℕ) (left right : List ℕ) → Evens N side D start (evening g (l ∷ left) right) → degree l g ≡ D →
      Evens N side D start (evening g left right)
  pass_left g l left right e d =
      fewer g (l ∷ left) right left right e (λ v h cl cr. passed D g l left d v (λ c. e.full v h c cr) cl) e.lefts.1 e.rights

  -- the same on the right
  pub pass_right :
      (g : Graph) (r : ℕ) (left right : List ℕ) → Evens N side D start (evening g left (r ∷ right)) → degree r g ≡ D →
      Evens N side D start (evening g left right)
  pass_right g r left right e d =
      fewer g left (r ∷ right) left right e (λ v h cl cr. passed D g r right d v (λ c. e.full v h cl c) cr) e.lefts e.rights.1

  -- the smaller shortfall is added between two short parties
  module _
      (g : Graph) (l r : ℕ) (left right : List ℕ) (e : Evens N side D start (evening g (l ∷ left) (r ∷ right)))
      (short_l : degree l g < D) (short_r : degree r g < D) where
    -- the smaller shortfall
    abbrev pub m : ℕ
    m = min (D - degree l g) (D - degree r g)

    -- the graph with that many copies more
    abbrev pub g' : Graph
    g' = add_edge g l r m 0

    ends_apart : l ≡ r → ⊥
    ends_apart q = omega (arith, e.lefts.0.1, e.rights.0.1, ap side q)

    some : 0 < m
    some = shortfall_pos D (degree l g) (degree r g) short_l short_r

    added_most : (v : ℕ) → v < N → degree v g' ≤ D
    added_most v h =
        elim (ℕ_discrete v l) [
          | yes q ↦ rw q (omega (arith, added_left g l r m ends_apart, e.most l e.lefts.0.0))
          | no a ↦
              elim (ℕ_discrete v r) [
                | yes q ↦ rw q (omega (arith, added_right g l r m ends_apart, e.most r e.rights.0.0))
                | no b ↦ omega (arith, added_else g l r m ends_apart v a b, e.most v h)
              ]
        ]

    added_kept : (u v : ℕ) → copies_between u v start ≤ copies_between u v g'
    added_kept u v = omega (arith, weigh_add_edge (between u v) (between_symmetric u v) g l r m 0, e.kept u v)

    added_full : (v : ℕ) → v < N → count v (l ∷ left) ≡ 0 → count v (r ∷ right) ≡ 0 → degree v g' ≡ D
    unfolding count
    added_full v h cl cr =
        let a : v ≡ l → ⊥ = λ q. omega (arith, is_eq q) in
        let b : v ≡ r → ⊥ = λ q. omega (arith, is_eq q) in
        added_else g l r m ends_apart v a b ∙ e.full v h cl cr

    -- what holds is kept
    pub fill : Evens N side D start (evening g' (l ∷ left) (r ∷ right))
    fill =
        record {
          sound =
              record {
                across =
                    across_add_edge N side g l r m 0 e.sound.across
                    (record {
                      first_below = e.lefts.0.0;
                      second_below = e.rights.0.0;
                      sides = omega (arith, e.lefts.0.1, e.rights.0.1);
                    });
                apart = apart_add_edge g l r m 0 e.sound.apart;
                positive = positive_add_edge g l r m 0 e.sound.positive some;
              };
          most = added_most;
          kept = added_kept;
          full = added_full;
          lefts = e.lefts;
          rights = e.rights;
        }

    -- then one of the two is full
    pub filled : 1 ≤ max (is (degree l g') D) (is (degree r g') D)
    filled =
        rw (added_left g l r m ends_apart, added_right g l r m ends_apart)
        (shortfall_fills D (degree l g) (degree r g) short_l short_r)

-- ── the five cases of a step ──

-- all left parties are passed
pub next_done : (D : ℕ) (g : Graph) (right : List ℕ) → even_out_next D g [] right ≡ evening g [] right
unfolding even_out_next
next_done D g right = refl

-- the next left party is full
pub next_left :
    (D : ℕ) (g : Graph) (l : ℕ) (left right : List ℕ) → degree l g ≡ D → even_out_next D g (l ∷ left) right ≡ evening g left right
unfolding even_out_next
next_left D g l left right e = rw (eq-eqb (degree l g) D e)

-- it is short, and there is no right party left
pub next_none :
    (D : ℕ) (g : Graph) (l : ℕ) (left : List ℕ) → (degree l g ≡ D → ⊥) → even_out_next D g (l ∷ left) [] ≡ evening g (l ∷ left) []
unfolding even_out_next even_out_pair
next_none D g l left n = rw (ne_eqb (degree l g) D n)

-- the next right party is full
pub next_right :
    (D : ℕ) (g : Graph) (l : ℕ) (left : List ℕ) (r : ℕ) (right : List ℕ) → (degree l g ≡ D → ⊥) → degree r g ≡ D →
    even_out_next D g (l ∷ left) (r ∷ right) ≡ evening g (l ∷ left) right
unfolding even_out_next even_out_pair
next_right D g l left r right n e = rw (ne_eqb (degree l g) D n, eq-eqb (degree r g) D e)

-- both are short
pub next_fill :
    (D : ℕ) (g : Graph) (l : ℕ) (left : List ℕ) (r : ℕ) (right : List ℕ) → (degree l g ≡ D → ⊥) → (degree r g ≡ D → ⊥) →
    even_out_next D g (l ∷ left) (r ∷ right)
    ≡ evening (add_edge g l r (min (D - degree l g) (D - degree r g)) 0) (l ∷ left) (r ∷ right)
unfolding even_out_next even_out_pair
next_fill D g l left r right n m = rw (ne_eqb (degree l g) D n, ne_eqb (degree r g) D m)
