-- A step of evening out that fills two short parties: the pair that gets the copies is the one between them, or new, and the words
-- are those of the next state. Assumes nothing.
use Prim.Native.Nat.{ℕ, ◌+◌, ◌*◌, ◌-◌, ◌/◌, ◌≤◌, ◌<◌, min}
use mathlib.Core.Path.{◌≡◌, sym, ◌∙◌, ap}
use mathlib.Core.List.{List, ◌∷◌}
use mathlib.Core.Logic.{◌⊎◌, inl, inr, ⊎_elim}
use native.Mathlib.Omega.{arith}
use native.Mathlib.Decide.{ℕ_discrete, dec_lt, dec_le}
use lib.ListN.{length, drop, get_or-eq_default}
use Rattle.words.specs.Words.{word, region}
use Rattle.words.specs.Frames.{ChangesThree}
use Rattle.words.proofs.Ranges.{three_trans, three_within, three_low}
use Rattle.multigraph.specs.Multigraph.{Graph, add_edge}
use Rattle.multigraph.specs.Regular.{degree}
use Rattle.multigraph.specs.Places.{size, HasEnds}
use Rattle.multigraph.proofs.Ends.{same_ends_sym, same_ends_trans}
use Rattle.regular_graph.specs.Evening.{Evening, evening, even_out_step}
use Rattle.evening.specs.Contract.{CanEven}
use Rattle.list_pairs.specs.Contract.{first_of, second_of}
use Rattle.list_pairs.specs.Adding.{plain_graph, ItsNumber, PairFits, PairAdded}
use Rattle.list_pairs.specs.Rows.{rows_from, row, RowsFilled}
use Rattle.list_pairs.specs.Ends.{Joins}
use Rattle.evening.specs.Filling.{shortfall, Filled}
use Rattle.regular_graph.proofs.StepLaws.{added_left, added_right, added_else, next_fill}
use Rattle.multigraph.proofs.TableLaws.{TableSame, first_same, second_same, has_ends_new, has_ends_old}
use Rattle.list_pairs.proofs.PlainLaws.{newest, GraphKept, graph_kept, plain_kept, graph_kept_by}
use Rattle.list_pairs.proofs.RepsLaws.{half_of}
use Rattle.evening.proofs.FillingWords.{Raised, raised}
use Rattle.evening.proofs.StageWords.{Stage, Known, known}
use Rattle.list_pairs.specs.declared.Bases.{Bases}

module _ (list : List ℕ) (d n : ℕ) (at : Bases) (u : ℕ) (first : List ℕ) (h : CanEven list d n at u first) (s₁ : List ℕ)
    (x : RowsFilled list (rows_from (n + n) d u) (length list) first s₁) (E : Evening) (i j : ℕ) (s : List ℕ)
    (st : Stage list d n at u first h s₁ x E i j s) (a : i < n)
    (ne_l : word s (u + word s (at.left + i)) ≡ d → ⊥) (b : j < n) (ne_r : word s (u + word s (at.right + j)) ≡ d → ⊥) (t : List ℕ)
    (F : Filled list at (rows_from (n + n) d u) (word s (at.left + i)) (word s (at.right + j)) s t) where
  abbrev lefts : List ℕ
  lefts = region first at.left n

  abbrev rights : List ℕ
  rights = region first at.right n

  abbrev l : ℕ
  l = word s (at.left + i)

  abbrev r : ℕ
  r = word s (at.right + j)

  abbrev more : ℕ
  more = shortfall (rows_from (n + n) d u) l r s

  abbrev G : Graph
  G = E.graph

  K : Known list d n at u first h s₁ x E i j s st
  K = known list d n at u first h s₁ x E i j s st

  l_below : l < n + n
  l_below = (K.left_side a).0

  r_below : r < n + n
  r_below = (K.right_side b).0

  l_short : word s (u + l) < d
  l_short = omega (arith, K.left_degree a, st.evens.most l l_below, ne_l)

  r_short : word s (u + r) < d
  r_short = omega (arith, K.right_degree b, st.evens.most r r_below, ne_r)

  apart : l ≡ r → ⊥
  apart q = omega (arith, (K.left_side a).1, (K.right_side b).1, ap h.side q)

  -- an appointment with these ends is in the list
  joined_inside : (k : ℕ) → Joins list k l r → k < length list / 2
  joined_inside k q =
      elim (dec_lt k (length list / 2)) [
        | yes y ↦ y
        | no y ↦
            let x0 : word list (2 * k) ≡ 0 = get_or-eq_default list 0 (omega (arith, h.even)) in
            let y0 : word list (2 * k + 1) ≡ 0 = get_or-eq_default list 0 (omega (arith, h.even)) in
            absurd (apart (⊎_elim (λ z. omega (arith, z.0, z.1)) (λ z. omega (arith, z.0, z.1)) q))
      ]

  -- and its pair has them
  pair_there : (k : ℕ) → Joins list k l r → (word s (at.apair + k) < size s at.g) × HasEnds s at.ends (word s (at.apair + k)) l r
  pair_there k q =
      let inside : k < length list / 2 = joined_inside k q in
      let below : word first (at.apair + k) < size first at.g = h.paired.number_of k inside in
      let own : HasEnds first at.ends (word first (at.apair + k)) l r = same_ends_trans q (h.paired.ends_of k inside) in
      rw (K.pair_of k inside) (
        omega (arith, st.grown),
        has_ends_new at.ends (size first at.g) first s st.table (word first (at.apair + k)) l r below own,
      )

  -- a pair of the list with these ends has an appointment among the half-edges of l
  old_joined :
      (e : ℕ) → e < size first at.g → HasEnds s at.ends e l r →
      (k : ℕ) × (k < d) × Joins list (word s (u + (n + n) + d * l + k) / 2) l r
  old_joined e below q =
      let own : HasEnds first at.ends e l r = has_ends_old at.ends (size first at.g) first s st.table e l r below q in
      let k = h.paired.every e below in
      let its : HasEnds first at.ends e (first_of list k.0) (second_of list k.0) =
      rw k.2 at (h.paired.ends_of k.0 k.1) in
      let joins : Joins list k.0 l r = same_ends_trans own (same_ends_sym its) in
      let f = half_of list k.0 l r joins in
      let f_below : f.0 < length list = omega (arith, f.1.of, k.1, h.even) in
      let place = x.filled.there f.0 f_below in
      let below_end : place.0 < word s₁ (u + l) = rw f.1.own at place.1 in
      let place_is : row s₁ (rows_from (n + n) d u) l place.0 ≡ f.0 = rw f.1.own at place.2 in
      let is : word s (u + (n + n) + d * l + place.0) ≡ f.0 = rw (K.row_of l place.0) place_is in
      (place.0, omega (arith, below_end, K.row_end l l_below), rw (is, f.1.of) joins)

  -- a pair that was added since has a full end
  not_new : (e : ℕ) → size first at.g ≤ e → e < size s at.g → HasEnds s at.ends e l r → ⊥
  not_new e low below q =
      ⊎_elim
      (λ y. ⊎_elim (λ z. ne_l (rw z.0 at y)) (λ z. ne_r (rw z.0 at y)) q)
      (λ y. ⊎_elim (λ z. ne_r (rw z.1 at y)) (λ z. ne_l (rw z.1 at y)) q) (st.new_full e low below)

  number_cases : ItsNumber at.ends at.g F.number l r s
  number_cases =
      ⊎_elim
      (λ y. inl (rw y.3 (pair_there (word s (u + (n + n) + d * l + y.0) / 2) y.2)))
      (λ y.
      inr (
        y.1,
        λ e below q.
            elim (dec_lt e (size first at.g)) [
              | yes old ↦ let k = old_joined e old q in y.0 k.0 k.1 k.2
              | no new ↦ not_new e (omega arith) below q
            ],
      ))
      F.found

  room : size s at.g + 1 ≤ n * d + n
  room = omega (arith, K.few)

  fits : PairFits at.ends at.g F.number l r more s
  fits =
      record {
        plain = st.plain;
        its = number_cases;
        after_ends = omega (arith, room, K.low);
        inside = omega (arith, room, h.after_graph, h.room, K.len);
        small = omega (arith, room, h.after_graph, h.low);
        left_small = omega (arith, l_below, h.low);
        right_small = omega (arith, r_below, h.low);
        light = λ e y. omega (arith, K.copies e y, h.few);
        few = omega (arith, h.few);
      }

  A : PairAdded at.ends at.g F.number l r more s F.added
  A = F.adds fits

  R : Raised u l r more s F.added t
  R =
      raised u l r more s F.added t F.degrees apart (omega (arith, l_below, h.room, A.changes.len, K.len))
      (omega (arith, r_below, h.room, A.changes.len, K.len)) (omega (arith, l_short, h.few)) (omega (arith, r_short, h.few))

  t_low : (k : ℕ) → k < u → word t k ≡ word F.added k
  t_low k y = R.elsewhere k (λ q. omega arith) (λ q. omega arith)

  added_high : (k : ℕ) → u ≤ k → word F.added k ≡ word s k
  added_high k y = A.changes.over k (omega (arith, room, h.after_graph))

  kept_t : GraphKept at.ends at.g F.added t
  kept_t =
      graph_kept_by at.ends at.g (n * d + n) F.added t (omega (arith, room, A.by_one)) K.low
      (λ k y z. t_low k (omega (arith, K.low, h.after_graph))) (λ k y z. t_low k (omega (arith, h.after_graph)))

  abbrev bigger : Graph
  bigger = add_edge G l r (min (d - degree l G) (d - degree r G)) 0

  more_is : more ≡ min (d - degree l G) (d - degree r G)
  more_is = rw (K.left_degree a, K.right_degree b)

  step_is : even_out_step d E ≡ evening bigger (l ∷ drop (i + 1) lefts) (r ∷ drop (j + 1) rights)
  step_is =
      rw (K.lefts_are a, K.rights_are b)
      (next_fill d G l (drop (i + 1) lefts) r (drop (j + 1) rights) (λ q. ne_l (K.left_degree a ∙ q))
      (λ q. ne_r (K.right_degree b ∙ q)))

  graph_is : (even_out_step d E).graph ≡ bigger
  graph_is = ap (λ (z : Evening). z.graph) step_is

  graph' : plain_graph t at.ends at.g ≡ bigger
  graph' = graph_kept at.ends at.g F.added t kept_t ∙ A.graph ∙ rw (st.graph, more_is)

  degrees' : (v : ℕ) → v < n + n → word t (u + v) ≡ degree v bigger
  degrees' v y =
      elim (ℕ_discrete v l) [
        | yes q ↦
            rw q
            (omega (arith, R.left, K.left_degree a, more_is, added_left G l r (min (d - degree l G) (d - degree r G)) apart))
        | no q ↦
            elim (ℕ_discrete v r) [
              | yes p ↦
                  rw p
                  (omega (arith, R.right, K.right_degree b, more_is, added_right G l r (min (d - degree l G) (d - degree r G)) apart))
              | no p ↦
                  R.elsewhere (u + v) (λ z. q (omega arith)) (λ z. p (omega arith)) ∙ added_high (u + v) (omega arith)
                  ∙ st.degrees v y ∙ sym (added_else G l r (min (d - degree l G) (d - degree r G)) apart v q p)
            ]
      ]

  -- a full party is neither l nor r
  full_stays : (v : ℕ) → word s (u + v) ≡ d → word t (u + v) ≡ d
  full_stays v y =
      R.elsewhere (u + v) (λ z. ne_l (rw (same_party v l z) at y)) (λ z. ne_r (rw (same_party v r z) at y))
      ∙ added_high (u + v) (omega arith) ∙ y
    where
      same_party : (v w : ℕ) → u + v ≡ u + w → v ≡ w
      same_party v w z = omega arith

  one_full : (word t (u + l) ≡ d) ⊎ (word t (u + r) ≡ d)
  one_full =
      elim (dec_le (word s (u + l)) (word s (u + r))) [
        | yes y ↦ inr (omega (arith, R.right, l_short, r_short))
        | no y ↦ inl (omega (arith, R.left, l_short, r_short))
      ]

  added_table : TableSame at.ends (size s at.g) s t
  added_table k lo hi = t_low k (omega (arith, room, K.low, h.after_graph)) ∙ A.changes.under k (omega arith)

  last_full :
      (e : ℕ) → HasEnds t at.ends e l r →
      (word t (u + word t (at.ends + 2 * e)) ≡ d) ⊎ (word t (u + word t (at.ends + 2 * e + 1)) ≡ d)
  last_full e q =
      ⊎_elim
      (λ z. rw (z.0, z.1) one_full)
      (λ z. rw (z.0, z.1) (⊎_elim (λ y. inr y) (λ y. inl y) one_full)) q

  new_full' :
      (e : ℕ) → size first at.g ≤ e → e < size t at.g →
      (word t (u + word t (at.ends + 2 * e)) ≡ d) ⊎ (word t (u + word t (at.ends + 2 * e + 1)) ≡ d)
  new_full' e low below =
      elim (dec_lt e (size s at.g)) [
        | yes y ↦
            rw (first_same at.ends (size s at.g) s t added_table e y, second_same at.ends (size s at.g) s t added_table e y)
            (⊎_elim (λ z. inl (full_stays (word s (at.ends + 2 * e)) z)) (λ z. inr (full_stays (word s (at.ends + 2 * e + 1)) z))
            (st.new_full e low y))
        | no y ↦
            let its : F.number ≡ e =
            newest at.ends at.g F.number l r more s fits F.added A e (omega arith) (omega (arith, kept_t.count)) in
            last_full e (rw its at (has_ends_new at.ends (size F.added at.g) F.added t kept_t.table
            F.number l r A.its_number A.its_ends))
      ]

  changes' : (mark : ℕ) → ChangesThree at.ends (2 * (n * d + n)) at.g (2 + 2 * (n * d + n)) u (n + n) mark s t
  changes' mark =
      three_trans
      (three_low at.ends (2 * (n * d + n)) at.g (2 + 2 * (n * d + n)) u (n + n) mark (omega arith) (omega (arith, room))
      K.low (omega arith)
      (omega (arith, room)) (omega (arith, h.after_graph)) A.changes)
      (three_within at.ends (2 * (n * d + n)) at.g (2 + 2 * (n * d + n)) u (n + n) mark F.added t K.low
      (omega (arith, h.after_graph))
      R.len
      (λ k m y z w. R.elsewhere k (λ q. w (omega arith) (omega (arith, l_below))) (λ q. w (omega arith) (omega (arith, r_below)))))

  -- the words after the copies are added are those of the next state
  pub stage_fill : Stage list d n at u first h s₁ x (even_out_step d E) i j t
  stage_fill =
      record {
        left_rest = ap (λ (z : Evening). z.left) step_is ∙ sym (K.lefts_are a) ∙ st.left_rest;
        right_rest = ap (λ (z : Evening). z.right) step_is ∙ sym (K.rights_are b) ∙ st.right_rest;
        graph = graph' ∙ sym graph_is;
        plain = plain_kept at.ends at.g F.added t kept_t A.plain;
        degrees = λ v y. degrees' v y ∙ ap (degree v) (sym graph_is);
        evens = K.evens;
        grown = omega (arith, st.grown, A.grown, kept_t.count);
        new_full = new_full';
        table = λ k lo hi. added_table k lo (omega (arith, st.grown)) ∙ st.table k lo hi;
        changes = λ mark. three_trans (st.changes mark) (changes' mark);
      }
