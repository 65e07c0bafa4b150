-- The words at a step of evening out, and the steps that change no word: the state of the definition is the one that the words
-- hold. Assumes nothing.
use Prim.Native.Nat.{ℕ, ◌+◌, ◌*◌, ◌/◌, ◌≤◌, ◌<◌}
use mathlib.Core.Path.{◌≡◌, refl, sym, ◌∙◌, ap}
use mathlib.Core.List.{List, [], ◌∷◌}
use mathlib.Core.Logic.{◌⊎◌}
use native.Mathlib.Omega.{arith}
use lib.ListN.{length, drop, drop_of_length-le}
use lib.Seq.{take_all}
use Rattle.words.specs.Basics.{count}
use Rattle.words.specs.Words.{word, region}
use Rattle.words.specs.Frames.{ChangesThree}
use Rattle.words.proofs.Ranges.{three_refl}
use Rattle.appointments.specs.Appointments.{appts, load}
use Rattle.appointments.proofs.Flat.{load_count}
use Rattle.multigraph.specs.Multigraph.{Pair, Graph}
use Rattle.multigraph.specs.Regular.{degree}
use Rattle.multigraph.specs.Places.{size, copies_of}
use Rattle.multigraph.proofs.Matchings.{Sound}
use Rattle.multigraph.proofs.Sizes.{pairs_le, copies_le}
use Rattle.multigraph.proofs.Spans.{span_length, all_span}
use Rattle.regular_graph.specs.Evening.{Evening, evening, add_appointments, even_out_step}
use Rattle.evening.specs.Contract.{CanEven}
use Rattle.list_pairs.specs.Contract.{Plain}
use Rattle.list_pairs.specs.Adding.{plain_pair, plain_graph}
use Rattle.list_pairs.specs.Rows.{rows_from, row, RowsFilled}
use Rattle.words.proofs.Regions.{region_length, region_rest}
use Rattle.regular_graph.proofs.Pairs.{degree_load, sound_list}
use Rattle.regular_graph.proofs.StepLaws.{Evens, next_done, next_left, next_none, next_right}
use Rattle.regular_graph.proofs.RegularLaws.{keep}
use Rattle.multigraph.proofs.TableLaws.{TableSame}
use Rattle.list_pairs.proofs.PlainLaws.{plain_is, GraphKept, graph_kept, plain_kept, graph_kept_by}
use Rattle.list_pairs.specs.declared.Bases.{Bases}

module _ (list : List ℕ) (d n : ℕ) (at : Bases) (u : ℕ) (first : List ℕ) (h : CanEven list d n at u first) where
  abbrev side : ℕ → ℕ
  side = h.side

  abbrev lefts : List ℕ
  lefts = region first at.left n

  abbrev rights : List ℕ
  rights = region first at.right n

  abbrev start : Graph
  start = plain_graph first at.ends at.g

  start_is : start ≡ add_appointments [] (appts list)
  start_is =
      sym (plain_is at.ends (size first at.g) at.g first h.paired.plain (omega arith))
      ∙ h.paired.graph (size first at.g) (omega arith)

  -- the graph at the start is sound
  pub start_sound : Sound (n + n) side start
  start_sound = rw start_is (sound_list (n + n) side (appts list) h.crosses)

  start_degree : (v : ℕ) → degree v start ≡ load v (appts list)
  start_degree v = ap (degree v) start_is ∙ degree_load v (appts list)

  -- and no degree is above d
  pub start_most : (v : ℕ) → v < n + n → degree v start ≤ d
  start_most v a = omega (arith, start_degree v, h.loads v a)

  start_evens : Evens (n + n) side d start (evening start lefts rights)
  start_evens =
      record {
        sound = start_sound;
        most = start_most;
        kept = λ v w. omega arith;
        full = λ v a cl cr. absurd (omega (arith, h.partition.once v a));
        lefts = h.partition.left_side;
        rights = h.partition.right_side;
      }

  module _ (s₁ : List ℕ) (x : RowsFilled list (rows_from (n + n) d u) (length list) first s₁) where
    -- The words s hold the state E: i left and j right parties have been passed, the counters hold the degrees, and each pair added since
    -- the start has a full end.
    pub record Stage (E : Evening) (i j : ℕ) (s : List ℕ) : Type 0 where
      pub left_rest : E.left ≡ drop i lefts
      pub right_rest : E.right ≡ drop j rights
      pub graph : plain_graph s at.ends at.g ≡ E.graph
      pub plain : Plain at.ends at.g s
      pub degrees : (v : ℕ) → v < n + n → word s (u + v) ≡ degree v E.graph
      pub evens : Evens (n + n) side d start E
      pub grown : size first at.g ≤ size s at.g
      pub new_full :
          (e : ℕ) → size first at.g ≤ e → e < size s at.g →
          (word s (u + word s (at.ends + 2 * e)) ≡ d) ⊎ (word s (u + word s (at.ends + 2 * e + 1)) ≡ d)
      pub table : TableSame at.ends (size first at.g) first s
      pub changes : (mark : ℕ) → ChangesThree at.ends (2 * (n * d + n)) at.g (2 + 2 * (n * d + n)) u (n + n) mark s₁ s

    start_few : size first at.g ≤ n * d
    start_few =
        omega (
          arith,
          pairs_le n side d start start_sound.across start_sound.positive start_most,
          span_length (plain_pair first at.ends at.g) 0 (size first at.g),
        )

    -- the table of ends lies below the graph
    pub table_low : at.ends + 2 * (n * d + n) ≤ at.g
    table_low = omega (arith, h.after_ends, h.after_apair)

    kept_1 : GraphKept at.ends at.g first s₁
    kept_1 =
        graph_kept_by at.ends at.g (n * d + n) first s₁ (omega (arith, start_few)) table_low
        (λ i a b. x.keeps.same i (omega (arith, table_low, h.after_graph))) (λ i a b. x.keeps.same i (omega (arith, h.after_graph)))

    -- no step has been taken
    pub stage_none : Stage (evening start lefts rights) 0 0 s₁
    stage_none =
        record {
          left_rest = refl;
          right_rest = refl;
          graph = graph_kept at.ends at.g first s₁ kept_1;
          plain = plain_kept at.ends at.g first s₁ kept_1 h.paired.plain;
          degrees =
              λ v a.
              x.filled.lens v a ∙ ap (count v) (take_all (length list) list (omega arith)) ∙ sym (load_count v list h.even)
              ∙ sym (start_degree v);
          evens = start_evens;
          grown = omega (arith, kept_1.count);
          new_full = λ e a b. absurd (omega (arith, kept_1.count));
          table = kept_1.table;
          changes = λ mark. three_refl at.ends (2 * (n * d + n)) at.g (2 + 2 * (n * d + n)) u (n + n) mark s₁;
        }

    module _ (E : Evening) (i j : ℕ) (s : List ℕ) (st : Stage E i j s) where
      abbrev l : ℕ
      l = word s (at.left + i)

      abbrev r : ℕ
      r = word s (at.right + j)

      -- of the parties at `base`, those from k on begin with the one at k
      rest_cons :
          (base k : ℕ) → base + n ≤ at.ends → k < n →
          drop k (region first base n) ≡ word s (base + k) ∷ drop (k + 1) (region first base n)
      rest_cons base k low a =
          let same : word s (base + k) ≡ word first (base + k) =
          (st.changes (base + k + 1)).under (base + k) (omega arith) (omega arith)
          ∙ x.keeps.same (base + k) (omega (arith, table_low, h.after_graph)) in
          rw same (region_rest first base n k a)

      left_cons : i < n → E.left ≡ l ∷ drop (i + 1) lefts
      left_cons a = st.left_rest ∙ rest_cons at.left i h.after_left a

      right_cons : j < n → E.right ≡ r ∷ drop (j + 1) rights
      right_cons a = st.right_rest ∙ rest_cons at.right j h.after_right a

      l_side : i < n → (l < n + n) × (side l ≡ 0)
      l_side a = (rw (left_cons a) at st.evens.lefts).0

      r_side : j < n → (r < n + n) × (side r ≡ 1)
      r_side a = (rw (right_cons a) at st.evens.rights).0

      -- what is known of the words and of the parties at i and j
      pub record Known : Type 0 where
        pub len : length s ≡ length first
        pub pair_of : (k : ℕ) → k < length list / 2 → word s (at.apair + k) ≡ word first (at.apair + k)
        pub row_of : (v k : ℕ) → row s (rows_from (n + n) d u) v k ≡ row s₁ (rows_from (n + n) d u) v k
        pub row_end : (v : ℕ) → v < n + n → word s₁ (u + v) ≤ d
        pub low : at.ends + 2 * (n * d + n) ≤ at.g
        pub few : size s at.g ≤ n * d
        pub copies : (e : ℕ) → e < size s at.g → copies_of s at.g e ≤ d
        pub evens : Evens (n + n) side d start (even_out_step d E)
        pub lefts_are : i < n → E.left ≡ l ∷ drop (i + 1) lefts
        pub rights_are : j < n → E.right ≡ r ∷ drop (j + 1) rights
        pub left_side : i < n → (l < n + n) × (side l ≡ 0)
        pub right_side : j < n → (r < n + n) × (side r ≡ 1)
        pub left_degree : i < n → word s (u + l) ≡ degree l E.graph
        pub right_degree : j < n → word s (u + r) ≡ degree r E.graph

      -- all that follows from a stage
      pub known : Known
      known =
          record {
            len = (st.changes 0).len ∙ x.keeps.len;
            pair_of =
                λ k a.
                (st.changes (at.apair + k + 1)).after_first (at.apair + k) (omega arith) (omega (arith, h.after_ends))
                (omega (arith, h.after_apair))
                ∙ x.keeps.same (at.apair + k) (omega (arith, h.after_apair, h.after_graph));
            row_of =
                λ v k. (st.changes (u + (n + n) + d * v + k + 1)).after_third (u + (n + n) + d * v + k) (omega arith) (omega arith);
            row_end = λ v a. omega (arith, stage_none.degrees v a, start_most v a);
            low = table_low;
            few =
                omega (
                  arith,
                  pairs_le n side d E.graph st.evens.sound.across st.evens.sound.positive st.evens.most,
                  ap length st.graph,
                  span_length (plain_pair s at.ends at.g) 0 (size s at.g),
                );
            copies =
                λ e a.
                all_span (λ (p : Pair). p.copies ≤ d) (plain_pair s at.ends at.g) 0 (size s at.g)
                (rw st.graph (copies_le (n + n) side d E.graph st.evens.sound.across st.evens.most)) e (omega arith)
                (omega arith);
            evens = keep (n + n) side d start lefts rights h.partition E.graph E.left E.right st.evens;
            lefts_are = left_cons;
            rights_are = right_cons;
            left_side = l_side;
            right_side = r_side;
            left_degree = λ a. st.degrees l (l_side a).0;
            right_degree = λ a. st.degrees r (r_side a).0;
          }

      -- a step that changes no word
      stage_same :
          (i' j' : ℕ) (L R : List ℕ) → even_out_step d E ≡ evening E.graph L R → L ≡ drop i' lefts → R ≡ drop j' rights →
          Stage (even_out_step d E) i' j' s
      stage_same i' j' L R e a b =
          record {
            left_rest = ap (λ (z : Evening). z.left) e ∙ a;
            right_rest = ap (λ (z : Evening). z.right) e ∙ b;
            graph = st.graph ∙ sym (ap (λ (z : Evening). z.graph) e);
            plain = st.plain;
            degrees = λ v k. st.degrees v k ∙ ap (degree v) (sym (ap (λ (z : Evening). z.graph) e));
            evens = known.evens;
            grown = st.grown;
            new_full = st.new_full;
            table = st.table;
            changes = st.changes;
          }

      -- all left parties are passed
      pub stage_done : n ≤ i → Stage (even_out_step d E) i j s
      stage_done a =
          let none : E.left ≡ [] = st.left_rest ∙ drop_of_length-le lefts {i = i} (omega (arith, region_length first at.left n)) in
          stage_same i j [] E.right (rw none (next_done d E.graph E.right)) (sym none ∙ st.left_rest) st.right_rest

      -- the next left party is full
      pub stage_left : i < n → word s (u + l) ≡ d → Stage (even_out_step d E) (i + 1) j s
      stage_left a e =
          stage_same (i + 1) j (drop (i + 1) lefts) E.right
          (rw (left_cons a) (next_left d E.graph l (drop (i + 1) lefts) E.right (sym (known.left_degree a) ∙ e))) refl
          st.right_rest

      -- no right party is left
      pub stage_none_right : i < n → (word s (u + l) ≡ d → ⊥) → n ≤ j → Stage (even_out_step d E) i j s
      stage_none_right a e b =
          let none : E.right ≡ [] =
          st.right_rest ∙ drop_of_length-le rights {i = j} (omega (arith, region_length first at.right n)) in
          stage_same i j (l ∷ drop (i + 1) lefts) []
          (rw (left_cons a, none) (next_none d E.graph l (drop (i + 1) lefts) (λ q. e (known.left_degree a ∙ q))))
          (sym (left_cons a) ∙ st.left_rest) (sym none ∙ st.right_rest)

      -- the next right party is full
      pub stage_right : i < n → (word s (u + l) ≡ d → ⊥) → j < n → word s (u + r) ≡ d → Stage (even_out_step d E) i (j + 1) s
      stage_right a e b f =
          stage_same i (j + 1) (l ∷ drop (i + 1) lefts) (drop (j + 1) rights)
          (rw (left_cons a, right_cons b)
          (next_right d E.graph l (drop (i + 1) lefts) r (drop (j + 1) rights) (λ q. e (known.left_degree a ∙ q))
          (sym (known.right_degree b) ∙ f)))
          (sym (left_cons a) ∙ st.left_rest) refl
