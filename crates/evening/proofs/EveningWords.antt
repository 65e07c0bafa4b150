-- Evening out over words is `even_out`: each step over words is a step of the definition. Assumes nothing.
use Prim.Native.Nat.{ℕ, ◌+◌, ◌*◌, ◌/◌, ◌<◌}
use mathlib.Core.Path.{◌≡◌, refl, ◌∙◌, ap}
use mathlib.Core.List.{List, [], ◌∷◌}
use native.Mathlib.Omega.{arith}
use native.Mathlib.Numerals.{add-one}
use lib.ListN.{length}
use Rattle.words.specs.Basics.{iterate, Ran, ran}
use Rattle.words.specs.Words.{word, region}
use Rattle.words.proofs.Sums.{all_map}
use Rattle.words.proofs.Runs.{iterate_suc_out}
use Rattle.appointments.specs.Appointments.{appts}
use Rattle.appointments.proofs.Flat.{load_count}
use Rattle.multigraph.specs.Multigraph.{Graph}
use Rattle.multigraph.specs.Places.{size}
use Rattle.regular_graph.specs.Evening.{Evening, evening, even_out_step, evened, even_out}
use Rattle.list_pairs.specs.Contract.{first_of, second_of}
use Rattle.evening.specs.Contract.{CanEven, EvenedOut}
use Rattle.list_pairs.specs.Adding.{plain_graph, HasPlace}
use Rattle.list_pairs.specs.Rows.{rows_from, RowsFit, RowsFilled}
use Rattle.evening.specs.Filling.{StepTaken, all_passed, left_full, none_right, right_full, both_short}
use Rattle.words.proofs.Regions.{region_length}
use Rattle.regular_graph.proofs.RegularLaws.{Evened, even_out_law}
use Rattle.multigraph.proofs.TableLaws.{has_ends_new}
use Rattle.list_pairs.proofs.PlainLaws.{plain_is}
use Rattle.evening.proofs.StageWords.{start_sound, start_most, Stage, stage_none, known, stage_done, stage_left, stage_none_right, stage_right}
use Rattle.evening.proofs.FillStage.{stage_fill}
use Rattle.list_pairs.proofs.Listed.{listed_half}
use Rattle.list_pairs.specs.declared.Bases.{Bases}

-- ── one step ──

-- what every step over words does is a step of the definition
stage_more :
    (list : List ℕ) (d n : ℕ) (at : Bases) (u : ℕ) (first : List ℕ) (h : CanEven list d n at u first)
    (s₁ : List ℕ) (x : RowsFilled list (rows_from (n + n) d u) (length list) first s₁) (E : Evening) (i j : ℕ) (s : List ℕ)
    (st : Stage list d n at u first h s₁ x E i j s) (t : List ℕ) (i' j' : ℕ) →
    StepTaken list at (rows_from (n + n) d u) n s t i j i' j' →
    Stage list d n at u first h s₁ x (even_out_step d E) i' j' t
stage_more list d n at u first h s₁ x E i j s st t i' j' (all_passed a es ei ej) =
    rw (es, ei, ej) (stage_done list d n at u first h s₁ x E i j s st a)
stage_more list d n at u first h s₁ x E i j s st t i' j' (left_full a e es ei ej) =
    rw (es, ei, ej) (stage_left list d n at u first h s₁ x E i j s st a e)
stage_more list d n at u first h s₁ x E i j s st t i' j' (none_right a e b es ei ej) =
    rw (es, ei, ej) (stage_none_right list d n at u first h s₁ x E i j s st a e b)
stage_more list d n at u first h s₁ x E i j s st t i' j' (right_full a e b f es ei ej) =
    rw (es, ei, ej) (stage_right list d n at u first h s₁ x E i j s st a e b f)
stage_more list d n at u first h s₁ x E i j s st t i' j' (both_short a e b f F ei ej) =
    rw (ei, ej) (stage_fill list d n at u first h s₁ x E i j s st a e b f t F)

-- ── all steps ──

evened_ran : (P : Graph → Type 0) (E : Evening) (left : List ℕ) → Ran P (evened E left) → evened E left ≡ ran E.graph
evened_ran P E [] h = refl
evened_ran P E (l ∷ left) h = absurd h

module _ (list : List ℕ) (d n : ℕ) (at : Bases) (u : ℕ) (first : List ℕ) (h : CanEven list d n at u first) where
  -- there is room for the rows of all parties
  pub rows_fit_even : RowsFit list (rows_from (n + n) d u) first
  rows_fit_even =
      record {
        ends =
            listed_half list (n + n) h.even
            (all_map (λ z c. (c.first_below, c.second_below)) (appts list) h.crosses);
        loads = λ v a. omega (arith, h.loads v a, load_count v list h.even);
        after = omega arith;
        inside = h.room;
        small = h.low;
        short = h.short;
      }

  -- the graph and the sides at the start
  abbrev start : Graph
  start = plain_graph first at.ends at.g

  abbrev lefts : List ℕ
  lefts = region first at.left n

  abbrev rights : List ℕ
  rights = region first at.right n

  -- the state after k steps
  abbrev pub after : ℕ → Evening
  after k = iterate k (even_out_step d) (evening start lefts rights)

  after_more : (k : ℕ) → after (k + 1) ≡ even_out_step d (after k)
  after_more k = rw add-one (iterate_suc_out k (even_out_step d) (evening start lefts rights))

  -- the steps suffice
  enough : even_out d start lefts rights ≡ ran (after (2 * (n + n))).graph
  unfolding even_out
  enough =
      let steps : ℕ = 2 * (length lefts + length rights) in
      let ran_law : Ran (Evened (n + n) h.side d start) (even_out d start lefts rights) =
      even_out_law (n + n) h.side d start lefts rights h.partition (start_sound list d n at u first h)
      (start_most list d n at u first h) in
      let e : after steps ≡ after (2 * (n + n)) = rw (region_length first at.left n, region_length first at.right n) in
      evened_ran (Evened (n + n) h.side d start) (after steps) (after steps).left ran_law ∙ ap (λ (E : Evening). ran E.graph) e

  module _ (s₁ : List ℕ) (x : RowsFilled list (rows_from (n + n) d u) (length list) first s₁) where
    -- k steps have been taken, i left and j right parties are passed, and the words are s
    abbrev pub At : ℕ → ℕ → ℕ → List ℕ → Type 0
    At k i j s = Stage list d n at u first h s₁ x (after k) i j s

    -- no step has been taken
    pub at_none : At 0 0 0 s₁
    unfolding iterate
    at_none = stage_none list d n at u first h s₁ x

    -- the next pair has a place
    pub at_place : (k i j : ℕ) (s : List ℕ) → At k i j s → 0 < n → HasPlace at.ends at.g s
    at_place k i j s st some =
        let K = known list d n at u first h s₁ x (after k) i j s st in
        record {
          row = omega (arith, K.few, K.low, K.len, h.after_graph, h.room);
          entry = omega (arith, K.few, K.len, h.after_graph, h.room);
        }

    -- one step more
    pub at_more :
        (k i j i' j' : ℕ) (s t : List ℕ) → At k i j s → StepTaken list at (rows_from (n + n) d u) n s t i j i' j' →
        At (k + 1) i' j' t
    at_more k i j i' j' s t st step =
        rw (after_more k) (stage_more list d n at u first h s₁ x (after k) i j s st t i' j' step)

    -- after all steps the graph is evened out
    pub evened_out :
        (i j : ℕ) (t : List ℕ) → At (2 * (n + n)) i j t →
        EvenedOut list d n at u first u t
    evened_out i j t st =
        record {
          graph =
              λ pairs few.
              rw (
                plain_is at.ends pairs at.g first h.paired.plain (omega (arith, st.grown)),
                plain_is at.ends pairs at.g t st.plain few,
                st.graph,
              )
              enough;
          plain = st.plain;
          grown = st.grown;
          few = (known list d n at u first h s₁ x (after (2 * (n + n))) i j t st).few;
          copies = (known list d n at u first h s₁ x (after (2 * (n + n))) i j t st).copies;
          number_of = λ k a. omega (arith, word_same k a, h.paired.number_of k a, st.grown);
          ends_of =
              λ k a.
              let below : word first (at.apair + k) < size first at.g = h.paired.number_of k a in
              rw (word_same k a)
              (has_ends_new at.ends (size first at.g) first t st.table (word first (at.apair + k)) (first_of list k)
              (second_of list k) below (h.paired.ends_of k a));
          mark = refl;
          changes =
              record {
                len = (st.changes 0).len ∙ x.keeps.len;
                under = λ k a b. (st.changes u).under k a b ∙ x.keeps.same k a;
                after_first = λ k a b c. (st.changes u).after_first k a b c ∙ x.keeps.same k a;
                after_second = λ k a b c. (st.changes u).after_second k a b c ∙ x.keeps.same k a;
                after_third = λ k a b. absurd (omega arith);
              };
        }
      where
        word_same : (k : ℕ) → k < length list / 2 → word t (at.apair + k) ≡ word first (at.apair + k)
        word_same = (known list d n at u first h s₁ x (after (2 * (n + n))) i j t st).pair_of
