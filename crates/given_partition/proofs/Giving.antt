-- From the evened graph to the slots: the matchings of its colouring lie where the slots are given from, and what is given are the
-- slots of `bipartite_edge_color_given_partition`. Assumes nothing.
use Prim.Native.Nat.{ℕ, ◌+◌, ◌*◌, ◌/◌, ◌<◌, ◌≤◌, max}
use mathlib.Core.Path.{◌≡◌, sym, ◌∙◌}
use mathlib.Core.List.{List, []}
use native.Mathlib.Omega.{arith}
use lib.ListN.{length}
use Rattle.words.specs.Basics.{ran}
use Rattle.words.specs.Words.{word}
use Rattle.words.proofs.Runs.{ran_is}
use Rattle.appointments.specs.Appointments.{Appt, appt, appts, largest_load}
use Rattle.appointments.proofs.Flat.{appts_count, appt_at}
use Rattle.multigraph.specs.Multigraph.{Graph}
use Rattle.multigraph.specs.Stored.{graph_at, matchings_at}
use Rattle.multigraph.specs.Places.{size}
use Rattle.multigraph.proofs.Kept.{EndsKept, alike_back}
use Rattle.coloring.specs.EdgeColor.{rbmg_edge_color}
use Rattle.edge_color.specs.Room.{Colored}
use Rattle.regular_graph.specs.Evening.{add_appointments, padded, even_out}
use Rattle.highest_slot.specs.Slots.{give_slots}
use Rattle.slots.specs.Stored.{SlotsFit, GivesSlots}
use Rattle.given_partition.specs.GivenPartition.{bipartite_edge_color_given_partition}
use Rattle.given_partition.specs.Steps.{ends_at, places_at, apair_at, out_at, graph_base, first_mark, table, left_side, right_side, Sided, Prepared, SlotsPlanned}
use Rattle.given_partition.proofs.GivenPartitionLaws.{ProperPlan, given_partition_law}
use Rattle.given_partition.proofs.Sizes.{Sizes, sizes, le_product}

-- the definition, step by step
steps_run :
    (P : ℕ) (xs : List Appt) (left right : List ℕ) (D n : ℕ) (g : Graph) (ms : List Graph) → D ≡ largest_load P xs →
    n ≡ max (length left) (length right) →
    even_out D (add_appointments [] xs) (padded P n left) (padded P n right) ≡ ran g →
    rbmg_edge_color D (n + n) (padded P n left) (padded P n right) D g ≡ ran ms →
    bipartite_edge_color_given_partition P xs left right ≡ give_slots xs ms
unfolding bipartite_edge_color_given_partition
steps_run P xs left right D n g ms largest longer evened colored = rw (← largest, ← longer, evened, colored)

module _
    {P D q n l : ℕ} {list s₀ s : List ℕ} (on : Sided P D q l list s₀)
    (h : Prepared P D q n list (left_side s₀ l) (right_side s₀ P l) s) where
  abbrev left : List ℕ
  left = left_side s₀ l

  abbrev right : List ℕ
  right = right_side s₀ P l

  z : Sizes P D q list s
  z = sizes h.ready

  abbrev m : ℕ
  m = size s (graph_base q)

  matchings_le : n * D ≤ q
  matchings_le = omega (arith, h.fits.graph.after_out)

  q_small : q ≤ 9216
  q_small = omega (arith, z.unit, z.product, z.parties)

  -- the chains' numbers are small, where there are d matchings
  pub record Few (d : ℕ) : Type 0 where
    pub matchings : d < 4294967296
    pub numbers : n * d < 4294967296
    pub out : out_at q < 4294967296
    pub links : graph_base q < 4294967296

  pub few : (d : ℕ) → n * d ≤ n * (D + 1) → Few d
  few d below =
      record {
        matchings = omega (arith, le_product d n h.fits.graph.some, h.fits.graph.sized);
        numbers = omega (arith, h.fits.graph.sized);
        out = omega (arith, q_small);
        links = omega (arith, q_small);
      }

  -- what giving slots asks, over words of the same length
  pub inside : (d : ℕ) → n * d ≤ n * (D + 1) → (t : List ℕ) → length t ≡ length s → out_at q + n * d ≤ length t
  inside d below t e = omega (arith, h.fits.room, z.whole)

  pub appointed : (a : ℕ) → a ≤ length list → apair_at q + a < 4294967296
  appointed a fewer = omega (arith, q_small, z.named, z.product)

  module _ {u : ℕ} {t : List ℕ} (x : Colored (table P q m) s t (first_mark q) u (graph_base q) n D (out_at q)) where
    abbrev ms : List Graph
    ms = matchings_at t (ends_at q) m (out_at q) n D

    colored : rbmg_edge_color D (n + n) (padded P n left) (padded P n right) D (graph_at s (ends_at q) m (graph_base q)) ≡ ran ms
    colored =
        let two_n : 2 * n ≡ n + n = omega arith in
        rw (two_n, h.lefts_are, h.rights_are) at (x.colors D (omega arith))

    given_is : bipartite_edge_color_given_partition P (appts list) left right ≡ give_slots (appts list) ms
    given_is =
        steps_run P (appts list) left right D n (graph_at s (ends_at q) m (graph_base q)) ms h.ready.largest h.longer
        h.evened colored

    -- it gives a plan
    planned :
        (p : List ℕ) × (bipartite_edge_color_given_partition P (appts list) left right ≡ ran p)
        × ProperPlan P (appts list) p
    planned =
        ran_is (ProperPlan P (appts list)) (bipartite_edge_color_given_partition P (appts list) left right)
        (given_partition_law P (appts list) on.side left right z.listed on.two)

    -- of the words below the first mark only the map and the matchings have changed
    low : (i : ℕ) → i < places_at q → word t i ≡ word s i
    low i k = x.spares.under i (omega (arith, h.fits.graph.below)) k

    rows : EndsKept (ends_at q) m s t
    rows =
        record {
          firsts = λ e k. low (ends_at q + 2 * e) (omega (arith, h.fits.tabled.after_ends));
          seconds = λ e k. low (ends_at q + 2 * e + 1) (omega (arith, h.fits.tabled.after_ends));
        }

    pair_word : (i : ℕ) → i < length list / 2 → word t (apair_at q + i) ≡ word s (apair_at q + i)
    pair_word i k =
        x.spares.between (apair_at q + i) (omega (arith, h.fits.graph.below, z.named, z.unit))
        (omega (arith, h.fits.tabled.after_ends)) (omega (arith, z.named, z.unit))

    module _ (slots : List ℕ) (room : length (appts list) ≤ length slots) where
      as_many : length (appts list) ≡ length list / 2
      as_many = appts_count list

      slots_fit : SlotsFit (ends_at q) m n D (out_at q) (apair_at q) (graph_base q) (appts list) planned.0 t slots
      slots_fit =
          record {
            distinct =
                record { distinct = λ e f a b k. h.fits.tabled.distinct.distinct e f a b (alike_back rows e f a b k) };
            numbers = x.bounds;
            appointed = λ i k. rw (pair_word i (omega (arith, as_many))) (h.number_of i (omega (arith, as_many)));
            own =
                λ i k.
                let inside : i < length list / 2 = omega (arith, as_many) in
                let below : word s (apair_at q + i) < m = h.number_of i inside in
                rw (pair_word i inside, appt_at list i (appt 0 0) inside, rows.firsts (word s (apair_at q + i)) below, rows.seconds (word s (apair_at q + i)) below)
                (h.ends_of i inside);
            after_ends = h.fits.graph.after_table;
            after_appointed = omega (arith, as_many, z.named, z.unit);
            after_matchings = h.fits.graph.after_out;
            inside = omega (arith, h.fits.graph.after_table, x.spares.len, z.whole);
            few = omega (arith, matchings_le, q_small);
            room = room;
            runs = sym given_is ∙ planned.1;
          }

      pub slots_planned :
          {v after : List ℕ} → GivesSlots (length list / 2) n D (out_at q) (apair_at q) (graph_base q) t slots v after →
          length s ≡ length s₀ → SlotsPlanned P l list slots after s₀ v
      slots_planned g kept =
          let stored = g (ends_at q) m (appts list) planned.0 as_many slots_fit in
          record {
            slots_of = planned.0;
            found = planned.1;
            held = stored.held;
            len = stored.changes.len ∙ x.spares.len ∙ kept;
          }
