-- The steps that prepare a list for the colouring hand on what the next one asks: sides of equal length, the list's pairs, the
-- evened graph, the diagonal. Assumes nothing.
use Prim.Native.Nat.{ℕ, zero, suc, ◌+◌, ◌*◌, ◌-◌, ◌/◌, ◌<◌, ◌≤◌, max}
use mathlib.Core.Path.{◌≡◌, refl, sym, ◌∙◌, ap}
use mathlib.Core.List.{List, []}
use mathlib.Core.Logic.{inl, inr, ⊎_elim}
use native.Mathlib.Omega.{arith}
use lib.ListN.{length}
use Rattle.words.specs.Basics.{All, ran}
use Rattle.words.specs.Words.{word, region}
use Rattle.appointments.specs.Appointments.{appts}
use Rattle.words.proofs.Regions.{region_same, region_length, region_front}
use Rattle.multigraph.specs.Regular.{Partition}
use Rattle.multigraph.specs.Stored.{graph_at}
use Rattle.multigraph.specs.Places.{size, number, Alike, HasEnds}
use Rattle.multigraph.proofs.Kept.{EndsKept, alike_back, GraphKept, kept_above}
use Rattle.multigraph.proofs.Ends.{same_ends_sym}
use Rattle.matching.specs.declared.Table.{Table}
use Rattle.matching.specs.Searched.{column, lefts, rights, Tabled}
use Rattle.edge_color.specs.Room.{Colorable, ColorFits}
use Rattle.regular_graph.specs.Evening.{add_appointments, padded, even_out}
use Rattle.evening.specs.Contract.{CanPad, SidesPadded, CanEven, EvenedOut}
use Rattle.list_pairs.specs.declared.Bases.{Bases}
use Rattle.list_pairs.specs.Contract.{CanPair, PairsMade}
use Rattle.diagonal.specs.Contract.{CanDiagonal, DiagonalSet}
use Rattle.regular_graph.proofs.Pairs.{Crosses, sound_list, degree_load}
use Rattle.regular_graph.proofs.Padding.{padded_side, padded_partition, padded_crosses, padded_loads}
use Rattle.regular_graph.proofs.RegularLaws.{Evened, even_out_law}
use Rattle.given_partition.specs.Steps.{ends_at, apair_at, out_at, graph_base, first_mark, table, Sided, Prepared}
use Rattle.given_partition.proofs.Sizes.{Sizes, sizes, SideSizes, side_sizes, le_product}

-- ── the rows of the diagonal, as regions ──

-- every second word from one place on is each word from another
column_region :
    (s t : List ℕ) (at a n : ℕ) → ((i : ℕ) → i < n → word t (at + 2 * i) ≡ word s (a + i)) → column t at n ≡ region s a n
unfolding column region
column_region s t at a zero same = refl
column_region s t at a (suc n) same =
    let first : word t at ≡ word s a = ap (word t) (omega arith) ∙ same 0 (omega arith) ∙ ap (word s) (omega arith) in
    let rest : column t (at + 2) n ≡ region s (a + 1) n =
    column_region s t (at + 2) (a + 1) n
    (λ i k.
    let e : at + 2 + 2 * i ≡ at + 2 * (i + 1) = omega arith in
    let f : a + 1 + i ≡ a + (i + 1) = omega arith in
    rw (e, f) (same (i + 1) (omega arith))) in
    rw (region_front s a n, first, rest)

-- ── one step after the other ──

module _ {P D q l : ℕ} {list s₀ : List ℕ} (h : Sided P D q l list s₀) where
  z : Sizes P D q list s₀
  z = sizes h.ready

  pub d_small : D ≤ 8192
  d_small = omega (arith, z.product, le_product D P h.some)

  -- the graph stands at a small number
  pub graph_low : graph_base q < 4294967296
  graph_low = omega (arith, z.unit, z.product, z.parties)

  -- and so does the table of ends
  pub ends_low : ends_at q < 4294967296
  ends_low = omega (arith, graph_low)

  -- the sides of the padded graph
  abbrev side' : ℕ → ℕ
  side' = padded_side P (region s₀ 0 l) (region s₀ P (P - l)) h.side

  pub can_pad : CanPad P 0 l P (P - l) s₀
  can_pad =
      record {
        few = omega (arith, z.parties, h.few);
        before_right = omega (arith, h.few);
        room = omega (arith, z.whole, z.unit, h.few);
        small = omega (arith, z.parties, h.few);
      }

  module _ {n : ℕ} {s₁ : List ℕ} (e_low : ends_at q < 4294967296) (g_low : graph_base q < 4294967296)
      (x : SidesPadded P 0 l P (P - l) n s₀ s₁) where
    -- where the pairs of the list lie
    abbrev at : Bases
    at = record { left = 0; right = P; ends = ends_at q; apair = apair_at q; g = graph_base q; ends_small = e_low; g_small = g_low }

    n_le : n ≤ P
    n_le = omega (arith, x.longer, h.few)

    n_some : 0 < n
    n_some = omega (arith, x.longer, h.few, h.some)

    zn : SideSizes D P n
    zn = side_sizes D P n n_le

    n_is : n ≡ max (length (region s₀ 0 l)) (length (region s₀ P (P - l)))
    n_is = rw (region_length s₀ 0 l, region_length s₀ P (P - l)) x.longer

    partition₀ : Partition (n + n) side' (padded P n (region s₀ 0 l)) (padded P n (region s₀ P (P - l)))
    partition₀ = rw n_is (padded_partition P (appts list) h.side (region s₀ 0 l) (region s₀ P (P - l)) h.two)

    crosses : All (Crosses (n + n) side') (appts list)
    crosses = rw n_is (padded_crosses P (appts list) h.side (region s₀ 0 l) (region s₀ P (P - l)) h.two z.listed)

    -- the padded sides stand at 0 and at P, below the table of ends
    record SidesIn (s : List ℕ) : Type 0 where
      lefts : region s 0 n ≡ padded P n (region s₀ 0 l)
      rights : region s P n ≡ padded P n (region s₀ P (P - l))

    -- where later steps, with their marks u above it, change nothing
    sides_stay :
        {s t : List ℕ} (u : ℕ) → ends_at q ≤ u → ((i : ℕ) → i < u → i < ends_at q → word t i ≡ word s i) → SidesIn s → SidesIn t
    sides_stay {s} {t} u above under stood =
        record { lefts = side 0 (omega arith) ∙ stood.lefts; rights = side P (omega arith) ∙ stood.rights }
      where
        side : (a : ℕ) → a ≤ P → region t a n ≡ region s a n
        side a le =
            let low : a + n ≤ ends_at q = omega (arith, z.unit, n_le) in
            region_same s t a n (λ i lo hi. under i (omega arith) (omega arith))

    len₁ : length s₁ ≡ 128 * q
    len₁ = x.changes.len ∙ z.whole

    pub can_pair : CanPair list P D at (first_mark q) s₁
    can_pair =
        record {
          short = omega (arith, z.named, z.product);
          even = z.even;
          listed = z.listed;
          loads = z.loads;
          after_ends = omega (arith, z.named, z.unit);
          after_apair = omega (arith, z.named, z.unit);
          after_graph = omega (arith, z.named, z.unit, h.some);
          room = omega (arith, len₁, z.unit);
          low = omega (arith, z.unit, z.product, z.parties);
        }

    module _ {u₂ : ℕ} {s₂ : List ℕ} (y : PairsMade list at (first_mark q) s₁ u₂ s₂) where
      len₂ : length s₂ ≡ 128 * q
      len₂ = y.changes.len ∙ len₁

      sides₂ : SidesIn s₂
      sides₂ = sides_stay (first_mark q) (omega (arith, z.unit, h.some)) y.changes.under (record { lefts = x.lefts; rights = x.rights })

      pub can_even : CanEven list D n at u₂ s₂
      can_even =
          record {
            short = omega (arith, z.named, z.product);
            even = z.even;
            paired = y.paired;
            side = side';
            partition = rw (sides₂.lefts, sides₂.rights) partition₀;
            crosses = crosses;
            loads = λ v k. padded_loads P D (appts list) z.listed z.loads v;
            few = omega (arith, z.product, le_product D P h.some);
            after_left = omega (arith, z.unit, n_le);
            after_right = omega (arith, z.unit, n_le);
            after_ends = omega (arith, z.unit, zn.product, n_le);
            after_apair = omega (arith, z.unit, z.named);
            after_graph = omega (arith, z.unit, zn.product, n_le, y.mark, h.some);
            room = omega (arith, z.unit, zn.product, zn.twice, n_le, y.mark, len₂);
            low = omega (arith, z.unit, zn.product, zn.twice, n_le, y.mark, z.product, z.parties);
          }

      module _ {u₃ : ℕ} {s₃ : List ℕ} (e : EvenedOut list D n at u₂ s₂ u₃ s₃) where
        len₃ : length s₃ ≡ 128 * q
        len₃ = e.changes.len ∙ len₂

        mark₃ : u₃ ≡ first_mark q
        mark₃ = e.mark ∙ y.mark

        sides₃ : SidesIn s₃
        sides₃ = sides_stay u₂ (omega (arith, z.unit, h.some, y.mark)) e.changes.under sides₂

        pub can_diagonal : CanDiagonal n at (2 * P) u₃ s₃
        can_diagonal =
            record {
              side = side';
              partition = rw (sides₃.lefts, sides₃.rights) partition₀;
              after_left = omega (arith, n_le);
              after_right = omega (arith, n_le);
              after_diag = omega (arith, n_le, z.unit);
              after_ends = omega (arith, n_le, z.unit, zn.product, e.few, mark₃);
              room = omega (arith, n_le, z.unit, mark₃, len₃);
              low = omega (arith, n_le, z.unit, mark₃, z.product, z.parties);
            }

        -- how many pairs the evened graph has
        abbrev m : ℕ
        m = size s₃ (graph_base q)

        evened₃ :
            even_out D (add_appointments [] (appts list)) (padded P n (region s₀ 0 l)) (padded P n (region s₀ P (P - l)))
            ≡ ran (graph_at s₃ (ends_at q) m (graph_base q))
        evened₃ =
            rw (y.paired.graph m e.grown, sides₂.lefts, sides₂.rights) at (e.graph m (omega arith))

        evens : Evened (n + n) side' D (add_appointments [] (appts list)) (graph_at s₃ (ends_at q) m (graph_base q))
        evens =
            rw evened₃ at
            (even_out_law (n + n) side' D (add_appointments [] (appts list)) (padded P n (region s₀ 0 l))
            (padded P n (region s₀ P (P - l))) partition₀ (sound_list (n + n) side' (appts list) crosses)
            (λ v k. omega (arith, degree_load v (appts list), padded_loads P D (appts list) z.listed z.loads v)))

        module _ {u₄ : ℕ} {s₄ : List ℕ} (w : DiagonalSet n at (2 * P) u₃ s₃ u₄ s₄) where
          len₄ : length s₄ ≡ 128 * q
          len₄ = w.changes.len ∙ len₃

          -- what lies above the table of ends stays
          high : (i : ℕ) → apair_at q ≤ i → i < first_mark q → word s₄ i ≡ word s₃ i
          high i lo hi =
              w.changes.after_second i (omega (arith, mark₃))
              (omega (arith, e.few, zn.product, z.unit, n_le)) (omega (arith, mark₃))

          rows : EndsKept (ends_at q) m s₃ s₄
          rows =
              record {
                firsts = λ f k. w.changes.after_first (ends_at q + 2 * f) (omega (arith, mark₃, e.few, zn.product, z.unit)) (omega (arith, n_le, z.unit)) (omega arith);
                seconds = λ f k. w.changes.after_first (ends_at q + 2 * f + 1) (omega (arith, mark₃, e.few, zn.product, z.unit)) (omega (arith, n_le, z.unit)) (omega arith);
              }

          own : (i : ℕ) → i < m → number s₃ (graph_base q) i < m
          own i k = omega (arith, e.plain.numbers i k)

          kept : GraphKept (ends_at q) m s₃ s₄ (graph_base q)
          kept =
              kept_above (graph_base q) rows own
              (λ i lo hi. high i (omega arith) (omega (arith, e.few, zn.product, z.unit, n_some, n_le)))

          abbrev t : Table
          t = table P q m

          first_row : (i : ℕ) → i < n → word s₄ (ends_at q + 2 * (m + i)) ≡ word s₃ (0 + i)
          first_row i k = w.firsts i k

          second_row : (i : ℕ) → i < n → word s₄ (ends_at q + 2 * (m + i) + 1) ≡ word s₃ (P + i)
          second_row i k = w.seconds i k

          lefts₄ : lefts t n s₄ ≡ padded P n (region s₀ 0 l)
          lefts₄ =
              column_region s₃ s₄ (ends_at q + 2 * m) 0 n
              (λ i k. ap (word s₄) (omega arith) ∙ first_row i k)
              ∙ sides₃.lefts

          rights₄ : rights t n s₄ ≡ padded P n (region s₀ P (P - l))
          rights₄ =
              column_region s₃ s₄ (ends_at q + 2 * m + 1) P n
              (λ i k. ap (word s₄) (omega arith) ∙ second_row i k)
              ∙ sides₃.rights

          -- pair f has the ends of row i, in the words at the end as in those before
          alike_row :
              (f i : ℕ) → f < m → i < n → HasEnds s₃ (ends_at q) f (word s₃ (0 + i)) (word s₃ (P + i)) → Alike s₄ (ends_at q) f (m + i)
          alike_row f i a k x =
              rw (rows.firsts f a, rows.seconds f a, first_row i k, second_row i k) (same_ends_sym x)

          row_alike :
              (f i : ℕ) → f < m → i < n → Alike s₄ (ends_at q) f (m + i) → HasEnds s₃ (ends_at q) f (word s₃ (0 + i)) (word s₃ (P + i))
          row_alike f i a k x =
              same_ends_sym (rw (rows.firsts f a, rows.seconds f a, first_row i k, second_row i k) at x)

          tabled : Tabled t n s₄
          tabled =
              record {
                distinct =
                    record { distinct = λ f g a b x. e.plain.distinct.distinct f g a b (alike_back rows f g a b x) };
                diagonal =
                    λ i k.
                    ⊎_elim (λ x. inl (x.0, alike_row (word s₄ (2 * P + i)) i x.0 k x.1))
                    (λ x. inr (x.0, λ f a y. x.1 f a (row_alike f i a k y))) (w.numbers i k);
                after_diag = omega (arith, n_le, z.unit);
                after_ends = omega (arith, n_le, z.unit, e.few, zn.product);
              }

          colorable : Colorable side' m s₄ (first_mark q) (ends_at q) (graph_base q) n D (out_at q)
          colorable =
              let two_n : 2 * n ≡ n + n = omega arith in
              record {
                regular = rw (two_n, kept.same m) evens.regular;
                positive = rw (kept.same m) evens.positive;
                numbers = λ i k. omega (arith, kept.sizes, kept.numbers i (omega (arith, kept.sizes)), own i (omega (arith, kept.sizes)));
                some = n_some;
                few = omega (arith, n_le, z.parties);
                sized = omega (arith, zn.pairs, zn.product, n_le, z.product, z.parties);
                after_table = omega (arith, e.few, zn.product, z.unit);
                after_out = omega (arith, zn.product, z.unit);
                below = omega (arith, kept.sizes, e.few, zn.product, z.unit, n_some, n_le);
                short = omega (arith, len₄, z.unit, z.product, z.parties);
              }

          fits : ColorFits t s₄ (first_mark q) (graph_base q) n D (out_at q)
          fits =
              let two_n : 2 * n ≡ n + n = omega arith in
              record {
                side = side';
                tabled = tabled;
                partition = rw (two_n, lefts₄, rights₄) partition₀;
                graph = colorable;
                header = kept.header ∙ e.plain.header;
                after_places = omega (arith, e.few, zn.product, z.unit, n_le);
                sized = omega (arith, zn.pairs, zn.product, n_le, z.product, z.parties);
                room = omega (arith, zn.pairs, zn.product, n_le, z.unit, len₄);
              }

          pair_word : (i : ℕ) → i < length list / 2 → word s₄ (apair_at q + i) ≡ word s₃ (apair_at q + i)
          pair_word i k = high (apair_at q + i) (omega arith) (omega (arith, z.named, z.unit))

          pub prepared : Prepared P D q n list (region s₀ 0 l) (region s₀ P (P - l)) s₄
          prepared =
              record {
                ready =
                    record {
                      checked = rw (len₄, ← z.whole) h.ready.checked;
                      largest = h.ready.largest;
                      unit = h.ready.unit;
                      whole = len₄;
                    };
                longer = n_is;
                evened = rw (kept.sizes, kept.same m) evened₃;
                lefts_are = rw kept.sizes lefts₄;
                rights_are = rw kept.sizes rights₄;
                fits = rw kept.sizes fits;
                number_of = λ i k. rw (kept.sizes, pair_word i k) (e.number_of i k);
                ends_of =
                    λ i k.
                    let below : word s₃ (apair_at q + i) < m = e.number_of i k in
                    rw (pair_word i k, rows.firsts (word s₃ (apair_at q + i)) below, rows.seconds (word s₃ (apair_at q + i)) below)
                    (e.ends_of i k);
              }

          pub prepared_length : length s₄ ≡ length s₀
          prepared_length = len₄ ∙ sym z.whole
