-- A halving over words: what the split asks, what the chooser and the copy give, and halving after halving. Assumes nothing.
use Prim.Native.Nat.{ℕ, zero, suc, ◌+◌, ◌*◌, ◌/◌, ◌^◌, ◌≤◌, ◌<◌}
use mathlib.Core.Path.{◌≡◌, refl, sym, ◌∙◌, ap}
use mathlib.Core.Bool.{Bool, true, false}
use mathlib.Core.List.{List}
use native.Mathlib.Omega.{arith}
use native.Mathlib.Nat.{one-mul}
use lib.Dec.{leb}
use lib.ListN.{length}
use Rattle.words.specs.Basics.{pick, ran, total}
use Rattle.words.specs.Words.{word}
use Rattle.words.specs.Frames.{Keeps}
use Rattle.words.proofs.Frames.{keeps_refl, keeps_trans, keeps_less}
use Rattle.words.proofs.PowersOfTwo.{no_power, two_pow, pow_same}
use Rattle.multigraph.specs.Multigraph.{Pair, Graph}
use Rattle.multigraph.specs.Regular.{names, between, Regular}
use Rattle.multigraph.specs.Stored.{entry, graph_at}
use Rattle.multigraph.specs.Places.{size, number, copies_of}
use Rattle.multigraph.proofs.Ends.{between_symmetric}
use Rattle.multigraph.proofs.Spans.{graph_span, span_same, length_graph}
use Rattle.multigraph.proofs.Kept.{EndsKept, ends_below, entry_is}
use Rattle.multigraph.proofs.Parts.{parts_at}
use Rattle.multigraph.proofs.Sizes.{entries_copies}
use Rattle.multigraph.proofs.Flags.{narrow_reflag, regular_reflag}
use Rattle.euler.specs.Split.{Halves, rbmg_split_into_two}
use Rattle.euler.specs.Halved.{SplitOf}
use Rattle.euler.specs.Room.{Splits, NumbersFrom, HalvesStored}
use Rattle.euler.proofs.SplitLaws.{split_law}
use Rattle.perfect_matching.specs.Matching.{fewer_flagged, halve}
use Rattle.matching.specs.Choosing.{flagged_by, Chooses, CanCopy, Copied, Copies, SideBySide}
use Rattle.matching.specs.Searched.{SearchLaid, Searching, CanHalve, Halved, CanHalveAll, HalvedAll}
use Rattle.matching.specs.declared.Count.{Count}
use Rattle.matching.specs.declared.Table.{Table}
use Rattle.perfect_matching.proofs.Halving.{HalfOf, half_of}
use Rattle.matching.proofs.Narrow.{LiesWithin, lies_within}

-- ── what is asked ──

module _ (t : Table) (h n width mark : ℕ) (s : List ℕ) (can : CanHalve t h n width mark s) where
  pub within : LiesWithin n width (size s h)
  within =
      rw (length_graph s t.ends t.pairs h)
      at (lies_within n width can.side (2 * can.half) (graph_at s t.ends t.pairs h) can.graph.regular
      can.graph.narrow can.laid.some can.laid.two)

  pub splits : Splits s mark t.ends h n width
  splits =
      record {
        side = can.side;
        half = can.half;
        regular = regular_reflag (2 * n) can.side (2 * can.half) s t.ends t.pairs 0 h can.graph.regular;
        wide = λ v a. omega (arith, narrow_reflag (names v) s t.ends t.pairs 0 h, can.graph.narrow v a);
        some = can.laid.some;
        few = can.laid.few;
        two = can.laid.two;
        size = can.laid.most;
        pairs = within.count;
        graph = omega (arith, can.laid.behind, within.under);
        base = omega (arith, can.laid.table, can.laid.behind);
        table = λ i a. omega (arith, can.graph.numbers i a, can.laid.table, can.laid.behind, within.under);
        room = can.laid.room;
        short = can.laid.short;
      }

  abbrev G : Graph
  G = graph_at s t.ends t.pairs h

  abbrev wide : ℕ
  wide = 2 * (n * (width + 1))

  -- the two halves, and the room for the one that goes on
  pub side_by_side :
      (v : List ℕ) (above : ℕ) → HalvesStored s v mark above t.ends h n width → SideBySide mark wide h v
  side_by_side v above st =
      record {
        first_base = st.first_base;
        second_base = st.second_base;
        first_fits = omega (arith, st.first_count, within.under);
        second_fits = omega (arith, st.second_count, within.under);
        inside = omega (arith, can.laid.room, st.keeps.len);
        below = omega (arith, can.laid.behind, can.laid.room, st.keeps.len);
      }

  -- ── a half at x, copied down ──

  module _ (v : List ℕ) (keeps : Keeps mark s v) (x : ℕ) (above : mark ≤ x) (count : size v x ≤ size s h)
      (from : NumbersFrom s v h x)
      (regular : Regular (2 * n) can.side can.half (graph_at v t.ends t.pairs x)) where
    half_number : (j : ℕ) → j < size v x → number v x j < t.pairs + n
    half_number j a =
        let f = from.from j a in
        rw f.2 (can.graph.numbers f.0 f.1)

    half_copies : (j : ℕ) → j < size v x → 1 * copies_of v x j < 4294967296
    half_copies j a =
        omega (
          arith,
          entries_copies (2 * n) can.side can.half v t.ends t.pairs x regular j a,
          can.light,
          one-mul (copies_of v x j),
        )

    pub half_copy : CanCopy x h 1 v
    half_copy =
        record {
          apart = λ i j a b e. omega (arith, within.under, can.laid.behind);
          inside = omega (arith, within.under, can.laid.behind, can.laid.room, keeps.len);
          small = omega (arith, within.under, can.laid.behind, can.laid.room, can.laid.short);
          numbers =
              λ j a. omega (arith, half_number j a, can.laid.table, can.laid.behind, can.laid.room, can.laid.short);
          copies = half_copies;
        }

    module _ (u : List ℕ) (c : Copied x h 1 v u) where
      half_ends : EndsKept t.ends (t.pairs + n) v u
      half_ends = ends_below t.ends (t.pairs + n) h can.laid.table c.under

      pub half_graph : graph_at u t.ends t.pairs h ≡ graph_at v t.ends t.pairs x
      half_graph =
          rw (graph_span u t.ends t.pairs h, graph_span v t.ends t.pairs x, c.sized)
          (span_same (entry v t.ends t.pairs x) (entry u t.ends t.pairs h) 0 (size v x)
          (λ j a b.
          entry_is half_ends t.pairs h j (number v x j) (copies_of v x j) (c.numbers j (omega arith))
          (c.copies j (omega arith) ∙ one-mul (copies_of v x j)) (half_number j (omega arith))))

      pub half_numbers : (i : ℕ) → i < size u h → number u h i < t.pairs + n
      half_numbers i a =
          rw (c.numbers i (omega (arith, c.sized))) (half_number i (omega (arith, c.sized)))

      pub half_keeps : Keeps h s u
      half_keeps =
          keeps_trans (keeps_less h (omega (arith, can.laid.behind)) keeps)
          (record { len = c.len; same = λ i a. c.under i a })

  -- ── the half that goes on ──

  module _ (by : Count) (v u : List ℕ) (above from new : ℕ) (st : HalvesStored s v mark above t.ends h n width)
      (chooses : Chooses mark wide t.pairs by v from) (copies : Copies from h 1 v u) (same : new ≡ mark) where
    abbrev both : Halves
    both =
        record {
          first_half = graph_at v t.ends t.pairs mark;
          second_half = graph_at v t.ends t.pairs (mark + wide);
        }

    law : SplitOf (2 * n) can.side can.half G both
    law = rw (st.halves t.pairs) at (split_law (2 * n) can.side can.half G can.graph.regular)

    gone :
        (x : ℕ) → mark ≤ x → size v x ≤ size s h → NumbersFrom s v h x →
        Regular (2 * n) can.side can.half (graph_at v t.ends t.pairs x) → from ≡ x →
        graph_at v t.ends t.pairs x ≡ fewer_flagged (flagged_by by) both → Halved t h n by mark new s u
    gone x above_x count numbers regular at_x goes =
        let c : Copied x h 1 v u = (rw at_x at copies) (half_copy v st.keeps x above_x count numbers regular) in
        record {
          halves = both;
          split = st.halves t.pairs;
          goes_on = half_graph v st.keeps x above_x count numbers regular u c ∙ goes;
          numbers = half_numbers v st.keeps x above_x count numbers regular u c;
          marked = same;
          keeps = half_keeps v st.keeps x above_x count numbers regular u c;
        }

    pub halved : Halved t h n by mark new s u
    unfolding fewer_flagged
    halved = go (leb (flagged_by by both.first_half) (flagged_by by both.second_half)) refl
      where
        is : from ≡ pick (leb (flagged_by by both.first_half) (flagged_by by both.second_half)) (word v mark) (word v (mark + wide))
        is = chooses t.ends

        go : (b : Bool) → leb (flagged_by by both.first_half) (flagged_by by both.second_half) ≡ b → Halved t h n by mark new s u
        go true e =
            gone mark (omega arith) st.first_count st.first_numbers law.first_regular (rw e at is ∙ st.first_base)
            (rw e)
        go false e =
            gone (mark + wide) (omega arith) st.second_count st.second_numbers law.second_regular
            (rw e at is ∙ st.second_base) (rw e)

-- ── halving after halving ──

-- The graph of degree x at h: f halvings of it are what e halvings of the first one are.
pub record HalvingOn (t : Table) (h n width : ℕ) (side : ℕ → ℕ) (e : ℕ) (by : Count) (x : ℕ) (s u : List ℕ) : Type 0 where
  pub left : ℕ
  pub power : x ≡ 2 ^ left
  pub rest :
      halve (2 * n) (flagged_by by) left (graph_at u t.ends t.pairs h)
      ≡ halve (2 * n) (flagged_by by) e (graph_at s t.ends t.pairs h)
  pub graph : Searching t h n width side x u
  pub keeps : Keeps h s u

pub halving_none :
    (t : Table) (h n width : ℕ) (side : ℕ → ℕ) (e : ℕ) (by : Count) (x : ℕ) (s : List ℕ) → x ≡ 2 ^ e →
    Searching t h n width side x s → HalvingOn t h n width side e by x s s
halving_none t h n width side e by x s p g =
    record { left = e; power = p; rest = refl; graph = g; keeps = keeps_refl h s }

-- above degree 1 there is a halving left
pub record NextPower (x f : ℕ) : Type 0 where
  pub less : ℕ
  pub is : f ≡ suc less
  pub twice : x ≡ 2 * 2 ^ less
  pub half : x / 2 ≡ 2 ^ less

pub next_power : (x f : ℕ) → x ≡ 2 ^ f → 1 < x → NextPower x f
next_power x zero p h = absurd (omega arith)
next_power x (suc f) p h =
    let twice : x ≡ 2 * 2 ^ f = p ∙ two_pow f in
    record { less = f; is = refl; twice = twice; half = omega arith }

laid_kept :
    (t : Table) (h n width mark : ℕ) (s u : List ℕ) → SearchLaid t h n width mark s → length u ≡ length s →
    SearchLaid t h n width mark u
laid_kept t h n width mark s u l len =
    record {
      table = l.table;
      behind = l.behind;
      room = omega (arith, l.room, len);
      short = omega (arith, l.short, len);
      some = l.some;
      few = l.few;
      two = l.two;
      most = l.most;
    }

pub can_halve :
    (t : Table) (h n width : ℕ) (side : ℕ → ℕ) (e : ℕ) (by : Count) (x mark : ℕ) (s u : List ℕ) →
    SearchLaid t h n width mark s → x < 4294967296 → 1 < x → HalvingOn t h n width side e by x s u →
    CanHalve t h n width mark u
can_halve t h n width side e by x mark s u l light more o =
    let p : NextPower x o.left = next_power x o.left o.power more in
    record {
      side = side;
      half = 2 ^ p.less;
      laid = laid_kept t h n width mark s u l o.keeps.len;
      graph = rw p.twice at o.graph;
      light = omega (arith, p.twice);
    }

halve_step :
    (N : ℕ) (flagged : Graph → ℕ) (e : ℕ) (g : Graph) (hs : Halves) → rbmg_split_into_two N g ≡ ran hs →
    halve N flagged (suc e) g ≡ halve N flagged e (fewer_flagged flagged hs)
unfolding halve
halve_step N flagged e g hs s = rw s

pub halving_more :
    (t : Table) (h n width : ℕ) (side : ℕ → ℕ) (e : ℕ) (by : Count) (x mark new : ℕ) (s u v : List ℕ) → 1 < x →
    HalvingOn t h n width side e by x s u → Halved t h n by mark new u v → HalvingOn t h n width side e by (x / 2) s v
halving_more t h n width side e by x mark new s u v more o d =
    record {
      left = p.less;
      power = p.half;
      rest =
          ap (halve (2 * n) (flagged_by by) p.less) d.goes_on
          ∙ sym (halve_step (2 * n) (flagged_by by) p.less g d.halves d.split)
          ∙ rw p.is at o.rest;
      graph = record { regular = rw (d.goes_on, p.half) half.regular; narrow = narrow; numbers = d.numbers };
      keeps = keeps_trans o.keeps d.keeps;
    }
  where
    p : NextPower x o.left
    p = next_power x o.left o.power more

    g : Graph
    g = graph_at u t.ends t.pairs h

    half : HalfOf (2 * n) side (2 ^ p.less) g (fewer_flagged (flagged_by by) d.halves)
    half =
        half_of (2 * n) side (2 ^ p.less) g (flagged_by by) d.halves
        (rw d.split at (split_law (2 * n) side (2 ^ p.less) g (rw p.twice at o.graph.regular)))

    narrow : (a : ℕ) → a < 2 * n →
        total (λ (q : Pair). names a q.first q.second) (graph_at v t.ends t.pairs h) ≤ width
    narrow a b =
        rw d.goes_on
        (omega (
          arith,
          parts_at a (fewer_flagged (flagged_by by) d.halves) g half.regular.apart half.positive
              (λ y z. half.copies (between y z) (between_symmetric y z)),
          o.graph.narrow a b,
        ))

pub halving_done :
    (t : Table) (h n width : ℕ) (side : ℕ → ℕ) (e : ℕ) (by : Count) (degree x mark new : ℕ) (s u : List ℕ) → degree ≡ 2 ^ e →
    x ≤ 1 → new ≡ mark → SearchLaid t h n width mark s → HalvingOn t h n width side e by x s u →
    HalvedAll t h n width degree by mark new s u
unfolding halve
halving_done t h n width side e by degree x mark new s u p less m l o =
    record {
      left = λ f q. rw (same f q) (sym o.rest ∙ rw (no_power x o.left o.power less));
      under = rw (length_graph u t.ends t.pairs h) at within.under;
      numbers = o.graph.numbers;
      marked = m;
      keeps = o.keeps;
    }
  where
    within : LiesWithin n width (length (graph_at u t.ends t.pairs h))
    within =
        lies_within n width side x (graph_at u t.ends t.pairs h) o.graph.regular o.graph.narrow l.some l.two

    same : (f : ℕ) → degree ≡ 2 ^ f → f ≡ e
    same f q = pow_same f e (sym q ∙ p)

-- ── all halvings, one after the other ──

-- below degree 2 nothing is to be done
pub halving_stops :
    (t : Table) (h n width degree mark : ℕ) (by : Count) (s : List ℕ) → CanHalveAll t h n width degree mark s → degree < 2 →
    HalvedAll t h n width degree by mark mark s s
halving_stops t h n width degree mark by s can less =
    halving_done t h n width can.side can.exponent by degree degree mark mark s s can.power (omega (arith, less)) refl
    can.laid (halving_none t h n width can.side can.exponent by degree s can.power can.graph)

module _ (t : Table) (h n width degree mark : ℕ) (by : Count) (s : List ℕ) (can : CanHalveAll t h n width degree mark s)
    (more : 1 < degree) where
  begun : HalvingOn t h n width can.side can.exponent by degree s s
  begun = halving_none t h n width can.side can.exponent by degree s can.power can.graph

  pub halving_first : CanHalve t h n width mark s
  halving_first = can_halve t h n width can.side can.exponent by degree mark s s can.laid can.light more begun

  -- after the first halving
  module _ (new : ℕ) (v : List ℕ) (d : Halved t h n by mark new s v) where
    on : HalvingOn t h n width can.side can.exponent by (degree / 2) s v
    on = halving_more t h n width can.side can.exponent by degree mark new s s v more begun d

    pub halving_rest : CanHalveAll t h n width (degree / 2) mark v
    halving_rest =
        record {
          side = can.side;
          exponent = on.left;
          power = on.power;
          laid = laid_kept t h n width mark s v can.laid d.keeps.len;
          graph = on.graph;
          light = omega (arith, can.light);
        }

    pub halving_ends :
        (from last : ℕ) (u : List ℕ) → last ≡ mark → HalvedAll t h n width (degree / 2) by from last v u →
        HalvedAll t h n width degree by mark last s u
    halving_ends from last u same a =
        record {
          left = λ e p. rw (pow_same e can.exponent (sym p ∙ can.power)) (sym on.rest ∙ a.left on.left on.power);
          under = a.under;
          numbers = a.numbers;
          marked = same;
          keeps = keeps_trans d.keeps a.keeps;
        }
