-- Both searches over words are `rbmg_find_perfect_matching`; its numbers are then written out (Reading). Assumes nothing.
use Prim.Native.Nat.{ℕ, ◌+◌, ◌*◌, ◌≤◌, ◌<◌}
use mathlib.Core.Path.{◌≡◌, sym, ◌∙◌, ap}
use mathlib.Core.List.{List}
use native.Mathlib.Omega.{arith}
use native.Mathlib.Decide.{dec_le}
use borrow.Author.Tests.{eq-eqb, ne_eqb, le-leb}
use lib.Dec.{leb}
use lib.ListN.{length}
use Rattle.words.specs.Basics.{pick, ran}
use Rattle.words.specs.Words.{word}
use Rattle.words.specs.Frames.{Stays}
use Rattle.words.proofs.Sums.{total_zero_all}
use Rattle.words.proofs.Frames.{stays_trans}
use Rattle.multigraph.specs.Multigraph.{Pair, Graph}
use Rattle.multigraph.specs.Stored.{entry, graph_at}
use Rattle.multigraph.specs.Places.{size, number}
use Rattle.multigraph.proofs.Sizes.{entries_one}
use Rattle.multigraph.proofs.Spans.{graph_span, all_span}
use Rattle.multigraph.proofs.Kept.{EndsKept, graph_kept}
use Rattle.perfect_matching.specs.Matching.{search_graph, halve, flagged_pairs, flagged_copies, rbmg_find_perfect_matching}
use Rattle.words.specs.PowersOfTwo.{log_up}
use Rattle.perfect_matching.specs.Perfect.{MatchingOf}
use Rattle.matching.specs.Searched.{lefts, rights, CanSearch, SearchDone, SearchesDone, CanRead, MatchingRead, ReadsMatching, CanFind, MatchingFound}
use Rattle.matching.specs.declared.Count.TheVariants.{FlaggedPairs, FlaggedCopies}
use Rattle.matching.specs.declared.Table.{Table}
use Rattle.perfect_matching.proofs.MatchingLaws.{matching_law}
use Rattle.matching.proofs.Columns.{length_column}
use Rattle.matching.proofs.Tables.{SidesKept, sides_kept, rows_kept, tabled_kept}
use Rattle.matching.proofs.Reading.{can_read}

-- ── after a search another one can follow ──

module _ (t : Table) (g n k mark : ℕ) (s u : List ℕ) (can : CanSearch t g n k mark s)
    (st : Stays mark t.places (t.pairs + n) s u) where
  low : (i : ℕ) → i < t.places → word u i ≡ word s i
  low i a = st.under i (omega (arith, can.after_places, can.below)) a

  high : (i : ℕ) → g ≤ i → i < mark → word u i ≡ word s i
  high i a b = st.over i b (omega (arith, can.after_places))

  kept : EndsKept t.ends (t.pairs + n) s u
  kept = rows_kept t n s u can.tabled low

  size_same : size u g ≡ size s g
  size_same = high (g + 1) (omega arith) (omega (arith, can.below))

  number_same : (i : ℕ) → i < size s g → number u g i ≡ number s g i
  number_same i a = high (g + 2 + 2 * i) (omega arith) (omega (arith, can.below))

  pub graph_same : graph_at u t.ends t.pairs g ≡ graph_at s t.ends t.pairs g
  graph_same =
      graph_kept kept t.pairs g size_same number_same
      (λ i a. high (g + 3 + 2 * i) (omega arith) (omega (arith, can.below))) (λ i a. omega (arith, can.numbers i a))

  pub sides_same : SidesKept t n s u
  sides_same = sides_kept t n s u can.tabled.after_ends low

  pub can_search_again : CanSearch t g n k mark u
  can_search_again =
      record {
        side = can.side;
        regular = rw graph_same can.regular;
        positive = rw graph_same can.positive;
        partition = rw (sides_same.left, sides_same.right) can.partition;
        several = can.several;
        some = can.some;
        few = can.few;
        most = can.most;
        numbers = λ i a. rw (number_same i (omega (arith, size_same))) (can.numbers i (omega (arith, size_same)));
        tabled = tabled_kept t n s u can.tabled low;
        after_places = can.after_places;
        below = omega (arith, can.below, size_same);
        room = omega (arith, can.room, st.len);
        short = omega (arith, can.short, st.len);
      }

-- ── the first search, or the second ──

first_found :
    (N : ℕ) (left right : List ℕ) (k : ℕ) (g m : Graph) →
    halve N flagged_pairs (log_up (k * length left)) (search_graph left right k g) ≡ ran m → flagged_pairs m ≡ 0 →
    rbmg_find_perfect_matching N left right k g ≡ ran m
unfolding rbmg_find_perfect_matching
first_found N left right k g m h z = rw (h, eq-eqb (flagged_pairs m) 0 z)

second_found :
    (N : ℕ) (left right : List ℕ) (k : ℕ) (g x m : Graph) →
    halve N flagged_pairs (log_up (k * length left)) (search_graph left right k g) ≡ ran x →
    (flagged_pairs x ≡ 0 → ⊥) →
    halve N flagged_copies (log_up (k * length left)) (search_graph left right k g) ≡ ran m →
    rbmg_find_perfect_matching N left right k g ≡ ran m
unfolding rbmg_find_perfect_matching
second_found N left right k g x m h some again = rw (h, ne_eqb (flagged_pairs x) 0 some, again)

pub one_search :
    (t : Table) (g n k mark new flagged : ℕ) (s u : List ℕ) → SearchDone t g n k FlaggedPairs mark new flagged s u → flagged ≡ 0 →
    SearchesDone t g n k mark new s u
one_search t g n k mark new flagged s u d z =
    record {
      found =
          first_found (2 * n) (lefts t n s) (rights t n s) k (graph_at s t.ends t.pairs g)
          (graph_at u t.ends t.pairs mark)
          (rw (length_column s (t.ends + 2 * t.pairs) n) d.left) (sym d.counted ∙ z);
      numbers = d.numbers;
      marked = d.marked;
      stays = d.stays;
    }

pub two_searches :
    (t : Table) (g n k mark middle new flagged later : ℕ) (s u v : List ℕ) → CanSearch t g n k mark s →
    SearchDone t g n k FlaggedPairs mark middle flagged s u → (flagged ≡ 0 → ⊥) →
    SearchDone t g n k FlaggedCopies middle new later u v → SearchesDone t g n k mark new s v
two_searches t g n k mark middle new flagged later s u v can d some e =
    record {
      found =
          second_found (2 * n) (lefts t n s) (rights t n s) k (graph_at s t.ends t.pairs g)
          (graph_at u t.ends t.pairs mark) (graph_at v t.ends t.pairs mark)
          (rw (length_column s (t.ends + 2 * t.pairs) n) d.left) (λ z. some (d.counted ∙ z))
          (rw (length_column s (t.ends + 2 * t.pairs) n) second);
      numbers = rw d.marked at e.numbers;
      marked = e.marked ∙ d.marked;
      stays = stays_trans d.stays (rw d.marked at e.stays);
    }
  where
    second :
        halve (2 * n) flagged_copies (log_up (k * n))
        (search_graph (lefts t n s) (rights t n s) k (graph_at s t.ends t.pairs g))
        ≡ ran (graph_at v t.ends t.pairs mark)
    second =
        rw (
          d.marked,
          (sides_same t g n k mark s u can d.stays).left,
          (sides_same t g n k mark s u can d.stays).right,
          graph_same t g n k mark s u can d.stays,
        )
        at e.left

-- ── the whole ──

module _ (t : Table) (g n k out mark new : ℕ) (s u : List ℕ) (can : CanFind t g n k out mark s)
    (d : SearchesDone t g n k mark new s u) where
  abbrev M : Graph
  M = graph_at u t.ends t.pairs mark

  its : MatchingOf (2 * n) can.search.side (graph_at s t.ends t.pairs g) M
  its =
      rw d.found
      at (matching_law (2 * n) can.search.side (lefts t n s) (rights t n s) k (graph_at s t.ends t.pairs g)
      can.search.regular can.search.positive can.search.partition can.search.several
      (omega (arith, can.search.some)))

  sized : size u mark ≡ n
  sized = entries_one u t.ends t.pairs mark n can.search.side its.perfect.regular its.perfect.positive

  -- no number is flagged
  unflagged : (i : ℕ) → i < n → number u mark i < t.pairs
  unfolding flagged_pairs
  unflagged i a =
      elim (dec_le t.pairs (number u mark i)) [
        | yes x ↦ absurd (omega (arith, rw (le-leb t.pairs (number u mark i) x) at none))
        | no x ↦ omega arith
      ]
    where
      none : ◌≡◌ {A = ℕ} (pick (leb t.pairs (number u mark i)) 1 0) 0
      none =
          all_span (λ p. p.bad ≡ 0) (entry u t.ends t.pairs mark) 0 (size u mark)
          (rw (graph_span u t.ends t.pairs mark) at (total_zero_all (λ (p : Pair). p.bad) M its.unflagged)) i
          (omega arith) (omega (arith, sized))

  pub found_can_read : CanRead t.ends (t.pairs + n) mark n out u
  found_can_read =
      can_read can.search.side u t.ends t.pairs (t.pairs + n) mark out n its.perfect.regular its.perfect.positive
      d.numbers (omega (arith, can.search.tabled.after_ends, can.after_places)) can.below
      (omega (arith, can.search.room, d.stays.len)) (omega (arith, can.search.short, d.stays.len))

  pub matching_found : (v : List ℕ) → ReadsMatching mark n out u v → MatchingFound t g n k out mark new s v
  matching_found v reads =
      record {
        found = d.found ∙ ap ran (sym r.matching);
        unflagged = λ i a. rw (r.numbers i a) (unflagged i a);
        marked = d.marked;
        spares =
            record {
              len = r.changes.len ∙ d.stays.len;
              under = λ i a b. r.changes.under i (omega (arith, can.after_places)) ∙ d.stays.under i a b;
              between = λ i a b c. r.changes.under i c ∙ d.stays.over i a b;
              over = λ i a b. r.changes.between i b a ∙ d.stays.over i a (omega (arith, can.after_places));
            };
      }
    where
      r : MatchingRead t.ends t.pairs mark n out u v
      r = reads t.ends t.pairs (t.pairs + n) found_can_read
