-- One search over words: what its steps ask follows from what it asks, and what it leaves is the definition's. Assumes nothing.
use Prim.Native.Nat.{ℕ, ◌+◌, ◌*◌, ◌-◌, ◌/◌, ◌^◌, ◌≤◌, ◌<◌}
use mathlib.Core.Path.{◌≡◌, refl, sym, ◌∙◌, ap}
use mathlib.Core.List.{List, []}
use mathlib.Core.Logic.{⊎_elim}
use native.Mathlib.Omega.{arith}
use native.Mathlib.Nat.{mul_comm, mul-one, mul-le-mul_left}
use Rattle.words.specs.Basics.{is}
use Rattle.words.specs.Words.{word}
use Rattle.words.proofs.Frames.{stays_trans, keeps_stays}
use Rattle.words.proofs.Ranges.{changes_stays}
use Rattle.multigraph.specs.Multigraph.{Graph}
use Rattle.multigraph.specs.Regular.{Regular}
use Rattle.multigraph.specs.Stored.{graph_at}
use Rattle.multigraph.specs.Places.{size, copies_of, Alike}
use Rattle.multigraph.proofs.Sizes.{entries_few, entries_copies}
use Rattle.perfect_matching.specs.Matching.{add_times, add_diagonal, search_graph, flagged_pairs}
use Rattle.words.specs.PowersOfTwo.{log_up}
use Rattle.matching.specs.Choosing.{InsideBoth}
use Rattle.matching.specs.Searched.{lefts, rights, CanBuild, GraphBuilt, BuildsGraph, Searching, CanHalveAll, HalvedAll, CanSearch, SearchDone}
use Rattle.matching.specs.declared.Count.{Count}
use Rattle.matching.specs.declared.Table.{Table}
use Rattle.matching.proofs.Columns.{length_column, column_at, column_once}
use Rattle.perfect_matching.proofs.Powers.{Shares, shares}
use Rattle.words.proofs.PowersOfTwo.{log_up_law, log_up_under}
use Rattle.perfect_matching.proofs.Searching.{search_law}
use Rattle.matching.proofs.Narrow.{search_narrow}

-- ── how the degree is cut ──

-- the degree that a search begins with
pub record Cut (n k p : ℕ) : Type 0 where
  pub share : Shares k p
  pub times : k * (p / k) ≤ p
  pub small : p < 4194304

pub cut : (n k p : ℕ) → p ≡ 2 ^ log_up (k * n) → 1 < k → 0 < n → n * (k + 2) ≤ 2097152 → Cut n k p
cut n k p is several some most =
    let reach : k * n ≤ p = rw (← is) at (log_up_law (k * n)).reaches in
    let more : k * 1 ≤ k * n = mul-le-mul_left k some in
    let under : p < 2 * (k * n) = rw (← is) at (log_up_under (k * n) (omega (arith, more, mul-one k))) in
    let share : Shares k p = shares k p (omega arith) (omega (arith, more, mul-one k)) in
    record { share = share; times = omega (arith, share.cut); small = omega (arith, mul_comm k n) }

-- ── what the steps ask ──

module _ (t : Table) (g n k mark : ℕ) (s : List ℕ) (can : CanSearch t g n k mark s) where
  abbrev G : Graph
  G = graph_at s t.ends t.pairs g

  few_pairs : size s g ≤ n * k
  few_pairs = entries_few s t.ends t.pairs g n can.side k can.regular can.positive

  few_copies : (i : ℕ) → i < size s g → copies_of s g i ≤ k
  few_copies = entries_copies (2 * n) can.side k s t.ends t.pairs g can.regular

  -- no two rows of the diagonal have the same ends
  lone : (i j : ℕ) → i < n → j < n → Alike s t.ends (t.pairs + i) (t.pairs + j) → i ≡ j
  lone i j a b x =
      ⊎_elim (λ y. same (left i ∙ sym y.0 ∙ sym (left j))) (λ y. absurd (other (left j ∙ y.0 ∙ sym (right i)))) x
    where
      l : ℕ
      l = t.ends + 2 * t.pairs

      left : (x : ℕ) → word s (l + 2 * x) ≡ word s (t.ends + 2 * (t.pairs + x))
      left x = ap (word s) (omega arith)

      right : (x : ℕ) → word s (l + 1 + 2 * x) ≡ word s (t.ends + 2 * (t.pairs + x) + 1)
      right x = ap (word s) (omega arith)

      below : (x : ℕ) → x < n → word s (l + 2 * x) < 2 * n
      below x c = (column_at _ s l n can.partition.left_side x c).0

      other : word s (l + 2 * j) ≡ word s (l + 1 + 2 * i) → ⊥
      other e =
          omega (
            arith,
            (column_at _ s l n can.partition.left_side j b).1,
            (column_at _ s (l + 1) n can.partition.right_side i a).1,
            ap can.side e,
          )

      same : word s (l + 2 * i) ≡ word s (l + 2 * j) → i ≡ j
      same e =
          column_once (word s (l + 2 * j)) s l n (omega (arith, can.partition.once (word s (l + 2 * j)) (below j b))) i j a b e refl

  -- the graph and its copy lie inside the words
  pub copy_inside : InsideBoth g mark (size s g) s
  copy_inside = (omega (arith, can.below, can.room), omega (arith, few_pairs, can.room, can.some))

  module _ (p : ℕ) (is : p ≡ 2 ^ log_up (k * n)) where
    c : Cut n k p
    c = cut n k p is can.several can.some can.most

    pub can_build : CanBuild p t g mark n (p / k) (p - k * (p / k)) s
    can_build =
        record {
          tabled = can.tabled;
          lone = lone;
          apart = can.regular.apart;
          numbers = can.numbers;
          copies =
              λ i a. omega (arith, mul-le-mul_left (p / k) (few_copies i a), mul_comm (p / k) k, c.times);
          fits =
              omega (
                arith,
                c.small,
                mul-le-mul_left n c.share.rest,
                can.most,
              );
          after_places = can.after_places;
          below = can.below;
          inside = omega (arith, few_pairs, can.room, can.some);
          short = can.short;
        }

    search_is :
        search_graph (lefts t n s) (rights t n s) k G
        ≡ add_diagonal (p - k * (p / k)) (add_times (p / k) [] G) (lefts t n s) (rights t n s)
    unfolding search_graph
    search_is = rw (length_column s (t.ends + 2 * t.pairs) n, ← is)

    module _ (v : List ℕ) (built : BuildsGraph t g mark n (p / k) (p - k * (p / k)) s v) where
      b : GraphBuilt t g mark n (p / k) (p - k * (p / k)) s v
      b = built p can_build

      graph_is : graph_at v t.ends t.pairs mark ≡ search_graph (lefts t n s) (rights t n s) k G
      graph_is = b.graph ∙ sym search_is

      searching : Searching t mark n (k + 1) can.side p v
      searching =
          record {
            regular = rw (graph_is, is) regular;
            narrow =
                λ x a. rw graph_is (search_narrow (2 * n) can.side (lefts t n s) (rights t n s) k G can.regular can.positive can.partition x a);
            numbers = b.numbers;
          }
        where
          regular : Regular (2 * n) can.side (2 ^ log_up (k * n)) (search_graph (lefts t n s) (rights t n s) k G)
          regular =
              rw (length_column s (t.ends + 2 * t.pairs) n)
              at (search_law (2 * n) can.side (lefts t n s) (rights t n s) k G can.regular can.positive can.partition
              (omega (arith, can.several)) (omega (arith, can.some))).regular

      pub can_halve_all : CanHalveAll t mark n (k + 1) p (mark + 2 * (n * (k + 2))) v
      can_halve_all =
          record {
            side = can.side;
            exponent = log_up (k * n);
            power = is;
            laid =
                record {
                  table = omega (arith, can.tabled.after_ends, can.after_places, can.below);
                  behind = omega arith;
                  room = omega (arith, can.room, b.changes.len);
                  short = omega (arith, can.short, b.changes.len);
                  some = can.some;
                  few = can.few;
                  two = omega (arith, can.several);
                  most = omega (arith, can.most);
                };
            graph = searching;
            light = omega (arith, c.small);
          }

      pub search_done :
          (by : Count) (new flagged above : ℕ) (u : List ℕ) → HalvedAll t mark n (k + 1) p by (mark + 2 * (n * (k + 2))) above v u →
          ((ends : ℕ) → flagged ≡ flagged_pairs (graph_at u ends t.pairs mark)) →
          new ≡ mark → SearchDone t g n k by mark new flagged s u
      search_done by new flagged above u h counted same =
          record {
            left = rw graph_is at (h.left (log_up (k * n)) is);
            counted = counted t.ends;
            numbers = h.numbers;
            marked = same;
            stays =
                stays_trans (changes_stays mark (omega arith) b.changes) (keeps_stays t.places (t.pairs + n) h.keeps);
          }
