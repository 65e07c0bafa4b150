-- A graph that is to be coloured is split, and its halves can be coloured in turn. Assumes nothing.
use Prim.Native.Nat.{ℕ, ◌+◌, ◌*◌, ◌≤◌, ◌<◌}
use mathlib.Core.Path.{◌≡◌, subst}
use mathlib.Core.List.{List}
use native.Mathlib.Omega.{arith}
use native.Mathlib.Nat.{mul-le-mul_left}
use lib.ListN.{length}
use Rattle.words.specs.Basics.{Run, Ran}
use Rattle.multigraph.specs.Regular.{names, Regular, Positive}
use Rattle.multigraph.specs.Stored.{graph_at}
use Rattle.multigraph.specs.Places.{size, number}
use Rattle.multigraph.proofs.Parts.{pairs_le_degree}
use Rattle.multigraph.proofs.Flags.{narrow_reflag, regular_reflag}
use Rattle.multigraph.proofs.Sizes.{entries_few}
use Rattle.multigraph.proofs.Kept.{GraphKept}
use Rattle.euler.specs.Split.{Halves}
use Rattle.euler.specs.Halved.{SplitOf}
use Rattle.euler.specs.Room.{Splits, NumbersFrom, HalvesStored}
use Rattle.euler.proofs.SplitLaws.{split_law}
use Rattle.edge_color.specs.Room.{Colorable}

-- a graph that can be coloured can be split, if its degree is even
pub splits :
    (side : ℕ → ℕ) (pairs : ℕ) (s : List ℕ) (used ends g n d k out width : ℕ) → Colorable side pairs s used ends g n d out →
    d ≡ 2 * k → d ≤ width → 2 ≤ width → n * (width + 1) ≤ 2097152 → used + 16 * (n * (width + 1)) ≤ length s →
    Splits s used ends g n width
splits side pairs s used ends g n d k out width c even wide two sized room =
    let count : size s g ≤ n * d = entries_few s ends pairs g n side d c.regular c.positive in
    let regular : Regular (2 * n) side d (graph_at s ends 0 g) = regular_reflag (2 * n) side d s ends pairs 0 g c.regular in
    record {
      side = side;
      half = k;
      regular = subst (λ (x : ℕ). Regular (2 * n) side x (graph_at s ends 0 g)) even regular;
      wide =
          λ v b.
          omega (
            arith,
            narrow_reflag (names v) s ends 0 pairs g,
            pairs_le_degree v (graph_at s ends pairs g) c.positive,
            c.regular.even v b,
          );
      some = c.some;
      few = c.few;
      two = two;
      size = sized;
      pairs = omega (arith, count, mul-le-mul_left n wide);
      graph = c.below;
      base = omega (arith, c.after_table, c.after_out, c.below);
      table = λ i h. omega (arith, c.numbers i h, c.after_table, c.after_out, c.below);
      room = room;
      short = c.short;
    }

-- one half as it stands in words
pub record Half (side : ℕ → ℕ) (pairs : ℕ) (t : List ℕ) (ends h n k : ℕ) : Type 0 where
  pub regular : Regular (2 * n) side k (graph_at t ends pairs h)
  pub positive : Positive (graph_at t ends pairs h)
  pub numbers : (i : ℕ) → i < size t h → number t h i < pairs
  pub count : size t h ≤ n * k

-- the numbers of a half are numbers of the graph
pub numbers_pass :
    (s t : List ℕ) (g h bound : ℕ) → NumbersFrom s t g h → ((i : ℕ) → i < size s g → number s g i < bound) →
    (j : ℕ) → j < size t h → number t h j < bound
numbers_pass s t g h bound f below j a =
    let r = f.from j a in
    rw r.2 (below r.0 r.1)

pub record BothHalves (side : ℕ → ℕ) (pairs : ℕ) (t : List ℕ) (used ends n k width : ℕ) : Type 0 where
  pub first : Half side pairs t ends used n k
  pub second : Half side pairs t ends (used + 2 * (n * (width + 1))) n k

pub both_halves :
    (side : ℕ → ℕ) (pairs : ℕ) (s t : List ℕ) (used mark ends g n d k out width : ℕ) → Colorable side pairs s used ends g n d out →
    d ≡ 2 * k → HalvesStored s t used mark ends g n width → BothHalves side pairs t used ends n k width
both_halves side pairs s t used mark ends g n d k out width c even st =
    record {
      first = half used law.first_regular law.first_positive st.first_numbers;
      second = half (used + 2 * (n * (width + 1))) law.second_regular law.second_positive st.second_numbers;
    }
  where
    hs : Halves
    hs =
        record {
          first_half = graph_at t ends pairs used;
          second_half = graph_at t ends pairs (used + 2 * (n * (width + 1)));
        }

    law : SplitOf (2 * n) side k (graph_at s ends pairs g) hs
    law =
        subst (λ (r : Run Halves). Ran (SplitOf (2 * n) side k (graph_at s ends pairs g)) r) (st.halves pairs)
        (split_law (2 * n) side k (graph_at s ends pairs g)
        (subst (λ (x : ℕ). Regular (2 * n) side x (graph_at s ends pairs g)) even c.regular))

    half : (h : ℕ) → Regular (2 * n) side k (graph_at t ends pairs h) → Positive (graph_at t ends pairs h) →
        NumbersFrom s t g h → Half side pairs t ends h n k
    half h r pos f =
        record {
          regular = r;
          positive = pos;
          numbers = numbers_pass s t g h pairs f c.numbers;
          count = entries_few t ends pairs h n side k r pos;
        }

-- a half whose words stay
pub half_kept :
    (side : ℕ → ℕ) (pairs : ℕ) (t u : List ℕ) (ends h n k : ℕ) → Half side pairs t ends h n k → GraphKept ends pairs t u h →
    Half side pairs u ends h n k
half_kept side pairs t u ends h n k a kept =
    record {
      regular = rw (kept.same pairs) a.regular;
      positive = rw (kept.same pairs) a.positive;
      numbers = λ i b. rw (kept.numbers i (omega (arith, kept.sizes))) (a.numbers i (omega (arith, kept.sizes)));
      count = omega (arith, kept.sizes, a.count);
    }

-- a half that lies below the mark and above its output can be coloured
pub half_colorable :
    (side : ℕ → ℕ) (pairs : ℕ) (t : List ℕ) (used ends h n k out : ℕ) → Half side pairs t ends h n k → 0 < n → 2 * n ≤ 2048 →
    n * (k + 1) ≤ 2097152 → ends + 2 * pairs ≤ out → out + n * k ≤ h → h + 3 + 2 * (n * k) ≤ used → length t ≤ 4294967296 →
    Colorable side pairs t used ends h n k out
half_colorable side pairs t used ends h n k out a some few sized table above below short =
    record {
      regular = a.regular;
      positive = a.positive;
      numbers = a.numbers;
      some = some;
      few = few;
      sized = sized;
      after_table = table;
      after_out = above;
      below = omega (arith, a.count);
      short = short;
    }
