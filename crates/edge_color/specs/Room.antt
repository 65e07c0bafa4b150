-- What the colouring routines ask of the words, and what they give. Assumes nothing.
use Rattle.std.specs.Prelude.{ℕ, ◌+◌, ◌*◌, ◌/◌, ◌%◌, ◌^◌, ◌<◌, ◌≤◌, ◌≡◌, List, length}
use Rattle.words.specs.Basics.{ran}
use Rattle.words.specs.Words.{word, word_limit}
use Rattle.words.specs.Frames.{Stays, Spares}
use Rattle.multigraph.specs.Regular.{Regular, Positive, Partition}
use Rattle.multigraph.specs.Stored.{graph_at, matchings_at}
use Rattle.multigraph.specs.Places.{size, number}
use Rattle.matching.specs.Searched.{lefts, rights, Tabled}
use Rattle.matching.specs.declared.Table.{Table}
use Rattle.coloring.specs.EdgeColor.{rbmg_edge_color_when_power_of_two, set_aside, rbmg_edge_color}

-- A graph to be coloured, regular of degree d on n parties a side. From below up there lie the table of ends, the n·d words of
-- the result, the graph and the mark.
pub record Colorable (side : ℕ → ℕ) (pairs : ℕ) (s : List ℕ) (mark ends g n d out : ℕ) : Type 0 where
  pub regular : Regular (2 * n) side d (graph_at s ends pairs g)
  pub positive : Positive (graph_at s ends pairs g)
  pub numbers : (i : ℕ) → i < size s g → number s g i < pairs
  pub some : 0 < n
  pub few : 2 * n ≤ 2048
  pub sized : n * (d + 1) ≤ 2097152
  pub after_table : ends + 2 * pairs ≤ out
  pub after_out : out + n * d ≤ g
  pub below : g + 3 + 2 * size s g ≤ mark
  pub short : length s ≤ word_limit

-- every bound on the graph's numbers holds of the w words at `out`
abbrev pub BoundsPass : List ℕ → List ℕ → ℕ → ℕ → ℕ → Type 0
BoundsPass s t g out w =
    (bound : ℕ) → ((i : ℕ) → i < size s g → number s g i < bound) → (j : ℕ) → j < w → word t (out + j) < bound

-- ── `rbmg_edge_color_when_power_of_two` ──

pub record PowerFits (s : List ℕ) (mark ends g n d out : ℕ) : Type 0 where
  pub side : ℕ → ℕ
  pub pairs : ℕ
  pub exponent : ℕ
  pub power : d ≡ 2 ^ exponent
  pub graph : Colorable side pairs s mark ends g n d out
  pub room : mark + 20 * (n * (d + 1)) ≤ length s

-- The matchings stand side by side at `out`; the mark is as it was, and so is every other word below it.
pub record PowerColored (s t : List ℕ) (mark new ends g n d out : ℕ) : Type 0 where
  pub colors :
      (pairs e : ℕ) → d ≡ 2 ^ e →
      rbmg_edge_color_when_power_of_two (2 * n) e (graph_at s ends pairs g) ≡ ran (matchings_at t ends pairs out n d)
  pub bounds : BoundsPass s t g out (n * d)
  pub back : new ≡ mark
  pub stays : Stays mark out (n * d) s t

-- ── `rbmg_edge_color` ──

-- The table, whose map of places lies below the result, and a graph of this table with its header.
pub record ColorFits (t : Table) (s : List ℕ) (mark g n d out : ℕ) : Type 0 where
  pub side : ℕ → ℕ
  pub tabled : Tabled t n s
  pub partition : Partition (2 * n) side (lefts t n s) (rights t n s)
  pub graph : Colorable side t.pairs s mark t.ends g n d out
  pub header : word s g ≡ g
  pub after_places : t.places + (t.pairs + n) ≤ out
  pub sized : n * (d + 1) ≤ 1048576
  pub room : mark + 40 * (n * (d + 1)) ≤ length s

-- One matching is set aside if the degree is odd: it stands behind the place of 2·(d÷2) matchings. The graph without it is at
-- `rest`, below the new mark.
pub record AsideStored (t : Table) (s u : List ℕ) (mark new g rest n d out : ℕ) : Type 0 where
  pub aside :
      set_aside (2 * n) (lefts t n s) (rights t n s) d (graph_at s t.ends t.pairs g)
      ≡ ran (record {
        aside = matchings_at u t.ends t.pairs (out + n * (2 * (d / 2))) n (d % 2);
        graph = graph_at u t.ends t.pairs rest;
      })
  pub bounds : (j : ℕ) → j < n * (d % 2) → word u (out + n * (2 * (d / 2)) + j) < t.pairs
  pub numbers : (i : ℕ) → i < size u rest → number u rest i < t.pairs
  pub after_out : out + n * d ≤ rest
  pub below : rest + 3 + 2 * size u rest ≤ new
  pub from : mark ≤ new
  pub to : new ≤ mark + 2 * (n * (d + 1))
  pub spares : Spares mark t.places (t.pairs + n) (out + n * (2 * (d / 2))) (n * (d % 2)) s u

-- The matchings stand side by side at `out`; the mark is as it was, and so is every word below it but the map and the result.
-- The degree as fuel suffices, and so does any fuel above it.
pub record Colored (t : Table) (s u : List ℕ) (mark new g n d out : ℕ) : Type 0 where
  pub colors :
      (fuel : ℕ) → d ≤ fuel →
      rbmg_edge_color fuel (2 * n) (lefts t n s) (rights t n s) d (graph_at s t.ends t.pairs g)
      ≡ ran (matchings_at u t.ends t.pairs out n d)
  pub bounds : (j : ℕ) → j < n * d → word u (out + j) < t.pairs
  pub back : new ≡ mark
  pub spares : Spares mark t.places (t.pairs + n) out (n * d) s u
