-- What a search for a perfect matching asks of the words, and what its steps give. Assumes nothing.
use Rattle.std.specs.Prelude.{ℕ, zero, suc, ◌+◌, ◌*◌, ◌^◌, ◌<◌, ◌≤◌, ◌≡◌, List, [], ◌∷◌, ◌⊎◌, length}
use Rattle.words.specs.Basics.{total, ran}
use Rattle.words.specs.Words.{word, word_limit}
use Rattle.words.specs.Frames.{Keeps, Stays, Spares, Changes}
use Rattle.multigraph.specs.Multigraph.{Pair}
use Rattle.multigraph.specs.Regular.{names, Apart, Regular, Positive, Partition}
use Rattle.multigraph.specs.Stored.{graph_at, matching_at}
use Rattle.multigraph.specs.Places.{size, number, copies_of, Alike, DistinctEnds, Stored, Mappable}
use Rattle.euler.specs.Split.{Halves, rbmg_split_into_two}
use Rattle.perfect_matching.specs.Matching.{add_times, add_diagonal, fewer_flagged, halve, search_graph, flagged_pairs, rbmg_find_perfect_matching}
use Rattle.words.specs.PowersOfTwo.{log_up}
use Rattle.matching.specs.Choosing.{flagged_by}
use Rattle.matching.specs.declared.Count.{Count}
use Rattle.matching.specs.declared.Table.{Table}

-- ── the table ──

-- n words, every second one from `at` on
unfoldable pub column : List ℕ → ℕ → ℕ → List ℕ
column s at zero = []
column s at (suc n) = word s at ∷ column s (at + 2) n

-- The left and the right parties: after its pairs the table of ends has a row for left i and right i.
abbrev pub lefts : Table → ℕ → List ℕ → List ℕ
lefts t n s = column s (t.ends + 2 * t.pairs) n

abbrev pub rights : Table → ℕ → List ℕ → List ℕ
rights t n s = column s (t.ends + 2 * t.pairs + 1) n

-- The word for left i with right i is the number of the pair that has these ends, or of the row for them if no pair has.
abbrev pub OnDiagonal : Table → ℕ → List ℕ → Type 0
OnDiagonal t i s =
    ((word s (t.diag + i) < t.pairs) × Alike s t.ends (word s (t.diag + i)) (t.pairs + i))
    ⊎ ((word s (t.diag + i) ≡ t.pairs + i) × ((e : ℕ) → e < t.pairs → Alike s t.ends e (t.pairs + i) → ⊥))

-- The first pairs of the table have different ends; n rows follow for the diagonal. The map has a word for each of all rows.
pub record Tabled (t : Table) (n : ℕ) (s : List ℕ) : Type 0 where
  pub distinct : DistinctEnds t.ends t.pairs s
  pub diagonal : (i : ℕ) → i < n → OnDiagonal t i s
  pub after_diag : t.diag + n ≤ t.places
  pub after_ends : t.ends + 2 * (t.pairs + n) ≤ t.places

-- ── the graph of a search ──

-- The map can be made ready for the diagonal's n numbers, and there is room for them and their copies.
pub record DiagonalFits (most : ℕ) (t : Table) (h n β : ℕ) (s : List ℕ) : Type 0 where
  pub mappable : Mappable t.ends (t.pairs + n) most n t.places h t.diag n s
  pub same : (i : ℕ) → i < n → Alike s t.ends (word s (t.diag + i)) (t.pairs + i)
  pub low : t.diag + n ≤ t.places
  pub fits : most + n * β < word_limit

pub record DiagonalAdded (most : ℕ) (t : Table) (h n β : ℕ) (s u : List ℕ) : Type 0 where
  pub graph :
      graph_at u t.ends t.pairs h
      ≡ add_diagonal β (graph_at s t.ends t.pairs h) (lefts t n s) (rights t n s)
  pub stored : Stored (t.pairs + n) (most + n * β) 0 u h
  pub changes : Changes t.places (t.pairs + n) h (2 + 2 * (size s h + n)) s u

abbrev pub AddsDiagonal : Table → ℕ → ℕ → ℕ → List ℕ → List ℕ → Type 0
AddsDiagonal t h n β s u = (most : ℕ) → DiagonalFits most t h n β s → DiagonalAdded most t h n β s u

-- The graph at g has unflagged pairs with different ends, and lies below h, where there is room for n entries more. No two
-- rows of the diagonal have the same ends.
pub record CanBuild (most : ℕ) (t : Table) (g h n α β : ℕ) (s : List ℕ) : Type 0 where
  pub tabled : Tabled t n s
  pub lone : (i j : ℕ) → i < n → j < n → Alike s t.ends (t.pairs + i) (t.pairs + j) → i ≡ j
  pub apart : Apart (graph_at s t.ends t.pairs g)
  pub numbers : (i : ℕ) → i < size s g → number s g i < t.pairs
  pub copies : (i : ℕ) → i < size s g → α * copies_of s g i ≤ most
  pub fits : most + n * β < word_limit
  pub after_places : t.places + (t.pairs + n) ≤ g
  pub below : g + 2 + 2 * size s g ≤ h
  pub inside : h + 2 + 2 * (size s g + n) ≤ length s
  pub short : length s ≤ word_limit

-- The graph of a search: copies times α, and β copies of left i with right i.
pub record GraphBuilt (t : Table) (g h n α β : ℕ) (s u : List ℕ) : Type 0 where
  pub graph :
      graph_at u t.ends t.pairs h
      ≡ add_diagonal β (add_times α [] (graph_at s t.ends t.pairs g)) (lefts t n s) (rights t n s)
  pub numbers : (i : ℕ) → i < size u h → number u h i < t.pairs + n
  pub changes : Changes t.places (t.pairs + n) h (2 + 2 * (size s g + n)) s u

abbrev pub BuildsGraph : Table → ℕ → ℕ → ℕ → ℕ → ℕ → List ℕ → List ℕ → Type 0
BuildsGraph t g h n α β s u = (most : ℕ) → CanBuild most t g h n α β s → GraphBuilt t g h n α β s u

-- ── halving ──

-- A search's graph lies at h with room for n·width pairs, the mark behind it, and room for a split above the mark.
pub record SearchLaid (t : Table) (h n width mark : ℕ) (s : List ℕ) : Type 0 where
  pub table : t.ends + 2 * (t.pairs + n) ≤ h
  pub behind : mark ≡ h + 2 * (n * (width + 1))
  pub room : mark + 16 * (n * (width + 1)) ≤ length s
  pub short : length s ≤ word_limit
  pub some : 0 < n
  pub few : 2 * n ≤ 2048
  pub two : 2 ≤ width
  pub most : n * (width + 1) ≤ 2097152

-- The graph at h is regular of degree d, and no party is in more than `width` of its pairs.
pub record Searching (t : Table) (h n width : ℕ) (side : ℕ → ℕ) (d : ℕ) (s : List ℕ) : Type 0 where
  pub regular : Regular (2 * n) side d (graph_at s t.ends t.pairs h)
  pub narrow :
      (v : ℕ) → v < 2 * n →
      total (λ (p : Pair). names v p.first p.second) (graph_at s t.ends t.pairs h) ≤ width
  pub numbers : (i : ℕ) → i < size s h → number s h i < t.pairs + n

-- what one halving asks
pub record CanHalve (t : Table) (h n width mark : ℕ) (s : List ℕ) : Type 0 where
  pub side : ℕ → ℕ
  pub half : ℕ
  pub laid : SearchLaid t h n width mark s
  pub graph : Searching t h n width side (2 * half) s
  pub light : half < word_limit

-- The graph at h has become the half that goes on.
pub record Halved (t : Table) (h n : ℕ) (by : Count) (mark new : ℕ) (s u : List ℕ) : Type 0 where
  pub halves : Halves
  pub split : rbmg_split_into_two (2 * n) (graph_at s t.ends t.pairs h) ≡ ran halves
  pub goes_on : graph_at u t.ends t.pairs h ≡ fewer_flagged (flagged_by by) halves
  pub numbers : (i : ℕ) → i < size u h → number u h i < t.pairs + n
  pub marked : new ≡ mark
  pub keeps : Keeps h s u

-- what all halvings down from degree x ask
pub record CanHalveAll (t : Table) (h n width x mark : ℕ) (s : List ℕ) : Type 0 where
  pub side : ℕ → ℕ
  pub exponent : ℕ
  pub power : x ≡ 2 ^ exponent
  pub laid : SearchLaid t h n width mark s
  pub graph : Searching t h n width side x s
  pub light : x < word_limit

-- The graph at h has become what so many halvings leave of it.
pub record HalvedAll (t : Table) (h n width x : ℕ) (by : Count) (mark new : ℕ) (s u : List ℕ) : Type 0 where
  pub left :
      (e : ℕ) → x ≡ 2 ^ e →
      halve (2 * n) (flagged_by by) e (graph_at s t.ends t.pairs h) ≡ ran (graph_at u t.ends t.pairs h)
  pub under : 3 + 2 * size u h ≤ 2 * (n * (width + 1))
  pub numbers : (i : ℕ) → i < size u h → number u h i < t.pairs + n
  pub marked : new ≡ mark
  pub keeps : Keeps h s u

-- ── a search ──

-- What a search asks: the graph at g is regular of degree k on n parties a side, each pair has a copy and is one of the table's;
-- the table's rows for the diagonal hold the two sides; all of it lies below the mark, and there is room above.
pub record CanSearch (t : Table) (g n k mark : ℕ) (s : List ℕ) : Type 0 where
  pub side : ℕ → ℕ
  pub regular : Regular (2 * n) side k (graph_at s t.ends t.pairs g)
  pub positive : Positive (graph_at s t.ends t.pairs g)
  pub partition : Partition (2 * n) side (lefts t n s) (rights t n s)
  pub several : 1 < k
  pub some : 0 < n
  pub few : 2 * n ≤ 2048
  pub most : n * (k + 2) ≤ 2097152
  pub numbers : (i : ℕ) → i < size s g → number s g i < t.pairs
  pub tabled : Tabled t n s
  pub after_places : t.places + (t.pairs + n) ≤ g
  pub below : g + 2 + 2 * size s g ≤ mark
  pub room : mark + 18 * (n * (k + 2)) ≤ length s
  pub short : length s ≤ word_limit

-- What a search leaves stands at the mark; below it only the map has changed.
pub record SearchDone (t : Table) (g n k : ℕ) (by : Count) (mark new flagged : ℕ) (s u : List ℕ) : Type 0 where
  pub left :
      halve (2 * n) (flagged_by by) (log_up (k * n))
      (search_graph (lefts t n s) (rights t n s) k (graph_at s t.ends t.pairs g))
      ≡ ran (graph_at u t.ends t.pairs mark)
  pub counted : flagged ≡ flagged_pairs (graph_at u t.ends t.pairs mark)
  pub numbers : (i : ℕ) → i < size u mark → number u mark i < t.pairs + n
  pub marked : new ≡ mark
  pub stays : Stays mark t.places (t.pairs + n) s u

-- both searches: the perfect matching, as a graph at the mark
pub record SearchesDone (t : Table) (g n k : ℕ) (mark new : ℕ) (s u : List ℕ) : Type 0 where
  pub found :
      rbmg_find_perfect_matching (2 * n) (lefts t n s) (rights t n s) k (graph_at s t.ends t.pairs g)
      ≡ ran (graph_at u t.ends t.pairs mark)
  pub numbers : (i : ℕ) → i < size u mark → number u mark i < t.pairs + n
  pub marked : new ≡ mark
  pub stays : Stays mark t.places (t.pairs + n) s u

-- ── a matching's numbers ──

-- A graph of n pairs with one copy each lies at h, above `out`, where its numbers go, and above the table of ends.
pub record CanRead (ends rows h n out : ℕ) (s : List ℕ) : Type 0 where
  pub sized : size s h ≡ n
  pub single : (i : ℕ) → i < n → copies_of s h i ≡ 1
  pub numbers : (i : ℕ) → i < n → number s h i < rows
  pub after_ends : ends + 2 * rows ≤ out
  pub before_graph : out + n ≤ h
  pub inside : h + 2 + 2 * n ≤ length s
  pub short : length s ≤ word_limit

pub record MatchingRead (ends pairs h n out : ℕ) (s u : List ℕ) : Type 0 where
  pub matching : matching_at u ends pairs out n ≡ graph_at s ends pairs h
  pub numbers : (i : ℕ) → i < n → word u (out + i) ≡ number s h i
  pub changes : Changes out n h 0 s u

abbrev pub ReadsMatching : ℕ → ℕ → ℕ → List ℕ → List ℕ → Type 0
ReadsMatching h n out s u =
    (ends pairs rows : ℕ) → CanRead ends rows h n out s → MatchingRead ends pairs h n out s u

-- ── `rbmg_find_perfect_matching` ──

-- the matching's n words lie between the map and the mark
pub record CanFind (t : Table) (g n k out mark : ℕ) (s : List ℕ) : Type 0 where
  pub search : CanSearch t g n k mark s
  pub after_places : t.places + (t.pairs + n) ≤ out
  pub below : out + n ≤ mark

-- The perfect matching of document 01's module 5, its n pair numbers at `out`, none of them flagged. The mark is as it was, and
-- below it only the map and the matching's words have changed.
pub record MatchingFound (t : Table) (g n k out mark new : ℕ) (s u : List ℕ) : Type 0 where
  pub found :
      rbmg_find_perfect_matching (2 * n) (lefts t n s) (rights t n s) k (graph_at s t.ends t.pairs g)
      ≡ ran (matching_at u t.ends t.pairs out n)
  pub unflagged : (i : ℕ) → i < n → word u (out + i) < t.pairs
  pub marked : new ≡ mark
  pub spares : Spares mark t.places (t.pairs + n) out n s u
