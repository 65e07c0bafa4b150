-- What the routines over words ask and do. A pair is found in a graph by the map of places: one word for each number. Assumes
-- nothing.
use Rattle.std.specs.Prelude.{ℕ, ◌+◌, ◌*◌, ◌<◌, ◌≤◌, ◌≡◌, List, leb, length}
use Rattle.words.specs.Basics.{pick}
use Rattle.words.specs.Words.{word, word_limit}
use Rattle.words.specs.Frames.{Changes}
use Rattle.multigraph.specs.Multigraph.{add_edge, add_matching, remove_matching}
use Rattle.multigraph.specs.Regular.{SameEnds, Apart, Positive}
use Rattle.multigraph.specs.Stored.{graph_at, matching_at}

-- how many entries the graph at g has; of entry i the pair's number and the copies
abbrev pub size : List ℕ → ℕ → ℕ
size s g = word s (g + 1)

abbrev pub number : List ℕ → ℕ → ℕ → ℕ
number s g i = word s (g + 2 + 2 * i)

abbrev pub copies_of : List ℕ → ℕ → ℕ → ℕ
copies_of s g i = word s (g + 3 + 2 * i)

-- pair e of the table has these ends, either way round
abbrev pub HasEnds : List ℕ → ℕ → ℕ → ℕ → ℕ → Type 0
HasEnds s ends e l r = SameEnds l r (word s (ends + 2 * e)) (word s (ends + 2 * e + 1))

-- the pairs e and f have the same ends, either way round
abbrev pub Alike : List ℕ → ℕ → ℕ → ℕ → Type 0
Alike s ends e f =
    SameEnds (word s (ends + 2 * e)) (word s (ends + 2 * e + 1)) (word s (ends + 2 * f)) (word s (ends + 2 * f + 1))

-- The first `pairs` rows of the table have different ends: within one graph two pairs have the same ends exactly if they have
-- the same number.
pub record DistinctEnds (ends pairs : ℕ) (s : List ℕ) : Type 0 where
  pub distinct : (e f : ℕ) → e < pairs → f < pairs → Alike s ends e f → e ≡ f

-- The table of ends and the map have `rows` rows each; the graph lies above both.
pub record Laid (ends places rows g : ℕ) : Type 0 where
  pub after_ends : ends + 2 * rows ≤ places
  pub after_places : places + rows ≤ g

-- A graph at g: its header is its base, its numbers are below `rows`, no pair has more than `most` copies, and `room` more
-- entries would go inside the words.
pub record Stored (rows most room : ℕ) (s : List ℕ) (g : ℕ) : Type 0 where
  pub header : word s g ≡ g
  pub numbers : (i : ℕ) → i < size s g → number s g i < rows
  pub copies : (i : ℕ) → i < size s g → copies_of s g i ≤ most
  pub inside : g + 2 + 2 * (size s g + room) ≤ length s
  pub small : g + 2 + 2 * (size s g + room) ≤ word_limit
  pub light : most < word_limit

-- What the map is while n keys are looked up: no two keys have the same ends; and a key's word is i + 1 exactly if entry i of
-- the graph has the key's ends (so it is 0 if no entry has them).
pub record Mapped (keys : ℕ → ℕ) (n ends places g : ℕ) (s : List ℕ) : Type 0 where
  pub unlike : (i j : ℕ) → i < n → j < n → Alike s ends (keys i) (keys j) → keys i ≡ keys j
  pub there :
      (j i : ℕ) → j < n → word s (places + keys j) ≡ i + 1 → (i < size s g) × Alike s ends (keys j) (number s g i)
  pub found :
      (j i : ℕ) → j < n → i < size s g → Alike s ends (keys j) (number s g i) → word s (places + keys j) ≡ i + 1

-- ── `map_places` ──

-- The keys stand side by side outside the map. Of keys and entries, those with the same ends have the same number, and no
-- number is there twice among the entries.
pub record Mappable (ends rows most room places g keys n : ℕ) (s : List ℕ) : Type 0 where
  pub laid : Laid ends places rows g
  pub stored : Stored rows most room s g
  pub outside : (i e : ℕ) → i < n → e < rows → keys + i ≡ places + e → ⊥
  pub below : (i : ℕ) → i < n → word s (keys + i) < rows
  pub unlike_keys :
      (i j : ℕ) → i < n → j < n → Alike s ends (word s (keys + i)) (word s (keys + j)) →
      word s (keys + i) ≡ word s (keys + j)
  pub unlike_numbers :
      (i j : ℕ) → i < n → j < size s g → Alike s ends (word s (keys + i)) (number s g j) →
      word s (keys + i) ≡ number s g j
  pub once : (i j : ℕ) → i < size s g → j < size s g → number s g i ≡ number s g j → i ≡ j

pub record PlacesMapped (ends rows places g keys n : ℕ) (s t : List ℕ) : Type 0 where
  pub mapped : Mapped (λ j. word s (keys + j)) n ends places g t
  pub changes : Changes places rows g 0 s t

abbrev pub MapsPlaces : ℕ → ℕ → ℕ → ℕ → List ℕ → List ℕ → Type 0
MapsPlaces places g keys n s t =
    (ends rows most room : ℕ) → Mappable ends rows most room places g keys n s → PlacesMapped ends rows places g keys n s t

-- ── `add_edge` ──

-- The key is looked up; the number, which a new entry would get, has the same ends.
pub record EdgeFits (ends rows most room : ℕ) (keys : ℕ → ℕ) (n places g key e copies : ℕ) (s : List ℕ) : Type 0 where
  pub laid : Laid ends places rows g
  pub stored : Stored rows most (room + 1) s g
  pub mapped : Mapped keys n ends places g s
  pub below : (j : ℕ) → j < n → keys j < rows
  pub asked : (j : ℕ) × (j < n) × (keys j ≡ key)
  pub number_below : e < rows
  pub same : Alike s ends key e
  pub fits : most + copies < word_limit

pub record EdgeAdded (ends pairs rows most room : ℕ) (keys : ℕ → ℕ) (n places g e copies : ℕ) (s t : List ℕ) : Type 0 where
  pub graph :
      graph_at t ends pairs g
      ≡ add_edge (graph_at s ends pairs g) (word s (ends + 2 * e)) (word s (ends + 2 * e + 1)) copies (pick (leb pairs e) 1 0)
  pub stored : Stored rows (most + copies) room t g
  pub mapped : Mapped keys n ends places g t
  pub grown : size t g ≤ size s g + 1
  pub changes : Changes places rows g (2 + 2 * (size s g + 1)) s t

abbrev pub AddsEdge : ℕ → ℕ → ℕ → ℕ → ℕ → List ℕ → List ℕ → Type 0
AddsEdge places g key e copies s t =
    (ends pairs rows most room : ℕ) (keys : ℕ → ℕ) (n : ℕ) → EdgeFits ends rows most room keys n places g key e copies s →
    EdgeAdded ends pairs rows most room keys n places g e copies s t

-- ── `add_matching` ──

-- The n numbers lie side by side between the map and the graph; all numbers are below `pairs`, so no pair is flagged.
pub record MatchingFits (ends pairs most places g m n : ℕ) (s : List ℕ) : Type 0 where
  pub distinct : DistinctEnds ends pairs s
  pub apart : Apart (graph_at s ends pairs g)
  pub after_ends : ends + 2 * pairs ≤ places
  pub after_places : places + pairs ≤ m
  pub before_graph : m + n ≤ g
  pub stored : Stored pairs most n s g
  pub below : (i : ℕ) → i < n → word s (m + i) < pairs
  pub fits : most + n < word_limit

pub record MatchingAdded (ends pairs most places g m n : ℕ) (s t : List ℕ) : Type 0 where
  pub graph : graph_at t ends pairs g ≡ add_matching (graph_at s ends pairs g) (matching_at s ends pairs m n)
  pub stored : Stored pairs (most + n) 0 t g
  pub grown : size t g ≤ size s g + n
  pub changes : Changes places pairs g (2 + 2 * (size s g + n)) s t

abbrev pub AddsMatching : ℕ → ℕ → ℕ → ℕ → List ℕ → List ℕ → Type 0
AddsMatching places g m n s t =
    (ends pairs most : ℕ) → MatchingFits ends pairs most places g m n s → MatchingAdded ends pairs most places g m n s t

-- ── `remove_matching` ──

-- The matching's numbers are different and each is in the graph; the graph and the matching lie below `to`.
pub record Removable (ends pairs most places g to m n : ℕ) (s : List ℕ) : Type 0 where
  pub distinct : DistinctEnds ends pairs s
  pub apart : Apart (graph_at s ends pairs g)
  pub positive : Positive (graph_at s ends pairs g)
  pub laid : Laid ends places pairs g
  pub stored : Stored pairs most 0 s g
  pub graph_below : g + 2 + 2 * size s g ≤ to
  pub after_places : places + pairs ≤ m
  pub matching_below : m + n ≤ to
  pub inside : to + 2 + 2 * size s g ≤ length s
  pub small : to + 2 + 2 * size s g ≤ word_limit
  pub once : (i j : ℕ) → i < n → j < n → word s (m + i) ≡ word s (m + j) → i ≡ j
  pub present : (i : ℕ) → i < n → (j : ℕ) × (j < size s g) × (number s g j ≡ word s (m + i))

pub record MatchingRemoved (ends pairs most places g to m n : ℕ) (s t : List ℕ) : Type 0 where
  pub graph : graph_at t ends pairs to ≡ remove_matching (graph_at s ends pairs g) (matching_at s ends pairs m n)
  pub stored : Stored pairs most 0 t to
  pub shorter : size t to ≤ size s g
  pub changes : Changes places pairs to (2 + 2 * size s g) s t

abbrev pub RemovesMatching : ℕ → ℕ → ℕ → ℕ → ℕ → List ℕ → List ℕ → Type 0
RemovesMatching places g to m n s t =
    (ends pairs most : ℕ) → Removable ends pairs most places g to m n s →
    MatchingRemoved ends pairs most places g to m n s t
