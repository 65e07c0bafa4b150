-- What the routines that count flagged pairs, choose a half and copy it state. Assumes nothing.
use Rattle.std.specs.Prelude.{ℕ, ◌+◌, ◌*◌, ◌<◌, ◌≤◌, ◌≡◌, List, leb, length}
use Rattle.words.specs.Basics.{pick}
use Rattle.words.specs.Words.{word, word_limit}
use Rattle.multigraph.specs.Multigraph.{Graph}
use Rattle.multigraph.specs.Stored.{graph_at}
use Rattle.multigraph.specs.Places.{size, number, copies_of}
use Rattle.perfect_matching.specs.Matching.{flagged_pairs, flagged_copies}
use Rattle.matching.specs.declared.Count.{Count}
use Rattle.matching.specs.declared.Count.TheVariants.{FlaggedPairs, FlaggedCopies}

-- what a search counts: the first one flagged pairs, the second one their copies
abbrev pub flagged_by : Count → Graph → ℕ
flagged_by FlaggedPairs = flagged_pairs
flagged_by FlaggedCopies = flagged_copies

-- what a flagged pair with so many copies counts
abbrev pub counted : Count → ℕ → ℕ
counted FlaggedPairs copies = 1
counted FlaggedCopies copies = copies

-- what entry i of the graph at g counts
abbrev pub flagged_entry : Count → List ℕ → ℕ → ℕ → ℕ → ℕ
flagged_entry by s pairs g i = pick (leb pairs (number s g i)) (counted by (copies_of s g i)) 0

-- the words of a graph of its own are all there
abbrev pub Whole : List ℕ → Type 0
Whole g = 2 + 2 * size g 0 ≤ length g

-- The chooser's answer, of any two things that stand for two graphs: the first unless the second has fewer flagged.
abbrev pub fewer {ℓ} : {A : Type ℓ} → Count → Graph → Graph → A → A → A
fewer by g h a b = pick (leb (flagged_by by g) (flagged_by by h)) a b

-- the header of the half that goes on, where two halves lie side by side and each has so much room
abbrev pub Chooses : ℕ → ℕ → ℕ → Count → List ℕ → ℕ → Type 0
Chooses first room pairs by s r =
    (ends : ℕ) →
    r ≡ fewer by (graph_at s ends pairs first) (graph_at s ends pairs (first + room)) (word s first) (word s (first + room))

-- ── a graph copied, its copies times α ──

-- The graph's words at `from` lie apart from those to be written at `to`, and what is written fits a word.
pub record CanCopy (from to α : ℕ) (s : List ℕ) : Type 0 where
  pub apart : (i j : ℕ) → i < 2 + 2 * size s from → j < 2 + 2 * size s from → from + i ≡ to + j → ⊥
  pub inside : to + 2 + 2 * size s from ≤ length s
  pub small : to + 2 + 2 * size s from ≤ word_limit
  pub numbers : (i : ℕ) → i < size s from → number s from i < word_limit
  pub copies : (i : ℕ) → i < size s from → α * copies_of s from i < word_limit

-- the first i entries are copied
pub record Copying (from to α i : ℕ) (s t : List ℕ) : Type 0 where
  pub len : length t ≡ length s
  pub numbers : (j : ℕ) → j < i → number t to j ≡ number s from j
  pub copies : (j : ℕ) → j < i → copies_of t to j ≡ α * copies_of s from j
  pub under : (j : ℕ) → j < to + 2 → word t j ≡ word s j
  pub over : (j : ℕ) → to + 2 + 2 * i ≤ j → word t j ≡ word s j

-- the graph is copied
pub record Copied (from to α : ℕ) (s t : List ℕ) : Type 0 where
  pub len : length t ≡ length s
  pub header : word t to ≡ to
  pub sized : size t to ≡ size s from
  pub numbers : (j : ℕ) → j < size s from → number t to j ≡ number s from j
  pub copies : (j : ℕ) → j < size s from → copies_of t to j ≡ α * copies_of s from j
  pub under : (j : ℕ) → j < to → word t j ≡ word s j
  pub over : (j : ℕ) → to + 2 + 2 * size s from ≤ j → word t j ≡ word s j

abbrev pub Copies : ℕ → ℕ → ℕ → List ℕ → List ℕ → Type 0
Copies from to α s t = CanCopy from to α s → Copied from to α s t

-- m entries of the graph at `from`, and the place for them at `to`, lie inside the words.
abbrev pub InsideBoth : ℕ → ℕ → ℕ → List ℕ → Type 0
InsideBoth from to m s = (from + 2 + 2 * m ≤ length s) × (to + 2 + 2 * m ≤ length s)

-- Two halves, each with so much room, lie side by side at `first`, and at h there is as much room.
pub record SideBySide (first room h : ℕ) (s : List ℕ) : Type 0 where
  pub first_base : word s first ≡ first
  pub second_base : word s (first + room) ≡ first + room
  pub first_fits : 2 + 2 * size s first ≤ room
  pub second_fits : 2 + 2 * size s (first + room) ≤ room
  pub inside : first + room + room ≤ length s
  pub below : h + room ≤ length s

-- Of two halves side by side at `first` the one that goes on is copied to h.
pub record GoesOn (first room pairs h : ℕ) (by : Count) (s t : List ℕ) : Type 0 where
  pub from : ℕ
  pub chosen : Chooses first room pairs by s from
  pub copied : Copies from h 1 s t
