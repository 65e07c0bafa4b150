-- Representatives: what they are, and what the search for them asks and gives (`src/representatives.rt`). Assumes nothing.
use Rattle.std.specs.Prelude.{ℕ, ◌+◌, ◌*◌, ◌/◌, ◌%◌, ◌<◌, ◌≤◌, ◌≡◌, List, ◌⊎◌, length}
use Rattle.words.specs.Frames.{Changes}
use Rattle.words.specs.Words.{word, put_word, word_limit}
use Rattle.words.specs.Sides.{mate}
use Rattle.multigraph.specs.Regular.{SameEnds}
use Rattle.list_pairs.specs.Contract.{first_of, second_of}
use Rattle.list_pairs.specs.declared.rows.RowBases.{RowBases}
use Rattle.list_pairs.specs.Rows.{counter, Rows}
use Rattle.list_pairs.specs.Ends.{Earlier}

-- two appointments have the same ends, either way round
abbrev pub Same : List ℕ → ℕ → ℕ → Type 0
Same list i j = SameEnds (first_of list i) (second_of list i) (first_of list j) (second_of list j)

-- j represents i: the same ends, not later, and i itself only if no earlier one has its ends
pub record Rep (list : List ℕ) (i j : ℕ) : Type 0 where
  pub le : j ≤ i
  pub same : Same list j i
  pub first : j ≡ i → (k : ℕ) → k < i → Same list k i → ⊥

-- what stands in the map for the other end of half-edge h
abbrev pub candidate : List ℕ → ℕ → ℕ → List ℕ → ℕ
candidate list map h s = word s (map + word list (mate h))

-- The candidate represents the half-edge's appointment if it is an earlier one with its ends; else the appointment represents
-- itself and is the next candidate.
abbrev pub RepFound : List ℕ → ℕ → ℕ → ℕ → List ℕ → List ℕ → Type 0
RepFound list map apair h s t =
    (Earlier list (candidate list map h s) (h / 2) (word list h) (word list (mate h))
    × (t ≡ put_word s (apair + h / 2) (candidate list map h s)))
    ⊎ ((Earlier list (candidate list map h s) (h / 2) (word list h) (word list (mate h)) → ⊥)
    × (t ≡ put_word (put_word s (apair + h / 2) (h / 2)) (map + word list (mate h)) (h / 2)))

-- half-edge h and its mate stand in the list; its representative and the candidate have places
pub record Finds (list : List ℕ) (map apair h : ℕ) (s : List ℕ) : Type 0 where
  pub half : h < length list
  pub other : mate h < length list
  pub rep : apair + h / 2 < length s
  pub candidate : map + word list (mate h) < length s

-- The rows are filled. Representatives go to `apair`, below the rows; the map lies above them.
pub record RepsFit (list : List ℕ) (rs : RowBases) (map apair : ℕ) (s : List ℕ) : Type 0 where
  pub in_rows : Rows list rs (length list) s
  pub lens : (v : ℕ) → v < rs.parties → counter s rs v ≤ rs.d
  pub ends : (h : ℕ) → h < length list → word list h < rs.parties
  pub even : length list % 2 ≡ 0
  pub short : length list ≤ 8192
  pub before : apair + length list / 2 ≤ rs.counts
  pub after : rs.counts + rs.parties ≤ rs.rows
  pub after_rows : rs.rows + rs.d * rs.parties ≤ map
  pub inside : map + rs.parties ≤ length s
  pub small : map + rs.parties < word_limit

-- the half-edges of party v
pub record RowDone (list : List ℕ) (p map apair v : ℕ) (s t : List ℕ) : Type 0 where
  pub reps : (h : ℕ) → h < length list → word list h ≡ v → Rep list (h / 2) (word t (apair + h / 2))
  pub kept : (i : ℕ) → i < length list / 2 → Rep list i (word s (apair + i)) → Rep list i (word t (apair + i))
  pub changes : Changes apair (length list / 2) map p s t

-- the half-edges of the parties below v
pub record RepsDone (list : List ℕ) (p map apair v : ℕ) (s t : List ℕ) : Type 0 where
  pub reps : (h : ℕ) → h < length list → word list h < v → Rep list (h / 2) (word t (apair + h / 2))
  pub changes : Changes apair (length list / 2) map p s t
