-- Rows of half-edges: what they hold, and what filling them asks and gives (`src/rows.rt`). Where they lie is called rs. Assumes
-- nothing.
use Rattle.std.specs.Prelude.{ℕ, ◌+◌, ◌*◌, ◌<◌, ◌≤◌, ◌≡◌, List, length, take}
use Rattle.words.specs.Basics.{count}
use Rattle.words.specs.Appending.{CanAppend}
use Rattle.words.specs.Frames.{Keeps}
use Rattle.words.specs.Words.{word, put_word, word_limit}
use Rattle.list_pairs.specs.declared.rows.RowBases.{RowBases}

-- A position h of the flat list is a half-edge of the party that stands there. The t-th half-edge in the row of party v:
abbrev pub row : List ℕ → RowBases → ℕ → ℕ → ℕ
row s rs v t = word s (rs.rows + rs.d * v + t)

-- and the party's counter, which says how many half-edges are in the row
abbrev pub counter : List ℕ → RowBases → ℕ → ℕ
counter s rs v = word s (rs.counts + v)

-- the rows of as many parties, of d words each, after their counters at u
abbrev pub rows_from : ℕ → ℕ → ℕ → RowBases
rows_from parties d u = record { parties = parties; d = d; counts = u; rows = u + parties }

-- the row of party v has a place for one half-edge more
abbrev pub Pushes : RowBases → ℕ → List ℕ → Type 0
Pushes rs v s = CanAppend (rs.counts + v) (rs.rows + rs.d * v) s

-- the words after half-edge h has gone to the end of the row of party v
abbrev pub row_pushed : RowBases → ℕ → ℕ → List ℕ → List ℕ
row_pushed rs v h s =
    put_word (put_word s (rs.rows + rs.d * v + counter s rs v) h) (rs.counts + v) (counter s rs v + 1)

-- There is a row for each party that the list names, long enough for its load.
pub record RowsFit (list : List ℕ) (rs : RowBases) (s : List ℕ) : Type 0 where
  pub ends : (h : ℕ) → h < length list → word list h < rs.parties
  pub loads : (v : ℕ) → v < rs.parties → count v list ≤ rs.d
  pub after : rs.counts + rs.parties ≤ rs.rows
  pub inside : rs.rows + rs.d * rs.parties ≤ length s
  pub small : rs.rows + rs.d * rs.parties < word_limit
  pub short : length list ≤ 8192

-- The first k half-edges are in the rows of their parties, in order.
pub record Rows (list : List ℕ) (rs : RowBases) (k : ℕ) (s : List ℕ) : Type 0 where
  pub lens : (v : ℕ) → v < rs.parties → counter s rs v ≡ count v (take k list)
  pub below : (v t : ℕ) → v < rs.parties → t < counter s rs v → row s rs v t < k
  pub named : (v t : ℕ) → v < rs.parties → t < counter s rs v → word list (row s rs v t) ≡ v
  pub order : (v t u : ℕ) → v < rs.parties → t < u → u < counter s rs v → row s rs v t < row s rs v u
  pub there :
      (h : ℕ) → h < k →
      (t : ℕ) × (t < counter s rs (word list h)) × (row s rs (word list h) t ≡ h)

-- The first k half-edges are in the rows, and the words below them stay.
pub record RowsFilled (list : List ℕ) (rs : RowBases) (k : ℕ) (s t : List ℕ) : Type 0 where
  pub filled : Rows list rs k t
  pub keeps : Keeps rs.counts s t
