-- What `diagonal` requires and what it does. Throughout this crate s are the words before a step and t those
-- after it, and u is the mark: from there on words are free. Assumes nothing.
use Rattle.std.specs.Prelude.{ℕ, ◌+◌, ◌*◌, ◌<◌, ◌≤◌, ◌≡◌, List, ◌⊎◌, length}
use Rattle.words.specs.Words.{word, region, word_limit}
use Rattle.words.specs.Frames.{ChangesThree}
use Rattle.multigraph.specs.Regular.{Partition}
use Rattle.multigraph.specs.Places.{size, HasEnds}
use Rattle.list_pairs.specs.declared.Bases.{Bases}

-- n parties on each side stand at `at.left` and at `at.right`, below the n words at `diag`, which lie below the table of ends; the
-- table has room for n rows more than the graph at `at.g` has pairs, and there is room above the mark u.
pub record CanDiagonal (n : ℕ) (at : Bases) (diag u : ℕ) (s : List ℕ) : Type 0 where
  pub side : ℕ → ℕ
  pub partition : Partition (n + n) side (region s at.left n) (region s at.right n)
  pub after_left : at.left + n ≤ diag
  pub after_right : at.right + n ≤ diag
  pub after_diag : diag + n ≤ at.ends
  pub after_ends : at.ends + 2 * (size s at.g + n) ≤ u
  pub room : u + (n + n) ≤ length s
  pub low : u + (n + n) < word_limit

-- The pair of left i and right i has a number: that of a pair of the table with these ends, either way round, if there is one,
-- else the one i rows after the last pair's; a row with these ends stands there.
pub record DiagonalSet (n : ℕ) (at : Bases) (diag u : ℕ) (s : List ℕ) (u' : ℕ) (t : List ℕ) : Type 0 where
  pub firsts : (i : ℕ) → i < n → word t (at.ends + 2 * (size s at.g + i)) ≡ word s (at.left + i)
  pub seconds : (i : ℕ) → i < n → word t (at.ends + 2 * (size s at.g + i) + 1) ≡ word s (at.right + i)
  pub numbers :
      (i : ℕ) → i < n →
      ((word t (diag + i) < size s at.g) × HasEnds s at.ends (word t (diag + i)) (word s (at.left + i)) (word s (at.right + i)))
      ⊎ ((word t (diag + i) ≡ size s at.g + i)
      × ((e : ℕ) → e < size s at.g → HasEnds s at.ends e (word s (at.left + i)) (word s (at.right + i)) → ⊥))
  pub mark : u' ≡ u
  pub changes : ChangesThree diag n (at.ends + 2 * size s at.g) (2 * n) u 0 u s t
