-- What the tests of two ends say (`src/ends.rt`). Assumes nothing.
use Rattle.std.specs.Prelude.{ℕ, ◌≤◌, List}
use Rattle.multigraph.specs.Regular.{SameEnds}
use Rattle.list_pairs.specs.Contract.{first_of, second_of}

-- appointment i has the ends l and r
abbrev pub Joins : List ℕ → ℕ → ℕ → ℕ → Type 0
Joins list i l r = SameEnds l r (first_of list i) (second_of list i)

-- appointment j is not later than i and has the ends v and w
abbrev pub Earlier : List ℕ → ℕ → ℕ → ℕ → ℕ → Type 0
Earlier list j i v w = (j ≤ i) × Joins list j v w
