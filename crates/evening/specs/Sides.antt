-- What padding one side asks and gives (`src/sides.rt`). Assumes nothing.
use Rattle.std.specs.Prelude.{ℕ, ◌+◌, ◌-◌, ◌<◌, ◌≤◌, ◌≡◌, List, ◌++◌, length}
use Rattle.words.specs.Words.{word, region, word_limit}
use Rattle.regular_graph.specs.Evening.{new_parties}

-- k parties stand at `at`, which has room for n
pub record CanPadSide (at k n p : ℕ) (s : List ℕ) : Type 0 where
  pub le : k ≤ n
  pub few : p + n ≤ word_limit
  pub room : at + n ≤ length s
  pub small : at + n ≤ word_limit

-- up to place i
pub record Padding (at k i p : ℕ) (s t : List ℕ) : Type 0 where
  pub side : region t at i ≡ region s at k ++ new_parties p (i - k)
  pub len : length t ≡ length s
  pub under : (j : ℕ) → j < at → word t j ≡ word s j
  pub over : (j : ℕ) → at + i ≤ j → word t j ≡ word s j
