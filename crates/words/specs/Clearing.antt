-- Words that are set to 0. Assumes nothing.
use Rattle.std.specs.Prelude.{ℕ, ◌+◌, ◌<◌, ◌≤◌, ◌≡◌, List}
use Rattle.words.specs.Words.{word}
use Rattle.words.specs.Frames.{Keeps}

-- the n words at b are 0, and no other word has changed
pub record Cleared (b n : ℕ) (s t : List ℕ) : Type 0 where
  pub zero : (v : ℕ) → v < n → word t (b + v) ≡ 0
  pub keeps : Keeps b s t
  pub over : (i : ℕ) → b + n ≤ i → word t i ≡ word s i
