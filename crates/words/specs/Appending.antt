-- A list among the words, whose length stands at a place of its own, gets one word more. Assumes nothing.
use Rattle.std.specs.Prelude.{ℕ, ◌+◌, ◌<◌, List, length}
use Rattle.words.specs.Words.{word, put_word}

-- the list whose length stands at k and whose words start at a can get one word more
pub record CanAppend (k a : ℕ) (s : List ℕ) : Type 0 where
  pub count : k < length s
  pub next : a + word s k < length s

-- w at the end of this list
unfoldable pub appended : ℕ → ℕ → ℕ → List ℕ → List ℕ
appended k a w s = put_word (put_word s (a + word s k) w) k (word s k + 1)
