-- What main reads of a broken input, said by the bytes of the lines that ended. Assumes nothing.
use Rattle.std.specs.Prelude.{ℕ, ◌+◌, ◌≡◌, true, List, [], ◌∷◌, eqb}
use Rattle.words.specs.Basics.{pick, count}
use Rattle.words.specs.Ascii.{line_feed}
use Rattle.reading.specs.Reading.{input, malformed, read_text, read_input}

-- the lines that ended: the bytes up to the last line feed
unfoldable pub ended : List ℕ → List ℕ
ended [] = []
ended (b ∷ bytes) = pick (eqb (count line_feed (b ∷ bytes)) 0) [] (b ∷ ended bytes)

-- Never a list: the first malformed line among those that ended, or else 1 plus the number of line feeds. (Where no line ended,
-- reading no bytes gives that 1.) Where the bytes alone are malformed too, as an input that ended, the line is the same.
pub record ReadsBroken (bytes : List ℕ) : Type 0 where
  pub no_list : (P : ℕ) (list : List ℕ) → read_input true bytes ≡ input P list → ⊥
  pub first_malformed : (n : ℕ) → read_text (ended bytes) ≡ malformed n → read_input true bytes ≡ malformed n
  pub none_malformed : (P : ℕ) (list : List ℕ) → read_text (ended bytes) ≡ input P list → read_input true bytes ≡ malformed (1 + count line_feed bytes)
  pub same_line : (n : ℕ) → read_text bytes ≡ malformed n → read_input true bytes ≡ malformed n
