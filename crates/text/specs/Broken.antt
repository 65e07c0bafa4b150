-- What main reports of a broken input, said by the bytes of the lines that ended. Assumes nothing.
use Rattle.std.specs.Prelude.{ℕ, ◌+◌, ◌≤◌, ◌<◌, ◌≡◌, true, List, length}
use Rattle.words.specs.Basics.{count}
use Rattle.words.specs.Ascii.{line_feed}
use Rattle.reading.specs.Reading.{input, malformed, read_text}
use Rattle.reading.specs.Broken.{ended}
use Rattle.printing.specs.Printing.{plan, refused}
use Rattle.text.specs.Text.{report}

-- A refusal, never a plan: 11 above 4,096 bytes; else 10 with the first malformed line among those that ended, or else 1 plus
-- the number of line feeds. (Where no line ended, reading no bytes gives that 1.) Where the bytes alone are malformed too, as an
-- input that ended, the line is the same.
pub record RefusesBroken (bytes : List ℕ) : Type 0 where
  pub no_plan : (P : ℕ) (list : List ℕ) (D : ℕ) (slots : List ℕ) → report true bytes ≡ plan P list D slots → ⊥
  pub long : 4096 < length bytes → report true bytes ≡ refused 11 0
  pub first_malformed : length bytes ≤ 4096 → (n : ℕ) → read_text (ended bytes) ≡ malformed n → report true bytes ≡ refused 10 n
  pub none_malformed : length bytes ≤ 4096 → (P : ℕ) (list : List ℕ) → read_text (ended bytes) ≡ input P list → report true bytes ≡ refused 10 (1 + count line_feed bytes)
  pub same_line : length bytes ≤ 4096 → (n : ℕ) → read_text bytes ≡ malformed n → report true bytes ≡ refused 10 n
