-- What the program does between a reader and a writer whose bytes are known. Assumes nothing.
use Rattle.std.specs.Prelude.{ℕ, ◌<◌, ◌≡◌, Bool, false, List, length}
use Rattle.std.specs.declared.option.Option.{Option}
use Rattle.std.specs.Io.KnownBytes.{Appends, Consumes, IsAtEnd}
use Rattle.text.specs.Text.{text_output}

-- Of what the reader had, `came` was taken, in order and nothing left out. Where the input isn't broken and not more than 4,096 bytes
-- came, that is all of it. The writer got main's output of what came, and nothing else.
pub record Answered (had left held holds : Option (List ℕ)) (broken : Bool) (came : List ℕ) : Type 0 where
  pub taken : Consumes had left came
  pub all : broken ≡ false → length came < 4097 → IsAtEnd left
  pub written : Appends held holds (text_output broken came)

abbrev pub Answers : Option (List ℕ) → Option (List ℕ) → Option (List ℕ) → Option (List ℕ) → Type 0
Answers had left held holds = (broken : Bool) × (came : List ℕ) × Answered had left held holds broken came
