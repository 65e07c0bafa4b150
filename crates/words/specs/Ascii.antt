-- The bytes of a quoted text. Assumes nothing.
use Rattle.std.specs.Prelude.{ℕ, List, [], ◌∷◌}
use Prim.Native.Char.{code}
use Prim.Native.String.{String}

-- one byte for each character, which is so for those below 128
unfoldable pub ascii : String → List ℕ
ascii String.[] = []
ascii (String.◌∷◌ c cs) = code c ∷ ascii cs

abbrev pub line_feed : ℕ
line_feed = 10

abbrev pub space : ℕ
space = 32

abbrev pub comma : ℕ
comma = 44
