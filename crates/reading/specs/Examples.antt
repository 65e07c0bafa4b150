-- Worked examples of reading, each computed: document 01's input, malformed lines of each kind, lines that look odd and are read,
-- and broken inputs. A wrong definition is refused here. Assumes nothing.
use Rattle.std.specs.Prelude.{ℕ, ◌≡◌, refl, true, false, [], ◌∷◌}
use Prim.Native.String.{String}
use Rattle.words.specs.Ascii.{ascii}
use Rattle.reading.specs.Reading.{Input, input, malformed, read_input}
use Rattle.reading.specs.Computing.{computing}

-- the input, which ended, is read so
abbrev Reads : String → Input → Type 0
Reads given read = read_input false (ascii given) ≡ read

-- the first malformed line of the bytes that came of a broken input
abbrev Breaks : String → ℕ → Type 0
Breaks came n = read_input true (ascii came) ≡ malformed n

-- document 01's example
document_01 : Reads "3\n0,1\n1,2\n" (input 3 (0 ∷ 1 ∷ 1 ∷ 2 ∷ []))
unfolding computing
document_01 = refl

-- each kind of malformed line, by its number
malformed_lines :
    Reads "" (malformed 1)
    × Reads "3" (malformed 1)
    × Reads "\n" (malformed 1)
    × Reads "3\n0,1" (malformed 2)
    × Reads "3\n\n" (malformed 2)
    × Reads "3\n0\n" (malformed 2)
    × Reads "3\n0,1\n1,2\n\n0,1\n" (malformed 4)
    × Reads "3\n0, 1\n" (malformed 2)
    × Reads "3\r\n0,1\r\n" (malformed 1)
    × Reads "3\n0,1\r\n" (malformed 2)
    × Reads "3\n0,1,2\n" (malformed 2)
    × Reads "3\n0,000001\n" (malformed 2)
    × Reads "3\n65535,1\n" (malformed 2)
    × Reads "65535\n" (malformed 1)
    × Reads "3\n/,1\n" (malformed 2)
    × Reads "3\n0,:\n" (malformed 2)
unfolding computing
malformed_lines = (refl, refl, refl, refl, refl, refl, refl, refl, refl, refl, refl, refl, refl, refl, refl, refl)

-- leading zeros are read, an empty end is blank, 65,534 is a number, and no parties and no appointments are fine
odd_looking :
    Reads "00002\n00000,1\n" (input 2 (0 ∷ 1 ∷ []))
    × Reads "2\n,1\n,\n" (input 2 (65535 ∷ 1 ∷ 65535 ∷ 65535 ∷ []))
    × Reads "65534\n0,65534\n" (input 65534 (0 ∷ 65534 ∷ []))
    × Reads "0\n" (input 0 [])
unfolding computing
odd_looking = (refl, refl, refl, refl)

-- no line malformed: 1 plus the number of line feeds, also where bytes stand behind the last one
broken_off :
    Breaks "" 1
    × Breaks "3" 1
    × Breaks "3\n" 2
    × Breaks "3\n0,1" 2
    × Breaks "3\n0,1\n" 3
    × Breaks "3\n0,1\n1" 3
    × Breaks "3\n0,1\n1,2\n" 4
unfolding computing
broken_off = (refl, refl, refl, refl, refl, refl, refl)

-- a malformed line among those that ended comes first
broken_malformed :
    Breaks "\n" 1
    × Breaks "3\n\n0,1" 2
    × Breaks "3\n0,1,2\n0" 2
unfolding computing
broken_malformed = (refl, refl, refl)
