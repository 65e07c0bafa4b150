-- Worked examples of main, each computed to the byte: document 01's input, the order of 11, 10 and 1, what the planning call
-- refuses, lines that look odd and are read, and broken inputs. What is read of each kind of line, reading's own examples have. A
-- wrong definition is refused here. Assumes nothing.
use Prim.Native.String.{String}
use Rattle.std.specs.Prelude.{◌≡◌, refl, true, false, replicate}
use Rattle.words.specs.Ascii.{ascii}
use Rattle.text.specs.Text.{text_output}
use Rattle.text.specs.Computing.{computing}

-- the input, which ended, gives the output
abbrev Prints : String → String → Type 0
Prints given output = text_output false (ascii given) ≡ ascii output

-- the bytes that came of a broken input give the output
abbrev PrintsBroken : String → String → Type 0
PrintsBroken came output = text_output true (ascii came) ≡ ascii output

-- document 01's example
document_01 : Prints "3\n0,1\n1,2\n" "plan 2\n0 0 1 0\n1 1 2 1\nparty 0 0\nparty 1 0\nparty 2 0\n"
unfolding computing
document_01 = refl

-- 11 precedes 10, which precedes 1
refusals_in_order :
    (text_output false (replicate 4097 0) ≡ ascii "refused 11 0\n")
    × (text_output false (replicate 4096 0) ≡ ascii "refused 10 1\n")
    × Prints "1025\n0,1,2\n" "refused 10 2\n"
    × Prints "1025\n0,\n" "refused 1 0\n"
unfolding computing
refusals_in_order = (refl, refl, refl, refl)

-- what the planning call refuses: an empty end is blank, and 65,534 is a number
planning_refuses :
    Prints "2\n0,1\n,1\n" "refused 4 1\n"
    × Prints "2\n,\n" "refused 4 0\n"
    × Prints "2\n0,1\n0,65534\n" "refused 5 1\n"
    × Prints "129\n" "refused 8 0\n"
    × Prints "1\n0,0\n" "refused 9 0\n"
unfolding computing
planning_refuses = (refl, refl, refl, refl, refl)

-- leading zeros are read, and no parties are fine
odd_looking :
    Prints "00002\n00000,1\n" "plan 1\n0 0 1 0\nparty 0 0\nparty 1 0\n"
    × Prints "0\n" "plan 0\n"
    × Prints "2\n" "plan 0\nparty 0 0\nparty 1 0\n"
unfolding computing
odd_looking = (refl, refl, refl)

-- A broken input: 1 plus the number of line feeds where no line is malformed. A malformed line among those that ended comes first,
-- and 11 before it; what the planning call would refuse isn't looked at.
broken :
    PrintsBroken "" "refused 10 1\n"
    × PrintsBroken "3\n0,1\n1,2\n" "refused 10 4\n"
    × PrintsBroken "3\n0,1,2\n0" "refused 10 2\n"
    × (text_output true (replicate 4097 0) ≡ ascii "refused 11 0\n")
    × (text_output true (replicate 4096 0) ≡ ascii "refused 10 1\n")
    × PrintsBroken "1025\n0,\n" "refused 10 3\n"
unfolding computing
broken = (refl, refl, refl, refl, refl, refl)
