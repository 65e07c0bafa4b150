-- What the steps of writing and reading a filed plan do to a lent buffer. Assumes nothing.
use Rattle.std.specs.Prelude.{ℕ, ◌+◌, ◌*◌, ◌/◌, ◌%◌, List, get_or, set}
use Rattle.filing.specs.Filed.{numbers_of}

-- the two bytes of a number at a place, low byte first
abbrev pub put_number : List ℕ → ℕ → ℕ → List ℕ
put_number buffer at w = set (set buffer at (w % 256)) (at + 1) (w / 256 % 256)

-- the six bytes of an appointment at its position: first end, second end, slot
abbrev pub put_numbers : List ℕ → ℕ → ℕ → ℕ → ℕ → List ℕ
put_numbers buffer i first second slot =
    put_number (put_number (put_number buffer (6 * i + 4) first) (6 * i + 4 + 2) second) (6 * i + 4 + 4) slot

-- and of the appointment there in a list and its slots
abbrev pub put_row : List ℕ → List ℕ → ℕ → List ℕ → List ℕ
put_row list slots i buffer = put_numbers buffer i (get_or list (2 * i) 0) (get_or list (2 * i + 1) 0) (get_or slots i 0)

-- the two ends of the appointment at a position of the filed plan go to their places in the list
abbrev pub take_row : List ℕ → ℕ → List ℕ → List ℕ
take_row bytes i list =
    set (set list (2 * i) (get_or (numbers_of bytes) (3 * i + 2) 0)) (2 * i + 1) (get_or (numbers_of bytes) (3 * i + 3) 0)

-- and its slot to its place in the slots
abbrev pub take_slot : List ℕ → ℕ → List ℕ → List ℕ
take_slot bytes i slots = set slots i (get_or (numbers_of bytes) (3 * i + 4) 0)
