-- What printing does to an output: the text that was put so far, and what is put behind it. Assumes nothing.
use Rattle.std.specs.Prelude.{ℕ, ◌+◌, ◌*◌, ◌≤◌, ◌≡◌, List, [], ◌∷◌, ◌++◌, length, take, drop, get_or}
use Rattle.std.specs.Borrow.{GName}
use Rattle.appointments.specs.Appointments.{appt}
use Rattle.appointments.specs.Answers.{over}
use Rattle.printing.specs.Printing.{appointment_line}

-- An output so far: its text, how many bytes that has, how many the output holds at most, and, of a lent slice, the bytes that
-- stand behind the text and which slice it is.
pub record State : Type 0 where
  pub text : List ℕ
  pub count : ℕ
  pub most : ℕ
  pub behind : List ℕ
  pub lent : GName

-- a string that holds a number of bytes at most: nothing stands behind its text, and it is no lent slice
abbrev pub string : ℕ → List ℕ → State
string most text = record { text = text; count = length text; most = most; behind = []; lent = 0 }

-- a lent slice, so many first bytes of which are the text
abbrev pub slice : List ℕ → ℕ → GName → State
slice bytes count lent = record { text = take count bytes; count = count; most = length bytes; behind = drop count bytes; lent = lent }

-- there is room for the bytes behind the text
pub record Fits (before : State) (bytes : List ℕ) : Type 0 where
  pub room : before.count + length bytes ≤ before.most

-- the bytes stand behind the text, over as many of those that stood there, and nothing else changed
pub record Placed (before : State) (bytes : List ℕ) (after : State) : Type 0 where
  pub stored : after.text ≡ before.text ++ bytes
  pub counted : after.count ≡ before.count + length bytes
  pub holds : after.most ≡ before.most
  pub stays : after.behind ≡ drop (length bytes) before.behind
  pub same : after.lent ≡ before.lent

-- the buffer has room for the bytes from a place on
pub record Room (buffer : List ℕ) (at : ℕ) (bytes : List ℕ) : Type 0 where
  pub fits : at + length bytes ≤ length buffer

-- The bytes are the first ones of the buffer, whose later bytes stay, and they were counted.
pub record Printed (bytes : List ℕ) (count : ℕ) (buffer after : List ℕ) : Type 0 where
  pub counted : count ≡ length bytes
  pub stored : after ≡ over bytes buffer

-- a field and the byte behind it
abbrev pub field : List ℕ → ℕ → List ℕ
field bytes end = bytes ++ (end ∷ [])

-- the line of the appointment at a position of the list
abbrev pub appointment_line_at : List ℕ → List ℕ → ℕ → List ℕ
appointment_line_at list slots i =
    appointment_line i (appt (get_or list (2 * i) 0) (get_or list (2 * i + 1) 0)) (get_or slots i 0)
