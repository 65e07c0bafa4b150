-- What the code tells of the text that it reads, and the definitions' values that each case stands for. Assumes nothing.
use Rattle.std.specs.Prelude.{ℕ, ◌-◌, ◌<◌, ◌≡◌, List, Option, None, Result, Ok, Err, eqb, length, get_or, take}
use Rattle.words.specs.Basics.{pick}
use Rattle.words.specs.Ascii.{line_feed}
use Rattle.appointments.specs.Appointments.{Appt}
use Rattle.reading.specs.Reading.{appointment_of, Input, input, malformed}
use Rattle.appointments.specs.Answers.{over}
use Rattle.reading.specs.declared.Ends.{Ends}
use Rattle.reading.specs.declared.ReadInput.{ReadInput}
use Rattle.appointments.specs.declared.Refusal.{Refusal}
use Rattle.appointments.specs.declared.Refusal.TheVariants.{MalformedLine}

-- the place of the first separator
pub record FirstAt (separator : ℕ) (bytes : List ℕ) (i : ℕ) : Type 0 where
  pub inside : i < length bytes
  pub before : (k : ℕ) → k < i → get_or bytes k 0 ≡ separator → ⊥
  pub here : get_or bytes i 0 ≡ separator

-- the ends of a line
abbrev pub ends_of : Appt → Ends
ends_of x = record { first = x.first; second = x.second }

-- The appointment of a line that a line feed ends; a line that none ends has none.
unfoldable pub ended_line : List ℕ → Option Appt
unfolding appointment_of
ended_line line =
    let ends = appointment_of (take (length line - 1) line) in
    pick (eqb (get_or line (length line - 1) 0) line_feed) ends None

-- What reading tells: P and how many numbers the list has, which then stands first in the lent list, whose later numbers
-- stay; or the malformed line, and nothing of the lent list.
abbrev pub ReadAs : Input → Result ReadInput Refusal → List ℕ → List ℕ → Type 0
ReadAs (input P list) r before after = (r ≡ Ok (record { parties = P; count = length list })) × (after ≡ over list before)
ReadAs (malformed n) r before after = r ≡ Err (MalformedLine n)
