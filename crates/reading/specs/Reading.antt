-- What main reads: a line P, then lines `first,second`, each ended by a line feed; or the first line that is malformed.
-- Assumes nothing.
use Rattle.std.specs.Prelude.{ℕ, ◌+◌, ◌-◌, ◌*◌, Bool, true, false, ◌&&◌, ◌||◌, List, [], ◌∷◌, Option, None, Some, eqb, leb, ltb, length}
use Rattle.words.specs.Basics.{pick, count}
use Rattle.appointments.specs.Appointments.{Appt, appt}
use Rattle.appointments.specs.Checks.{blank}
use Rattle.words.specs.Ascii.{line_feed, comma}

-- a byte before the first part
abbrev pub onto : ℕ → List (List ℕ) → List (List ℕ)
onto b [] = (b ∷ []) ∷ []
onto b (part ∷ more) = (b ∷ part) ∷ more

-- Bytes parted at each separator: one part more than there are separators.
unfoldable pub parts : ℕ → List ℕ → List (List ℕ)
parts separator [] = [] ∷ []
parts separator (b ∷ bytes) =
    let more = parts separator bytes in
    pick (eqb b separator) ([] ∷ more) (onto b more)

-- ── a number ──

abbrev pub is_digit : ℕ → Bool
is_digit b = leb 48 b && leb b 57

-- the value of digits that follow those of v; none if a byte is no digit
unfoldable pub digits_value : ℕ → List ℕ → Option ℕ
digits_value v [] = Some v
digits_value v (b ∷ bytes) =
    let value = digits_value (10 * v + (b - 48)) bytes in
    pick (is_digit b) value None

abbrev pub below_blank : Option ℕ → Option ℕ
below_blank (Some v) = pick (ltb v blank) (Some v) None
below_blank None = None

-- A number has 1 to 5 digits, of which the first ones may be zeros, and is below 65,535.
unfoldable pub number : List ℕ → Option ℕ
unfolding digits_value
number bytes =
    let value = digits_value 0 bytes in
    pick (eqb (length bytes) 0 || ltb 5 (length bytes)) None (below_blank value)

-- ── a line of an appointment ──

-- An end may be empty and is then blank.
unfoldable pub end_of : List ℕ → Option ℕ
unfolding number
end_of [] = Some blank
end_of (b ∷ bytes) = number (b ∷ bytes)

abbrev pub both : Option ℕ → Option ℕ → Option Appt
both (Some a) (Some b) = Some (appt a b)
both (Some a) None = None
both None b = None

-- two ends, parted by one comma
abbrev pub two_ends : List (List ℕ) → Option Appt
two_ends [] = None
two_ends (a ∷ []) = None
two_ends (a ∷ b ∷ []) = both (end_of a) (end_of b)
two_ends (a ∷ b ∷ c ∷ more) = None

unfoldable pub appointment_of : List ℕ → Option Appt
unfolding parts end_of
appointment_of line = two_ends (parts comma line)

-- ── the lines ──

-- P and the list, or the number, from 1, of the first malformed line
pub data Input : Type 0 where
  input : ℕ → List ℕ → Input
  malformed : ℕ → Input

abbrev pub with_ends : Appt → Input → Input
with_ends x (input P list) = input P (x.first ∷ x.second ∷ list)
with_ends x (malformed n) = malformed n

abbrev pub and_then_lines : ℕ → Option Appt → Input → Input
and_then_lines n (Some x) later = with_ends x later
and_then_lines n None later = malformed n

-- The lines from line n on. A line feed ends each, so after the last one there is nothing.
unfoldable pub read_lines : ℕ → ℕ → List (List ℕ) → Input
unfolding appointment_of
read_lines P n [] = malformed n
read_lines P n (rest ∷ []) = pick (eqb (length rest) 0) (input P []) (malformed n)
read_lines P n (line ∷ next ∷ more) =
    let later = read_lines P (n + 1) (next ∷ more) in
    and_then_lines n (appointment_of line) later

-- the lines from line 2 on, if the first one is a number
abbrev pub with_parties : Option ℕ → List (List ℕ) → Input
with_parties (Some P) more = read_lines P 2 more
with_parties None more = malformed 1

-- The first line is P, which may not be empty. Without a line feed there is no line.
abbrev pub read_first : List (List ℕ) → Input
read_first [] = malformed 1
read_first (rest ∷ []) = malformed 1
read_first (line ∷ next ∷ more) = with_parties (number line) (next ∷ more)

unfoldable pub read_text : List ℕ → Input
unfolding parts number read_lines
read_text bytes = read_first (parts line_feed bytes)

-- ── a broken input ──

-- Reading failed for good behind the bytes that came, so no list is read. The line is the one that is malformed, or else the
-- one behind those that ended: 1 plus the number of line feeds.
abbrev pub broke_off : List ℕ → Input → Input
broke_off bytes (malformed n) = malformed n
broke_off bytes (input P list) = malformed (1 + count line_feed bytes)

-- the bytes that came, of a broken input or of one that ended
unfoldable pub read_input : Bool → List ℕ → Input
unfolding read_text count
read_input true bytes = broke_off bytes (read_text bytes)
read_input false bytes = read_text bytes
