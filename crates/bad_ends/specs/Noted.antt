-- What the walk keeps while it goes on. Assumes nothing.
use Rattle.std.specs.Prelude.{ℕ, ◌≡◌, Bool, true, false, Option, Some, None, List, drop}
use Rattle.appointments.specs.Appointments.{Appt}
use Rattle.appointments.specs.Checks.{First, at, nowhere, first_of, first_from}

-- what is kept once an end at position i is noted: i if the end passes the test and there is none yet
abbrev pub noted : ℕ → Bool → Option ℕ → Option ℕ
noted i true None = Some i
noted i true (Some k) = Some k
noted i false kept = kept

-- what was found before stays
abbrev pub or_first : First → First → First
or_first (at i) later = at i
or_first nowhere later = later

-- What is kept from before position i, or else what is found from there on, is the first position of the whole list.
abbrev pub Kept : (Appt → Bool) → List Appt → ℕ → Option ℕ → Type 0
Kept test xs i kept = or_first (first_of kept) (first_from i test (drop i xs)) ≡ first_from 0 test xs
