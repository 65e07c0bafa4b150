-- What the planning call is lent, as it is at entry, with its checks. It stands here and not in `planning`, since calls that don't
-- stand on `planning` (booking, taking back, making slot sizes even) are lent the same. A slice more is a field more, and no law
-- of the call gets a parameter more. Assumes nothing.
use Rattle.std.specs.Prelude.{ℕ, List, length}
use Rattle.appointments.specs.Appointments.{Appt, appts, largest_load, scratch_words}
use Rattle.appointments.specs.Checks.{Check, checks_1_to_8}

-- P, the list, and what the slot buffer and scratch hold
pub record Lent : Type 0 where
  pub parties : ℕ
  pub list : List ℕ
  pub slots : List ℕ
  pub scratch : List ℕ

abbrev pub lent : ℕ → List ℕ → List ℕ → List ℕ → Lent
lent P list slots scratch = record { parties = P; list = list; slots = slots; scratch = scratch }

-- the same with another list
abbrev pub with_list : Lent → List ℕ → Lent
with_list l list = lent l.parties list l.slots l.scratch

-- the appointments, D and W of its list
abbrev pub lent_appts : Lent → List Appt
lent_appts l = appts l.list

abbrev pub lent_d : Lent → ℕ
lent_d l = largest_load l.parties (lent_appts l)

abbrev pub lent_words : Lent → ℕ
lent_words l = scratch_words l.parties (lent_d l)

-- Checks 1 to 8 of it, then what comes next.
abbrev pub lent_checks : Lent → Check → Check
lent_checks l next = checks_1_to_8 l.parties l.list (length l.slots) (length l.scratch) next
