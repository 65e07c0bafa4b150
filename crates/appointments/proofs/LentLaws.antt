-- The checks of what a call is lent: what they say where they pass or refuse, and how they go on. Assumes nothing.
use Prim.Native.Nat.{ℕ, ◌≤◌, ◌<◌}
use mathlib.Core.Path.{◌≡◌}
use lib.ListN.{length}
use Rattle.appointments.specs.Checks.{Check, passed, refused}
use Rattle.appointments.specs.Lent.{Lent, lent_checks}
use Rattle.appointments.proofs.ChecksLaws.{Passes, passed_passes, passed_goes_on}
use Rattle.appointments.proofs.Causes.{refused_cause, cause_number, refused_stays}

module _ (l : Lent) where
  -- what passes has the eight properties of document 01's table,
  pub lent_passes : lent_checks l passed ≡ passed → Passes l.parties l.list (length l.slots) (length l.scratch)
  lent_passes e = passed_passes l.parties l.list (length l.slots) (length l.scratch) e

  -- and what comes next decides
  pub lent_goes_on : (next : Check) → lent_checks l passed ≡ passed → lent_checks l next ≡ next
  lent_goes_on next e = passed_goes_on l.parties l.list (length l.slots) (length l.scratch) next e

  -- a refusal has a number of that table and a small place,
  pub lent_number : (n i : ℕ) → lent_checks l passed ≡ refused n i → (0 < n) × (n ≤ 8) × (i ≤ 4096)
  lent_number n i e = cause_number (refused_cause l.parties l.list (length l.slots) (length l.scratch) n i e)

  -- and it stays, whatever comes next
  pub lent_stays : (next : Check) (n i : ℕ) → lent_checks l passed ≡ refused n i → lent_checks l next ≡ refused n i
  lent_stays next n i e = refused_stays l.parties l.list (length l.slots) (length l.scratch) next n i e
