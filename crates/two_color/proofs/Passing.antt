-- A list that has passed document 01's checks can be coloured. Assumes nothing.
use Prim.Native.Nat.{ℕ}
use mathlib.Core.Path.{◌≡◌}
use mathlib.Core.List.{List}
use native.Mathlib.Omega.{arith}
use lib.ListN.{length}
use Rattle.appointments.specs.Appointments.{appts, largest_load}
use Rattle.appointments.specs.Checks.{passed, checks}
use Rattle.appointments.proofs.Loads.{load_le_largest}
use Rattle.appointments.proofs.ChecksLaws.{Passes, passed_passes, good_length}
use Rattle.two_color.specs.Contract.{CanColor}

-- On a scratch of which nothing is taken: W words are more than `two_color` takes.
pub passed_can_color :
    {P D : ℕ} {list s : List ℕ} (slots : ℕ) → D ≡ largest_load P (appts list) → checks P list slots (length s) ≡ passed →
    CanColor P D 0 list s
passed_can_color {P} {D} {list} {s} slots e h = rw e with_largest
  where
    ok : Passes P list slots (length s)
    ok = passed_passes P list slots (length s) h

    with_largest : CanColor P (largest_load P (appts list)) 0 list s
    with_largest =
        record {
          few = ok.good.parties;
          short = omega (arith, good_length ok.good, ok.good.few);
          listed = ok.good.listed;
          loads = load_le_largest P (appts list);
          narrow = ok.product;
          low = omega arith;
          room = omega (arith, ok.scratch_room);
        }
