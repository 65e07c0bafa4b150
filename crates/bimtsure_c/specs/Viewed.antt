-- What the exported step of the viewer says, as numbers. Assumes nothing.
use Rattle.std.specs.Prelude.{Option, Some, None, ℕ, List}
use Rattle.appointments.specs.Answers.{Answer, accepted, refused}
use Rattle.viewing.specs.Viewer.{view_step, view_next}
use Rattle.viewing.specs.declared.Seen.{Seen}
use Rattle.bimtsure_c.specs.declared.Shown.{Shown}

-- a figure of a viewer that was opened, 0 where opening refuses
abbrev pub if_open : Answer Unit → ℕ → ℕ
if_open (accepted u) figure = figure
if_open (refused number place) figure = 0

-- 1 for an appointment, 0 for the end
abbrev pub found_of : Option Seen → ℕ
found_of (Some s) = 1
found_of None = 0

-- the appointment's position and slot, 0 at the end
abbrev pub position_of : Option Seen → ℕ
position_of (Some s) = s.position
position_of None = 0

abbrev pub slot_of : Option Seen → ℕ
slot_of (Some s) = s.slot
slot_of None = 0

-- one step from a position: what it shows, and where the viewer then stands
abbrev pub step_from : ℕ → List ℕ → List ℕ → ℕ → Shown
step_from party list slots from =
    record {
      seen = view_step party list slots from;
      next = view_next party list slots from;
    }

-- the answer of opening a viewer and of one step of it
abbrev pub shown : Answer Unit → Shown → Answer Shown
shown (accepted u) step = accepted step
shown (refused number place) step = refused number place
