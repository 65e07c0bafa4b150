-- What opening a viewer tells, and what a step makes of it. Assumes nothing.
use Rattle.std.specs.Prelude.{ℕ, Result, Ok, Err}
use Rattle.appointments.specs.Answers.{Answer, accepted, refused}
use Rattle.appointments.specs.Refusals.{refusal_number, refusal_place}
use Rattle.appointments.specs.declared.Refusal.{Refusal}
use Rattle.viewing.specs.Viewer.{view_next}
use Rattle.viewing.specs.declared.Viewer.{Viewer}

-- the answer that opening says, which has no figure
abbrev pub opened : Result Viewer Refusal → Answer Unit
opened (Ok v) = accepted tt
opened (Err r) = refused (refusal_number r) (refusal_place r)

-- the viewer after a step: the same list and slots, and where it then stands
abbrev pub stepped : ℕ → Viewer → Viewer
stepped party v =
    record {
      list = v.list;
      slots = v.slots;
      at = view_next party v.list.now v.slots.now v.at;
    }
