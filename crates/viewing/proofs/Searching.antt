-- The viewer's search by position: what a turn of it finds at a position of the flat list, and what a step then shows.
-- Assumes nothing.
use Prim.Native.Nat.{ℕ, ◌+◌, ◌/◌, ◌≤◌, ◌<◌}
use mathlib.Core.Path.{◌≡◌, ◌∙◌, ap}
use mathlib.Core.Bool.{true, false}
use mathlib.Core.List.{List}
use native.Mathlib.Omega.{arith}
use Rattle.std.specs.Prelude.{Some, None}
use lib.ListN.{length, get_or}
use Rattle.appointments.specs.Appointments.{appt, appts, named, named_at}
use Rattle.appointments.specs.Checks.{First, at, nowhere}
use Rattle.appointments.proofs.FirstFrom.{seek, seek_here, seek_on, seek_past}
use Rattle.appointments.proofs.Flat.{appts_count, appt_at}
use Rattle.viewing.specs.Viewer.{seen, view_step, view_next}
use Rattle.viewing.proofs.ViewerSteps.{step_found, step_end}

-- ── one turn of the search ──

-- the first appointment from a position on that names the party
abbrev pub seek_named : ℕ → List ℕ → ℕ → First
seek_named party list i = seek (named party) (appts list) i

module _ (party : ℕ) (list : List ℕ) (i : ℕ) where
  module _ (h : i < length list / 2) where
    inside : i < length (appts list)
    inside = omega (arith, appts_count list)

    there : named party (get_or (appts list) i (appt 0 0)) ≡ named_at party list i
    there = ap (named party) (appt_at list i (appt 0 0) h)

    pub named_here : named_at party list i ≡ true → seek_named party list i ≡ at i
    named_here e = seek_here (named party) (appts list) i (appt 0 0) inside (there ∙ e)

    pub named_on : named_at party list i ≡ false → seek_named party list i ≡ seek_named party list (i + 1)
    named_on e = seek_on (named party) (appts list) i (appt 0 0) inside (there ∙ e)

  pub named_past : length list / 2 ≤ i → seek_named party list i ≡ nowhere
  named_past h = seek_past (named party) (appts list) i (omega (arith, appts_count list))

-- What the step shows of it, and where the viewer then stands.
module _ (party : ℕ) (list slots : List ℕ) (from : ℕ) where
  pub shows_found : (i : ℕ) → seek_named party list from ≡ at i → (Some (seen slots i) ≡ view_step party list slots from) × (i + 1 ≡ view_next party list slots from)
  unfolding view_next
  shows_found i e = (rw (step_found party list slots from i e), rw (step_found party list slots from i e))

  pub shows_end : seek_named party list from ≡ nowhere → (None ≡ view_step party list slots from) × (length list / 2 ≡ view_next party list slots from)
  unfolding view_next
  shows_end e = (rw (step_end party list slots from e), rw (step_end party list slots from e, appts_count list))
