-- Document 01's viewer over a list and its slots: opening it, one step of it, all that it shows, and what that is to be: each
-- of the party's positions, ascending, and then the end, where it stays. Assumes nothing.
use Rattle.std.specs.Prelude.{Option, Some, None, ℕ, zero, suc, ◌+◌, ◌<◌, ◌≡◌, List, [], ◌∷◌, length, get_or, drop}
use Rattle.words.specs.Basics.{pick, is, total, All}
use Rattle.appointments.specs.Appointments.{Appt, appts, names, named}
use Rattle.appointments.specs.Checks.{First, at, nowhere, first_from, Check, passed, check_even, check_slots}
use Rattle.appointments.specs.Answers.{Answer, answer}
use Rattle.viewing.specs.declared.Seen.{Seen}

-- Opening refuses 2, then 7.
unfoldable pub viewer_checks : List ℕ → List ℕ → Check
viewer_checks list slots =
    check_even list
    (check_slots (length slots) (length (appts list))
    passed)

unfoldable pub viewer_answer : List ℕ → List ℕ → Answer Unit
unfolding viewer_checks
viewer_answer list slots = answer (viewer_checks list slots) tt

-- an appointment as the viewer shows it: its position, and the slot there
abbrev pub seen : List ℕ → ℕ → Seen
seen slots i = record { position = i; slot = get_or slots i 0 }

-- What one step shows: an appointment, or the end.
abbrev pub step_of : List ℕ → First → Option Seen
step_of slots (at i) = Some (seen slots i)
step_of slots nowhere = None

-- A step from a position, which may lie past the end: the first appointment from there on that names the party. Any number may be
-- looked for.
unfoldable pub view_step : ℕ → List ℕ → List ℕ → ℕ → Option Seen
view_step party list slots from = step_of slots (first_from from (named party) (drop from (appts list)))

-- Where the viewer stands after a step: behind what it showed, and at the end it stands at A.
abbrev pub next_of : ℕ → Option Seen → ℕ
next_of A (Some s) = s.position + 1
next_of A None = A

unfoldable pub view_next : ℕ → List ℕ → List ℕ → ℕ → ℕ
unfolding view_step
view_next party list slots from = next_of (length (appts list)) (view_step party list slots from)

-- what a step showed, and then what later ones show
abbrev pub and_on : Option Seen → List Seen → List Seen
and_on (Some s) later = s ∷ later
and_on None later = later

-- What n steps show, one after the other, the first from a position.
unfoldable pub view_steps : ℕ → ℕ → List ℕ → List ℕ → ℕ → List Seen
unfolding view_step view_next
view_steps zero party list slots from = []
view_steps (suc n) party list slots from =
    and_on (view_step party list slots from) (view_steps n party list slots (view_next party list slots from))

-- Everything that the viewer shows of a party, from the appointment at position i on.
unfoldable pub view_from : ℕ → List ℕ → ℕ → List Appt → List Seen
view_from party slots i [] = []
view_from party slots i (x ∷ xs) =
    let later = view_from party slots (i + 1) xs in
    pick (named party x) (seen slots i ∷ later) later

unfoldable pub view : ℕ → List ℕ → List ℕ → List Seen
unfolding view_from
view party list slots = view_from party slots 0 (appts list)

-- ── what the viewer is to show of a party ──

-- An entry tells of an appointment that names the party: its position, and the slot there.
pub record Shows (party : ℕ) (slots : List ℕ) (xs : List Appt) (s : Seen) : Type 0 where
  pub inside : s.position < length xs
  pub names_it : (d : Appt) → 0 < names party (get_or xs s.position d)
  pub slot_there : s.slot ≡ get_or slots s.position 0

-- ascending positions, none twice
abbrev pub Ascending : List Seen → Type 0
Ascending [] = Unit {0}
Ascending (s ∷ later) = All (λ t. s.position < t.position) later × Ascending later

-- how often a position is shown
abbrev pub shown_at : ℕ → List Seen → ℕ
shown_at i sequence = total (λ s. is i s.position) sequence

-- What the viewer is to show of a party: each entry is an appointment of the party with its slot; the positions ascend; and
-- each position whose appointment names the party, once or twice, comes exactly once.
pub record Sequence (party : ℕ) (list slots : List ℕ) (sequence : List Seen) : Type 0 where
  pub each : All (Shows party slots (appts list)) sequence
  pub ascending : Ascending sequence
  pub once : (i : ℕ) (d : Appt) → i < length (appts list) → 0 < names party (get_or (appts list) i d) → shown_at i sequence ≡ 1

-- At the end the viewer stays: it stands at A, and says end again.
pub record Stays (party : ℕ) (list slots : List ℕ) (from : ℕ) : Type 0 where
  pub stands : view_next party list slots from ≡ length (appts list)
  pub ended : view_step party list slots (view_next party list slots from) ≡ None
  pub still : view_next party list slots (view_next party list slots from) ≡ view_next party list slots from
