-- Document 02, request 2, of every plan that the planning call gives. Assumes nothing.
use Rattle.std.specs.Prelude.{ℕ, ◌-◌, ◌≤◌, ◌≡◌}
use Rattle.appointments.specs.Answers.{accepted}
use Rattle.appointments.specs.Lent.{Lent, lent_appts}
use Rattle.planning.specs.Planning.{plan_answer, plan_slots}
use Rattle.asking.specs.Waiting.{waiting}

-- In an accepted plan a party's waiting is at most D − 2 for a D of 2 or more, and 0 for a smaller one (there D − 2 counts as 0).
abbrev pub WaitsInAPlan : Type 0
WaitsInAPlan =
    (l : Lent) (D party : ℕ) → plan_answer l ≡ accepted D → waiting (lent_appts l) (plan_slots l) party ≤ D - 2
