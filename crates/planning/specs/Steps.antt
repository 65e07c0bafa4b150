-- What the planning of a list that passed the checks comes to. Assumes nothing.
use Rattle.std.specs.Prelude.{ℕ, ◌≡◌, List, length}
use Rattle.appointments.specs.Appointments.{appts}
use Rattle.appointments.specs.Answers.{Answer, after}
use Rattle.appointments.specs.Answers as Answers
use Rattle.planning.specs.Planning.{bipartite_edge_color, check_outcome, outcome_slots}

-- The answer, and the slots afterwards. Scratch is as long as it was.
pub record WorkedOut (P D : ℕ) (list slots slots' : List ℕ) (answer : Answer ℕ) (s t : List ℕ) : Type 0 where
  pub answers : answer ≡ Answers.answer (check_outcome (bipartite_edge_color P (appts list))) D
  pub holds : slots' ≡ after answer (outcome_slots (bipartite_edge_color P (appts list))) slots
  pub len : length t ≡ length s
