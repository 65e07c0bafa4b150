-- The answers of the checks' code, by document 01's checks, and what its arithmetic asks. Assumes nothing.
use Rattle.std.specs.Prelude.{ℕ, zero, suc, max, ◌≤◌, List}
use Rattle.words.specs.Words.{word}
use Rattle.appointments.specs.Appointments.{scratch_words}
use Rattle.appointments.specs.Checks.{Check}
use Rattle.appointments.specs.Answers.{Answer, answer}
use Rattle.appointments.specs.Needed.{scratch_enough}

-- what the checks came to, as an answer without a figure
abbrev pub checked : Check → Answer Unit
checked c = answer c tt

-- and with D where all passed
abbrev pub answered : Check → ℕ → Answer ℕ
answered c D = answer c D

-- the largest of the first p words
unfoldable pub largest_word : ℕ → List ℕ → ℕ
largest_word zero s = 0
largest_word (suc p) s = max (largest_word p s) (word s p)

-- W can be computed: P, D and W itself are small
pub record WordsFit (P D : ℕ) : Type 0 where
  pub parties : P ≤ 1024
  pub figure : D ≤ 8192
  pub words : scratch_words P D ≤ scratch_enough
