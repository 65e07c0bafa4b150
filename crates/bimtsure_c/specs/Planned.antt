-- The answer of the planning call that three exported numbers stand for. Assumes nothing.
use Rattle.std.specs.Prelude.{ℕ, zero, suc}
use Rattle.appointments.specs.Answers.{Answer, accepted, refused}

-- Number 0 is acceptance, with D; every other number is a refusal, with its place.
abbrev pub answer_by : ℕ → ℕ → ℕ → Answer ℕ
answer_by zero place d = accepted d
answer_by (suc n) place d = refused (suc n) place
