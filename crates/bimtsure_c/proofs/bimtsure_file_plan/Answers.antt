-- `bimtsure_file_plan` meets its contract: the length and the place of a refusal fit 32 bits. Assumes nothing.
use Prim.Native.Nat.{ℕ}
use native.Mathlib.Omega.{arith}
use Rattle.appointments.proofs.AnswerLaws.{place_fits, figure_fits}
use Rattle.bimtsure_c.proofs.Fitting.{writing_fits, writing_refusal_fits}
use Rattle.bimtsure_c.proofs.bimtsure_file_plan.Goals as goal

pub overflow_cast-result : goal.overflow_cast-result
overflow_cast-result c = omega (arith, place_fits c.of-filed.ensures.place c.file_plan.ensures.answer (writing_refusal_fits _ _ _ _))

pub overflow_cast-result-2 : goal.overflow_cast-result-2
overflow_cast-result-2 c =
    omega (arith, figure_fits (λ (n : ℕ). n) c.of-filed.ensures.figures c.file_plan.ensures.answer (omega arith) (writing_fits _ _ _ _))
