-- `bimtsure_read_plan` meets its contract: A and the place of a refusal fit 32 bits. Assumes nothing.
use native.Mathlib.Omega.{arith}
use Rattle.appointments.proofs.AnswerLaws.{place_fits, figure_fits}
use Rattle.filing.specs.declared.Header.{Header}
use Rattle.bimtsure_c.proofs.Fitting.{reading_fits, reading_refusal_fits}
use Rattle.bimtsure_c.proofs.bimtsure_read_plan.Goals as goal

pub overflow_cast-result : goal.overflow_cast-result
overflow_cast-result c = omega (arith, place_fits c.of-read.ensures.place c.read_plan.ensures.answer (reading_refusal_fits _ _ _))

pub overflow_cast-result-2 : goal.overflow_cast-result-2
overflow_cast-result-2 c =
    omega (arith, figure_fits (λ (h : Header). h.appointments) c.of-read.ensures.figures c.read_plan.ensures.answer (omega (arith, c.default.ensures.1)) (λ h. reading_fits _ _ _ h.parties h.appointments))
