-- `bimtsure_waiting` meets its contract: the place of a refusal fits 32 bits. Assumes nothing.
use native.Mathlib.Omega.{arith}
use Rattle.appointments.proofs.AnswerLaws.{place_fits}
use Rattle.bimtsure_c.proofs.Fitting.{waiting_refusal_fits}
use Rattle.bimtsure_c.proofs.bimtsure_waiting.Goals as goal

pub overflow_cast-result : goal.overflow_cast-result
overflow_cast-result c = omega (arith, place_fits c.of-waiting.ensures.place c.waiting.ensures.answer (waiting_refusal_fits _ _ _ _))
