-- `bimtsure_ask_many` meets its contract: the place of a refusal fits 32 bits. Assumes nothing.
use native.Mathlib.Omega.{arith}
use Rattle.appointments.proofs.AnswerLaws.{place_fits}
use Rattle.bimtsure_c.proofs.Fitting.{many_refusal_fits}
use Rattle.bimtsure_c.proofs.bimtsure_ask_many.Goals as goal

pub overflow_cast-result : goal.overflow_cast-result
overflow_cast-result c = omega (arith, place_fits c.of-many.ensures.place c.ask_many.ensures.answer (many_refusal_fits _ _ _ _ _))
