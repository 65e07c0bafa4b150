-- `bimtsure_view` meets its contract: the place of a refusal fits 32 bits. Assumes nothing.
use native.Mathlib.Omega.{arith}
use Rattle.appointments.proofs.AnswerLaws.{place_fits}
use Rattle.bimtsure_c.proofs.Fitting.{shown_refusal_fits}
use Rattle.bimtsure_c.proofs.bimtsure_view.Goals as goal

pub overflow_cast-result : goal.overflow_cast-result
overflow_cast-result c = omega (arith, place_fits c.of-viewed.ensures.place c.view.ensures (shown_refusal_fits _ _ _))
