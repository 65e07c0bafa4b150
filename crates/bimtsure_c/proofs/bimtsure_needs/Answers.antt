-- `bimtsure_needs` meets its contract: D, W and the place of a refusal fit 32 bits. Assumes nothing.
use native.Mathlib.Omega.{arith}
use Rattle.appointments.proofs.AnswerLaws.{place_fits, figure_fits}
use Rattle.appointments.specs.declared.Needs.{Needs}
use Rattle.bimtsure_c.proofs.Fitting.{needs_fit, needs_refusal_fits}
use Rattle.bimtsure_c.proofs.bimtsure_needs.Goals as goal

pub overflow_cast-result : goal.overflow_cast-result
overflow_cast-result c = omega (arith, place_fits c.of-needs.ensures.place c.needs.ensures (needs_refusal_fits _ _))

pub overflow_cast-result-2 : goal.overflow_cast-result-2
overflow_cast-result-2 c =
    omega (arith, figure_fits (λ (n : Needs). n.d) c.of-needs.ensures.figures c.needs.ensures (omega (arith, c.default.ensures.0)) (λ n e. (needs_fit c.from.result c.args.list.now n.d n.words e).0))

pub overflow_cast-result-3 : goal.overflow_cast-result-3
overflow_cast-result-3 c =
    omega (arith, figure_fits (λ (n : Needs). n.words) c.of-needs.ensures.figures c.needs.ensures (omega (arith, c.default.ensures.1)) (λ n e. (needs_fit c.from.result c.args.list.now n.d n.words e).1))
