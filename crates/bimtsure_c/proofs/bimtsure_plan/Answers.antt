-- `bimtsure_plan` meets its contract: D and the place of a refusal fit 32 bits. Assumes nothing.
use Prim.Native.Nat.{ℕ}
use native.Mathlib.Omega.{arith}
use Rattle.appointments.proofs.AnswerLaws.{place_fits, figure_fits}
use Rattle.bimtsure_c.proofs.PlanNumbers.{planned_fits, plan_refusal_fits}
use Rattle.bimtsure_c.proofs.bimtsure_plan.Goals as goal

pub overflow_cast-result : goal.overflow_cast-result
overflow_cast-result c = omega (arith, place_fits c.of-plan.ensures.place c.bipartite_edge_color.ensures.answer (plan_refusal_fits _))

pub overflow_cast-result-2 : goal.overflow_cast-result-2
overflow_cast-result-2 c =
    omega (arith, figure_fits (λ (n : ℕ). n) c.of-plan.ensures.figures c.bipartite_edge_color.ensures.answer (omega arith) (planned_fits _))
