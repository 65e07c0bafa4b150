-- `replay::same_plan` meets its contract. Assumes nothing.
use mathlib.Core.Path.{sym, ◌∙◌}
use native.Mathlib.Omega.{arith}
use Rattle.replay.proofs.Agreeing.{plan_same}
use Rattle.replay.proofs.same_plan.Goals as goal

pub returns-then-from-d : goal.returns-then-from-d
returns-then-from-d c = plan_same c.eq.result c.args.stored.now c.args.d c.args.plan.now c.in-0.len_at_least (omega arith) (sym c.from.ensures ∙ c.if-from-d.true) c.eq.ensures
