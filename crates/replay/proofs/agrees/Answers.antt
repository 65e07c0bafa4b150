-- `replay::agrees` meets its contract: the planning call's answer is the definitions', and it is what gets compared. Assumes nothing.
use mathlib.Core.Path.{sym}
use native.Mathlib.Omega.{arith}
use lib.Seq.{length-take-le}
use Rattle.appointments.specs.Lent.{lent}
use Rattle.replay.proofs.Agreeing.{slots_room, plan_told}
use Rattle.replay.proofs.agrees.Goals as goal

-- the call planned, so there are entries for its slots
pub slice_bounds-same_plan-end : goal.slice_bounds-same_plan-end
slice_bounds-same_plan-end c =
    let l = lent c.args.p c.args.list.now c.args.slots.now c.args.scratch.now in
    omega (arith, slots_room l _ (sym c.in-Ok.ensures.answer), c.bipartite_edge_color.auto.slots)

pub slice_bounds-same_plan-end-in-Ok : goal.slice_bounds-same_plan-end-in-Ok
slice_bounds-same_plan-end-in-Ok c = sym (length-take-le _ _ (slice_bounds-same_plan-end c))

pub returns-in-Ok : goal.returns-in-Ok
returns-in-Ok c =
    let l = lent c.args.p c.args.list.now c.args.slots.now c.args.scratch.now in
    plan_told l _ (sym c.in-Ok.ensures.answer) _ _ (rw (← c.bipartite_edge_color.ensures.slots) c.same_plan.ensures)
