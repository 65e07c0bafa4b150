-- `take_plan` meets its contract: the list and the slots hold the first ends and slots of the plan, one appointment more with each turn. Assumes nothing.
use Rattle.filing.proofs.ReadingSteps.{row_taken, slot_taken}
use mathlib.Core.List.{List}
use Rattle.filing.specs.Buffers.{take_row, take_slot}
use mathlib.Core.Path.{◌∙◌, ap}
use Prim.Native.Nat.{ℕ}
use native.Mathlib.Omega.{arith}
use Rattle.filing.proofs.take_plan.Goals as goal

pub loop-i-preserved : goal.loop-i-preserved
loop-i-preserved c =
    let a = c.args in
    let i = c.loop-i.i in (
      c.take_appointment.ensures.list
          ∙ ap (λ (l : List ℕ). take_row a.bytes.now i l) c.loop-i.invariant.0
          ∙ row_taken a.bytes.now a.count c.requires.whole i c.loop-i-test.true a.list.now (omega arith),
      c.take_appointment.ensures.slots
          ∙ ap (λ (l : List ℕ). take_slot a.bytes.now i l) c.loop-i.invariant.1
          ∙ slot_taken a.bytes.now a.count c.requires.whole i c.loop-i-test.true a.slots.now (omega arith),
    )
