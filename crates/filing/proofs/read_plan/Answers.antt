-- `read_plan` meets its contract: each refusal by the test or check that led to it, and the plan read. Assumes nothing.
use Rattle.filing.proofs.ReadingSteps.{short_12, barred_12, barred_1, barred_3, Barred, short_13, was_read}
use mathlib.Core.Path.{◌∙◌}
use mathlib.Core.Logic.{inl, inr}
use Rattle.appointments.proofs.AnswerLaws.{handed_on}
use Rattle.filing.proofs.read_plan.Goals as goal
use Rattle.filing.proofs.read_plan.Goals.{then-list-appointments-via-then-list-appointments, then-list-appointments-via-else-list-appointments+then-slots-appointments}

pub returns-then-bytes-lt4 : goal.returns-then-bytes-lt4
returns-then-bytes-lt4 c =
    let a = c.args in
    let barred = short_12 a.bytes.now a.list.now a.slots.now c.if-bytes-lt4.true in
    record { answer = barred.0; list = barred.1.0; slots = barred.1.1 }

pub returns-then-bytes-appointments : goal.returns-then-bytes-appointments
returns-then-bytes-appointments c =
    let a = c.args in
    let barred = barred_12 a.bytes.now a.list.now a.slots.now _ _ c.if-bytes-lt4.false c.number_at-parties.ensures (c.from-appointments.ensures ∙ c.number_at.ensures) c.if-bytes-appointments.true in
    record { answer = barred.0; list = barred.1.0; slots = barred.1.1 }

pub returns-in_err-check_parties : goal.returns-in_err-check_parties
returns-in_err-check_parties c =
    let a = c.args in
    let barred = barred_1 a.bytes.now a.list.now a.slots.now _ _ c.if-bytes-lt4.false c.number_at-parties.ensures (c.from-appointments.ensures ∙ c.number_at.ensures) c.if-bytes-appointments.false _ _ (rw c.from.ensures at c.in_err-check_parties.ensures) in
    record { answer = handed_on c.from_residual.result _ _ c.from_residual.ensures.1 barred.0; list = barred.1.0; slots = barred.1.1 }

pub returns-in_err-check_count : goal.returns-in_err-check_count
returns-in_err-check_count c =
    let a = c.args in
    let barred = barred_3 a.bytes.now a.list.now a.slots.now _ _ c.if-bytes-lt4.false c.number_at-parties.ensures (c.from-appointments.ensures ∙ c.number_at.ensures) c.if-bytes-appointments.false (rw c.from.ensures at c.in_ok-check_parties.ensures) _ _ c.in_err-check_count.ensures in
    record { answer = handed_on c.from_residual-in_err-check_count.result _ _ c.from_residual-in_err-check_count.ensures.1 barred.0; list = barred.1.0; slots = barred.1.1 }

pub returns-then-list-appointments : goal.returns-then-list-appointments
returns-then-list-appointments c =
    let a = c.args in
    let short =
    short_13 a.bytes.now a.list.now a.slots.now _ _ c.if-bytes-lt4.false c.number_at-parties.ensures (c.from-appointments.ensures ∙ c.number_at.ensures) c.if-bytes-appointments.false (rw c.from.ensures at c.in_ok-check_parties.ensures) c.in_ok-check_count.ensures in
    let barred : Barred a.bytes.now a.list.now a.slots.now 13 0 = elim c.then-list-appointments.branch [
      | then-list-appointments-via-then-list-appointments w ↦ short (inl w.if-list-appointments.true)
      | then-list-appointments-via-else-list-appointments+then-slots-appointments w ↦ short (inr w.if-slots-appointments.true)
    ] in
    record { answer = barred.0; list = barred.1.0; slots = barred.1.1 }

pub returns : goal.returns
returns c =
    let a = c.args in
    let w = was_read a.bytes.now a.list.now a.slots.now _ _ c.if-bytes-lt4.false c.number_at-parties.ensures (c.from-appointments.ensures ∙ c.number_at.ensures) c.if-bytes-appointments.false (rw c.from.ensures at c.in_ok-check_parties.ensures) c.in_ok-check_count.ensures c.if-list-appointments.false c.if-slots-appointments.false in
    record { answer = w.0; list = c.take_plan.ensures.list ∙ w.1.0; slots = c.take_plan.ensures.slots ∙ w.1.1 }
