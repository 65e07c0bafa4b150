-- `file_plan` meets its contract: each refusal by the check that led to it, and the plan written. Assumes nothing.
use mathlib.Core.Path.{◌∙◌}
use Rattle.appointments.proofs.AnswerLaws.{handed_on}
use Rattle.checking.proofs.Answering.{few_appointments, enough_slots}
use Rattle.filing.proofs.WritingSteps.{barred_1, barred_2, barred_3, barred_7, barred_13, written}
use Rattle.filing.proofs.file_plan.Goals as goal

pub returns-in_err-check_parties : goal.returns-in_err-check_parties
returns-in_err-check_parties c =
    let a = c.args in
    let barred = barred_1 a.p a.list.now a.slots.now a.output.now _ _ (rw c.from.ensures at c.in_err-check_parties.ensures) in
    record { answer = handed_on c.from_residual.result _ _ c.from_residual.ensures.1 barred.0; bytes = barred.1 }

pub returns-in_err-check_even : goal.returns-in_err-check_even
returns-in_err-check_even c =
    let a = c.args in
    let barred = barred_2 a.p a.list.now a.slots.now a.output.now (rw c.from.ensures at c.in_ok-check_parties.ensures) _ _ c.in_err-check_even.ensures in
    record { answer = handed_on c.from_residual-in_err-check_even.result _ _ c.from_residual-in_err-check_even.ensures.1 barred.0; bytes = barred.1 }

pub returns-in_err-check_count : goal.returns-in_err-check_count
returns-in_err-check_count c =
    let a = c.args in
    let barred = barred_3 a.p a.list.now a.slots.now a.output.now (rw c.from.ensures at c.in_ok-check_parties.ensures) c.in_ok-check_even.ensures _ _ c.in_err-check_count.ensures in
    record { answer = handed_on c.from_residual-in_err-check_count.result _ _ c.from_residual-in_err-check_count.ensures.1 barred.0; bytes = barred.1 }

pub returns-in_err-check_slots : goal.returns-in_err-check_slots
returns-in_err-check_slots c =
    let a = c.args in
    let barred = barred_7 a.p a.list.now a.slots.now a.output.now (rw c.from.ensures at c.in_ok-check_parties.ensures) c.in_ok-check_even.ensures c.in_ok-check_count.ensures _ _ c.in_err-check_slots.ensures in
    record { answer = handed_on c.from_residual-in_err-check_slots.result _ _ c.from_residual-in_err-check_slots.ensures.1 barred.0; bytes = barred.1 }

pub returns-then-output-length : goal.returns-then-output-length
returns-then-output-length c =
    let a = c.args in
    let barred = barred_13 a.p a.list.now a.slots.now a.output.now (rw c.from.ensures at c.in_ok-check_parties.ensures) c.in_ok-check_even.ensures c.in_ok-check_count.ensures c.in_ok-check_slots.ensures c.if-output-length.true in
    record { answer = barred.0; bytes = barred.1 }

pub put_plan-requires : goal.put_plan-requires
put_plan-requires c =
    record {
      few = few_appointments _ c.in_ok-check_count.ensures;
      slot_room = enough_slots _ _ c.in_ok-check_slots.ensures;
      room = c.if-output-length.false;
    }

pub returns : goal.returns
returns c =
    let a = c.args in
    let w = written a.p a.list.now a.slots.now a.output.now (rw c.from.ensures at c.in_ok-check_parties.ensures) c.in_ok-check_even.ensures c.in_ok-check_count.ensures c.in_ok-check_slots.ensures c.if-output-length.false in
    record { answer = w.0; bytes = c.put_plan.ensures ∙ w.1 }
