-- `waiting` meets its contract: what the checks of the list and its slots said stays, then the party is checked, and its waiting is
-- found. Assumes nothing.
use Rattle.appointments.proofs.AnswerLaws.{handed_on}
use Rattle.asking.proofs.WaitingSteps.{asked_refused, asked_5, asked_waits}
use Rattle.asking.proofs.waiting.Goals as goal

pub returns-in_err-check_with_slots-clause-answer : goal.returns-in_err-check_with_slots-clause-answer
returns-in_err-check_with_slots-clause-answer c =
    let a = c.args in
    handed_on c.from_residual.result _ _ c.from_residual.ensures.1
    (asked_refused a.p a.list.now a.slots.now a.party _ _ (rw c.from.ensures at c.in_err-check_with_slots.ensures))

pub returns-then-p-party-clause-answer : goal.returns-then-p-party-clause-answer
returns-then-p-party-clause-answer c =
    let a = c.args in
    asked_5 a.p a.list.now a.slots.now a.party (rw c.from.ensures at c.in_ok-check_with_slots.ensures) c.if-p-party.true

pub returns-clause-answer : goal.returns-clause-answer
returns-clause-answer c =
    let a = c.args in
    asked_waits a.p a.list.now a.slots.now a.party (rw c.from.ensures at c.in_ok-check_with_slots.ensures) _ c.if-p-party.false c.waiting_of.ensures.waiting
