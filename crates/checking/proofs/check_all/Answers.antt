-- `checking::check_all` meets its contract: checks 7 and 8 after the first six, each refusal that of its check. Assumes nothing.
use mathlib.Core.Path.{ap}
use native.Mathlib.Omega.{arith}
use Rattle.appointments.specs.Answers.{accepted}
use Rattle.appointments.proofs.AnswerLaws.{handed_on}
use Rattle.checking.proofs.Answering.{answered_number, all_refused, refuses_7, refuses_8, passes_all, sized}
use Rattle.checking.proofs.check_all.Goals as goal

pub returns-in_err-d : goal.returns-in_err-d
returns-in_err-d c =
    let a = c.args in
    handed_on c.from_residual.result _ _ c.from_residual.ensures.1
    (rw (all_refused a.p a.list.now a.slots a.scratch _ _ (answered_number _ _ _ _ c.in_err-d.ensures)))

pub returns-in_err-check_slots : goal.returns-in_err-check_slots
returns-in_err-check_slots c =
    let a = c.args in
    let k = sized a.p a.list.now _ c.in_ok-d.ensures in
    handed_on c.from_residual-in_err-check_slots.result _ _ c.from_residual-in_err-check_slots.ensures.1
    (rw (refuses_7 a.p a.list.now a.slots a.scratch k.ok _ _ c.in_err-check_slots.ensures))

pub scratch_words-requires : goal.scratch_words-requires
scratch_words-requires c =
    let a = c.args in
    (sized a.p a.list.now _ c.in_ok-d.ensures).room

pub returns-then-scratch-scratch_words : goal.returns-then-scratch-scratch_words
returns-then-scratch-scratch_words c =
    let a = c.args in
    let k = sized a.p a.list.now _ c.in_ok-d.ensures in
    rw (refuses_8 a.p a.list.now a.slots a.scratch k.ok c.in_ok-check_slots.ensures _ k.figure (omega arith))

pub returns : goal.returns
returns c =
    let a = c.args in
    let k = sized a.p a.list.now _ c.in_ok-d.ensures in
    rw (passes_all a.p a.list.now a.slots a.scratch k.ok c.in_ok-check_slots.ensures _ k.figure (omega arith)) (ap accepted k.figure)
