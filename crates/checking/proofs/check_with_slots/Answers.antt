-- `checking::check_with_slots` meets its contract: check 7 after the list's own. Assumes nothing.
use Rattle.appointments.proofs.AnswerLaws.{handed_on}
use Rattle.appointments.proofs.Flat.{appts_count}
use Rattle.checking.proofs.Answering.{checked_passed, checked_number, refuses_listed, listed_goes_on}
use Rattle.checking.proofs.check_with_slots.Goals as goal

pub returns-in_err-check_list : goal.returns-in_err-check_list
returns-in_err-check_list c =
    let a = c.args in
    handed_on c.from_residual.result _ _ c.from_residual.ensures.1
    (rw (refuses_listed a.p a.list.now a.slots _ _ (checked_number _ _ _ c.in_err-check_list.ensures)))

pub returns : goal.returns
returns c =
    let a = c.args in
    rw (listed_goes_on a.p a.list.now a.slots (checked_passed _ c.in_ok-check_list.ensures), appts_count a.list.now)
    c.check_slots.ensures
