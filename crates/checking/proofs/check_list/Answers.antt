-- `checking::check_list` meets its contract: checks 1 to 3, then those of the ends, each refusal that of its check. Assumes nothing.
use Rattle.appointments.proofs.AnswerLaws.{handed_on}
use Rattle.checking.proofs.Answering.{few_parties, refuses_1, refuses_2, refuses_3, goes_on}
use Rattle.checking.proofs.check_list.Goals as goal

pub returns-in_err-check_parties : goal.returns-in_err-check_parties
returns-in_err-check_parties c =
    let a = c.args in
    handed_on c.from_residual.result _ _ c.from_residual.ensures.1 (rw (refuses_1 a.p a.list.now _ _ c.in_err-check_parties.ensures))

pub returns-in_err-check_even : goal.returns-in_err-check_even
returns-in_err-check_even c =
    let a = c.args in
    handed_on c.from_residual-in_err-check_even.result _ _ c.from_residual-in_err-check_even.ensures.1
    (rw (refuses_2 a.p a.list.now c.in_ok-check_parties.ensures _ _ c.in_err-check_even.ensures))

pub returns-in_err-check_count : goal.returns-in_err-check_count
returns-in_err-check_count c =
    let a = c.args in
    handed_on c.from_residual-in_err-check_count.result _ _ c.from_residual-in_err-check_count.ensures.1
    (rw (refuses_3 a.p a.list.now c.in_ok-check_parties.ensures c.in_ok-check_even.ensures _ _ c.in_err-check_count.ensures))

pub check_ends-requires : goal.check_ends-requires
check_ends-requires c = few_parties _ c.in_ok-check_parties.ensures

pub returns : goal.returns
returns c =
    let a = c.args in
    rw (goes_on a.p a.list.now c.in_ok-check_parties.ensures c.in_ok-check_even.ensures c.in_ok-check_count.ensures) c.check_ends.ensures
