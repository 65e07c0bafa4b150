-- `checking::check_size` meets its contract: D of a list that passes its own checks, then check 6, each refusal by the tests that
-- led to it. Assumes nothing.
use mathlib.Core.Path.{ap}
use native.Mathlib.Omega.{arith}
use Rattle.appointments.specs.Answers.{accepted}
use Rattle.appointments.proofs.AnswerLaws.{handed_on}
use Rattle.checking.proofs.Answering.{checked_passed, checked_number, still_refused, refuses_6, passes_6, countable, product_fits}
use Rattle.checking.proofs.check_size.Goals as goal

pub returns-in_err-check_list : goal.returns-in_err-check_list
returns-in_err-check_list c =
    let a = c.args in
    handed_on c.from_residual.result _ _ c.from_residual.ensures.1
    (rw (still_refused a.p a.list.now _ _ (checked_number _ _ _ c.in_err-check_list.ensures)))

pub largest_load-d-requires : goal.largest_load-d-requires
largest_load-d-requires c =
    let a = c.args in
    countable a.p a.list.now (checked_passed _ c.in_ok-check_list.ensures)

pub overflow_mul-d : goal.overflow_mul-d
overflow_mul-d c =
    let a = c.args in
    omega (arith, product_fits a.p a.list.now _ (checked_passed _ c.in_ok-check_list.ensures) c.largest_load-d.ensures)

pub returns-then-d-p-gt8192 : goal.returns-then-d-p-gt8192
returns-then-d-p-gt8192 c =
    let a = c.args in
    rw (refuses_6 a.p a.list.now _ c.largest_load-d.ensures (checked_passed _ c.in_ok-check_list.ensures) (omega arith))

pub returns : goal.returns
returns c =
    let a = c.args in
    let d = c.largest_load-d.ensures in
    rw (passes_6 a.p a.list.now _ d (checked_passed _ c.in_ok-check_list.ensures) (omega arith)) (ap accepted d)
