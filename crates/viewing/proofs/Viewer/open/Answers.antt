-- `Viewer::open` meets its contract: each refusal is that of its check. Assumes nothing.
use mathlib.Core.Path.{◌≡◌}
use Rattle.std.specs.Prelude.{Result, IsErrAnd}
use Rattle.appointments.proofs.AnswerLaws.{err_is}
use Rattle.appointments.proofs.Flat.{appts_count}
use Rattle.appointments.specs.Answers.{Answer, refused}
use Rattle.appointments.specs.Refusals.{refusal_number, refusal_place}
use Rattle.appointments.specs.declared.Refusal.{Refusal}
use Rattle.checking.proofs.Answering.{bar_refused, bar_accepted}
use Rattle.viewing.specs.Told.{opened}
use Rattle.viewing.specs.Viewer.{viewer_answer}
use Rattle.viewing.specs.declared.Viewer.{Viewer}
use Rattle.viewing.proofs.Viewer.open.Goals as goal

-- what the exit of a `?` returns says the refusal that came
opened_on : (r : Result Viewer Refusal) (e : Refusal) (a : Answer Unit) → IsErrAnd r (λ d. d ≡ e) → refused (refusal_number e) (refusal_place e) ≡ a → opened r ≡ a
opened_on r e a h k = rw (err_is r e h) k

pub returns-in_err-check_even-clause-answer : goal.returns-in_err-check_even-clause-answer
unfolding viewer_answer
returns-in_err-check_even-clause-answer c =
    let bar = bar_refused _ 2 _ _ c.in_err-check_even.ensures in
    opened_on c.from_residual.result _ _ c.from_residual.ensures.1 (rw (bar.1, bar.2, bar.0))

pub returns-in_err-check_slots-clause-answer : goal.returns-in_err-check_slots-clause-answer
unfolding viewer_answer
returns-in_err-check_slots-clause-answer c =
    let bar = bar_refused _ 7 _ _ c.in_err-check_slots.ensures in
    opened_on c.from_residual-in_err-check_slots.result _ _ c.from_residual-in_err-check_slots.ensures.1
    (rw (bar.1, bar.2, bar_accepted _ 2 c.in_ok-check_even.ensures, appts_count c.args.list.now, bar.0))

pub returns-clause-answer : goal.returns-clause-answer
unfolding viewer_answer
returns-clause-answer c =
    rw (bar_accepted _ 2 c.in_ok-check_even.ensures, appts_count c.args.list.now, bar_accepted _ 7 c.in_ok-check_slots.ensures)
