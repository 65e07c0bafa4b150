-- `ask_many` meets its contract: what the checks of the list and its slots said stays, then the queries and the output are checked, each refusal by
-- the tests that led to it, and the answers stand before what the output held behind them. Assumes nothing.
use mathlib.Core.Path.{sym, ◌∙◌}
use Rattle.appointments.proofs.AnswerLaws.{handed_on}
use Rattle.asking_many.proofs.ManySteps.{barred_first, barred_14, barred_15, barred_13, answered, walkable, queries_below}
use Rattle.asking_many.proofs.ask_many.Goals as goal

pub returns-in_err-check_with_slots : goal.returns-in_err-check_with_slots
returns-in_err-check_with_slots c =
    let a = c.args in
    let barred = barred_first a.p a.list.now a.slots.now a.queries.now a.output.now _ _ (rw c.from.ensures at c.in_err-check_with_slots.ensures) in
    record { answer = handed_on c.from_residual.result _ _ c.from_residual.ensures.1 barred.0; output = barred.1 }

pub returns-then-queries-gt64 : goal.returns-then-queries-gt64
returns-then-queries-gt64 c =
    let a = c.args in
    let barred = barred_14 a.p a.list.now a.slots.now a.queries.now a.output.now (rw c.from.ensures at c.in_ok-check_with_slots.ensures) c.if-queries-gt64.true in
    record { answer = barred.0; output = barred.1 }

pub returns-in-Some : goal.returns-in-Some
returns-in-Some c =
    let a = c.args in
    let barred = barred_15 a.p a.list.now a.slots.now a.queries.now a.output.now (rw c.from.ensures at c.in_ok-check_with_slots.ensures) c.if-queries-gt64.false _ (sym c.in-Some.ensures) in
    record { answer = barred.0; output = barred.1 }

pub returns-then-output-queries : goal.returns-then-output-queries
returns-then-output-queries c =
    let a = c.args in
    let barred = barred_13 a.p a.list.now a.slots.now a.queries.now a.output.now (rw c.from.ensures at c.in_ok-check_with_slots.ensures) c.if-queries-gt64.false (sym c.in_default.ensures) c.if-output-queries.true in
    record { answer = barred.0; output = barred.1 }

pub answer_all-requires : goal.answer_all-requires
answer_all-requires c =
    let a = c.args in
    let ok = rw c.from.ensures at c.in_ok-check_with_slots.ensures in
    record {
      walkable = walkable a.p a.list.now a.slots.now ok;
      by_index = queries_below a.p a.list.now a.slots.now ok a.queries.now (sym c.in_default.ensures);
      queries_in_bounds = c.if-output-queries.false;
    }

pub returns : goal.returns
returns c =
    let a = c.args in
    let answers = answered a.p a.list.now a.slots.now a.queries.now a.output.now (rw c.from.ensures at c.in_ok-check_with_slots.ensures) c.if-queries-gt64.false (sym c.in_default.ensures) c.if-output-queries.false in
    record { answer = answers.0; output = c.answer_all.ensures ∙ answers.1 }
