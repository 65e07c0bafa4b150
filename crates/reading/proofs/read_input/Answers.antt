-- `read_input` meets its contract: a list that was read of a broken input makes the line behind its lines malformed. Assumes nothing.
use Rattle.appointments.proofs.AnswerLaws.{err_is}
use Rattle.reading.proofs.LinesSteps.{input_malformed, input_broken, input_whole}
use Rattle.reading.proofs.read_input.Goals as goal

pub returns-in_err-read : goal.returns-in_err-read
returns-in_err-read c =
    let a = c.args in
    rw (err_is _ _ c.from_residual.ensures.1) (input_malformed a.came.bytes.now a.list.now c.read_text.new.list a.came.broken _ c.in_err-read.ensures)

pub returns-then-came : goal.returns-then-came
returns-then-came c =
    let a = c.args in
    rw c.if-came.true (input_broken a.came.bytes.now a.list.now c.read_text.new.list _ c.in_ok-read.ensures)

pub returns : goal.returns
returns c =
    let a = c.args in
    rw c.if-came.false (input_whole a.came.bytes.now a.list.now c.read_text.new.list _ c.in_ok-read.ensures)
