-- `plan_output` meets its contract: too long, malformed, or by the planning call. Assumes nothing.
use Rattle.appointments.proofs.AnswerLaws.{err_is}
use Rattle.text.proofs.Main.{report_long, report_malformed, report_refused, report_planned, output_room, output_placed}
use Rattle.text.proofs.plan_output.Goals as goal

pub returns-then-came-gt4096 : goal.returns-then-came-gt4096
returns-then-came-gt4096 c = report_long c.args.came.broken c.args.came.bytes.now c.if-came-gt4096.true

pub returns-in_err-read : goal.returns-in_err-read
returns-in_err-read c =
    rw (err_is _ _ c.from_residual.ensures.1) (report_malformed c.args.came.broken c.args.came.bytes.now c.if-came-gt4096.false _ _ _ c.in_err-read.ensures)

pub returns-in_err-d : goal.returns-in_err-d
returns-in_err-d c =
    rw (err_is _ _ c.from_residual-in_err-d.ensures.1) (report_refused c.args.came.broken c.args.came.bytes.now c.if-came-gt4096.false _ _ _ c.in_ok-read.ensures _ c.in_err-d.ensures.answer)

pub put_plan_lines-requires : goal.put_plan_lines-requires
put_plan_lines-requires c =
    let report = report_planned c.args.came.broken c.args.came.bytes.now c.if-came-gt4096.false _ _ _ c.in_ok-read.ensures _ _ c.in_ok-d.ensures.answer c.in_ok-d.ensures.slots in
    output_room _ _ _ report _ c.new-lines.ensures

pub returns : goal.returns
returns c =
    let report = report_planned c.args.came.broken c.args.came.bytes.now c.if-came-gt4096.false _ _ _ c.in_ok-read.ensures _ _ c.in_ok-d.ensures.answer c.in_ok-d.ensures.slots in
    output_placed _ _ _ report _ _ c.new-lines.ensures c.put_plan_lines.ensures
