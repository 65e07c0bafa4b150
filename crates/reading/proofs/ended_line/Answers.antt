-- `ended_line` meets its contract: the ends before the last byte, where that is a line feed. Assumes nothing.
use Rattle.std.proofs.Common.{arith}
use Rattle.std.proofs.lemmas.Grind.{common_steps}
use Rattle.reading.proofs.LinesSteps.{no_line, is_ended, not_ended_by}
use Rattle.reading.proofs.ended_line.Goals as goal

pub returns-in-10 : goal.returns-in-10
returns-in-10 c = rw c.ends_in.ensures (is_ended c.args.line.now (grind (arith, common_steps)))

pub returns-in_default : goal.returns-in_default
returns-in_default c = no_line c.args.line.now c.in_default.len_below

pub returns-in_default-2 : goal.returns-in_default-2
returns-in_default-2 c = not_ended_by c.args.line.now (grind (arith, common_steps))
