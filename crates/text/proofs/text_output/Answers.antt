-- `text_output` meets its contract: the plan's lines, or the refusal's. Assumes nothing.
use Rattle.text.proofs.Main.{output_room, output_placed}
use Rattle.text.proofs.text_output.Goals as goal

pub put_refusal_line-requires : goal.put_refusal_line-requires
put_refusal_line-requires c = rw (c.number.ensures, c.place.ensures) (output_room _ _ _ c.in-Err.ensures _ c.new-line.ensures)

pub returns-in-Err : goal.returns-in-Err
returns-in-Err c = output_placed _ _ _ c.in-Err.ensures _ _ c.new-line.ensures (rw (c.number.ensures, c.place.ensures) at c.put_refusal_line.ensures)
