-- `put_line` meets its contract: the word and two numbers, each with its space or line feed. Assumes nothing.
use native.Mathlib.Omega.{arith}
use Rattle.printing.proofs.PlacingSteps.{room_first, room_then, room_as, placed_then, placed_as, line_3}
use Rattle.printing.proofs.put_line.Goals as goal

pub put_text-requires : goal.put_text-requires
put_text-requires g c = record { room = room_first _ (room_as (line_3 _ _ _) c.requires); one_byte = omega arith }

pub put_field-requires : goal.put_field-requires
put_field-requires g c = record { room = room_first _ (room_then _ (room_as (line_3 _ _ _) c.requires) c.put_text.ensures); one_byte = omega arith }

pub put_field-requires-2 : goal.put_field-requires-2
put_field-requires-2 g c =
    record { room = room_then _ (room_then _ (room_as (line_3 _ _ _) c.requires) c.put_text.ensures) c.put_field.ensures; one_byte = omega arith }

pub returns : goal.returns
returns g c = placed_as (line_3 _ _ _) (placed_then c.put_text.ensures (placed_then c.put_field.ensures c.put_field-2.ensures))
