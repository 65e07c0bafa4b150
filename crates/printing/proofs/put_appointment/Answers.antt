-- `put_appointment` meets its contract: four numbers, each with its space or line feed. Assumes nothing.
use native.Mathlib.Omega.{arith}
use Rattle.printing.proofs.PlacingSteps.{room_first, room_then, room_as, placed_then, placed_as, line_4}
use Rattle.printing.proofs.put_appointment.Goals as goal

pub put_field-requires : goal.put_field-requires
put_field-requires g c = record { room = room_first _ (room_as (line_4 _ _ _ _) c.requires); one_byte = omega arith }

pub put_field-requires-2 : goal.put_field-requires-2
put_field-requires-2 g c =
    rw c.from.ensures record { room = room_first _ (room_then _ (room_as (line_4 _ _ _ _) c.requires) c.put_field.ensures); one_byte = omega arith }

pub put_field-requires-3 : goal.put_field-requires-3
put_field-requires-3 g c =
    let second = rw c.from.ensures at c.put_field-2.ensures in
    rw c.from-2.ensures record { room = room_first _ (room_then _ (room_then _ (room_as (line_4 _ _ _ _) c.requires) c.put_field.ensures) second); one_byte = omega arith }

pub put_field-requires-4 : goal.put_field-requires-4
put_field-requires-4 g c =
    let second = rw c.from.ensures at c.put_field-2.ensures in
    let third = rw c.from-2.ensures at c.put_field-3.ensures in
    record { room = room_then _ (room_then _ (room_then _ (room_as (line_4 _ _ _ _) c.requires) c.put_field.ensures) second) third; one_byte = omega arith }

pub returns : goal.returns
returns g c =
    let second = rw c.from.ensures at c.put_field-2.ensures in
    let third = rw c.from-2.ensures at c.put_field-3.ensures in
    placed_as (line_4 _ _ _ _) (placed_then c.put_field.ensures (placed_then second (placed_then third c.put_field-4.ensures)))
