-- `put_plan_lines` meets its contract: the word and D, the appointments, the parties. Assumes nothing.
use native.Mathlib.Omega.{arith}
use Rattle.words.specs.Ascii.{ascii}
use Rattle.printing.proofs.PlacingSteps.{room_first, room_then, room_as, placed_then, placed_as, plan_fields}
use Rattle.printing.proofs.put_plan_lines.Goals as goal

pub put_text-requires : goal.put_text-requires
unfolding ascii
put_text-requires g c = record { room = room_first _ (room_as (plan_fields _ _ _ _) c.requires); one_byte = omega arith }

pub put_field-requires : goal.put_field-requires
unfolding ascii
put_field-requires g c = record { room = room_first _ (room_then _ (room_as (plan_fields _ _ _ _) c.requires) c.put_text.ensures); one_byte = omega arith }

pub put_appointments-requires : goal.put_appointments-requires
unfolding ascii
put_appointments-requires g c =
    room_first _ (room_then _ (room_then _ (room_as (plan_fields _ _ _ _) c.requires) c.put_text.ensures) c.put_field.ensures)

pub put_parties-requires : goal.put_parties-requires
unfolding ascii
put_parties-requires g c =
    room_then _ (room_then _ (room_then _ (room_as (plan_fields _ _ _ _) c.requires) c.put_text.ensures) c.put_field.ensures) c.put_appointments.ensures

pub returns : goal.returns
unfolding ascii
returns g c =
    placed_as (plan_fields _ _ _ _)
    (placed_then c.put_text.ensures (placed_then c.put_field.ensures (placed_then c.put_appointments.ensures c.put_parties.ensures)))
