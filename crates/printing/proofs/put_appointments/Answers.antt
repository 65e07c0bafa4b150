-- `put_appointments` meets its contract: a line more with each turn. Assumes nothing.
use mathlib.Core.Path.{refl}
use native.Mathlib.Omega.{arith}
use Rattle.appointments.proofs.Chunks.{chunk_seen}
use Rattle.printing.proofs.PlacingSteps.{underway_start, underway_room, underway_more, underway_all, appointment_next, appointment_last}
use Rattle.printing.proofs.put_appointments.Goals as goal

pub put_appointment-requires : goal.put_appointment-requires
put_appointment-requires g c =
    let a = c.args in
    let i = c.loop-i.i in
    let chunk = chunk_seen _ a.list.now i c.as_chunks.ensures.front (omega arith) in
    let next = appointment_next a.list.now a.slots.now i chunk.inside in
    rw (chunk.ends, c.get.ensures.0) (underway_room c.loop-i.invariant _ _ next c.requires)

pub loop-i-preserved : goal.loop-i-preserved
loop-i-preserved g c =
    let a = c.args in
    let i = c.loop-i.i in
    let chunk = chunk_seen _ a.list.now i c.as_chunks.ensures.front (omega arith) in
    let next = appointment_next a.list.now a.slots.now i chunk.inside in
    underway_more c.loop-i.invariant _ _ next (rw (chunk.ends, c.get.ensures.0) at c.put_appointment.ensures)

pub returns : goal.returns
returns g c =
    let a = c.args in
    underway_all c.loop-i.invariant (appointment_last a.list.now a.slots.now c.loop-i.i (omega arith))

pub loop-i-init : goal.loop-i-init
loop-i-init g c = underway_start _ refl
