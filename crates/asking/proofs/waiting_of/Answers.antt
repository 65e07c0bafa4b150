-- `waiting_of` meets its contract: the numbers from the lowest slot to the highest less the different slots, or 0 for no slot.
-- Assumes nothing.
use native.Mathlib.Omega.{arith}
use Rattle.appointments.specs.Appointments.{appts}
use Rattle.asking.proofs.Noting.{waits_none, waits_some, waits_most}
use Rattle.asking.proofs.waiting_of.Goals as goal

pub returns-then-own-eq0 : goal.returns-then-own-eq0
returns-then-own-eq0 c =
    let a = c.args in
    record { waiting = waits_none (appts a.list.now) a.slots.now a.party c.note_all-own.ensures c.if-own-eq0.true; most = omega arith }

pub overflow_sub-result : goal.overflow_sub-result
overflow_sub-result c =
    let a = c.args in
    rw (c.from-lowest.ensures, c.from-highest.ensures)
    (waits_some (appts a.list.now) a.slots.now a.party c.note_all-own.ensures (omega arith)).0

pub overflow_sub-result-2 : goal.overflow_sub-result-2
overflow_sub-result-2 c =
    let a = c.args in
    omega (arith, c.from-lowest.ensures, c.from-highest.ensures, (waits_some (appts a.list.now) a.slots.now a.party c.note_all-own.ensures (omega arith)).1)

pub returns : goal.returns
returns c =
    let a = c.args in
    let noted = c.note_all-own.ensures in
    let waits = (waits_some (appts a.list.now) a.slots.now a.party noted (omega arith)).2 in
    record {
      waiting = rw (c.from-lowest.ensures, c.from-highest.ensures) waits;
      most = rw (c.from-lowest.ensures, c.from-highest.ensures) (omega (arith, waits, waits_most (appts a.list.now) a.slots.now a.party noted (omega arith)));
    }
