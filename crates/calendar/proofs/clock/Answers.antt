-- `clock` meets its contract: 23 for a late slot, else the slot's day and both bytes of the time that its remainder numbers.
-- Assumes nothing.
use Prim.Native.Nat.{◌/◌, ◌%◌}
use mathlib.Core.Path.{◌≡◌}
use native.Mathlib.Omega.{arith}
use Rattle.calendar.proofs.Telling.{clock_refused, clock_moment}
use Rattle.calendar.proofs.clock.Goals as goal

pub returns-then-slot-gt4095 : goal.returns-then-slot-gt4095
returns-then-slot-gt4095 c = clock_refused c.args.slot c.if-slot-gt4095.true

pub returns : goal.returns
returns c =
    let t = c.time_at-time.result in
    let high : t / 256 % 256 ≡ t / 256 = omega arith in
    rw (c.to_be_bytes.ensures, high) (clock_moment c.args.slot t c.if-slot-gt4095.false (rw c.from.ensures at c.time_at-time.ensures))
