-- `slot` meets its contract: 24 for a late day and for a time that has no number, else the number counted on from the day's first
-- slot. Assumes nothing.
use native.Mathlib.Omega.{arith}
use mathlib.Core.Path.{◌≡◌, ◌∙◌, ap}
use Rattle.std.specs.Prelude.{Some, None}
use Rattle.std.proofs.lemmas.Option.{MatchOption-at_some, MatchOption-at_none}
use Rattle.appointments.specs.declared.Refusal.TheVariants.{UnknownTime}
use Rattle.appointments.proofs.AnswerLaws.{handed_on}
use Rattle.calendar.specs.Calendar.{in_bytes, number_in, times}
use Rattle.calendar.proofs.Telling.{slot_no_day, slot_no_time, slot_number}
use Rattle.calendar.proofs.slot.Goals as goal

pub returns-then-moment-gt255 : goal.returns-then-moment-gt255
returns-then-moment-gt255 c =
    let m = c.args.moment in
    slot_no_day m.day m.hours m.minutes (omega arith)

pub returns-in_err-k : goal.returns-in_err-k
returns-in_err-k c =
    let m = c.args.moment in
    let whole : c.from_be_bytes-time.result ≡ in_bytes m.hours m.minutes = omega arith in
    let gone : c.number_of.result ≡ None = grind arith in
    let first : c.in_err-k.field-0.0 ≡ UnknownTime = grind arith in
    handed_on _ _ _ c.from_residual.ensures.1
    (rw first (slot_no_time m.day m.hours m.minutes _ (omega arith) (ap (number_in times) whole) (MatchOption-at_none _ _ gone c.number_of.ensures)))

pub returns : goal.returns
returns c =
    let m = c.args.moment in
    let whole : c.from_be_bytes-time.result ≡ in_bytes m.hours m.minutes = omega arith in
    let found : c.number_of.result ≡ Some c.in_ok-k.k = grind arith in
    let number = MatchOption-at_some _ _ _ found c.number_of.ensures in
    rw c.from.ensures (slot_number m.day m.hours m.minutes c.in_ok-k.k (omega arith) (number.0 ∙ ap (number_in times) whole) number.1)
