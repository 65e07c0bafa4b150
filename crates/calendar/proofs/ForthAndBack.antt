-- Each of the calendar's calls undoes the other, since the times rise. Assumes nothing.
use Prim.Native.Nat.{ℕ, ◌+◌, ◌*◌, ◌/◌, ◌%◌, ◌<◌, ◌≤◌}
use mathlib.Core.Path.{◌≡◌, ◌∙◌}
use native.Mathlib.Omega.{arith}
use lib.ListN.{get_or}
use Rattle.appointments.specs.Answers.{accepted}
use Rattle.calendar.specs.Calendar.{in_bytes, times, moment, moment_of, clock_answer, number_in, slot_answer, ForthAndBack}
use Rattle.calendar.proofs.Rising.{times_rise}
use Rattle.calendar.proofs.Numbers.{number_found, rising_number}
use Rattle.calendar.proofs.Telling.{times_length, clock_accepted, slot_accepted, has_slot, slot_small}

-- the time numbered by the remainder has the remainder for its number
number_of_time : (s : ℕ) → let m = moment_of s in number_in times (in_bytes m.hours m.minutes) ≡ s % 16
number_of_time s =
    let t : ℕ = get_or times (s % 16) 0 in
    let whole : in_bytes (t / 256) (t % 256) ≡ t = omega arith in
    rw whole (rising_number times times_rise (s % 16) (omega (arith, times_length)))

back : (s : ℕ) → s ≤ 4095 → let m = moment_of s in slot_answer m.day m.hours m.minutes ≡ accepted s
back s h =
    let m = moment_of s in
    let number = number_of_time s in
    let whole : 16 * (s / 16) + s % 16 ≡ s = omega arith in
    slot_accepted m.day m.hours m.minutes (omega arith) (omega (arith, number)) ∙ rw (number, whole)

-- the moment of a slot that a day and two bytes have
there : (day hours minutes s : ℕ) → minutes < 256 → slot_answer day hours minutes ≡ accepted s → clock_answer s ≡ accepted (moment day hours minutes)
there day hours minutes s small e =
    let h = has_slot day hours minutes s e in
    let k : ℕ = number_in times (in_bytes hours minutes) in
    let found : get_or times k 0 ≡ in_bytes hours minutes = number_found times (in_bytes hours minutes) (omega (arith, h.time_there, times_length)) in
    let its_day : s / 16 ≡ day = omega (arith, h.slot, h.time_there) in
    let its_number : s % 16 ≡ k = omega (arith, h.slot, h.time_there) in
    let its_hours : in_bytes hours minutes / 256 ≡ hours = omega arith in
    let its_minutes : in_bytes hours minutes % 256 ≡ minutes = omega arith in
    clock_accepted s (slot_small day hours minutes s e) ∙ rw (its_day, its_number, found, its_hours, its_minutes)

-- The times rise, and each call undoes the other.
pub forth_and_back : ForthAndBack
forth_and_back =
    record { rising = times_rise; forth = clock_accepted; back_undoes_forth = back; forth_undoes_back = there }
