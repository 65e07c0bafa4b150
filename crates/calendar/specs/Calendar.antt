-- Document 02's hall calendar: slots as days and clock times, the way back, and what is shown of both. Assumes nothing.
use Rattle.std.specs.Prelude.{ℕ, suc, ◌+◌, ◌*◌, ◌/◌, ◌%◌, ◌<◌, ◌≤◌, ◌≡◌, List, [], ◌∷◌, eqb, ltb, leb, length, get_or}
use Rattle.words.specs.Basics.{pick}
use Rattle.appointments.specs.Checks.{passed, bar}
use Rattle.appointments.specs.Answers.{Answer, accepted, answer, figure}
use Rattle.calendar.specs.declared.Moment.{Moment}

-- packed decimal: two digits in a byte, one in each four bits
abbrev pub packed : ℕ → ℕ
packed n = 16 * (n / 10) + n % 10

-- two bytes as one number: that of the hours, then that of the minutes
abbrev pub in_bytes : ℕ → ℕ → ℕ
in_bytes hours minutes = 256 * hours + minutes

-- a time of day, packed
abbrev pub time : ℕ → ℕ → ℕ
time hours minutes = in_bytes (packed hours) (packed minutes)

-- The times of a day's 16 slots: half-hourly from 08:00 to 11:30 and from 13:00 to 16:30.
unfoldable pub times : List ℕ
times =
    time 8 0 ∷ time 8 30
    ∷ time 9 0 ∷ time 9 30
    ∷ time 10 0 ∷ time 10 30
    ∷ time 11 0 ∷ time 11 30
    ∷ time 13 0 ∷ time 13 30
    ∷ time 14 0 ∷ time 14 30
    ∷ time 15 0 ∷ time 15 30
    ∷ time 16 0 ∷ time 16 30
    ∷ []

-- ── from a slot to its day and time ──

-- a day, and a time of it in two packed bytes
abbrev pub moment : ℕ → ℕ → ℕ → Moment
moment day hours minutes = record { day = day; hours = hours; minutes = minutes }

-- Slot s lies on day s÷16 rounded down, at the time numbered by the remainder.
abbrev pub moment_of : ℕ → Moment
moment_of s =
    let t : ℕ = get_or times (s % 16) 0 in
    moment (s / 16) (t / 256) (t % 256)

-- The call's answer. 23: a slot above 4,095.
unfoldable pub clock_answer : ℕ → Answer Moment
clock_answer s = answer (bar (ltb 4095 s) 23 passed) (moment_of s)

-- day, hours and minutes of an answer, 0 for a refusal
abbrev pub day_of : Answer Moment → ℕ
day_of = figure (λ m. m.day)

abbrev pub hours_of : Answer Moment → ℕ
hours_of = figure (λ m. m.hours)

abbrev pub minutes_of : Answer Moment → ℕ
minutes_of = figure (λ m. m.minutes)

-- ── and back ──

-- the number of a time in a list of times, counted from 0, and the list's length if it isn't there
unfoldable pub number_in : List ℕ → ℕ → ℕ
number_in [] t = 0
number_in (x ∷ xs) t = pick (eqb x t) 0 (suc (number_in xs t))

-- The way back's answer. 24: a time not among the sixteen, or a day above 255.
unfoldable pub slot_answer : ℕ → ℕ → ℕ → Answer ℕ
slot_answer day hours minutes =
    let k : ℕ = number_in times (in_bytes hours minutes) in
    answer (bar (ltb 255 day) 24 (bar (leb 16 k) 24 passed)) (16 * day + k)

-- ── what is shown ──

-- each is below all that come after it
abbrev pub Rising : List ℕ → Type 0
Rising xs = (i j : ℕ) → i < j → j < length xs → get_or xs i 0 < get_or xs j 0

-- The times rise, over the whole day, and each of the two calls undoes the other.
pub record ForthAndBack : Type 0 where
  pub rising : Rising times
  -- every slot up to 4,095 has a moment, and is the slot of that moment
  pub forth : (s : ℕ) → s ≤ 4095 → clock_answer s ≡ accepted (moment_of s)
  pub back_undoes_forth : (s : ℕ) → s ≤ 4095 → let m = moment_of s in slot_answer m.day m.hours m.minutes ≡ accepted s
  -- where a day and two bytes have a slot, they are that slot's moment
  pub forth_undoes_back :
      (day hours minutes s : ℕ) → minutes < 256 → slot_answer day hours minutes ≡ accepted s → clock_answer s ≡ accepted (moment day hours minutes)
