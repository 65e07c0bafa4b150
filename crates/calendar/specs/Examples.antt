-- Worked examples of the hall calendar, each computed: the ends of the morning and of the afternoon, the first and the last day, and
-- every refusal beside the last that is accepted. A wrong definition is refused here. Assumes nothing.
use Rattle.std.specs.Prelude.{ℕ, ◌≡◌, refl}
use Rattle.appointments.specs.Answers.{Answer, accepted, refused, number_of, place_of}
use Rattle.calendar.specs.Calendar.{packed, moment, clock_answer, day_of, hours_of, minutes_of, slot_answer}
use Rattle.calendar.specs.declared.Moment.{Moment}
use Rattle.calendar.specs.Computing.{computing}

-- 16:30 is 0x16 and 0x30, that is 22 and 48
packed_examples : (packed 16 ≡ 22) × (packed 30 ≡ 48) × (packed 8 ≡ 8) × (packed 0 ≡ 0)
packed_examples = (refl, refl, refl, refl)

-- accepted with a day and a time that is written as usual
abbrev at : ℕ → ℕ → ℕ → Answer Moment
at day hours minutes = accepted (moment day (packed hours) (packed minutes))

clock_examples :
    -- 08:00 to 11:30
    (clock_answer 0 ≡ at 0 8 0)
    × (clock_answer 1 ≡ at 0 8 30)
    × (clock_answer 4 ≡ at 0 10 0)
    × (clock_answer 7 ≡ at 0 11 30)
    -- 13:00 to 16:30
    × (clock_answer 8 ≡ at 0 13 0)
    × (clock_answer 13 ≡ at 0 15 30)
    × (clock_answer 15 ≡ at 0 16 30)
    -- the next day, and the last slot of all
    × (clock_answer 16 ≡ at 1 8 0)
    × (clock_answer 4095 ≡ at 255 16 30)
    × (clock_answer 4096 ≡ refused 23 0)
    × (clock_answer 65535 ≡ refused 23 0)
unfolding computing
clock_examples = (refl, refl, refl, refl, refl, refl, refl, refl, refl, refl, refl)

-- the figures of an answer, all 0 for a refusal
figure_examples :
    (day_of (clock_answer 4095) ≡ 255)
    × (hours_of (clock_answer 4095) ≡ 22)
    × (minutes_of (clock_answer 4095) ≡ 48)
    × (number_of (clock_answer 4096) ≡ 23)
    × (place_of (clock_answer 4096) ≡ 0)
    × (day_of (clock_answer 4096) ≡ 0)
    × (hours_of (clock_answer 4096) ≡ 0)
    × (minutes_of (clock_answer 4096) ≡ 0)
unfolding computing
figure_examples = (refl, refl, refl, refl, refl, refl, refl, refl)

slot_examples :
    (slot_answer 0 8 0 ≡ accepted 0)
    × (slot_answer 0 22 48 ≡ accepted 15)
    × (slot_answer 0 (packed 15) (packed 30) ≡ accepted 13)
    × (slot_answer 1 (packed 13) 0 ≡ accepted 24)
    × (slot_answer 255 22 48 ≡ accepted 4095)
    -- a day above 255, with a good time and with a bad one
    × (slot_answer 256 8 0 ≡ refused 24 0)
    × (slot_answer 256 0 0 ≡ refused 24 0)
    -- 07:30, 12:00, 12:30 and 17:00 are not among the sixteen, nor is a quarter past
    × (slot_answer 0 7 48 ≡ refused 24 0)
    × (slot_answer 0 (packed 12) 0 ≡ refused 24 0)
    × (slot_answer 0 (packed 12) 48 ≡ refused 24 0)
    × (slot_answer 0 (packed 17) 0 ≡ refused 24 0)
    × (slot_answer 0 8 (packed 15) ≡ refused 24 0)
    -- 16 and 30 that aren't packed
    × (slot_answer 0 16 30 ≡ refused 24 0)
unfolding computing
slot_examples = (refl, refl, refl, refl, refl, refl, refl, refl, refl, refl, refl, refl, refl)
