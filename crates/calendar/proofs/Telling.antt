-- Both calls case by case, as the code tells them, and what their answers can be. Assumes nothing.
use Prim.Native.Nat.{ℕ, ◌+◌, ◌*◌, ◌/◌, ◌%◌, ◌<◌, ◌≤◌}
use mathlib.Core.Path.{◌≡◌, refl}
use native.Mathlib.Omega.{arith}
use borrow.Author.Tests.{lt-ltb, le-ltb, le-leb, lt-leb, ltb-false, leb-false}
use lib.Dec.{ltb, leb}
use lib.ListN.{length, get_or}
use Rattle.appointments.specs.Checks.{passed, bar}
use Rattle.appointments.specs.Answers.{accepted, refused}
use Rattle.appointments.proofs.AnswerLaws.{accepted_passed, refused_checked}
use Rattle.appointments.proofs.Causes.{bar_cause, never_refused}
use Rattle.appointments.proofs.ChecksLaws.{bar_passed}
use Rattle.calendar.specs.Calendar.{in_bytes, times, moment_of, clock_answer, moment, number_in, slot_answer}

pub times_length : length times ≡ 16
unfolding times
times_length = refl

-- a call's only refusal: this number, with place 0
abbrev pub Only : ℕ → ℕ → ℕ → Type 0
Only number n i = (n ≡ number) × (i ≡ 0)

-- ── from a slot to its day and time ──

module _ (s : ℕ) where
  pub clock_refused : 4095 < s → refused 23 0 ≡ clock_answer s
  unfolding clock_answer
  clock_refused h = rw (lt-ltb 4095 s h)

  pub clock_accepted : s ≤ 4095 → clock_answer s ≡ accepted (moment_of s)
  unfolding clock_answer
  clock_accepted h = rw (le-ltb 4095 s h)

  -- the day, and both bytes of the time numbered by the remainder
  pub clock_moment : (t : ℕ) → s ≤ 4095 → t ≡ get_or times (s % 16) 0 → accepted (moment (s / 16) (t / 256) (t % 256)) ≡ clock_answer s
  clock_moment t h e = rw (clock_accepted h, e)

  pub clock_refusal : (n i : ℕ) → clock_answer s ≡ refused n i → Only 23 n i
  unfolding clock_answer
  clock_refusal n i e =
      bar_cause (Only 23) (ltb 4095 s) 23 passed n i (λ q. (refl, refl)) (λ q. never_refused n i) (refused_checked _ _ n i e)

-- ── and back ──

-- What is accepted: a day up to 255 and a time among the sixteen, whose number counts on from the day's first slot.
pub record HasSlot (day hours minutes s : ℕ) : Type 0 where
  pub day_there : day ≤ 255
  pub time_there : number_in times (in_bytes hours minutes) < 16
  pub slot : 16 * day + number_in times (in_bytes hours minutes) ≡ s

module _ (day hours minutes : ℕ) where
  abbrev number : ℕ
  number = number_in times (in_bytes hours minutes)

  pub slot_no_day : 255 < day → refused 24 0 ≡ slot_answer day hours minutes
  unfolding slot_answer
  slot_no_day h = rw (lt-ltb 255 day h)

  pub slot_no_time : (k : ℕ) → day ≤ 255 → k ≡ number → 16 ≤ k → refused 24 0 ≡ slot_answer day hours minutes
  unfolding slot_answer
  slot_no_time k h e l = rw (le-ltb 255 day h, le-leb 16 number (omega arith))

  pub slot_accepted : day ≤ 255 → number < 16 → slot_answer day hours minutes ≡ accepted (16 * day + number)
  unfolding slot_answer
  slot_accepted h l = rw (le-ltb 255 day h, lt-leb 16 number l)

  pub slot_number : (k : ℕ) → day ≤ 255 → k ≡ number → k < 16 → accepted (16 * day + k) ≡ slot_answer day hours minutes
  slot_number k h e l = rw (slot_accepted h (omega arith), e)

  pub has_slot : (s : ℕ) → slot_answer day hours minutes ≡ accepted s → HasSlot day hours minutes s
  unfolding slot_answer
  has_slot s e =
      let p = accepted_passed (bar (ltb 255 day) 24 (bar (leb 16 number) 24 passed)) (16 * day + number) s e in
      let d = bar_passed (ltb 255 day) 24 (bar (leb 16 number) 24 passed) p.0 in
      let t = bar_passed (leb 16 number) 24 passed d.1 in
      record { day_there = ltb-false 255 day d.0; time_there = leb-false 16 number t.0; slot = p.1 }

  pub slot_refusal : (n i : ℕ) → slot_answer day hours minutes ≡ refused n i → Only 24 n i
  unfolding slot_answer
  slot_refusal n i e =
      bar_cause (Only 24) (ltb 255 day) 24 (bar (leb 16 number) 24 passed) n i (λ q. (refl, refl))
      (λ q. bar_cause (Only 24) (leb 16 number) 24 passed n i (λ r. (refl, refl)) (λ r. never_refused n i))
      (refused_checked _ _ n i e)

  -- a slot that is given has a clock time
  pub slot_small : (s : ℕ) → slot_answer day hours minutes ≡ accepted s → s ≤ 4095
  slot_small s e =
      let h = has_slot s e in
      omega (arith, h.day_there, h.time_there, h.slot)
