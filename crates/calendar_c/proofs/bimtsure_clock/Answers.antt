-- `bimtsure_clock` meets its contract: the place of a refusal fits 32 bits. Assumes nothing.
use Prim.Native.Nat.{ℕ, ◌<◌}
use mathlib.Core.Path.{◌≡◌}
use native.Mathlib.Omega.{arith}
use Rattle.appointments.specs.Answers.{refused}
use Rattle.appointments.proofs.AnswerLaws.{place_fits}
use Rattle.calendar.specs.Calendar.{clock_answer}
use Rattle.calendar.proofs.Telling.{clock_refusal}
use Rattle.calendar_c.proofs.bimtsure_clock.Goals as goal

refusal_fits : (s n i : ℕ) → clock_answer s ≡ refused n i → i < 4294967296
refusal_fits s n i e = omega (arith, clock_refusal s n i e)

pub overflow_cast-result : goal.overflow_cast-result
overflow_cast-result c = omega (arith, place_fits c.of-clock.ensures.place c.clock.ensures (refusal_fits _))
