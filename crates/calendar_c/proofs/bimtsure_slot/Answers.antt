-- `bimtsure_slot` meets its contract: a slot and the place of a refusal fit 32 bits. Assumes nothing.
use Prim.Native.Nat.{ℕ, ◌<◌}
use mathlib.Core.Path.{◌≡◌}
use native.Mathlib.Omega.{arith}
use Rattle.appointments.specs.Answers.{accepted, refused}
use Rattle.appointments.proofs.AnswerLaws.{place_fits, figure_fits}
use Rattle.calendar.specs.Calendar.{slot_answer}
use Rattle.calendar.proofs.Telling.{slot_small, slot_refusal}
use Rattle.calendar_c.proofs.bimtsure_slot.Goals as goal

slot_fits : (day hours minutes s : ℕ) → slot_answer day hours minutes ≡ accepted s → s < 4294967296
slot_fits day hours minutes s e = omega (arith, slot_small day hours minutes s e)

refusal_fits : (day hours minutes n i : ℕ) → slot_answer day hours minutes ≡ refused n i → i < 4294967296
refusal_fits day hours minutes n i e = omega (arith, slot_refusal day hours minutes n i e)

pub overflow_cast-result : goal.overflow_cast-result
overflow_cast-result c = omega (arith, place_fits c.of-slot.ensures.place c.slot.ensures (refusal_fits _ _ _))

pub overflow_cast-result-2 : goal.overflow_cast-result-2
overflow_cast-result-2 c =
    omega (arith, figure_fits (λ (n : ℕ). n) c.of-slot.ensures.figures c.slot.ensures (omega arith) (slot_fits _ _ _))
