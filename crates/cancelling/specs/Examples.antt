-- Worked examples of what may be kept: of two equal appointments both, of one not two; the order is free; and the empty choice.
-- Assumes nothing.
use Rattle.std.specs.Prelude.{◌≡◌, refl, List, [], ◌∷◌, length}
use Rattle.std.proofs.Common.{ap, arith, length-append}
use Rattle.appointments.specs.Appointments.{Appt, appt}
use Rattle.cancelling.specs.Cancelling.{Kept, at_positions}

-- 0-1, 0-1, 2-1
abbrev three : List Appt
three = appt 0 1 ∷ appt 0 1 ∷ appt 2 1 ∷ []

both_of_two_equal : Kept (appt 0 1 ∷ appt 0 1 ∷ []) (appt 0 1 ∷ appt 0 1 ∷ [])
both_of_two_equal = ([], appt 0 1 ∷ [], refl, ([], [], refl, tt))

last_first : Kept three (appt 2 1 ∷ appt 0 1 ∷ [])
last_first = (appt 0 1 ∷ appt 0 1 ∷ [], [], refl, ([], appt 0 1 ∷ [], refl, tt))

none : Kept three []
none = tt

-- of one appointment no two can be kept
not_twice : Kept (appt 0 1 ∷ []) (appt 0 1 ∷ appt 0 1 ∷ []) → ⊥
not_twice (before, after, one, (before', after', left, rest)) =
    omega (
      arith,
      ap length one,
      length-append before (appt 0 1 ∷ after),
      ap length left,
      length-append before after,
      length-append before' (appt 0 1 ∷ after'),
    )

-- by positions: the last, then the first
by_positions : at_positions (0 ∷ 1 ∷ 0 ∷ 1 ∷ 2 ∷ 1 ∷ []) (2 ∷ 0 ∷ []) ≡ 2 ∷ 1 ∷ 0 ∷ 1 ∷ []
unfolding at_positions
by_positions = refl
