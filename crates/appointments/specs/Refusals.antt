-- The papers' number and place of each refusal that code tells, and the answer that a `Result` of code says. Assumes nothing.
use Rattle.std.specs.Prelude.{ℕ, Result, Ok, Err}
use Rattle.appointments.specs.Answers.{Answer, accepted, refused}
use Rattle.appointments.specs.declared.Refusal.{Refusal}
use Rattle.appointments.specs.declared.Refusal.TheVariants.{ManyParties, OddLength, ManyAppointments, BlankEnd, UnlistedEnd, LargeProduct, FewSlots, LittleScratch, OddRound, MalformedLine, LongInput, WrongLength, ShortOutput, ManyQueries, UnlistedQuery, LateSlot, UnknownTime}

-- the papers' number
abbrev pub refusal_number : Refusal → ℕ
refusal_number ManyParties = 1
refusal_number OddLength = 2
refusal_number ManyAppointments = 3
refusal_number (BlankEnd place) = 4
refusal_number (UnlistedEnd place) = 5
refusal_number LargeProduct = 6
refusal_number FewSlots = 7
refusal_number LittleScratch = 8
refusal_number OddRound = 9
refusal_number (MalformedLine place) = 10
refusal_number LongInput = 11
refusal_number WrongLength = 12
refusal_number ShortOutput = 13
refusal_number ManyQueries = 14
refusal_number (UnlistedQuery place) = 15
refusal_number LateSlot = 23
refusal_number UnknownTime = 24

-- the place, and 0 where the number has none
abbrev pub refusal_place : Refusal → ℕ
refusal_place ManyParties = 0
refusal_place OddLength = 0
refusal_place ManyAppointments = 0
refusal_place (BlankEnd place) = place
refusal_place (UnlistedEnd place) = place
refusal_place LargeProduct = 0
refusal_place FewSlots = 0
refusal_place LittleScratch = 0
refusal_place OddRound = 0
refusal_place (MalformedLine place) = place
refusal_place LongInput = 0
refusal_place WrongLength = 0
refusal_place ShortOutput = 0
refusal_place ManyQueries = 0
refusal_place (UnlistedQuery place) = place
refusal_place LateSlot = 0
refusal_place UnknownTime = 0

-- The answer that a `Result` says: accepted with its figures, or refused with the number and place of the reason.
abbrev pub told : {F : Type 0} → Result F Refusal → Answer F
told (Ok figures) = accepted figures
told (Err r) = refused (refusal_number r) (refusal_place r)
