-- What giving slots over words asks and does: the matchings of a colouring as they lie in words, and the slots that the
-- appointments get from them. Assumes nothing.
use Rattle.std.specs.Prelude.{ℕ, ◌+◌, ◌*◌, ◌<◌, ◌≤◌, ◌≡◌, List, length, get_or}
use Rattle.words.specs.Basics.{ran}
use Rattle.words.specs.Words.{word}
use Rattle.words.specs.Frames.{Changes}
use Rattle.appointments.specs.Appointments.{Appt, appt}
use Rattle.appointments.specs.Answers.{over}
use Rattle.multigraph.specs.Stored.{matchings_at}
use Rattle.multigraph.specs.Places.{DistinctEnds, HasEnds}
use Rattle.highest_slot.specs.Slots.{give_slots}

-- The table of ends, the numbers of the appointments' pairs, the matchings and a word for each pair lie inside the words, the
-- matchings above the first two and the words for the pairs above the matchings; all numbers are below `pairs`, and each
-- appointment's number is that of its pair. There are slots for all appointments: the definition gives `plan`.
pub record SlotsFit (ends pairs n d out pair_numbers links : ℕ) (xs : List Appt) (plan s slots : List ℕ) : Type 0 where
  pub distinct : DistinctEnds ends pairs s
  pub numbers : (t : ℕ) → t < n * d → word s (out + t) < pairs
  pub appointed : (i : ℕ) → i < length xs → word s (pair_numbers + i) < pairs
  pub own :
      (i : ℕ) → i < length xs →
      HasEnds s ends (word s (pair_numbers + i)) (get_or xs i (appt 0 0)).first (get_or xs i (appt 0 0)).second
  pub after_ends : ends + 2 * pairs ≤ out
  pub after_appointed : pair_numbers + length xs ≤ out
  pub after_matchings : out + n * d ≤ links
  pub inside : links + pairs ≤ length s
  pub few : n * d ≤ 16384
  pub room : length xs ≤ length slots
  pub runs : give_slots xs (matchings_at s ends pairs out n d) ≡ ran plan

-- The first entries of the slot buffer hold the plan and later ones stay. Of the words only the matchings and those for the
-- pairs change.
pub record SlotsStored (pairs n d out links : ℕ) (plan s slots t after : List ℕ) : Type 0 where
  pub held : after ≡ over plan slots
  pub changes : Changes out (n * d) links pairs s t

abbrev pub GivesSlots : ℕ → ℕ → ℕ → ℕ → ℕ → ℕ → List ℕ → List ℕ → List ℕ → List ℕ → Type 0
GivesSlots a n d out pair_numbers links s slots t after =
    (ends pairs : ℕ) (xs : List Appt) (plan : List ℕ) → length xs ≡ a →
    SlotsFit ends pairs n d out pair_numbers links xs plan s slots → SlotsStored pairs n d out links plan s slots t after
