-- What the walk for waiting has noted of a party's slots so far. Assumes nothing.
use Rattle.std.specs.Prelude.{ℕ, ◌<◌, ◌≡◌, Bool, false, List, length, get_or}
use Rattle.words.specs.Basics.{pick, is, count}
use Rattle.appointments.specs.Plans.{different}
use Rattle.asking.specs.PartySlots.{lowest, highest}

-- 1 where a slot is not flagged, and 0 where it is
abbrev pub unflagged : List Bool → ℕ → ℕ
unflagged flags s = pick (get_or flags s false) 0 1

-- A flag for each 16-bit number, set exactly where that is one of the slots; the lowest slot, the highest, and how many different ones
-- there are.
pub record Noted (mine : List ℕ) (flags : List Bool) (l h n : ℕ) : Type 0 where
  pub size : length flags ≡ 65536
  pub flagged : (s : ℕ) → s < 65536 → unflagged flags s ≡ is (count s mine) 0
  pub low : l ≡ lowest mine
  pub high : h ≡ highest mine
  pub different_slots : n ≡ different mine
