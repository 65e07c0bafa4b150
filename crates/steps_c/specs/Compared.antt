-- What the exported `two_color` answers, and what it leaves in scratch. Assumes nothing.
use Rattle.std.specs.Prelude.{ℕ, ◌-◌, ◌≡◌, List, length}
use Rattle.words.specs.Words.{region}
use Rattle.appointments.specs.Appointments.{appts}
use Rattle.appointments.specs.Checks.{Check, passed, refused, checks}
use Rattle.bipartition.specs.TwoColor.{Sides, sides, not_bipartite, unfinished, two_color}

-- Document 01's number: that of the check that refuses; else 0 with sides, and 9 without. (A law rules out that the definition
-- comes to neither.)
abbrev pub number_for : Check → Sides → ℕ
number_for (refused number place) answer = number
number_for passed (sides left right) = 0
number_for passed not_bipartite = 9
number_for passed unfinished = 1000

-- how many parties stand on the left; every refusal has 0
abbrev pub left_for : Check → Sides → ℕ
left_for (refused number place) answer = 0
left_for passed (sides left right) = length left
left_for passed not_bipartite = 0
left_for passed unfinished = 0

-- The checks are asked with a slot buffer that is long enough, since none is needed.
pub record TwoColored (p : ℕ) (list before after : List ℕ) (number left : ℕ) : Type 0 where
  pub number_is : number ≡ number_for (checks p list (length list) (length before)) (two_color p (appts list))
  pub left_is : left ≡ left_for (checks p list (length list) (length before)) (two_color p (appts list))
  -- with number 0 the definition's sides stand in scratch, the left one from word 0 on and the right one from word P on
  pub placed : number ≡ 0 → two_color p (appts list) ≡ sides (region after 0 left) (region after p (p - left))
  -- a check that refuses leaves scratch as it was
  pub stays : (n i : ℕ) → checks p list (length list) (length before) ≡ refused n i → after ≡ before
