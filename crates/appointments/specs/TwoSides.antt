-- What the two sides of a list are to be. Assumes nothing.
use Rattle.std.specs.Prelude.{ℕ, ◌+◌, ◌≤◌, ◌<◌, ◌≡◌, List, length}
use Rattle.words.specs.Basics.{count, All}
use Rattle.appointments.specs.Appointments.{Appt}

-- The parties 0 to P-1 stand on two sides, given by `side`: 0 is left and 1 is right.
pub record TwoSides (P : ℕ) (xs : List Appt) (side : ℕ → ℕ) (left right : List ℕ) : Type 0 where
  -- the two ends of each appointment are on different sides
  pub across : All (λ x. side x.first + side x.second ≡ 1) xs
  -- each party is left or right
  pub one_of_two : (v : ℕ) → v < P → side v ≤ 1
  -- and stands exactly once in the two lists together
  pub once : (v : ℕ) → v < P → count v left + count v right ≡ 1
  -- the lists hold parties of their own side only
  pub lefts : All (λ v. (v < P) × (side v ≡ 0)) left
  pub rights : All (λ v. (v < P) × (side v ≡ 1)) right
  -- and all parties
  pub all_parties : length left + length right ≡ P
