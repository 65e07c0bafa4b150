-- What each of the answers of `two_color` says of the list. Assumes nothing.
use Rattle.std.specs.Prelude.{ℕ, ◌≡◌, List}
use Rattle.appointments.specs.Appointments.{Appt}
use Rattle.appointments.specs.Rounds.{OddRound}
use Rattle.appointments.specs.TwoSides.{TwoSides}
use Rattle.bipartition.specs.TwoColor.{Sides, sides, not_bipartite, unfinished, two_color}

-- what an answer says: its sides are such sides; not bipartite: there is a closed round of odd length; unfinished: never given
abbrev pub Says : ℕ → List Appt → Sides → Type 0
Says P xs (sides left right) = (side : ℕ → ℕ) × TwoSides P xs side left right
Says P xs not_bipartite = OddRound xs
Says P xs unfinished = ⊥

-- Sides were found, and no closed round is odd.
pub record FoundSides (P : ℕ) (xs : List Appt) : Type 0 where
  pub left : List ℕ
  pub right : List ℕ
  pub side : ℕ → ℕ
  pub answer : two_color P xs ≡ sides left right
  pub two_sides : TwoSides P xs side left right
  pub none_odd : OddRound xs → ⊥

-- It refused, and a closed round is odd.
pub record RefusedList (P : ℕ) (xs : List Appt) : Type 0 where
  pub answer : two_color P xs ≡ not_bipartite
  pub odd : OddRound xs
