-- What a call gives back: it accepts and gives its figures, or it refuses with the papers' number and place; and what lent
-- memory then holds. Assumes nothing.
use Rattle.std.specs.Prelude.{ℕ, List, ◌++◌, length, drop}
use Rattle.appointments.specs.Checks.{Check}

-- F is what the call tells: one figure, or a record of several.
pub data Answer (F : Type 0) : Type 0 where
  accepted : F → Answer F
  refused : ℕ → ℕ → Answer F

-- accepted with these figures if all checks pass, else the first refusal
abbrev pub answer : {F : Type 0} → Check → F → Answer F
answer Check.passed figures = accepted figures
answer (Check.refused number place) figures = refused number place

-- the number of an answer, 0 for acceptance
abbrev pub number_of : {F : Type 0} → Answer F → ℕ
number_of (accepted figures) = 0
number_of (refused number place) = number

-- the place of an answer, 0 for acceptance
abbrev pub place_of : {F : Type 0} → Answer F → ℕ
place_of (accepted figures) = 0
place_of (refused number place) = place

-- the figures of an answer, these for a refusal
abbrev pub figures_of : {F : Type 0} → F → Answer F → F
figures_of none (accepted figures) = figures
figures_of none (refused number place) = none

-- a figure of an answer, 0 for a refusal
abbrev pub figure : {F : Type 0} → (F → ℕ) → Answer F → ℕ
figure which (accepted figures) = which figures
figure which (refused number place) = 0

-- the one figure of an answer
abbrev pub figure_of : Answer ℕ → ℕ
figure_of = figure (λ n. n)

-- these entries first, then what was there
abbrev pub over : List ℕ → List ℕ → List ℕ
over new buffer = new ++ drop (length new) buffer

-- a lent buffer once checks are decided: if all pass, its first entries are the new ones and the others stay; else all stay
abbrev pub once : Check → List ℕ → List ℕ → List ℕ
once Check.passed new buffer = over new buffer
once (Check.refused number place) new buffer = buffer

-- A lent buffer after the call: if it accepted, its first entries are the new ones and the others stay; else all stay.
abbrev pub after : {F : Type 0} → Answer F → List ℕ → List ℕ → List ℕ
after (accepted figures) new buffer = over new buffer
after (refused number place) new buffer = buffer
