-- Document 01's plan, its number of slots, meets, clash, clash-free and busiest party. Assumes nothing.
use Rattle.std.specs.Prelude.{ℕ, ◌+◌, ◌*◌, ◌≤◌, ◌<◌, ◌≡◌, List, [], ◌∷◌, eqb, length}
use Rattle.words.specs.Basics.{pick, is, count}
use Rattle.appointments.specs.Appointments.{Appt, names, load, largest_load}

-- A plan of a list is any A whole numbers, one per position.
abbrev pub PlanOf : List Appt → List ℕ → Type 0
PlanOf xs plan = length plan ≡ length xs

-- The number of slots of a plan: how many different numbers it holds.
unfoldable pub different : List ℕ → ℕ
different [] = 0
different (s ∷ plan) = pick (eqb (count s plan) 0) 1 0 + different plan

-- How often a party meets a slot: as often as the appointments with that slot name it.
unfoldable pub meets : ℕ → ℕ → List Appt → List ℕ → ℕ
meets v s [] plan = 0
meets v s (x ∷ xs) [] = 0
meets v s (x ∷ xs) (c ∷ plan) = is s c * names v x + meets v s xs plan

-- A clash is a party that meets a slot twice or more; a clash-free plan has none.
abbrev pub ClashFree : ℕ → List Appt → List ℕ → Type 0
ClashFree P xs plan = (v s : ℕ) → v < P → meets v s xs plan ≤ 1

-- A busiest party is one whose load is D.
pub record Busiest (P : ℕ) (xs : List Appt) (v : ℕ) : Type 0 where
  pub party : v < P
  pub busiest : load v xs ≡ largest_load P xs
