-- Document 02's request 14: cancelling can't lengthen a plan. Of an accepted list any appointments may be kept, in any order: they
-- are accepted with the same P and buffers, and D is no larger. Assumes nothing.
use Rattle.std.specs.Prelude.{ℕ, ◌+◌, ◌*◌, ◌%◌, ◌≤◌, ◌<◌, ◌≡◌, List, [], ◌∷◌, ◌++◌, length}
use Rattle.words.specs.Basics.{All, count}
use Rattle.words.specs.Words.{word}
use Rattle.appointments.specs.Appointments.{appts}
use Rattle.appointments.specs.Answers.{accepted}
use Rattle.appointments.specs.Lent.{Lent, lent_appts, with_list}
use Rattle.planning.specs.Planning.{plan_answer}

-- Some of the entries of xs, each at most once, in any order: each in turn is taken out of those that are left. Equal entries at
-- different positions count apart, and none at all may be kept too.
abbrev pub Kept : {A : Type 0} → List A → List A → Type 0
Kept xs [] = Unit {0}
Kept {A} xs (y ∷ ys) = (before : List A) × (after : List A) × (xs ≡ before ++ y ∷ after) × Kept (before ++ after) ys

-- What the call is lent is accepted too, and its D is no larger.
pub record StillPlanned (D : ℕ) (l : Lent) : Type 0 where
  pub its_D : ℕ
  pub answer : plan_answer l ≡ accepted its_D
  pub no_larger : its_D ≤ D

-- Cancelling can't lengthen a plan: if a list is accepted, so is every list of some of its appointments, with the same P and buffers.
abbrev pub Cancelling : Type 0
Cancelling =
    (l : Lent) (D : ℕ) (kept : List ℕ) → plan_answer l ≡ accepted D → length kept % 2 ≡ 0 → Kept (lent_appts l) (appts kept) →
    StillPlanned D (with_list l kept)

-- ── the same by positions, as a desk thinks of it ──

-- The appointments at these positions of a list, in this order, as a list of ends.
unfoldable pub at_positions : List ℕ → List ℕ → List ℕ
at_positions list [] = []
at_positions list (i ∷ positions) = word list (2 * i) ∷ word list (2 * i + 1) ∷ at_positions list positions

-- Positions of a list of A appointments, none twice.
pub record Chosen (A : ℕ) (positions : List ℕ) : Type 0 where
  pub there : All (λ (i : ℕ). i < A) positions
  pub once : (i : ℕ) → count i positions ≤ 1

-- If a list is accepted, so is what stands at any positions that are chosen from it.
abbrev pub CancellingByPositions : Type 0
CancellingByPositions =
    (l : Lent) (D : ℕ) (positions : List ℕ) → plan_answer l ≡ accepted D → Chosen (length (lent_appts l)) positions →
    StillPlanned D (with_list l (at_positions l.list positions))
