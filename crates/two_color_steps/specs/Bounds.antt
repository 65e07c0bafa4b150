-- What the functions that read and write without a test ask of the words: that each place they touch is one. Assumes nothing.
use Rattle.std.specs.Prelude.{ℕ, zero, suc, ◌+◌, ◌*◌, ◌-◌, ◌/◌, ◌%◌, ◌<◌, ◌≡◌, List, length}
use Rattle.words.specs.Words.{word, put_word}
use Rattle.words.specs.Appending.{CanAppend}
use Rattle.two_color_steps.specs.Model.{right_place, stack_place, colour_place, refused_place, next_place, stack_count, left_count, right_count, row_count, row_start, clear_state_m, start_parties_m, push_end_m, fill_rows_m, stacked, looks_m, steps_m}

-- the row of the party v can
pub record CanPush (u p v : ℕ) (s : List ℕ) : Type 0 where
  pub start : row_start u p v < length s
  pub appends : CanAppend (row_count u p v) (word s (row_start u p v)) s

-- the rows can get the far ends of the appointments below n, from the newest down
abbrev pub CanFill : ℕ → ℕ → List ℕ → ℕ → ℕ → ℕ → List ℕ → Type 0
CanFill u p list near far zero s = Unit {0}
CanFill u p list near far (suc i) s =
    CanPush u p (word list (2 * i + near)) s
    × CanFill u p list near far i (push_end_m u p (word list (2 * i + near)) (word list (2 * i + far)) s)

-- both passes over the list can be made, once the parties are started
pub record CanPrepare (u p d : ℕ) (list s : List ℕ) : Type 0 where
  pub firsts : CanFill u p list 0 1 (length list / 2) (start_parties_m u p d p (clear_state_m u p s))
  pub seconds :
      CanFill u p list 1 0 (length list / 2)
      (fill_rows_m u p list 0 1 (length list / 2) (start_parties_m u p d p (clear_state_m u p s)))

-- the party w can get its colour
pub record CanColorParty (u p w color : ℕ) (s : List ℕ) : Type 0 where
  pub colour : colour_place u p w < length s
  pub stack : CanAppend (stack_count u p) (stack_place u p) (put_word s (colour_place u p w) color)
  pub left : color ≡ 0 → CanAppend (left_count u p) u (stacked u p w color s)
  pub right : (color ≡ 0 → ⊥) → CanAppend (right_count u p) (right_place u p) (stacked u p w color s)

-- the neighbour w can be touched
pub record CanTouch (u p other w : ℕ) (s : List ℕ) : Type 0 where
  pub colour : colour_place u p w < length s
  pub paints : word s (colour_place u p w) ≡ 2 → word s (refused_place u p) ≡ 0 → CanColorParty u p w other s

-- the neighbour whose number stands at `at` can be looked at
pub record CanLook (u p other at : ℕ) (s : List ℕ) : Type 0 where
  pub here : at < length s
  pub touches : CanTouch u p other (word s at) s

-- all neighbours of the party v can, in the order of its row
pub record CanLookAll (u p v : ℕ) (s : List ℕ) : Type 0 where
  pub looks :
      (t : ℕ) → t < word s (row_count u p v) →
      CanLook u p (1 - word s (colour_place u p v) % 2) (word s (row_start u p v) + t)
      (looks_m u p (1 - word s (colour_place u p v) % 2) (word s (row_start u p v)) t s)

-- the last party on a stack of h can come off
abbrev pub CanTakeOff : ℕ → ℕ → ℕ → List ℕ → Type 0
CanTakeOff u p h s = CanLookAll u p (word s (stack_place u p + (h - 1))) (put_word s (stack_count u p) (h - 1))

-- it can go on to the next party
pub record CanGoOn (u p : ℕ) (s : List ℕ) : Type 0 where
  pub paints :
      word s (next_place u p) < p → word s (colour_place u p (word s (next_place u p))) ≡ 2 →
      CanColorParty u p (word s (next_place u p)) 1 (put_word s (next_place u p) (word s (next_place u p) + 1))

-- a step can be made
pub record CanStep (u p : ℕ) (s : List ℕ) : Type 0 where
  pub next : word s (refused_place u p) ≡ 0 → word s (stack_count u p) ≡ 0 → CanGoOn u p s
  pub off :
      word s (refused_place u p) ≡ 0 → (word s (stack_count u p) ≡ 0 → ⊥) → CanTakeOff u p (word s (stack_count u p)) s

-- n steps can
pub record CanStepAll (u p n : ℕ) (s : List ℕ) : Type 0 where
  pub steps : (k : ℕ) → k < n → CanStep u p (steps_m u p k s)
