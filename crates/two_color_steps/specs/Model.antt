-- The code of `two_color` on the list that stands for the lent words: each function `f` of src/lib.rt has its model `fM` here,
-- operation by operation. Assumes nothing.
use Rattle.std.specs.Prelude.{ℕ, zero, suc, ◌+◌, ◌*◌, ◌-◌, ◌/◌, ◌%◌, ◌<◌, ◌≤◌, List, eqb, ltb, length}
use Rattle.words.specs.Basics.{pick}
use Rattle.words.specs.Words.{word, put_word}
use Rattle.words.specs.Appending.{appended}

-- ── where things lie ──
--
-- The words start at u, with p parties and at most d neighbours each. A list lies at its place, with its length at its count: the
-- sides (the left one at u itself), the stack and a row for each party. Five words of state lie between the colours and the rows.

-- addresses are small numbers
pub record Small (u p : ℕ) : Type 0 where
  pub low : u < 2147483648
  pub few : p ≤ 1024

abbrev pub right_place : ℕ → ℕ → ℕ
right_place u p = u + p

abbrev pub stack_place : ℕ → ℕ → ℕ
stack_place u p = u + 2 * p

-- the colour of a party, and 2 while it has none
abbrev pub colour_place : ℕ → ℕ → ℕ → ℕ
colour_place u p v = u + 3 * p + v

-- 1 once it is refused
abbrev pub refused_place : ℕ → ℕ → ℕ
refused_place u p = u + 4 * p

-- the next party to start from
abbrev pub next_place : ℕ → ℕ → ℕ
next_place u p = u + 4 * p + 1

abbrev pub stack_count : ℕ → ℕ → ℕ
stack_count u p = u + 4 * p + 2

abbrev pub left_count : ℕ → ℕ → ℕ
left_count u p = u + 4 * p + 3

abbrev pub right_count : ℕ → ℕ → ℕ
right_count u p = u + 4 * p + 4

abbrev pub row_count : ℕ → ℕ → ℕ → ℕ
row_count u p v = u + 4 * p + 5 + 2 * v

-- the word that says where a party's row lies
abbrev pub row_start : ℕ → ℕ → ℕ → ℕ
row_start u p v = u + 4 * p + 6 + 2 * v

abbrev pub row_place : ℕ → ℕ → ℕ → ℕ → ℕ
row_place u p d v = u + 6 * p + 5 + d * v

-- ── preparing ──

-- w at the end of the list whose length stands at k and whose words start at a
abbrev pub append_m : ℕ → ℕ → ℕ → List ℕ → List ℕ
append_m k a w s = appended k a w s

unfoldable pub clear_state_m : ℕ → ℕ → List ℕ → List ℕ
clear_state_m u p s =
    put_word (put_word (put_word (put_word (put_word s (refused_place u p) 0) (next_place u p) 0) (stack_count u p) 0) (left_count u p) 0) (right_count u p) 0

unfoldable pub start_party_m : ℕ → ℕ → ℕ → ℕ → List ℕ → List ℕ
start_party_m u p d v s = put_word (put_word (put_word s (colour_place u p v) 2) (row_count u p v) 0) (row_start u p v) (row_place u p d v)

-- the parties below n
unfoldable pub start_parties_m : ℕ → ℕ → ℕ → ℕ → List ℕ → List ℕ
start_parties_m u p d zero s = s
start_parties_m u p d (suc v) s = start_party_m u p d v (start_parties_m u p d v s)

unfoldable pub push_end_m : ℕ → ℕ → ℕ → ℕ → List ℕ → List ℕ
push_end_m u p v w s = append_m (row_count u p v) (word s (row_start u p v)) w s

-- the appointments below n, from the newest down
unfoldable pub fill_rows_m : ℕ → ℕ → List ℕ → ℕ → ℕ → ℕ → List ℕ → List ℕ
fill_rows_m u p list near far zero s = s
fill_rows_m u p list near far (suc i) s =
    fill_rows_m u p list near far i (push_end_m u p (word list (2 * i + near)) (word list (2 * i + far)) s)

unfoldable pub prepare_m : ℕ → ℕ → ℕ → List ℕ → List ℕ → List ℕ
prepare_m u p d list s =
    let n : ℕ = length list / 2 in
    fill_rows_m u p list 1 0 n (fill_rows_m u p list 0 1 n (start_parties_m u p d p (clear_state_m u p s)))

-- ── the search ──

-- what color_party does before it chooses the side
abbrev pub stacked : ℕ → ℕ → ℕ → ℕ → List ℕ → List ℕ
stacked u p w color s = append_m (stack_count u p) (stack_place u p) w (put_word s (colour_place u p w) color)

unfoldable pub color_party_m : ℕ → ℕ → ℕ → ℕ → List ℕ → List ℕ
color_party_m u p w color s =
    let t : List ℕ = stacked u p w color s in
    pick (eqb color 0) (append_m (left_count u p) u w t) (append_m (right_count u p) (right_place u p) w t)

-- a neighbour that is to have the colour `other`; a colour that is neither this nor 2 refuses
unfoldable pub touch_m : ℕ → ℕ → ℕ → ℕ → List ℕ → List ℕ
touch_m u p other w s =
    let have : ℕ = word s (colour_place u p w) in
    pick (eqb have other) s
    (pick (eqb have 2)
    (pick (eqb (word s (refused_place u p)) 0) (color_party_m u p w other s) s)
    (put_word s (refused_place u p) 1))

unfoldable pub look_m : ℕ → ℕ → ℕ → ℕ → List ℕ → List ℕ
look_m u p other at s = touch_m u p other (word s at) s

-- the loop of `touch_all`: the first n words of the row that starts at row
unfoldable pub looks_m : ℕ → ℕ → ℕ → ℕ → ℕ → List ℕ → List ℕ
looks_m u p other row zero s = s
looks_m u p other row (suc t) s = look_m u p other (row + t) (looks_m u p other row t s)

unfoldable pub touch_all_m : ℕ → ℕ → ℕ → List ℕ → List ℕ
touch_all_m u p v s =
    looks_m u p (1 - word s (colour_place u p v) % 2) (word s (row_start u p v)) (word s (row_count u p v)) s

unfoldable pub take_off_m : ℕ → ℕ → ℕ → List ℕ → List ℕ
take_off_m u p h s = touch_all_m u p (word s (stack_place u p + (h - 1))) (put_word s (stack_count u p) (h - 1))

unfoldable pub next_party_m : ℕ → ℕ → List ℕ → List ℕ
next_party_m u p s =
    let v : ℕ = word s (next_place u p) in
    let t : List ℕ = put_word s (next_place u p) (v + 1) in
    pick (ltb v p) (pick (eqb (word s (colour_place u p v)) 2) (color_party_m u p v 1 t) t) s

unfoldable pub step_m : ℕ → ℕ → List ℕ → List ℕ
step_m u p s =
    let h : ℕ = word s (stack_count u p) in
    pick (eqb (word s (refused_place u p)) 0) (pick (eqb h 0) (next_party_m u p s) (take_off_m u p h s)) s

-- the loop of `all_steps`: n steps
unfoldable pub steps_m : ℕ → ℕ → ℕ → List ℕ → List ℕ
steps_m u p zero s = s
steps_m u p (suc n) s = step_m u p (steps_m u p n s)
