-- A buffer whose first entries are those of a new list: one entry more, three more, and filling it again; and rows of three in a list.
-- Assumes nothing.
use Prim.Native.Nat.{ℕ, suc, ◌+◌, ◌*◌, ◌-◌, ◌≤◌, ◌<◌}
use mathlib.Core.Path.{◌≡◌, sym, ◌∙◌, ap}
use mathlib.Core.List.{List, ◌∷◌, ◌++◌}
use native.Mathlib.Omega.{arith}
use native.Mathlib.Numerals.{add-one}
use lib.ListN.{length, get_or, take, drop, set, length-append, length-drop}
use lib.Seq.{length-take-le, take-suc, drop-cons, set_at, append_snoc, take_all, drop-append-add, drop-drop}
use Rattle.words.specs.Words.{filled}

module _ (new : List ℕ) where
  pub filled_length : (n : ℕ) (buffer : List ℕ) → n ≤ length new → n ≤ length buffer → length (filled new n buffer) ≡ length buffer
  filled_length n buffer h k =
      omega (arith, length-append (take n new) (drop n buffer), length-take-le n new h, length-drop n buffer)

  -- one entry more
  filled_suc : (n : ℕ) (buffer : List ℕ) → n < length new → n < length buffer → set (filled new n buffer) n (get_or new n 0) ≡ filled new (suc n) buffer
  filled_suc n buffer h k =
      rw (drop-cons buffer n 0 k)
      (set_at (take n new) (get_or buffer n 0) (drop (suc n) buffer) (get_or new n 0) n (length-take-le n new (omega arith))
      ∙ sym (append_snoc (take n new) (get_or new n 0) (drop (suc n) buffer))
      ∙ (rw (take-suc new n 0 h)))

  pub filled_more : (n v : ℕ) (buffer : List ℕ) → n < length new → n < length buffer → v ≡ get_or new n 0 → set (filled new n buffer) n v ≡ filled new (n + 1) buffer
  filled_more n v buffer h k e = rw (e, add-one n) (filled_suc n buffer h k)

  -- filling further, from the start again
  again : (m k : ℕ) (buffer : List ℕ) → m ≤ length new → filled new (m + k) (filled new m buffer) ≡ filled new (m + k) buffer
  again m k buffer h =
      let rest : drop (m + k) (filled new m buffer) ≡ drop (m + k) buffer =
      ap (λ (j : ℕ). drop (j + k) (filled new m buffer)) (sym (length-take-le m new h))
      ∙ drop-append-add (take m new) (drop m buffer) k
      ∙ drop-drop k m buffer in
      ap (λ (l : List ℕ). take (m + k) new ++ l) rest

  pub filled_again : (m n : ℕ) (buffer held : List ℕ) → m ≤ n → m ≤ length new → held ≡ filled new m buffer → filled new n held ≡ filled new n buffer
  filled_again m n buffer held h k e =
      let on : m + (n - m) ≡ n = omega arith in
      rw e (rw on at (again m (n - m) buffer k))

  -- filled to the end
  pub filled_all : (n : ℕ) (buffer : List ℕ) → length new ≡ n → filled new n buffer ≡ new ++ drop n buffer
  filled_all n buffer e = rw (take_all n new (omega arith))

-- ── rows of three ──

-- row i of a list of rows of three
pub record RowAt (ws : List ℕ) (i first second third : ℕ) : Type 0 where
  pub first_at : get_or ws (3 * i) 0 ≡ first
  pub second_at : get_or ws (3 * i + 1) 0 ≡ second
  pub third_at : get_or ws (3 * i + 2) 0 ≡ third

-- a row later
pub row_on : (a b c : ℕ) (ws : List ℕ) (i first second third : ℕ) → RowAt ws i first second third → RowAt (a ∷ b ∷ c ∷ ws) (suc i) first second third
row_on a b c ws i first second third r =
    let one : 3 * suc i ≡ suc (suc (suc (3 * i))) = omega arith in
    let two : 3 * suc i + 1 ≡ suc (suc (suc (3 * i + 1))) = omega arith in
    let three : 3 * suc i + 2 ≡ suc (suc (suc (3 * i + 2))) = omega arith in
    record { first_at = rw one r.first_at; second_at = rw two r.second_at; third_at = rw three r.third_at }

-- one row more
pub filled_row :
    (new : List ℕ) (i a b c : ℕ) (buffer : List ℕ) → RowAt new i a b c → 3 * i + 2 < length new → 3 * i + 2 < length buffer →
    set (set (set (filled new (3 * i) buffer) (3 * i) a) (3 * i + 1) b) (3 * i + 2) c ≡ filled new (3 * (i + 1)) buffer
filled_row new i a b c buffer r h k =
    let three : 3 * i + 1 + 1 ≡ 3 * i + 2 = omega arith in
    let all : 3 * i + 2 + 1 ≡ 3 * (i + 1) = omega arith in
    let first = filled_more new (3 * i) a buffer (omega arith) (omega arith) (sym r.first_at) in
    let second = filled_more new (3 * i + 1) b buffer (omega arith) (omega arith) (sym r.second_at) in
    let third = filled_more new (3 * i + 2) c buffer h k (sym r.third_at) in
    ap (λ (l : List ℕ). set (set l (3 * i + 1) b) (3 * i + 2) c) first
    ∙ ap (λ (l : List ℕ). set l (3 * i + 2) c) (second ∙ ap (λ (m : ℕ). filled new m buffer) three)
    ∙ third
    ∙ ap (λ (m : ℕ). filled new m buffer) all
