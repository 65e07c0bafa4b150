-- The flat list and its appointments: how code that goes through the one goes through the other. Assumes nothing.
use Prim.Native.Nat.{ℕ, zero, suc, ◌+◌, ◌*◌, ◌/◌, ◌%◌, ◌<◌, ◌≤◌}
use mathlib.Core.Path.{◌≡◌, refl, sym, ◌∙◌, ap}
use mathlib.Core.List.{List, [], ◌∷◌}
use native.Mathlib.Omega.{arith}
use native.Mathlib.Numerals.{add-one}
use native.Mathlib.Nat.{le_trans}
use native.Mathlib.Decide.{ℕ_discrete}
use lib.ListN.{length, get_or, take, drop, length-take}
use lib.Seq.{take-suc, drop-cons}
use Rattle.words.specs.Basics.{is, total, count}
use Rattle.words.specs.Words.{word, put_word}
use Rattle.words.proofs.Sums.{is_same, is_ne, count_append, count_le}
use Rattle.words.proofs.Frames.{here, away}
use Rattle.appointments.specs.Appointments.{Appt, appt, appts, names, load}

-- A is half the flat list's length, rounded down
pub appts_count : (list : List ℕ) → length (appts list) ≡ length list / 2
unfolding appts
appts_count [] = refl
appts_count (a ∷ []) = omega arith
appts_count (a ∷ b ∷ rest) = omega (arith, appts_count rest)

-- the numbers behind the first two
pub word_two : (a b : ℕ) (rest : List ℕ) (k j : ℕ) → j ≡ suc (suc k) → word (a ∷ b ∷ rest) j ≡ word rest k
word_two a b rest k j e = rw e

drop_one : (x : Appt) (xs : List Appt) (k j : ℕ) → j ≡ suc k → drop j (x ∷ xs) ≡ drop k xs
drop_one x xs k j e = rw e

-- the appointments from position i on begin with the numbers at 2·i and 2·i + 1
pub rest_cons :
    (list : List ℕ) (i : ℕ) → i < length list / 2 →
    drop i (appts list) ≡ appt (word list (2 * i)) (word list (2 * i + 1)) ∷ drop (i + 1) (appts list)
unfolding appts
rest_cons [] zero h = absurd (omega arith)
rest_cons [] (suc i) h = absurd (omega arith)
rest_cons (a ∷ []) zero h = absurd (omega arith)
rest_cons (a ∷ []) (suc i) h = absurd (omega arith)
rest_cons (a ∷ b ∷ rest) zero h = refl
rest_cons (a ∷ b ∷ rest) (suc i) h =
    cc (
      rest_cons rest i (omega arith),
      word_two a b rest (2 * i) (2 * suc i) (omega arith),
      word_two a b rest (2 * i + 1) (2 * suc i + 1) (omega arith),
      drop_one (appt a b) (appts rest) (i + 1) (suc i + 1) (omega arith),
    )

-- the appointment at a position
pub appt_at :
    (list : List ℕ) (i : ℕ) (d : Appt) → i < length list / 2 → get_or (appts list) i d ≡ appt (word list (2 * i)) (word list (2 * i + 1))
appt_at list i d h =
    let inside : i < length (appts list) = omega (arith, appts_count list) in
    cc (drop-cons (appts list) i d inside, rest_cons list i h)

-- past the last appointment there is none
pub rest_none : (xs : List Appt) (i : ℕ) → length xs ≤ i → drop i xs ≡ []
rest_none [] zero h = refl
rest_none [] (suc i) h = refl
rest_none (x ∷ xs) zero h = absurd (omega arith)
rest_none (x ∷ xs) (suc i) h = rest_none xs i (omega arith)

-- a party's load is how often its number stands in the flat list
pub load_count : (v : ℕ) (list : List ℕ) → length list % 2 ≡ 0 → load v (appts list) ≡ count v list
unfolding appts load total count names
load_count v [] h = refl
load_count v (a ∷ []) h = absurd (omega arith)
load_count v (a ∷ b ∷ rest) h = omega (arith, load_count v rest (omega arith))

-- counting one number further
pub count_more :
    (v : ℕ) (list : List ℕ) (i : ℕ) → i < length list → count v (take (i + 1) list) ≡ count v (take i list) + is v (word list i)
unfolding count
count_more v list i h =
    ap (λ n. count v (take n list)) (add-one i)
    ∙ ap (count v) (take-suc list i 0 h)
    ∙ count_append v (take i list) (word list i ∷ [])
    ∙ omega arith

-- counters below n that hold how often each number stands among the first i of the list
abbrev pub Counted : ℕ → List ℕ → List ℕ → ℕ → Type 0
Counted n loads list i = (v : ℕ) → v < n → word loads v ≡ count v (take i list)

-- one number further its counter is one higher
pub counted_more :
    (n : ℕ) (loads list : List ℕ) (i : ℕ) → length list ≤ 8192 → i < length list → length loads ≡ n →
    Counted n loads list i →
    Counted n (put_word loads (word list i) (word loads (word list i) + 1)) list (i + 1)
counted_more n loads list i few inside len counted v h =
    elim (ℕ_discrete v (word list i)) [
      | yes e ↦
          let old : word loads (word list i) ≡ count (word list i) (take i list) = counted (word list i) (omega arith) in
          let small : count (word list i) (take i list) ≤ i =
          le_trans (count_le (word list i) (take i list)) (omega (arith, length-take i list)) in
          rw (e, here loads (word list i) (word loads (word list i) + 1) (omega arith) (omega arith), count_more (word list i) list i inside)
          (omega (arith, is_same (word list i)))
      | no d ↦
          away loads (word list i) v (word loads (word list i) + 1) d ∙ counted v h
          ∙ sym (count_more v list i inside ∙ omega (arith, is_ne {u = v} {v = word list i} d))
    ]
