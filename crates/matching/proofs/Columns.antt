-- The words of a column: its length, its members, what is left from place i on, and that it stays while its words do. Assumes
-- nothing.
use Prim.Native.Nat.{ℕ, zero, suc, ◌+◌, ◌*◌, ◌-◌, ◌≤◌, ◌<◌}
use mathlib.Core.Path.{◌≡◌, refl, ◌∙◌, ap}
use mathlib.Core.List.{List, [], ◌∷◌}
use native.Mathlib.Omega.{arith}
use lib.ListN.{length, get_or}
use Rattle.words.specs.Basics.{count, All}
use Rattle.words.specs.Words.{word}
use Rattle.words.proofs.Sums.{all_at, count_once}
use Rattle.matching.specs.Searched.{column}

pub length_column : (s : List ℕ) (at n : ℕ) → length (column s at n) ≡ n
unfolding column
length_column s at zero = refl
length_column s at (suc n) = ap suc (length_column s (at + 2) n)

-- its members are the words themselves
column_nth : (s : List ℕ) (at n i : ℕ) → i < n → get_or (column s at n) i 0 ≡ word s (at + 2 * i)
unfolding column
column_nth s at zero i h = absurd (omega arith)
column_nth s at (suc n) zero h = ap (word s) (omega arith)
column_nth s at (suc n) (suc i) h = column_nth s (at + 2) n i (omega arith) ∙ ap (word s) (omega arith)

pub column_at :
    (P : ℕ → Type 0) (s : List ℕ) (at n : ℕ) → All P (column s at n) → (i : ℕ) → i < n → P (word s (at + 2 * i))
column_at P s at n h i a =
    rw (column_nth s at n i a) at (all_at P (column s at n) 0 h i (omega (arith, length_column s at n)))

-- what stands in it once stands at one place
pub column_once :
    (v : ℕ) (s : List ℕ) (at n : ℕ) → count v (column s at n) ≤ 1 → (i j : ℕ) → i < n → j < n → word s (at + 2 * i) ≡ v →
    word s (at + 2 * j) ≡ v → i ≡ j
column_once v s at n h i j a b e f =
    count_once v (column s at n) h i j (omega (arith, length_column s at n)) (omega (arith, length_column s at n))
    (column_nth s at n i a ∙ e) (column_nth s at n j b ∙ f)

-- ── from place i on ──

pub column_cons :
    (s : List ℕ) (at n i : ℕ) → i < n →
    column s (at + 2 * i) (n - i) ≡ word s (at + 2 * i) ∷ column s (at + 2 * (i + 1)) (n - (i + 1))
unfolding column
column_cons s at n i h =
    let e : n - i ≡ suc (n - (i + 1)) = omega arith in
    let a : at + 2 * i + 2 ≡ at + 2 * (i + 1) = omega arith in
    rw (e, a)

pub column_all : (s : List ℕ) (at n : ℕ) → column s (at + 2 * 0) (n - 0) ≡ column s at n
column_all s at n =
    let e : n - 0 ≡ n = omega arith in
    let a : at + 2 * 0 ≡ at = omega arith in
    rw (e, a)

pub column_none : (s : List ℕ) (at n : ℕ) → column s at (n - n) ≡ []
unfolding column
column_none s at n =
    let e : n - n ≡ 0 = omega arith in
    rw e

-- ── what stays ──

pub column_same :
    (s u : List ℕ) (bound at n : ℕ) → at + 2 * n ≤ bound + 1 → ((i : ℕ) → i < bound → word u i ≡ word s i) →
    column u at n ≡ column s at n
unfolding column
column_same s u bound at zero h same = refl
column_same s u bound at (suc n) h same = rw (same at (omega arith), column_same s u bound (at + 2) n (omega arith) same)
