-- The columns of a walk, the stack and the places written, and the marks that go with the second. Assumes nothing.
use Prim.Native.Nat.{ℕ, zero, suc, ◌+◌, ◌*◌, ◌-◌, ◌%◌, ◌<◌}
use mathlib.Core.Path.{◌≡◌, refl, ap}
use mathlib.Core.Bool.{Bool, true, false}
use mathlib.Core.List.{List, [], ◌∷◌}
use native.Mathlib.Omega.{arith}
use native.Mathlib.Numerals.{add-one}
use borrow.Author.Tests.{eq-eqb, ne_eqb}
use lib.Dec.{eqb}
use lib.ListN.{length}
use Rattle.words.specs.Basics.{pick}
use Rattle.words.specs.Words.{word}
use Rattle.rings.specs.declared.Rings.{Rings}

-- the stack's word n, and the written place n
abbrev pub slot : Bool → Rings → ℕ → ℕ
slot true l n = l.col + 2 * n
slot false l n = l.col + 2 * n + 1

-- n words of a column, last first
unfoldable pub column : Rings → Bool → List ℕ → ℕ → List ℕ
column l c s zero = []
column l c s (suc n) = word s (slot c l n) ∷ column l c s n

-- a column whose words read the same
pub column_same :
    (l : Rings) (c : Bool) (s t : List ℕ) (n : ℕ) → ((j : ℕ) → j < n → word t (slot c l j) ≡ word s (slot c l j)) →
    column l c t n ≡ column l c s n
unfolding column
column_same l c s t zero h = refl
column_same l c s t (suc n) h = rw (h n (omega arith), column_same l c s t n (λ j b. h j (omega arith)))

-- one word more
pub column_more : (l : Rings) (c : Bool) (s : List ℕ) (n : ℕ) → column l c s (n + 1) ≡ word s (slot c l n) ∷ column l c s n
unfolding column
column_more l c s n = rw add-one

-- the last word, and those below it
pub column_first :
    (l : Rings) (c : Bool) (s : List ℕ) (n : ℕ) → 0 < n → column l c s n ≡ word s (slot c l (n - 1)) ∷ column l c s (n - 1)
unfolding column
column_first l c s zero h = absurd (omega arith)
column_first l c s (suc n) h = let e : suc n - 1 ≡ n = omega arith in rw e

pub column_length : (l : Rings) (c : Bool) (s : List ℕ) (n : ℕ) → length (column l c s n) ≡ n
unfolding column
column_length l c s zero = refl
column_length l c s (suc n) = ap suc (column_length l c s n)

-- the mark of entry i once the places ws, last first, are written
unfoldable pub mark_of : ℕ → List ℕ → ℕ
mark_of i [] = 0
mark_of i (x ∷ ws) = pick (eqb i x) (2 + length ws % 2) (mark_of i ws)

-- the entry written last has its parity
pub mark_same : (i x : ℕ) (ws : List ℕ) → i ≡ x → mark_of i (x ∷ ws) ≡ 2 + length ws % 2
unfolding mark_of
mark_same i x ws e = rw (eq-eqb i x e)

-- and any other the mark it had
pub mark_other : (i x : ℕ) (ws : List ℕ) → (i ≡ x → ⊥) → mark_of i (x ∷ ws) ≡ mark_of i ws
unfolding mark_of
mark_other i x ws n = rw (ne_eqb i x n)
