-- Numbers noted in words one after the other, the j-th at the place `at j`. Assumes nothing.
use Prim.Native.Nat.{ℕ, ◌<◌}
use mathlib.Core.Path.{◌≡◌, ◌∙◌}
use mathlib.Core.List.{List, [], ◌∷◌}
use native.Mathlib.Omega.{arith}
use lib.ListN.{length}
use Rattle.words.specs.Words.{word}

-- the notes are xs, the last first
abbrev pub Noted : (ℕ → ℕ) → List ℕ → List ℕ → Type 0
Noted at s [] = Unit {0}
Noted at s (x ∷ xs) = (word s (at (length xs)) ≡ x) × Noted at s xs

-- words that read the same
pub noted_same :
    (at : ℕ → ℕ) (s t xs : List ℕ) → ((j : ℕ) → j < length xs → word t (at j) ≡ word s (at j)) → Noted at s xs → Noted at t xs
noted_same at s t [] f h = tt
noted_same at s t (x ∷ xs) f h =
    (f (length xs) (omega arith) ∙ h.0, noted_same at s t xs (λ j b. f j (omega arith)) h.1)
