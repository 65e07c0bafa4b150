-- Rows of the table of ends that are the same: the pairs there have the ends that they had. Assumes nothing.
use Prim.Native.Nat.{ℕ, ◌+◌, ◌*◌, ◌≤◌, ◌<◌}
use mathlib.Core.Path.{◌≡◌}
use mathlib.Core.List.{List}
use native.Mathlib.Omega.{arith}
use Rattle.words.specs.Words.{word}
use Rattle.multigraph.specs.Places.{Alike, DistinctEnds, HasEnds}

-- the first n rows of the table are the same
abbrev pub TableSame : ℕ → ℕ → List ℕ → List ℕ → Type 0
TableSame ends n s t = (i : ℕ) → ends ≤ i → i < ends + 2 * n → word t i ≡ word s i

module _ (ends n : ℕ) (s t : List ℕ) (same : TableSame ends n s t) where
  -- a pair's first end
  pub first_same : (e : ℕ) → e < n → word t (ends + 2 * e) ≡ word s (ends + 2 * e)
  first_same e a = same (ends + 2 * e) (omega arith) (omega arith)

  -- and its second end
  pub second_same : (e : ℕ) → e < n → word t (ends + 2 * e + 1) ≡ word s (ends + 2 * e + 1)
  second_same e a = same (ends + 2 * e + 1) (omega arith) (omega arith)

  -- a pair's ends, from the old table to the new one and back
  pub has_ends_new : (e l r : ℕ) → e < n → HasEnds s ends e l r → HasEnds t ends e l r
  has_ends_new e l r a x = rw (first_same e a, second_same e a) x

  -- and back
  pub has_ends_old : (e l r : ℕ) → e < n → HasEnds t ends e l r → HasEnds s ends e l r
  has_ends_old e l r a x = rw (first_same e a, second_same e a) at x

  alike_old : (e f : ℕ) → e < n → f < n → Alike t ends e f → Alike s ends e f
  alike_old e f a b x = rw (first_same e a, second_same e a, first_same f b, second_same f b) at x

  -- pairs with different ends still have different ends
  pub distinct_same : DistinctEnds ends n s → DistinctEnds ends n t
  distinct_same h = record { distinct = λ e f a b x. h.distinct e f a b (alike_old e f a b x) }
