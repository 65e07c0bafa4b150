-- The diagonal over words: its places can begin, and in the end each has the number of the pair with its parties as ends, or of its
-- own row. Assumes nothing.
use Prim.Native.Nat.{ℕ, ◌+◌, ◌*◌, ◌<◌}
use mathlib.Core.Path.{◌≡◌, refl, ◌∙◌, ap}
use mathlib.Core.List.{List}
use mathlib.Core.Logic.{inl, inr, ⊎_elim}
use native.Mathlib.Omega.{arith}
use Rattle.words.specs.Words.{word}
use Rattle.multigraph.specs.Places.{size}
use Rattle.diagonal.specs.Contract.{CanDiagonal, DiagonalSet}
use Rattle.diagonal.specs.DiagonalPlaces.{DiagFit, Begun, Looked}
use Rattle.words.proofs.Regions.{region_all, region_once}
use Rattle.diagonal.proofs.BeginLaws.{left_same, right_same}
use Rattle.multigraph.proofs.TableLaws.{TableSame}
use Rattle.diagonal.proofs.LookLaws.{at_place_old, at_place_new}
use Rattle.list_pairs.specs.declared.Bases.{Bases}

module _ (n : ℕ) (at : Bases) (diag u : ℕ) (s : List ℕ)
    (h : CanDiagonal n at diag u s) where
  left_of : (i : ℕ) → i < n → (word s (at.left + i) < n + n) × (h.side (word s (at.left + i)) ≡ 0)
  left_of = region_all (λ v. (v < n + n) × (h.side v ≡ 0)) s at.left n h.partition.left_side

  right_of : (i : ℕ) → i < n → (word s (at.right + i) < n + n) × (h.side (word s (at.right + i)) ≡ 1)
  right_of = region_all (λ v. (v < n + n) × (h.side v ≡ 1)) s at.right n h.partition.right_side

  -- what is known of a partition is what the places ask for
  pub diag_fit : DiagFit n at diag u (size s at.g) s
  diag_fit =
      record {
        left_once =
            λ i j a b e.
            region_once (word s (at.left + j)) s at.left n
            (omega (arith, h.partition.once (word s (at.left + j)) (left_of j b).0)) i j a b e refl;
        right_once =
            λ i j a b e.
            region_once (word s (at.right + j)) s at.right n
            (omega (arith, h.partition.once (word s (at.right + j)) (right_of j b).0)) i j a b e refl;
        apart = λ i j a b e. omega (arith, (left_of i a).1, (right_of j b).1, ap h.side e);
        left_below = λ i a. (left_of i a).0;
        right_below = λ i a. (right_of i a).0;
        lies =
            record {
              after_left = h.after_left;
              after_right = h.after_right;
              after_diag = h.after_diag;
              after_ends = h.after_ends;
              room = h.room;
              low = h.low;
            };
      }

module _ (n : ℕ) (at : Bases) (diag u : ℕ) (s : List ℕ)
    (h : CanDiagonal n at diag u s) where
  -- all places begun and all pairs looked at: the diagonal is set
  pub diagonal_set :
      (t v : List ℕ) → Begun n at diag u (size s at.g) n s t → Looked n at diag (size s at.g) (size s at.g) t v →
      DiagonalSet n at diag u s u v
  diagonal_set t v x y =
      record {
        firsts = λ i a. y.over (at.ends + 2 * (size s at.g + i)) (omega (arith, h.after_diag)) ∙ x.firsts i a;
        seconds = λ i a. y.over (at.ends + 2 * (size s at.g + i) + 1) (omega (arith, h.after_diag)) ∙ x.seconds i a;
        numbers =
            λ i a.
            ⊎_elim
            (λ z. inl (z.0, at_place_old n (size s at.g) at s t table lefts rights (word v (diag + i)) i z.0 a z.1))
            (λ z. inr (z.0, λ e k q. z.1 e k (at_place_new n (size s at.g) at s t table lefts rights e i k a q)))
            (y.numbers i a);
        mark = refl;
        changes =
            record {
              len = y.len ∙ (x.changes 0).len;
              under = λ i a c. y.under i c ∙ (x.changes u).under i a c;
              after_first = λ i a c e. y.over i c ∙ (x.changes u).after_first i a c e;
              after_second = λ i a c e. y.over i (omega (arith, h.after_diag)) ∙ (x.changes u).after_second i a c e;
              after_third = λ i a c. absurd (omega arith);
            };
      }
    where
      fit : DiagFit n at diag u (size s at.g) s
      fit = diag_fit n at diag u s h

      lefts : (i : ℕ) → i < n → word t (at.left + i) ≡ word s (at.left + i)
      lefts = left_same n at diag u (size s at.g) s fit n t x

      rights : (i : ℕ) → i < n → word t (at.right + i) ≡ word s (at.right + i)
      rights = right_same n at diag u (size s at.g) s fit n t x

      table : TableSame at.ends (size s at.g) s t
      table i a b = (x.changes (i + 1)).after_first i (omega arith) (omega (arith, h.after_diag)) (omega arith)
