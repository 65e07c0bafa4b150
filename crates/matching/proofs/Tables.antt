-- While the words below the map stay, the table stays, and so do the two sides that it holds. Assumes nothing.
use Prim.Native.Nat.{ℕ, ◌+◌, ◌*◌, ◌≤◌, ◌<◌}
use mathlib.Core.Path.{◌≡◌}
use mathlib.Core.List.{List}
use mathlib.Core.Logic.{inl, inr, ⊎_elim}
use native.Mathlib.Omega.{arith}
use Rattle.words.specs.Words.{word}
use Rattle.multigraph.proofs.Kept.{EndsKept, ends_below, alike_kept, alike_back}
use Rattle.matching.specs.Searched.{lefts, rights, Tabled}
use Rattle.matching.specs.declared.Table.{Table}
use Rattle.matching.proofs.Columns.{column_same}

-- the sides are the same where the words below the map are
pub record SidesKept (t : Table) (n : ℕ) (s u : List ℕ) : Type 0 where
  pub left : lefts t n u ≡ lefts t n s
  pub right : rights t n u ≡ rights t n s

pub sides_kept :
    (t : Table) (n : ℕ) (s u : List ℕ) → t.ends + 2 * (t.pairs + n) ≤ t.places →
    ((i : ℕ) → i < t.places → word u i ≡ word s i) → SidesKept t n s u
sides_kept t n s u h same =
    record {
      left = column_same s u t.places (t.ends + 2 * t.pairs) n (omega arith) same;
      right = column_same s u t.places (t.ends + 2 * t.pairs + 1) n (omega arith) same;
    }

module _ (t : Table) (n : ℕ) (s u : List ℕ) (table : Tabled t n s) (same : (i : ℕ) → i < t.places → word u i ≡ word s i) where
  pub rows_kept : EndsKept t.ends (t.pairs + n) s u
  rows_kept = ends_below t.ends (t.pairs + n) t.places table.after_ends same

  pub tabled_kept : Tabled t n u
  tabled_kept =
      record {
        distinct =
            record {
              distinct =
                  λ e f a b x.
                  table.distinct.distinct e f a b (alike_back rows_kept e f (omega arith) (omega arith) x);
            };
        diagonal =
            λ i a.
            let w : word u (t.diag + i) ≡ word s (t.diag + i) = same (t.diag + i) (omega (arith, table.after_diag)) in
            ⊎_elim
            (λ h.
            inl
            (rw w h.0, rw w (alike_kept rows_kept (word s (t.diag + i)) (t.pairs + i) (omega (arith, h.0)) (omega arith) h.1)))
            (λ h. inr (rw w h.0, λ e b x. h.1 e b (alike_back rows_kept e (t.pairs + i) (omega arith) (omega arith) x)))
            (table.diagonal i a);
        after_diag = table.after_diag;
        after_ends = table.after_ends;
      }
