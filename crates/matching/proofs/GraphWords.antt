-- The graph of a search over words: the copy with copies times α is `add_times`, and the diagonal comes on top. Assumes nothing.
use Prim.Native.Nat.{ℕ, zero, suc, ◌+◌, ◌*◌, ◌<◌}
use mathlib.Core.Path.{◌≡◌, refl, sym, ◌∙◌, ap}
use mathlib.Core.List.{List, []}
use mathlib.Core.Logic.{inl, ⊎_elim}
use native.Mathlib.Omega.{arith}
use native.Mathlib.Nat.{add-zero}
use borrow.Author.Tests.{lt-leb}
use Rattle.words.specs.Words.{word}
use Rattle.words.specs.Frames.{Changes}
use Rattle.words.proofs.Ranges.{changes_trans}
use Rattle.multigraph.specs.Multigraph.{Pair, pair, Graph, add_edge}
use Rattle.multigraph.specs.Regular.{Apart}
use Rattle.multigraph.specs.Stored.{entry, graph_at}
use Rattle.multigraph.specs.Places.{size, number, copies_of, Alike, Stored, Mappable}
use Rattle.multigraph.specs.Steps.{span}
use Rattle.multigraph.proofs.Spans.{graph_span, span_same, span_snoc, apart_span, not_joins, add_last}
use Rattle.multigraph.proofs.Numbers.{numbers_once}
use Rattle.multigraph.proofs.Kept.{EndsKept, alike_back, alike_kept, entry_is}
use Rattle.multigraph.proofs.Ends.{same_ends_sym, same_ends_trans}
use Rattle.perfect_matching.specs.Matching.{add_times}
use Rattle.matching.specs.Choosing.{CanCopy, Copied}
use Rattle.matching.specs.Searched.{Tabled, DiagonalFits, DiagonalAdded, CanBuild, GraphBuilt, AddsDiagonal}
use Rattle.matching.specs.declared.Table.{Table}
use Rattle.matching.proofs.Tables.{SidesKept, sides_kept, rows_kept}

-- ── copies times α, as a list given place by place ──

abbrev times : ℕ → Pair → Pair
times α p = pair p.first p.second (α * p.copies) 0

times_from :
    (α : ℕ) (f : ℕ → Pair) (i k : ℕ) → Apart (span f 0 (i + k)) →
    add_times α (span (λ j. times α (f j)) 0 i) (span f i k) ≡ span (λ j. times α (f j)) 0 (i + k)
unfolding add_times span
times_from α f i zero apart = rw add-zero
times_from α f i (suc k) apart =
    let e : i + 1 + k ≡ i + suc k = omega arith in
    let last : add_edge (span (λ j. times α (f j)) 0 i) (f i).first (f i).second (α * (f i).copies) 0 ≡ span (λ j. times α (f j)) 0 (i + 1) =
    add_last (f i).first (f i).second (α * (f i).copies) 0 (λ j. times α (f j)) 0 i
    (λ j a b.
    not_joins _ _ (times α (f j))
    (λ same. apart_span f 0 (i + suc k) apart j i (omega arith) (omega arith) (omega arith) (same_ends_sym same)))
    ∙ sym (span_snoc (λ j. times α (f j)) i) in
    ap (λ (h : Graph). add_times α h (span f (i + 1) k)) last ∙ rw e at (times_from α f (i + 1) k (rw e apart))

pub times_span :
    (α : ℕ) (f : ℕ → Pair) (k : ℕ) → Apart (span f 0 k) → add_times α [] (span f 0 k) ≡ span (λ j. times α (f j)) 0 k
unfolding span
times_span α f k apart =
    let e : 0 + k ≡ k = omega arith in
    rw e at (times_from α f 0 k (rw e apart))

-- ── the diagonal's numbers ──

module _ (t : Table) (n : ℕ) (s : List ℕ) (tb : Tabled t n s) where
  key_same : (i : ℕ) → i < n → Alike s t.ends (word s (t.diag + i)) (t.pairs + i)
  key_same i h = ⊎_elim (λ a. a.1) (λ b. rw b.0 (inl (refl, refl))) (tb.diagonal i h)

  key_below : (i : ℕ) → i < n → word s (t.diag + i) < t.pairs + n
  key_below i h = ⊎_elim (λ a. omega (arith, a.0)) (λ b. omega (arith, b.0)) (tb.diagonal i h)

  -- of the table's pairs only the key's own has its ends
  key_own :
      (i e : ℕ) → i < n → e < t.pairs → Alike s t.ends (word s (t.diag + i)) e → word s (t.diag + i) ≡ e
  key_own i e h k x =
      ⊎_elim (λ a. tb.distinct.distinct (word s (t.diag + i)) e a.0 k x)
      (λ b. absurd (b.1 e k (same_ends_trans (same_ends_sym x) (key_same i h)))) (tb.diagonal i h)

-- ── the whole ──

module _ (most : ℕ) (t : Table) (g h n α β : ℕ) (s : List ℕ) (can : CanBuild most t g h n α β s) where
  pub build_copy : CanCopy g h α s
  build_copy =
      record {
        apart = λ i j a b e. omega (arith, can.below);
        inside = omega (arith, can.inside);
        small = omega (arith, can.inside, can.short);
        numbers = λ i a. omega (arith, can.numbers i a, can.after_places, can.below, can.inside, can.short);
        copies = λ i a. omega (arith, can.copies i a, can.fits);
      }

  module _ (u : List ℕ) (c : Copied g h α s u) where
    low : (i : ℕ) → i < t.places → word u i ≡ word s i
    low i a = c.under i (omega (arith, can.after_places, can.below))

    kept : EndsKept t.ends (t.pairs + n) s u
    kept = rows_kept t n s u can.tabled low

    key : (i : ℕ) → i < n → word u (t.diag + i) ≡ word s (t.diag + i)
    key i a = low (t.diag + i) (omega (arith, can.tabled.after_diag))

    copied_graph : graph_at u t.ends t.pairs h ≡ add_times α [] (graph_at s t.ends t.pairs g)
    copied_graph =
        rw (graph_span u t.ends t.pairs h, graph_span s t.ends t.pairs g, c.sized)
        (span_same (λ j. times α (entry s t.ends t.pairs g j)) (entry u t.ends t.pairs h) 0 (size s g)
        (λ j a b. same j (omega arith))
        ∙ sym (times_span α (entry s t.ends t.pairs g) (size s g) (rw (graph_span s t.ends t.pairs g) at can.apart)))
      where
        same : (j : ℕ) → j < size s g → entry u t.ends t.pairs h j ≡ times α (entry s t.ends t.pairs g j)
        same j a =
            entry_is kept t.pairs h j (number s g j) (α * copies_of s g j) (c.numbers j a) (c.copies j a)
            (omega (arith, can.numbers j a))
            ∙ rw (lt-leb t.pairs (number s g j) (can.numbers j a))

    copied_stored : Stored (t.pairs + n) most n u h
    copied_stored =
        record {
          header = c.header;
          numbers = λ i a. rw (c.numbers i (omega (arith, c.sized))) (omega (arith, can.numbers i (omega (arith, c.sized))));
          copies = λ i a. rw (c.copies i (omega (arith, c.sized))) (can.copies i (omega (arith, c.sized)));
          inside = omega (arith, c.sized, c.len, can.inside);
          small = omega (arith, c.sized, can.inside, can.short);
          light = omega (arith, can.fits);
        }

    copied_mappable : Mappable t.ends (t.pairs + n) most n t.places h t.diag n u
    copied_mappable =
        record {
          laid = record { after_ends = can.tabled.after_ends; after_places = omega (arith, can.after_places, can.below) };
          stored = copied_stored;
          outside = λ i e a b x. omega (arith, can.tabled.after_diag);
          below = λ i a. rw (key i a) (key_below t n s can.tabled i a);
          unlike_keys = λ i j a b x. rw (key i a, key j b) (unlike i j a b (back_keys i j a b x));
          unlike_numbers =
              λ i j a b x. rw (key i a, c.numbers j (omega (arith, c.sized))) (unlike_number i j a (omega (arith, c.sized)) x);
          once =
              λ i j a b e.
              numbers_once t.ends t.pairs g s can.apart i j (omega (arith, c.sized)) (omega (arith, c.sized))
              (sym (c.numbers i (omega (arith, c.sized))) ∙ e ∙ c.numbers j (omega (arith, c.sized)));
        }
      where
        back_keys : (i j : ℕ) → i < n → j < n → Alike u t.ends (word u (t.diag + i)) (word u (t.diag + j)) →
            Alike s t.ends (word s (t.diag + i)) (word s (t.diag + j))
        back_keys i j a b x =
            alike_back kept (word s (t.diag + i)) (word s (t.diag + j)) (key_below t n s can.tabled i a)
            (key_below t n s can.tabled j b) (rw (key i a, key j b) at x)

        unlike : (i j : ℕ) → i < n → j < n → Alike s t.ends (word s (t.diag + i)) (word s (t.diag + j)) →
            word s (t.diag + i) ≡ word s (t.diag + j)
        unlike i j a b x =
            ap (λ k. word s (t.diag + k))
            (can.lone i j a b
            (same_ends_trans (same_ends_sym (key_same t n s can.tabled i a)) (same_ends_trans x (key_same t n s can.tabled j b))))

        unlike_number : (i j : ℕ) → i < n → j < size s g → Alike u t.ends (word u (t.diag + i)) (number u h j) →
            word s (t.diag + i) ≡ number s g j
        unlike_number i j a b x =
            key_own t n s can.tabled i (number s g j) a (can.numbers j b)
            (alike_back kept (word s (t.diag + i)) (number s g j) (key_below t n s can.tabled i a)
            (omega (arith, can.numbers j b)) (rw (key i a, c.numbers j b) at x))

    pub build_diagonal : DiagonalFits most t h n β u
    build_diagonal =
        record {
          mappable = copied_mappable;
          same =
              λ i a.
              rw (key i a)
              (alike_kept kept (word s (t.diag + i)) (t.pairs + i) (key_below t n s can.tabled i a) (omega arith)
              (key_same t n s can.tabled i a));
          low = can.tabled.after_diag;
          fits = can.fits;
        }

    copied_changes : Changes t.places (t.pairs + n) h (2 + 2 * (size s g + n)) s u
    copied_changes =
        record {
          len = c.len;
          under = λ i a. low i a;
          between = λ i a b. c.under i b;
          over = λ i a. c.over i (omega arith);
        }

    -- The graph is built.
    pub graph_built : (v : List ℕ) → DiagonalAdded most t h n β u v → GraphBuilt t g h n α β s v
    graph_built v d =
        let sides : SidesKept t n s u = sides_kept t n s u can.tabled.after_ends low in
        record {
          graph = d.graph ∙ rw (sides.left, sides.right, copied_graph);
          numbers = λ i a. d.stored.numbers i a;
          changes = changes_trans copied_changes (rw c.sized at d.changes);
        }

-- both steps one after the other
pub builds_graph :
    (t : Table) (g h n α β : ℕ) (s u v : List ℕ) → (CanCopy g h α s → Copied g h α s u) → AddsDiagonal t h n β u v →
    (most : ℕ) → CanBuild most t g h n α β s → GraphBuilt t g h n α β s v
builds_graph t g h n α β s u v copies adds most can =
    let c : Copied g h α s u = copies (build_copy most t g h n α β s can) in
    graph_built most t g h n α β s can u c v (adds most (build_diagonal most t g h n α β s can u c))
