-- Left i with right i added for every i, one number after the other, over words. Assumes nothing.
use Prim.Native.Nat.{ℕ, ◌+◌, ◌*◌, ◌-◌, ◌≤◌, ◌<◌}
use mathlib.Core.Path.{◌≡◌, sym, ◌∙◌, ap}
use mathlib.Core.List.{List}
use native.Mathlib.Omega.{arith}
use native.Mathlib.Nat.{mul-le-mul_right}
use borrow.Author.Tests.{le-leb}
use lib.Dec.{leb}
use Rattle.words.specs.Basics.{pick}
use Rattle.words.specs.Words.{word}
use Rattle.words.specs.Frames.{Changes}
use Rattle.words.proofs.Ranges.{changes_trans, changes_wide}
use Rattle.multigraph.specs.Multigraph.{Graph, add_edge}
use Rattle.multigraph.specs.Stored.{graph_at}
use Rattle.multigraph.specs.Places.{size, Stored, Mapped, MapsPlaces, PlacesMapped, EdgeAdded, AddsEdge}
use Rattle.multigraph.proofs.Kept.{EndsKept, ends_kept, alike_kept, graph_kept}
use Rattle.perfect_matching.specs.Matching.{add_diagonal}
use Rattle.matching.specs.Searched.{column, lefts, rights, DiagonalFits, DiagonalAdded}
use Rattle.matching.specs.declared.Table.{Table}
use Rattle.matching.proofs.Columns.{column_cons, column_all, column_none}

-- what is still to be added from place i on
abbrev pub rest_of : Table → ℕ → ℕ → ℕ → List ℕ → Graph → Graph
rest_of t n β i s g =
    add_diagonal β g (column s (t.ends + 2 * t.pairs + 2 * i) (n - i)) (column s (t.ends + 2 * t.pairs + 1 + 2 * i) (n - i))

rest_cons :
    (t : Table) (n β i : ℕ) (s : List ℕ) (g : Graph) → i < n →
    rest_of t n β i s g
    ≡ rest_of t n β (i + 1) s
    (add_edge g (word s (t.ends + 2 * t.pairs + 2 * i)) (word s (t.ends + 2 * t.pairs + 1 + 2 * i)) β 1)
unfolding add_diagonal
rest_cons t n β i s g h =
    rw (column_cons s (t.ends + 2 * t.pairs) n i h, column_cons s (t.ends + 2 * t.pairs + 1) n i h)

rest_all : (t : Table) (n β : ℕ) (s : List ℕ) (g : Graph) → rest_of t n β 0 s g ≡ add_diagonal β g (lefts t n s) (rights t n s)
rest_all t n β s g = rw (column_all s (t.ends + 2 * t.pairs) n, column_all s (t.ends + 2 * t.pairs + 1) n)

rest_none : (t : Table) (n β : ℕ) (s : List ℕ) (g : Graph) → rest_of t n β n s g ≡ g
unfolding add_diagonal
rest_none t n β s g = rw (column_none s (t.ends + 2 * t.pairs + 2 * n) n)

-- ── one number after the other ──

-- i of n numbers are added
pub record Extending (most : ℕ) (t : Table) (h n β i : ℕ) (s u : List ℕ) : Type 0 where
  pub graph :
      rest_of t n β i s (graph_at u t.ends t.pairs h)
      ≡ add_diagonal β (graph_at s t.ends t.pairs h) (lefts t n s) (rights t n s)
  pub stored : Stored (t.pairs + n) (most + i * β) (n - i) u h
  pub mapped : Mapped (λ j. word s (t.diag + j)) n t.ends t.places h u
  pub grown : size u h ≤ size s h + i
  pub changes : Changes t.places (t.pairs + n) h (2 + 2 * (size s h + n)) s u

module _ (most : ℕ) (t : Table) (h n β : ℕ) (s : List ℕ) (f : DiagonalFits most t h n β s) where
  pub extending_none :
      (u : List ℕ) → MapsPlaces t.places h t.diag n s u → Extending most t h n β 0 s u
  extending_none u maps =
      record {
        graph =
            rest_all t n β s (graph_at u t.ends t.pairs h)
            ∙ ap (λ (g : Graph). add_diagonal β g (lefts t n s) (rights t n s))
            (graph_kept (ends_kept t.ends (t.pairs + n) f.mappable.laid.after_ends ch) t.pairs h size_u
            (λ i a. own (h + 2 + 2 * i) (omega arith)) (λ i a. own (h + 3 + 2 * i) (omega arith)) f.mappable.stored.numbers);
        stored =
            record {
              header = own h (omega arith) ∙ f.mappable.stored.header;
              numbers = λ i a. rw (own (h + 2 + 2 * i) (omega arith)) (f.mappable.stored.numbers i (omega (arith, size_u)));
              copies =
                  λ i a. rw (own (h + 3 + 2 * i) (omega arith)) (omega (arith, f.mappable.stored.copies i (omega (arith, size_u))));
              inside = omega (arith, size_u, ch.len, f.mappable.stored.inside);
              small = omega (arith, size_u, f.mappable.stored.small);
              light = omega (arith, f.mappable.stored.light);
            };
        mapped = done.mapped;
        grown = omega (arith, size_u);
        changes = changes_wide (2 + 2 * (size s h + n)) (omega arith) ch;
      }
    where
      done : PlacesMapped t.ends (t.pairs + n) t.places h t.diag n s u
      done = maps t.ends (t.pairs + n) most n f.mappable

      ch : Changes t.places (t.pairs + n) h 0 s u
      ch = done.changes

      own : (i : ℕ) → h ≤ i → word u i ≡ word s i
      own i a = ch.over i (omega arith)

      size_u : size u h ≡ size s h
      size_u = own (h + 1) (omega arith)

  pub extending_more :
      (i : ℕ) (u v : List ℕ) → i < n → Extending most t h n β i s u →
      AddsEdge t.places h (word u (t.diag + i)) (t.pairs + i) β u v → Extending most t h n β (i + 1) s v
  extending_more i u v below x adds =
      record {
        graph =
            ap (rest_of t n β (i + 1) s) (done.graph ∙ rw (first, second, flag))
            ∙ sym (rest_cons t n β i s (graph_at u t.ends t.pairs h) below)
            ∙ x.graph;
        stored = rw more at done.stored;
        mapped = done.mapped;
        grown = omega (arith, done.grown, x.grown);
        changes =
            changes_trans x.changes (changes_wide (2 + 2 * (size s h + n)) (omega (arith, x.grown)) done.changes);
      }
    where
      key : word u (t.diag + i) ≡ word s (t.diag + i)
      key = x.changes.under (t.diag + i) (omega (arith, f.low))

      kept : EndsKept t.ends (t.pairs + n) s u
      kept = ends_kept t.ends (t.pairs + n) f.mappable.laid.after_ends x.changes

      room : n - (i + 1) + 1 ≡ n - i
      room = omega arith

      more : most + i * β + β ≡ most + (i + 1) * β
      more = omega arith

      done :
          EdgeAdded t.ends t.pairs (t.pairs + n) (most + i * β) (n - (i + 1)) (λ j. word s (t.diag + j)) n t.places h
          (t.pairs + i) β u v
      done =
          adds t.ends t.pairs (t.pairs + n) (most + i * β) (n - (i + 1)) (λ j. word s (t.diag + j)) n
          (record {
            laid = f.mappable.laid;
            stored = rw room x.stored;
            mapped = x.mapped;
            below = f.mappable.below;
            asked = (i, below, sym key);
            number_below = omega arith;
            same =
                rw key
                (alike_kept kept (word s (t.diag + i)) (t.pairs + i) (f.mappable.below i below) (omega arith) (f.same i below));
            fits = omega (arith, f.fits, mul-le-mul_right β below);
          })

      first : word u (t.ends + 2 * (t.pairs + i)) ≡ word s (t.ends + 2 * t.pairs + 2 * i)
      first = kept.firsts (t.pairs + i) (omega arith) ∙ ap (word s) (omega arith)

      second : word u (t.ends + 2 * (t.pairs + i) + 1) ≡ word s (t.ends + 2 * t.pairs + 1 + 2 * i)
      second = kept.seconds (t.pairs + i) (omega arith) ∙ ap (word s) (omega arith)

      flag : ◌≡◌ {A = ℕ} (pick (leb t.pairs (t.pairs + i)) 1 0) 1
      flag = rw (le-leb t.pairs (t.pairs + i) (omega arith))

  pub extending_done :
      (i : ℕ) (u : List ℕ) → i ≡ n → Extending most t h n β i s u → DiagonalAdded most t h n β s u
  extending_done i u e x =
      let z : n - i ≡ 0 = omega arith in
      record {
        graph = sym (rest_none t n β s (graph_at u t.ends t.pairs h)) ∙ rw e at x.graph;
        stored = rw (z, e) at x.stored;
        changes = x.changes;
      }
