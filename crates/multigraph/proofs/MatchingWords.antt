-- `add_matching` over words is `add_matching`, one number after the other. Assumes nothing.
use Prim.Native.Nat.{ℕ, ◌+◌, ◌*◌, ◌-◌, ◌≤◌, ◌<◌}
use mathlib.Core.Path.{◌≡◌, refl, sym, ◌∙◌}
use mathlib.Core.List.{List, [], ◌∷◌}
use mathlib.Core.Logic.{inl}
use native.Mathlib.Omega.{arith}
use native.Mathlib.Nat.{add_assoc}
use borrow.Author.Tests.{lt-leb}
use Rattle.words.specs.Words.{word}
use Rattle.words.specs.Frames.{Changes}
use Rattle.words.proofs.Ranges.{changes_trans, changes_wide}
use Rattle.multigraph.specs.Multigraph.{Pair, add_matching}
use Rattle.multigraph.specs.Stored.{numbered, graph_at, matching_at}
use Rattle.multigraph.specs.Places.{size, Laid, Stored, Mapped, Mappable, PlacesMapped, MapsPlaces, EdgeAdded, AddsEdge, MatchingFits, MatchingAdded}
use Rattle.multigraph.proofs.Spans.{add_matching_append}
use Rattle.multigraph.proofs.SideBySide.{matching_snoc}
use Rattle.multigraph.proofs.Numbers.{numbers_once}
use Rattle.multigraph.proofs.Kept.{EndsKept, ends_kept, graph_kept}

-- ── the numbers one after the other ──

-- i numbers of n are added
pub record Adding (ends pairs most places g m n i : ℕ) (s t : List ℕ) : Type 0 where
  pub graph : graph_at t ends pairs g ≡ add_matching (graph_at s ends pairs g) (matching_at s ends pairs m i)
  pub stored : Stored pairs (most + i) (n - i) t g
  pub mapped : Mapped (λ j. word s (m + j)) n ends places g t
  pub grown : size t g ≤ size s g + i
  pub changes : Changes places pairs g (2 + 2 * (size s g + n)) s t

module _ (ends pairs most places g m n : ℕ) (s : List ℕ) (h : MatchingFits ends pairs most places g m n s) where
  laid : Laid ends places pairs g
  laid = record { after_ends = h.after_ends; after_places = omega (arith, h.after_places, h.before_graph) }

  mappable : Mappable ends pairs most n places g m n s
  mappable =
      record {
        laid = laid;
        stored = h.stored;
        outside = λ i e a b x. omega (arith, h.after_places);
        below = h.below;
        unlike_keys = λ i j a b x. h.distinct.distinct _ _ (h.below i a) (h.below j b) x;
        unlike_numbers = λ i j a b x. h.distinct.distinct _ _ (h.below i a) (h.stored.numbers j b) x;
        once = numbers_once ends pairs g s h.apart;
      }

  pub adding_none : (t : List ℕ) → MapsPlaces places g m n s t → Adding ends pairs most places g m n 0 s t
  unfolding add_matching matching_at
  adding_none t maps =
      record {
        graph =
            graph_kept (ends_kept ends pairs h.after_ends ch) pairs g size_t (λ i a. own (g + 2 + 2 * i) (omega arith))
            (λ i a. own (g + 3 + 2 * i) (omega arith)) h.stored.numbers;
        stored =
            record {
              header = own g (omega arith) ∙ h.stored.header;
              numbers = λ i a. rw (own (g + 2 + 2 * i) (omega arith)) (h.stored.numbers i (omega (arith, size_t)));
              copies = λ i a. rw (own (g + 3 + 2 * i) (omega arith)) (omega (arith, h.stored.copies i (omega (arith, size_t))));
              inside = omega (arith, size_t, ch.len, h.stored.inside);
              small = omega (arith, size_t, h.stored.small);
              light = omega (arith, h.stored.light);
            };
        mapped = done.mapped;
        grown = omega (arith, size_t);
        changes = changes_wide (2 + 2 * (size s g + n)) (omega arith) ch;
      }
    where
      done : PlacesMapped ends pairs places g m n s t
      done = maps ends pairs most n mappable

      ch : Changes places pairs g 0 s t
      ch = done.changes

      own : (i : ℕ) → g ≤ i → word t i ≡ word s i
      own i a = ch.over i (omega arith)

      size_t : size t g ≡ size s g
      size_t = own (g + 1) (omega arith)

  pub adding_more :
      (i : ℕ) (t u : List ℕ) → i < n → Adding ends pairs most places g m n i s t →
      AddsEdge places g (word t (m + i)) (word t (m + i)) 1 t u → Adding ends pairs most places g m n (i + 1) s u
  unfolding add_matching
  adding_more i t u below a adds =
      record {
        graph =
            rw (matching_snoc s ends pairs m i, add_matching_append (graph_at s ends pairs g) (matching_at s ends pairs m i) (p ∷ []))
            (done.graph ∙ rw (a.graph, key, kept.firsts e e_below, kept.seconds e e_below, lt-leb pairs e e_below));
        stored = rw (add_assoc most i 1) at done.stored;
        mapped = done.mapped;
        grown = omega (arith, done.grown, a.grown);
        changes =
            changes_trans a.changes (changes_wide (2 + 2 * (size s g + n)) (omega (arith, a.grown)) done.changes);
      }
    where
      e : ℕ
      e = word s (m + i)

      e_below : e < pairs
      e_below = h.below i below

      p : Pair
      p = numbered s ends pairs e 1

      key : word t (m + i) ≡ e
      key = a.changes.between (m + i) (omega (arith, h.after_places)) (omega (arith, h.before_graph))

      kept : EndsKept ends pairs s t
      kept = ends_kept ends pairs h.after_ends a.changes

      room : n - (i + 1) + 1 ≡ n - i
      room = omega arith

      done : EdgeAdded ends pairs pairs (most + i) (n - (i + 1)) (λ j. word s (m + j)) n places g (word t (m + i)) 1 t u
      done =
          adds ends pairs pairs (most + i) (n - (i + 1)) (λ j. word s (m + j)) n
          (record {
            laid = laid;
            stored = rw room a.stored;
            mapped = a.mapped;
            below = h.below;
            asked = (i, below, sym key);
            number_below = rw key e_below;
            same = inl (refl, refl);
            fits = omega (arith, h.fits);
          })

  pub adding_done :
      (i : ℕ) (t : List ℕ) → i ≡ n → Adding ends pairs most places g m n i s t →
      MatchingAdded ends pairs most places g m n s t
  adding_done i t e a =
      let z : n - i ≡ 0 = omega arith in
      record {
        graph = rw e at a.graph;
        stored = rw (z, e) at a.stored;
        grown = rw e at a.grown;
        changes = a.changes;
      }
