-- Numbers for ends: where the rows of the table in use have different ends, what is said of a graph and a matching by ends holds
-- of their numbers. So callers that know both as lists of pairs meet what the routines over words ask. Assumes nothing.
use Prim.Native.Nat.{ℕ, zero, suc, ◌+◌, ◌*◌, ◌≤◌, ◌<◌}
use mathlib.Core.Path.{◌≡◌, refl, sym}
use mathlib.Core.List.{List}
use mathlib.Core.Logic.{inl, ⊎_elim}
use native.Mathlib.Omega.{arith}
use native.Mathlib.Decide.{ℕ_discrete, dec_lt}
use Rattle.words.specs.Words.{word}
use Rattle.multigraph.specs.Multigraph.{Pair}
use Rattle.multigraph.specs.Regular.{SameEnds, pairs_between, copies_between, Apart}
use Rattle.multigraph.specs.Stored.{entry, graph_at, matching_at}
use Rattle.multigraph.specs.Places.{size, number, DistinctEnds}
use Rattle.multigraph.specs.Steps.{span}
use Rattle.multigraph.proofs.Ends.{between_cases, between_self}
use Rattle.multigraph.proofs.Weights.{pairs_between_none, pairs_between_cons, no_pairs_no_copies}
use Rattle.multigraph.proofs.Spans.{graph_span, matching_span, matched, apart_span}

-- ── different numbers ──

places_once :
    (f : ℕ → Pair) (num : ℕ → ℕ) (k : ℕ) → Apart (span f 0 k) →
    ((i j : ℕ) → num i ≡ num j → SameEnds (f i).first (f i).second (f j).first (f j).second) →
    (i j : ℕ) → i < k → j < k → num i ≡ num j → i ≡ j
places_once f num k apart same i j a b e =
    elim (ℕ_discrete i j) [
      | yes x ↦ x
      | no x ↦
          elim (dec_lt i j) [
            | yes y ↦ absurd (apart_span f 0 k apart i j (omega arith) y (omega arith) (same i j e))
            | no y ↦ absurd (apart_span f 0 k apart j i (omega arith) (omega arith) (omega arith) (same j i (sym e)))
          ]
    ]

-- a graph's numbers are different
pub numbers_once :
    (ends pairs g : ℕ) (s : List ℕ) → Apart (graph_at s ends pairs g) →
    (i j : ℕ) → i < size s g → j < size s g → number s g i ≡ number s g j → i ≡ j
numbers_once ends pairs g s h =
    places_once (entry s ends pairs g) (λ i. number s g i) (size s g) (rw (graph_span s ends pairs g) at h)
    (λ i j e. rw e (inl (refl, refl)))

-- a matching's numbers are different
pub matching_once :
    (ends pairs m n : ℕ) (s : List ℕ) → Apart (matching_at s ends pairs m n) →
    (i j : ℕ) → i < n → j < n → word s (m + i) ≡ word s (m + j) → i ≡ j
matching_once ends pairs m n s h =
    places_once (matched s ends pairs m) (λ i. word s (m + i)) n (rw (matching_span s ends pairs m n) at h)
    (λ i j e. rw e (inl (refl, refl)))

-- ── numbers that are there ──

-- where a pair joins two parties, a place does
some_place :
    (u v : ℕ) (f : ℕ → Pair) (i k : ℕ) → 0 < pairs_between u v (span f i k) →
    (j : ℕ) × (i ≤ j) × (j < i + k) × SameEnds u v (f j).first (f j).second
unfolding span
some_place u v f i zero h = absurd (omega (arith, pairs_between_none u v))
some_place u v f i (suc k) h =
    ⊎_elim (λ x. (i, omega arith, omega arith, x.0))
    (λ x.
    let r = some_place u v f (i + 1) k (omega (arith, pairs_between_cons u v (f i) (span f (i + 1) k), x.1)) in
    (r.0, omega (arith, r.1), omega (arith, r.2), r.3))
    (between_cases u v (f i).first (f i).second)

-- a place's own pair joins its ends
own_place :
    (f : ℕ → Pair) (i k j : ℕ) → i ≤ j → j < i + k → 0 < pairs_between (f j).first (f j).second (span f i k)
unfolding span
own_place f i zero j a b = absurd (omega arith)
own_place f i (suc k) j a b =
    elim (ℕ_discrete i j) [
      | yes e ↦
          rw e
          (omega
          (arith, pairs_between_cons (f j).first (f j).second (f j) (span f (j + 1) k), between_self (f j).first (f j).second))
      | no e ↦
          omega (
            arith,
            pairs_between_cons (f j).first (f j).second (f i) (span f (i + 1) k),
            own_place f (i + 1) k j (omega arith) (omega arith),
          )
    ]

-- A matching whose copies are the graph's: each of its numbers is in the graph.
pub matching_present :
    (ends pairs g m n : ℕ) (s : List ℕ) → DistinctEnds ends pairs s →
    ((i : ℕ) → i < size s g → number s g i < pairs) → ((i : ℕ) → i < n → word s (m + i) < pairs) →
    ((u v : ℕ) → pairs_between u v (matching_at s ends pairs m n) ≤ copies_between u v (graph_at s ends pairs g)) →
    (i : ℕ) → i < n → (j : ℕ) × (j < size s g) × (number s g j ≡ word s (m + i))
matching_present ends pairs g m n s d numbers below holds i a =
    (found.0, omega (arith, found.2), sym (d.distinct _ _ (below i a) (numbers found.0 (omega (arith, found.2))) found.3))
  where
    u : ℕ
    u = word s (ends + 2 * word s (m + i))

    v : ℕ
    v = word s (ends + 2 * word s (m + i) + 1)

    own : 0 < pairs_between u v (matching_at s ends pairs m n)
    own = rw (matching_span s ends pairs m n) (own_place (matched s ends pairs m) 0 n i (omega arith) (omega arith))

    joined : 0 < pairs_between u v (graph_at s ends pairs g)
    joined =
        elim (ℕ_discrete (pairs_between u v (graph_at s ends pairs g)) 0) [
          | yes e ↦ absurd (omega (arith, own, holds u v, no_pairs_no_copies u v (graph_at s ends pairs g) e))
          | no e ↦ omega arith
        ]

    found : (j : ℕ) × (0 ≤ j) × (j < 0 + size s g) × SameEnds u v (entry s ends pairs g j).first (entry s ends pairs g j).second
    found = some_place u v (entry s ends pairs g) 0 (size s g) (rw (graph_span s ends pairs g) at joined)
