-- A list given place by place, `span f i k` = f i, f (i + 1), .. (k of them). Graphs and matchings in words are such lists; what
-- `add_edge`, `remove_edge` and their folds make of them. Assumes nothing.
use Prim.Native.Nat.{ℕ, zero, suc, ◌+◌, ◌≤◌, ◌<◌}
use mathlib.Core.Path.{◌≡◌, refl, ◌∙◌, ap}
use mathlib.Core.Bool.{Bool, true, false}
use mathlib.Core.List.{List, [], ◌∷◌, ◌++◌}
use native.Mathlib.Omega.{arith}
use native.Mathlib.Numerals.{add-one}
use native.Mathlib.Nat.{add-zero, zero-add}
use native.Mathlib.Decide.{ℕ_discrete}
use lib.ListN.{length}
use Rattle.words.specs.Basics.{All, total, sum_below}
use Rattle.words.specs.Words.{word}
use Rattle.words.proofs.Sums.{total_append}
use Rattle.multigraph.specs.Multigraph.{Pair, pair, Graph, with_copies, joins, add_edge, add_matching, remove_matching, remove_edge}
use Rattle.multigraph.specs.Regular.{SameEnds, between, pairs_between, Apart}
use Rattle.multigraph.specs.Stored.{numbered, entry, entries, graph_at, matching_at}
use Rattle.multigraph.specs.Places.{size}
use Rattle.multigraph.specs.Steps.{span}
use Rattle.multigraph.proofs.Ends.{joins_true, between_same}
use Rattle.multigraph.proofs.Weights.{pairs_between_cons}

-- ── what lies in words, as a span ──

pub entries_span :
    (s : List ℕ) (ends pairs g i k : ℕ) → entries s ends pairs g i k ≡ span (entry s ends pairs g) i k
unfolding entries span
entries_span s ends pairs g i zero = refl
entries_span s ends pairs g i (suc k) = ap (λ l. entry s ends pairs g i ∷ l) (entries_span s ends pairs g (i + 1) k)

pub graph_span :
    (s : List ℕ) (ends pairs g : ℕ) → graph_at s ends pairs g ≡ span (entry s ends pairs g) 0 (size s g)
unfolding graph_at
graph_span s ends pairs g = entries_span s ends pairs g 0 (size s g)

-- pair i of the matching at m
abbrev pub matched : List ℕ → ℕ → ℕ → ℕ → ℕ → Pair
matched s ends pairs m i = numbered s ends pairs (word s (m + i)) 1

matching_from :
    (s : List ℕ) (ends pairs m i k : ℕ) → matching_at s ends pairs (m + i) k ≡ span (matched s ends pairs m) i k
unfolding matching_at span
matching_from s ends pairs m i zero = refl
matching_from s ends pairs m i (suc k) =
    let e : m + i + 1 ≡ m + (i + 1) = omega arith in
    ap (λ l. matched s ends pairs m i ∷ l) (rw e (matching_from s ends pairs m (i + 1) k))

pub matching_span :
    (s : List ℕ) (ends pairs m k : ℕ) → matching_at s ends pairs m k ≡ span (matched s ends pairs m) 0 k
matching_span s ends pairs m k = rw add-zero at (matching_from s ends pairs m 0 k)

-- ── spans ──

pub span_length : (f : ℕ → Pair) (i k : ℕ) → length (span f i k) ≡ k
unfolding span
span_length f i zero = refl
span_length f i (suc k) = ap suc (span_length f (i + 1) k)

-- a graph has as many pairs as entries
pub length_graph : (s : List ℕ) (ends pairs g : ℕ) → length (graph_at s ends pairs g) ≡ size s g
length_graph s ends pairs g = ap length (graph_span s ends pairs g) ∙ span_length (entry s ends pairs g) 0 (size s g)

pub span_same :
    (f h : ℕ → Pair) (i k : ℕ) → ((j : ℕ) → i ≤ j → j < i + k → h j ≡ f j) → span h i k ≡ span f i k
unfolding span
span_same f h i zero e = refl
span_same f h i (suc k) e =
    let first : h i ≡ f i = e i (omega arith) (omega arith) in
    rw (first, span_same f h (i + 1) k (λ j a b. e j (omega arith) (omega arith)))

pub span_append : (f : ℕ → Pair) (i k l : ℕ) → span f i (k + l) ≡ span f i k ++ span f (i + k) l
unfolding span
span_append f i zero l = rw (zero-add, add-zero)
span_append f i (suc k) l =
    let e : i + 1 + k ≡ i + suc k = omega arith in
    let ih = span_append f (i + 1) k l in
    let n : suc k + l ≡ suc (k + l) = omega arith in
    rw n (ap (λ x. f i ∷ x) (rw e at ih))

pub span_snoc : (f : ℕ → Pair) (k : ℕ) → span f 0 (k + 1) ≡ span f 0 k ++ f k ∷ []
unfolding span
span_snoc f k = rw zero-add at (span_append f 0 k 1)

pub total_span : (f : Pair → ℕ) (h : ℕ → Pair) (k : ℕ) → total f (span h 0 k) ≡ sum_below (λ i. f (h i)) k
unfolding total span sum_below
total_span f h zero = refl
total_span f h (suc k) =
    let snoc : span h 0 (suc k) ≡ span h 0 k ++ h k ∷ [] = rw add-one at (span_snoc h k) in
    omega (arith, ap (total f) snoc, total_append f (span h 0 k) (h k ∷ []), total_span f h k)

pub all_span :
    (P : Pair → Type 0) (f : ℕ → Pair) (i k : ℕ) → All P (span f i k) → (j : ℕ) → i ≤ j → j < i + k → P (f j)
unfolding span
all_span P f i zero h j a b = absurd (omega arith)
all_span P f i (suc k) h j a b =
    elim (ℕ_discrete i j) [
      | yes e ↦ rw e at h.0
      | no n ↦ all_span P f (i + 1) k h.1 j (omega arith) (omega arith)
    ]

-- where no pair joins two parties, no place does
pub none_between :
    (u v : ℕ) (f : ℕ → Pair) (i k : ℕ) → pairs_between u v (span f i k) ≡ 0 →
    (j : ℕ) → i ≤ j → j < i + k → SameEnds u v (f j).first (f j).second → ⊥
unfolding span
none_between u v f i zero h j a b same = omega arith
none_between u v f i (suc k) h j a b same =
    elim (ℕ_discrete i j) [
      | yes e ↦
          let one : between u v (f i).first (f i).second ≡ 1 =
          rw e (between_same u v (f j).first (f j).second same) in
          omega (arith, pairs_between_cons u v (f i) (span f (i + 1) k))
      | no n ↦
          none_between u v f (i + 1) k (omega (arith, pairs_between_cons u v (f i) (span f (i + 1) k))) j (omega arith)
          (omega arith) same
    ]

-- pairs apart: no two places have the same ends
pub apart_span :
    (f : ℕ → Pair) (i k : ℕ) → Apart (span f i k) → (j l : ℕ) → i ≤ j → j < l → l < i + k →
    SameEnds (f j).first (f j).second (f l).first (f l).second → ⊥
unfolding span
apart_span f i zero h j l a b c same = omega arith
apart_span f i (suc k) h j l a b c same =
    elim (ℕ_discrete i j) [
      | yes e ↦
          let own : SameEnds (f i).first (f i).second (f l).first (f l).second = rw e same in
          none_between (f i).first (f i).second f (i + 1) k h.0 l (omega arith) (omega arith) own
      | no n ↦ apart_span f (i + 1) k h.1 j l (omega arith) b (omega arith) same
    ]

-- ── adding ──

pub not_joins : (a b : ℕ) (p : Pair) → (SameEnds a b p.first p.second → ⊥) → joins a b p ≡ false
not_joins a b p h = go (joins a b p) refl
  where
    go : (t : Bool) → joins a b p ≡ t → t ≡ false
    go true e = absurd (h (joins_true a b p e))
    go false e = refl

-- no place has the ends: a new pair comes last
pub add_last :
    (a b m x : ℕ) (f : ℕ → Pair) (i k : ℕ) → ((j : ℕ) → i ≤ j → j < i + k → joins a b (f j) ≡ false) →
    add_edge (span f i k) a b m x ≡ span f i k ++ pair a b m x ∷ []
unfolding add_edge span
add_last a b m x f i zero h = refl
add_last a b m x f i (suc k) h =
    rw (h i (omega arith) (omega arith))
    (ap (λ l. f i ∷ l) (add_last a b m x f (i + 1) k (λ j u v. h j (omega arith) (omega arith))))

-- place p is the first with the ends: its copies grow
pub add_there :
    (a b m x p : ℕ) (f h : ℕ → Pair) (i k : ℕ) → i ≤ p → p < i + k → joins a b (f p) ≡ true →
    ((j : ℕ) → i ≤ j → j < p → joins a b (f j) ≡ false) → h p ≡ with_copies ((f p).copies + m) (f p) →
    ((j : ℕ) → i ≤ j → j < i + k → (j ≡ p → ⊥) → h j ≡ f j) →
    add_edge (span f i k) a b m x ≡ span h i k
unfolding add_edge span
add_there a b m x p f h i zero u v there before new old = absurd (omega arith)
add_there a b m x p f h i (suc k) u v there before new old =
    elim (ℕ_discrete i p) [
      | yes e ↦
          let same : joins a b (f i) ≡ true = rw e there in
          let now : h i ≡ with_copies ((f i).copies + m) (f i) = rw e new in
          let rest : span h (i + 1) k ≡ span f (i + 1) k =
          span_same f h (i + 1) k (λ j y z. old j (omega arith) (omega arith) (λ q. omega arith)) in
          rw (same, now, rest)
      | no n ↦
          let other : joins a b (f i) ≡ false = before i (omega arith) (omega arith) in
          let keep : h i ≡ f i = old i (omega arith) (omega arith) n in
          rw (other, keep)
          (ap (λ l. f i ∷ l)
          (add_there a b m x p f h (i + 1) k (omega arith) (omega arith) there (λ j y z. before j (omega arith) z) new
          (λ j y z q. old j (omega arith) (omega arith) q)))
    ]

-- ── folds over a matching in two parts ──

pub add_matching_append :
    (g : Graph) (m k : List Pair) → add_matching g (m ++ k) ≡ add_matching (add_matching g m) k
unfolding add_matching
add_matching_append g [] k = refl
add_matching_append g (p ∷ m) k = add_matching_append (add_edge g p.first p.second 1 0) m k

pub remove_matching_append :
    (g : Graph) (m k : List Pair) → remove_matching g (m ++ k) ≡ remove_matching (remove_matching g m) k
unfolding remove_matching
remove_matching_append g [] k = refl
remove_matching_append g (p ∷ m) k = remove_matching_append (remove_edge g p.first p.second 1) m k
