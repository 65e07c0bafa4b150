-- Removing a matching, pair after pair, is the same as taking from each place what it loses. Assumes nothing.
use Prim.Native.Nat.{ℕ, zero, suc, ◌+◌, ◌-◌, ◌≤◌, ◌<◌}
use mathlib.Core.Path.{◌≡◌, refl, sym, ◌∙◌, ap}
use mathlib.Core.Bool.{Bool, true, false}
use mathlib.Core.List.{[], ◌∷◌, ◌++◌, append_assoc, append-nil}
use native.Mathlib.Omega.{arith}
use native.Mathlib.Numerals.{add-one}
use native.Mathlib.Nat.{add-zero, zero-add}
use native.Mathlib.Decide.{ℕ_discrete}
use borrow.Author.Tests.{eq-eqb, ne_eqb, lt-ltb, le-ltb}
use lib.Dec.{eqb, ltb}
use Rattle.words.specs.Basics.{pick}
use Rattle.multigraph.specs.Multigraph.{Pair, Graph, with_copies, joins, remove_edge, remove_matching}
use Rattle.multigraph.specs.Steps.{span, left_of, without}
use Rattle.multigraph.proofs.Spans.{span_snoc, remove_matching_append}

-- ── what is left of one pair ──

pub left_some : (p : Pair) (less : ℕ) → 0 < p.copies - less → left_of p less ≡ with_copies (p.copies - less) p ∷ []
unfolding left_of
left_some p less h = rw (lt-ltb 0 (p.copies - less) h)

pub left_none : (p : Pair) (less : ℕ) → p.copies - less ≡ 0 → left_of p less ≡ []
unfolding left_of
left_none p less h = rw (le-ltb 0 (p.copies - less) (omega arith))

left_whole : (p : Pair) → 0 < p.copies → left_of p 0 ≡ p ∷ []
left_whole p h =
    let e : p.copies - 0 ≡ p.copies = omega arith in
    left_some p 0 (omega arith) ∙ rw e

-- ── the places one after the other ──

pub without_same :
    (f h : ℕ → Pair) (less more : ℕ → ℕ) (i k : ℕ) →
    ((j : ℕ) → i ≤ j → j < i + k → left_of (h j) (more j) ≡ left_of (f j) (less j)) → without h more i k ≡ without f less i k
unfolding without
without_same f h less more i zero e = refl
without_same f h less more i (suc k) e =
    rw (e i (omega arith) (omega arith), without_same f h less more (i + 1) k (λ j a b. e j (omega arith) (omega arith)))

pub without_none :
    (f : ℕ → Pair) (less : ℕ → ℕ) (i k : ℕ) →
    ((j : ℕ) → i ≤ j → j < i + k → (0 < (f j).copies) × (less j ≡ 0)) → without f less i k ≡ span f i k
unfolding without span
without_none f less i zero h = refl
without_none f less i (suc k) h =
    let now = h i (omega arith) (omega arith) in
    rw (now.1, left_whole (f i) now.0, without_none f less (i + 1) k (λ j a b. h j (omega arith) (omega arith)))

without_append :
    (f : ℕ → Pair) (less : ℕ → ℕ) (i k l : ℕ) → without f less i (k + l) ≡ without f less i k ++ without f less (i + k) l
unfolding without
without_append f less i zero l = rw (zero-add, add-zero)
without_append f less i (suc k) l =
    let e : i + 1 + k ≡ i + suc k = omega arith in
    let ih = without_append f less (i + 1) k l in
    let n : suc k + l ≡ suc (k + l) = omega arith in
    rw (n, append_assoc) (ap (λ x. left_of (f i) (less i) ++ x) (rw e at ih))

pub without_snoc :
    (f : ℕ → Pair) (less : ℕ → ℕ) (k : ℕ) → without f less 0 (k + 1) ≡ without f less 0 k ++ left_of (f k) (less k)
unfolding without
without_snoc f less k = rw (zero-add, append-nil) at (without_append f less 0 k 1)

-- ── one pair removed ──

remove_past :
    (a b : ℕ) (p : Pair) (less : ℕ) (g : Graph) → joins a b p ≡ false →
    remove_edge (left_of p less ++ g) a b 1 ≡ left_of p less ++ remove_edge g a b 1
unfolding remove_edge left_of
remove_past a b p less g h = go (ltb 0 (p.copies - less))
  where
    go : (t : Bool) →
        remove_edge (pick t (with_copies (p.copies - less) p ∷ []) [] ++ g) a b 1
        ≡ pick t (with_copies (p.copies - less) p ∷ []) [] ++ remove_edge g a b 1
    go true = rw h
    go false = refl

remove_here :
    (a b : ℕ) (p : Pair) (g : Graph) → joins a b p ≡ true → 0 < p.copies →
    remove_edge (left_of p 0 ++ g) a b 1 ≡ left_of p 1 ++ g
unfolding remove_edge
remove_here a b p g h pos =
    rw (left_whole p pos, h)
    (elim (ℕ_discrete (p.copies - 1) 0) [
      | yes e ↦ rw (eq-eqb (p.copies - 1) 0 e, left_none p 1 e)
      | no e ↦ rw (ne_eqb (p.copies - 1) 0 e, left_some p 1 (omega arith))
    ])

-- place p is the one with the ends: it loses a copy
pub remove_there :
    (a b p : ℕ) (f : ℕ → Pair) (less more : ℕ → ℕ) (i k : ℕ) → i ≤ p → p < i + k → joins a b (f p) ≡ true →
    0 < (f p).copies → less p ≡ 0 → more p ≡ 1 →
    ((j : ℕ) → i ≤ j → j < i + k → (j ≡ p → ⊥) → (joins a b (f j) ≡ false) × (more j ≡ less j)) →
    remove_edge (without f less i k) a b 1 ≡ without f more i k
unfolding without
remove_there a b p f less more i zero u v there pos before after other = absurd (omega arith)
remove_there a b p f less more i (suc k) u v there pos before after other =
    elim (ℕ_discrete i p) [
      | yes e ↦
          let same : joins a b (f i) ≡ true = rw e there in
          let some : 0 < (f i).copies = rw e pos in
          let none : less i ≡ 0 = rw e before in
          let one : more i ≡ 1 = rw e after in
          let rest : without f more (i + 1) k ≡ without f less (i + 1) k =
          without_same f f less more (i + 1) k
          (λ j y z. ap (left_of (f j)) (other j (omega arith) (omega arith) (λ q. omega arith)).1) in
          rw (none, one, rest) (remove_here a b (f i) (without f less (i + 1) k) same some)
      | no n ↦
          let now = other i (omega arith) (omega arith) n in
          rw (now.1, remove_past a b (f i) (less i) (without f less (i + 1) k) now.0)
          (ap (λ l. left_of (f i) (less i) ++ l)
          (remove_there a b p f less more (i + 1) k (omega arith) (omega arith) there pos before after
          (λ j y z q. other j (omega arith) (omega arith) q)))
    ]

-- ── a whole matching removed ──

-- 1 where a number is among the first r of a matching, else 0
unfoldable pub hit : (ℕ → ℕ) → ℕ → ℕ → ℕ
hit numbers zero e = 0
hit numbers (suc r) e = pick (eqb (numbers r) e) 1 (hit numbers r e)

pub hit_none : (numbers : ℕ → ℕ) (r e : ℕ) → ((i : ℕ) → i < r → numbers i ≡ e → ⊥) → hit numbers r e ≡ 0
unfolding hit
hit_none numbers zero e h = refl
hit_none numbers (suc r) e h =
    rw (ne_eqb (numbers r) e (h r (omega arith))) (hit_none numbers r e (λ i a. h i (omega arith)))

pub hit_some : (numbers : ℕ → ℕ) (r e i : ℕ) → i < r → numbers i ≡ e → hit numbers r e ≡ 1
unfolding hit
hit_some numbers zero e i a h = absurd (omega arith)
hit_some numbers (suc r) e i a h =
    elim (ℕ_discrete (numbers r) e) [
      | yes x ↦ rw (eq-eqb (numbers r) e x)
      | no x ↦
          elim (ℕ_discrete i r) [
            | yes y ↦ absurd (x (rw y at h))
            | no y ↦ rw (ne_eqb (numbers r) e x) (hit_some numbers r e i (omega arith) h)
          ]
    ]

-- The pairs f of a graph and q of a matching by place, and their numbers: different ones, each pair with a copy, each number of
-- the matching in the graph; a pair of the graph has the ends of one of the matching exactly if it has its number.
pub record Holds (f : ℕ → Pair) (own : ℕ → ℕ) (k : ℕ) (q : ℕ → Pair) (numbers : ℕ → ℕ) (n : ℕ) : Type 0 where
  pub positive : (j : ℕ) → j < k → 0 < (f j).copies
  pub own_once : (i j : ℕ) → i < k → j < k → own i ≡ own j → i ≡ j
  pub once : (i j : ℕ) → i < n → j < n → numbers i ≡ numbers j → i ≡ j
  pub present : (i : ℕ) → i < n → (j : ℕ) × (j < k) × (own j ≡ numbers i)
  pub same : (i j : ℕ) → i < n → j < k → own j ≡ numbers i → joins (q i).first (q i).second (f j) ≡ true
  pub other : (i j : ℕ) → i < n → j < k → (own j ≡ numbers i → ⊥) → joins (q i).first (q i).second (f j) ≡ false

module _ (f : ℕ → Pair) (own : ℕ → ℕ) (k : ℕ) (q : ℕ → Pair) (numbers : ℕ → ℕ) (n : ℕ) (h : Holds f own k q numbers n) where
  remove_next :
      (r : ℕ) → r < n →
      remove_edge (without f (λ j. hit numbers r (own j)) 0 k) (q r).first (q r).second 1
      ≡ without f (λ j. hit numbers (suc r) (own j)) 0 k
  unfolding hit
  remove_next r a =
      remove_there (q r).first (q r).second p f (λ j. hit numbers r (own j)) (λ j. hit numbers (suc r) (own j)) 0 k
      (omega arith) (omega (arith, there.1)) (h.same r p a there.1 there.2) (h.positive p there.1)
      (hit_none numbers r (own p) (λ i b x. omega (arith, h.once i r (omega arith) a (x ∙ there.2))))
      (hit_some numbers (suc r) (own p) r (omega arith) (sym there.2))
      (λ j b c x. (h.other r j a (omega arith) (away j (omega arith) x), rw (ne_eqb (numbers r) (own j) (λ y. away j (omega arith) x (sym y)))))
    where
      there : (j : ℕ) × (j < k) × (own j ≡ numbers r)
      there = h.present r a

      p : ℕ
      p = there.0

      away : (j : ℕ) → j < k → (j ≡ p → ⊥) → own j ≡ numbers r → ⊥
      away j b x y = x (h.own_once j p b there.1 (y ∙ sym there.2))

  pub removed :
      (r : ℕ) → r ≤ n → remove_matching (span f 0 k) (span q 0 r) ≡ without f (λ j. hit numbers r (own j)) 0 k
  unfolding remove_matching span hit
  removed zero a = sym (without_none f (λ j. 0) 0 k (λ j b c. (h.positive j (omega arith), refl)))
  removed (suc r) a =
      let snoc : span q 0 (suc r) ≡ span q 0 r ++ q r ∷ [] = rw add-one at (span_snoc q r) in
      rw (snoc, remove_matching_append (span f 0 k) (span q 0 r) (q r ∷ []), removed r (omega arith))
      (remove_next r (omega arith))
