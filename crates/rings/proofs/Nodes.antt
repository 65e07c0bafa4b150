-- Which nodes stand in a party's ring: the half-edges of the places that remain, first ends before second ends. No two are the
-- same, and where a place is taken out, its two half-edges go. Assumes nothing.
use Prim.Native.Nat.{ℕ, ◌+◌, ◌*◌, ◌<◌}
use mathlib.Core.Path.{◌≡◌, refl, sym, ◌∙◌, ap, subst}
use mathlib.Core.Bool.{Bool, true, false, not}
use mathlib.Core.List.{List, [], ◌∷◌, ◌++◌, map}
use mathlib.Core.Logic.{◌⊎◌, inl, inr}
use native.Mathlib.Omega.{arith}
use native.Mathlib.Decide.{ℕ_discrete, dec_lt}
use borrow.Author.Tests.{eq-eqb, ne_eqb}
use lib.Dec.{eqb}
use Rattle.words.specs.Basics.{pick, All}
use Rattle.words.proofs.Sums.{all_append, all_left, all_right, all_map}
use Rattle.multigraph.specs.Multigraph.{Pair}
use Rattle.euler.proofs.Places.{keep, keep_yes, keep_no, keep_append, keep_comm, keep_all, keep_falling, without, without_first, without_other, Falling, firsts, seconds, row}
use Rattle.rings.proofs.Chains.{Distinct, Has}

-- the node of an entry's half-edge, at its first end or at its second
abbrev pub edge : Bool → ℕ → ℕ
edge true i = 4 * i
edge false i = 4 * i + 2

-- ── members ──

empty : List ℕ → Type 0
empty [] = Unit {0}
empty (x ∷ xs) = ⊥

head : List ℕ → ℕ
head [] = 0
head (x ∷ xs) = x

-- the first of those whose end is v
keep_first :
    (E : ℕ → ℕ) (v i : ℕ) (xs ys : List ℕ) → keep (λ k. eqb v (E k)) xs ≡ i ∷ ys → (E i ≡ v) × Has i xs
unfolding keep empty head
keep_first E v i [] ys h = absurd (subst empty h tt)
keep_first E v i (x ∷ xs) ys h =
    elim (ℕ_discrete v (E x)) [
      | yes e ↦
          let q : x ≡ i = ap head (sym (keep_yes (λ k. eqb v (E k)) x xs (eq-eqb v (E x) e)) ∙ h) in
          (ap E (sym q) ∙ sym e, λ a. a.0 (sym q))
      | no n ↦
          let r : (E i ≡ v) × Has i xs =
          keep_first E v i xs ys (sym (keep_no (λ k. eqb v (E k)) x xs (ne_eqb v (E x) n)) ∙ h) in
          (r.0, λ a. r.1 a.1)
    ]

unkept :
    (q : ℕ → Bool) (i : ℕ) (xs : List ℕ) → q i ≡ true → All (λ (y : ℕ). i ≡ y → ⊥) (keep q xs) → All (λ (y : ℕ). i ≡ y → ⊥) xs
unfolding keep
unkept q i [] t h = tt
unkept q i (x ∷ xs) t h = go (q x) refl h (unkept q i xs t)
  where
    differ : true ≡ false → ⊥
    differ e = subst (λ (c : Bool). pick {A = Type 0} c (Unit {0}) ⊥) e tt

    go :
        (c : Bool) → q x ≡ c → All (λ (y : ℕ). i ≡ y → ⊥) (pick c (x ∷ keep q xs) (keep q xs)) →
        (All (λ (y : ℕ). i ≡ y → ⊥) (keep q xs) → All (λ (y : ℕ). i ≡ y → ⊥) xs) → All (λ (y : ℕ). i ≡ y → ⊥) (x ∷ xs)
    go true e k r = (k.0, r k.1)
    go false e k r = ((λ p. differ (sym t ∙ ap q p ∙ e)), r k)

-- a member that passes is kept
pub has_kept : (q : ℕ → Bool) (i : ℕ) (xs : List ℕ) → q i ≡ true → Has i xs → Has i (keep q xs)
has_kept q i xs t h a = h (unkept q i xs t a)

unmapped : (f : ℕ → ℕ) (i : ℕ) (xs : List ℕ) → All (λ (y : ℕ). f i ≡ y → ⊥) (map f xs) → All (λ (y : ℕ). i ≡ y → ⊥) xs
unmapped f i [] h = tt
unmapped f i (x ∷ xs) h = ((λ e. h.0 (ap f e)), unmapped f i xs h.1)

has_map : (f : ℕ → ℕ) (i : ℕ) (xs : List ℕ) → Has i xs → Has (f i) (map f xs)
has_map f i xs h a = h (unmapped f i xs a)

-- what all members are, a member is
pub has_below : (m i : ℕ) (xs : List ℕ) → All (λ (y : ℕ). y < m) xs → Has i xs → i < m
has_below m i xs a h =
    elim (dec_lt i m) [ yes l ↦ l | no n ↦ absurd (h (all_map (λ y b e. n (omega arith)) xs a)) ]

-- ── different nodes ──

edges_apart : (d : Bool) (x : ℕ) (xs : List ℕ) → All (λ (y : ℕ). y < x) xs → All (λ (y : ℕ). edge d x ≡ y → ⊥) (map (edge d) xs)
edges_apart d x [] h = tt
edges_apart true x (y ∷ xs) h = ((λ e. omega arith), edges_apart true x xs h.1)
edges_apart false x (y ∷ xs) h = ((λ e. omega arith), edges_apart false x xs h.1)

edges_distinct : (d : Bool) (xs : List ℕ) → Falling xs → Distinct (map (edge d) xs)
edges_distinct d [] h = tt
edges_distinct d (x ∷ xs) h = (edges_apart d x xs h.0, edges_distinct d xs h.1)

sides_apart : (i : ℕ) (xs : List ℕ) → All (λ (y : ℕ). edge true i ≡ y → ⊥) (map (edge false) xs)
sides_apart i [] = tt
sides_apart i (x ∷ xs) = ((λ e. omega arith), sides_apart i xs)

sides_distinct :
    (xs : List ℕ) (ys : List ℕ) → Distinct (map (edge true) xs) → Distinct (map (edge false) ys) →
    Distinct (map (edge true) xs ++ map (edge false) ys)
sides_distinct [] ys h k = k
sides_distinct (x ∷ xs) ys h k = (
  all_append (λ y. edge true x ≡ y → ⊥) (map (edge true) xs) (map (edge false) ys) h.0 (sides_apart x ys),
  sides_distinct xs ys h.1 k,
)

-- different members stay different
pub keep_distinct : (q : ℕ → Bool) (xs : List ℕ) → Distinct xs → Distinct (keep q xs)
unfolding keep
keep_distinct q [] h = tt
keep_distinct q (x ∷ xs) h = go (q x) (keep_all (λ y. x ≡ y → ⊥) q xs h.0) (keep_distinct q xs h.1)
  where
    go :
        (c : Bool) → All (λ (y : ℕ). x ≡ y → ⊥) (keep q xs) → Distinct (keep q xs) → Distinct (pick c (x ∷ keep q xs) (keep q xs))
    go true a k = (a, k)
    go false a k = k

-- ── a place taken out ──

without_append : (x : ℕ) (xs ys : List ℕ) → without x (xs ++ ys) ≡ without x xs ++ without x ys
without_append x xs ys = keep_append (λ k. not (eqb x k)) xs ys

without_edges : (d : Bool) (i : ℕ) (xs : List ℕ) → without (edge d i) (map (edge d) xs) ≡ map (edge d) (without i xs)
unfolding keep
without_edges d i [] = refl
without_edges d i (x ∷ xs) =
    elim (ℕ_discrete i x) [
      | yes e ↦
          subst (λ (z : ℕ). without (edge d z) (map (edge d) (x ∷ xs)) ≡ map (edge d) (without z (x ∷ xs))) (sym e)
          (without_first (edge d x) (map (edge d) xs)
          ∙ ap (λ (z : ℕ). without (edge d z) (map (edge d) xs)) (sym e)
          ∙ without_edges d i xs
          ∙ ap (λ (z : ℕ). map (edge d) (without z xs)) e
          ∙ ap (map (edge d)) (sym (without_first x xs)))
      | no n ↦
          without_other (edge d i) (edge d x) (map (edge d) xs) (λ e. n (same d e))
          ∙ ap (λ (l : List ℕ). edge d x ∷ l) (without_edges d i xs)
          ∙ ap (map (edge d)) (sym (without_other i x xs n))
    ]
  where
    same : (d : Bool) → edge d i ≡ edge d x → i ≡ x
    same true e = omega arith
    same false e = omega arith

without_far : (d : Bool) (i : ℕ) (xs : List ℕ) → without (edge (not d) i) (map (edge d) xs) ≡ map (edge d) xs
unfolding keep
without_far d i [] = refl
without_far d i (x ∷ xs) =
    without_other (edge (not d) i) (edge d x) (map (edge d) xs) (other d) ∙ ap (λ (l : List ℕ). edge d x ∷ l) (without_far d i xs)
  where
    other : (d : Bool) → edge (not d) i ≡ edge d x → ⊥
    other true e = omega arith
    other false e = omega arith

-- ── the nodes of a ring ──

module _ (P : ℕ → Pair) where
  -- the one end, or the other
  abbrev pub end : Bool → ℕ → ℕ
  end true i = (P i).first
  end false i = (P i).second

  -- the nodes of the ring of v, where the places `is` remain
  abbrev pub nodes : ℕ → List ℕ → List ℕ
  nodes v is = map (edge true) (firsts P v is) ++ map (edge false) (seconds P v is)

  -- no two are the same
  pub nodes_distinct : (v : ℕ) (is : List ℕ) → Falling is → Distinct (nodes v is)
  nodes_distinct v is f =
      sides_distinct (firsts P v is) (seconds P v is)
      (edges_distinct true (firsts P v is) (keep_falling (λ i. eqb v (P i).first) is f))
      (edges_distinct false (seconds P v is) (keep_falling (λ i. eqb v (P i).second) is f))

  -- a place that remains has its half-edges in its ends' rings
  pub has_node : (d : Bool) (i v : ℕ) (is : List ℕ) → end d i ≡ v → Has i is → Has (edge d i) (nodes v is)
  has_node true i v is e h a =
      has_map (edge true) i (firsts P v is) (has_kept (λ k. eqb v (P k).first) i is (eq-eqb v (P i).first (sym e)) h)
      (all_left (λ y. edge true i ≡ y → ⊥) (map (edge true) (firsts P v is)) (map (edge false) (seconds P v is)) a)
  has_node false i v is e h a =
      has_map (edge false) i (seconds P v is) (has_kept (λ k. eqb v (P k).second) i is (eq-eqb v (P i).second (sym e)) h)
      (all_right (λ y. edge false i ≡ y → ⊥) (map (edge true) (firsts P v is)) (map (edge false) (seconds P v is)) a)

  -- the first node of a ring
  pub record First (v : ℕ) (is : List ℕ) : Type 0 where
    pub side : Bool
    pub entry : ℕ
    pub nodes_left : List ℕ
    pub row_left : List ℕ
    pub nodes_is : nodes v is ≡ edge side entry ∷ nodes_left
    pub row_is : row P v is ≡ entry ∷ row_left
    pub own : end side entry ≡ v
    pub has : Has entry is

  -- a ring is empty, or has a first node
  pub first_node : (v : ℕ) (is : List ℕ) → ((row P v is ≡ []) × (nodes v is ≡ [])) ⊎ First v is
  unfolding row
  first_node v is = go (firsts P v is) (seconds P v is) refl refl
    where
      go :
          (xs ys : List ℕ) → firsts P v is ≡ xs → seconds P v is ≡ ys →
          ((firsts P v is ++ seconds P v is ≡ []) × (nodes v is ≡ [])) ⊎ First v is
      go [] [] e f = inl (rw (e, f), rw (e, f))
      go (x ∷ xs) ys e f =
          let k = keep_first (λ i. (P i).first) v x is xs e in
          inr (record {
            side = true;
            entry = x;
            nodes_left = map (edge true) xs ++ map (edge false) ys;
            row_left = xs ++ ys;
            nodes_is = rw (e, f);
            row_is = rw (e, f);
            own = k.0;
            has = k.1;
          })
      go [] (y ∷ ys) e f =
          let k = keep_first (λ i. (P i).second) v y is ys f in
          inr (record {
            side = false;
            entry = y;
            nodes_left = map (edge false) ys;
            row_left = ys;
            nodes_is = rw (e, f);
            row_is = rw (e, f);
            own = k.0;
            has = k.1;
          })

  both_out : (i v : ℕ) (is : List ℕ) → without (edge false i) (without (edge true i) (nodes v is)) ≡ nodes v (without i is)
  both_out i v is =
      let xs : List ℕ = firsts P v is in
      let ys : List ℕ = seconds P v is in
      let one : without (edge true i) (nodes v is) ≡ map (edge true) (without i xs) ++ map (edge false) ys =
      without_append (edge true i) (map (edge true) xs) (map (edge false) ys)
      ∙ rw (without_edges true i xs, without_far false i ys) in
      let two : without (edge false i) (map (edge true) (without i xs) ++ map (edge false) ys) ≡ map (edge true) (without i xs) ++ map (edge false) (without i ys) =
      without_append (edge false i) (map (edge true) (without i xs)) (map (edge false) ys)
      ∙ rw (without_edges false i ys, without_far true i (without i xs)) in
      ap (without (edge false i)) one ∙ two
      ∙ rw (
        keep_comm (λ k. not (eqb i k)) (λ k. eqb v (P k).first) is,
        keep_comm (λ k. not (eqb i k)) (λ k. eqb v (P k).second) is,
      )

  -- Where a place is taken out, its two half-edges go.
  pub nodes_without :
      (d : Bool) (i v : ℕ) (is : List ℕ) → without (edge (not d) i) (without (edge d i) (nodes v is)) ≡ nodes v (without i is)
  nodes_without true i v is = both_out i v is
  nodes_without false i v is =
      keep_comm (λ k. not (eqb (edge true i) k)) (λ k. not (eqb (edge false i) k)) (nodes v is) ∙ both_out i v is
