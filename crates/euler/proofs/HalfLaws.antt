-- What a half holds: the entries of 2 copies or more, in order, with half their copies and those dealt to them, and then the
-- dealt entries of one copy, as they were dealt. This is the definition's adding to a pair or appending. Assumes nothing.
use Prim.Native.Nat.{ℕ, zero, suc, ◌+◌, ◌/◌, ◌≤◌, ◌<◌}
use mathlib.Core.Path.{◌≡◌, refl, sym, ◌∙◌, ap, subst}
use mathlib.Core.Bool.{Bool, true, false, not}
use mathlib.Core.List.{List, [], ◌∷◌, ◌++◌, map, map-append, append_assoc, append-nil}
use mathlib.Core.Logic.{inl}
use native.Mathlib.Omega.{arith}
use native.Mathlib.Nat.{add-zero}
use native.Mathlib.Decide.{ℕ_discrete, dec_lt}
use borrow.Author.Tests.{le-leb, lt-leb}
use lib.Dec.{leb}
use lib.ListN.{length, length-append}
use Rattle.words.specs.Basics.{pick, is, count, All, sum_below}
use Rattle.words.proofs.Sums.{is_eq, is_ne, count_append, all_append, sum_below_count, sum_below_le, sum_below_add, sum_below_const}
use Rattle.multigraph.specs.Multigraph.{Pair, pair, Graph, joins, add_edge, with_copies}
use Rattle.multigraph.proofs.Ends.{true_joins}
use Rattle.euler.specs.Split.{add_halves, add_pairs}
use Rattle.euler.proofs.Places.{keep, keep_yes, keep_no, keep_append, keep_all}
use Rattle.euler.proofs.Dealing.{halves_append}

-- ── adding to a graph whose front doesn't have the pair ──

-- pairs in front that are not joined stay
pub add_past :
    (g h : Graph) (a b n f : ℕ) → All (λ (p : Pair). joins a b p ≡ false) g →
    add_edge (g ++ h) a b n f ≡ g ++ add_edge h a b n f
unfolding add_edge
add_past [] h a b n f e = refl
add_past (p ∷ g) h a b n f e = rw e.0 (ap (λ (x : Graph). p ∷ x) (add_past g h a b n f e.1))

-- a pair that is new comes last
pub add_new :
    (g : Graph) (a b n f : ℕ) → All (λ (p : Pair). joins a b p ≡ false) g → add_edge g a b n f ≡ g ++ (pair a b n f ∷ [])
unfolding add_edge
add_new g a b n f e = ap (λ (x : Graph). add_edge x a b n f) (sym (append-nil g)) ∙ add_past g [] a b n f e

-- ── the two parts of a half ──

-- no two of the first m entries have the same ends
abbrev pub ApartAt : (ℕ → Pair) → ℕ → Type 0
ApartAt A m =
    (i j c : ℕ) → i < m → j < m → (i ≡ j → ⊥) → joins (A i).first (A i).second (with_copies c (A j)) ≡ false

-- of a graph whose entry at the place i is A i
module _ (A : ℕ → Pair) where
  abbrev C : ℕ → ℕ
  C i = (A i).copies

  abbrev F : ℕ → ℕ
  F i = (A i).first

  abbrev S : ℕ → ℕ
  S i = (A i).second

  abbrev flag : ℕ → ℕ
  flag i = (A i).bad

  -- the entry at a place, with c copies
  abbrev pub held : ℕ → ℕ → Pair
  held i c = with_copies c (A i)

  -- the graph's first n entries
  unfoldable pub upto : ℕ → Graph
  upto zero = []
  upto (suc n) = upto n ++ (A n ∷ [])

  -- what a half gets of entry i, with e copies dealt to it
  unfoldable pub big : ℕ → ℕ → Graph
  big i e = pick (leb 2 (C i)) (held i (C i / 2 + e) ∷ []) []

  -- the entries below n of 2 copies or more; e says how many are dealt
  unfoldable pub bigs : (ℕ → ℕ) → ℕ → Graph
  bigs e zero = []
  bigs e (suc n) = bigs e n ++ big n (e n)

  -- the places of one copy
  abbrev pub small : List ℕ → List ℕ
  small is = keep (λ i. not (leb 2 (C i))) is

  -- the entry at a place, with one copy
  abbrev pub one : ℕ → Pair
  one i = held i 1

  pub big_yes : (i e : ℕ) → 2 ≤ C i → big i e ≡ held i (C i / 2 + e) ∷ []
  unfolding big
  big_yes i e h = rw (le-leb 2 (C i) h)

  pub big_no : (i e : ℕ) → C i < 2 → big i e ≡ []
  unfolding big
  big_no i e h = rw (lt-leb 2 (C i) h)

  bigs_cong : (e d : ℕ → ℕ) (n : ℕ) → ((i : ℕ) → i < n → e i ≡ d i) → bigs e n ≡ bigs d n
  unfolding bigs
  bigs_cong e d zero h = refl
  bigs_cong e d (suc n) h = rw (bigs_cong e d n (λ i b. h i (omega arith)), h n (omega arith))

  -- only what is dealt to big entries counts
  pub bigs_where : (n : ℕ) (e d : ℕ → ℕ) → ((i : ℕ) → 2 ≤ C i → e i ≡ d i) → bigs e n ≡ bigs d n
  unfolding bigs
  bigs_where zero e d h = refl
  bigs_where (suc n) e d h =
      rw (bigs_where n e d h)
      (ap (λ (x : Graph). bigs d n ++ x)
      (elim (dec_lt (C n) 2) [
        | yes b ↦ big_no n (e n) b ∙ sym (big_no n (d n) b)
        | no b ↦ ap (big n) (h n (omega arith))
      ]))

  -- a big entry is not among the small places
  small_count : (i : ℕ) → 2 ≤ C i → (xs : List ℕ) → count i (small xs) ≡ 0
  unfolding keep count
  small_count i t [] = refl
  small_count i t (x ∷ xs) =
      elim (dec_lt (C x) 2) [
        | yes b ↦ rw (lt-leb 2 (C x) b) (omega (arith, small_count i t xs, is_ne {u = i} {v = x} (λ e. omega (arith, ap C e))))
        | no b ↦ let s : 2 ≤ C x = omega arith in rw (le-leb 2 (C x) s) (small_count i t xs)
      ]

  -- a property of the entries below n that are big
  bigs_all : (R : Pair → Type 0) (e : ℕ → ℕ) (n : ℕ) → ((i c : ℕ) → i < n → 2 ≤ C i → R (held i c)) → All R (bigs e n)
  unfolding bigs
  bigs_all R e zero h = tt
  bigs_all R e (suc n) h =
      all_append R (bigs e n) (big n (e n)) (bigs_all R e n (λ i c b t. h i c (omega arith) t))
      (elim (dec_lt (C n) 2) [
        | yes b ↦ rw (big_no n (e n) b) tt
        | no b ↦ rw (big_yes n (e n) (omega arith)) (h n (C n / 2 + e n) (omega arith) (omega arith), tt)
      ])

  -- as many as there are entries of 2 copies or more
  pub bigs_length : (e : ℕ → ℕ) (n : ℕ) → length (bigs e n) ≡ sum_below (λ i. pick (leb 2 (C i)) 1 0) n
  unfolding bigs sum_below
  bigs_length e zero = refl
  bigs_length e (suc n) =
      length-append (bigs e n) (big n (e n)) ∙ omega (arith, bigs_length e n, one_or_none n)
    where
      one_or_none : (n : ℕ) → length (big n (e n)) ≡ pick (leb 2 (C n)) 1 0
      one_or_none n =
          elim (dec_lt (C n) 2) [
            | yes b ↦ rw (big_no n (e n) b, lt-leb 2 (C n) b)
            | no b ↦ let t : 2 ≤ C n = omega arith in rw (big_yes n (e n) t, le-leb 2 (C n) t)
          ]

  pub small_one : (i : ℕ) → C i < 2 → small (i ∷ []) ≡ i ∷ []
  unfolding keep
  small_one i h = keep_yes (λ j. not (leb 2 (C j))) i [] (rw (lt-leb 2 (C i) h))

  pub small_none : (i : ℕ) → 2 ≤ C i → small (i ∷ []) ≡ []
  unfolding keep
  small_none i h = keep_no (λ j. not (leb 2 (C j))) i [] (rw (le-leb 2 (C i) h))

  module _ (m : ℕ) (apart : ApartAt A m) where
    own : (i c : ℕ) → joins (F i) (S i) (held i c) ≡ true
    own i c = true_joins (F i) (S i) (held i c) (inl (refl, refl))

    -- ── half of each entry ──

    pub halves_are : (n : ℕ) → n ≤ m → add_halves [] (upto n) ≡ bigs (λ i. 0) n
    unfolding add_halves upto bigs big
    halves_are zero b = refl
    halves_are (suc n) b =
        halves_append [] (upto n) (A n)
        ∙ rw (halves_are n (omega arith)) (go (leb 2 (C n)) (add_new (bigs (λ i. 0) n) (F n) (S n) (C n / 2) (flag n) (bigs_all (λ p. joins (F n) (S n) p ≡ false) (λ i. 0) n (λ i c d t. apart n i c (omega arith) (omega arith) (λ e. omega arith)))))
      where
        go :
            (t : Bool) → add_edge (bigs (λ i. 0) n) (F n) (S n) (C n / 2) (flag n) ≡ bigs (λ i. 0) n ++ (held n (C n / 2) ∷ []) →
            pick t (add_edge (bigs (λ i. 0) n) (F n) (S n) (C n / 2) (flag n)) (bigs (λ i. 0) n)
            ≡ bigs (λ i. 0) n ++ pick t (held n (C n / 2 + 0) ∷ []) []
        go true h = rw add-zero h
        go false h = sym (append-nil (bigs (λ i. 0) n))

    -- ── one copy more of an entry that is there ──

    grow : (n x : ℕ) (h : Graph) → 2 ≤ C n → add_edge (big n x ++ h) (F n) (S n) 1 (flag n) ≡ big n (x + 1) ++ h
    unfolding add_edge
    grow n x h t =
        let a : C n / 2 + (x + 1) ≡ C n / 2 + x + 1 = omega arith in
        rw (big_yes n x t, big_yes n (x + 1) t, own n (C n / 2 + x), a)

    bump :
        (e : ℕ → ℕ) (n i : ℕ) (h : Graph) → n ≤ m → i < n → 2 ≤ C i →
        add_edge (bigs e n ++ h) (F i) (S i) 1 (flag i) ≡ bigs (λ j. e j + is j i) n ++ h
    unfolding bigs
    bump e zero i h b l t = absurd (omega arith)
    bump e (suc n) i h b l t =
        elim (ℕ_discrete i n) [
          | yes q ↦
              let tn : 2 ≤ C n = subst (λ (j : ℕ). 2 ≤ C j) q t in
              let z : e n + is n n ≡ e n + 1 = omega (arith, is_eq {u = n} refl) in
              let others : bigs (λ j. e j + is j n) n ≡ bigs e n =
              bigs_cong (λ j. e j + is j n) e n (λ j c. omega (arith, is_ne {u = j} {v = n} (λ x. omega arith))) in
              subst (λ (k : ℕ). add_edge (bigs e (suc n) ++ h) (F k) (S k) 1 (flag k) ≡ bigs (λ j. e j + is j k) (suc n) ++ h) (sym q)
              (ap (λ (x : Graph). add_edge x (F n) (S n) 1 (flag n)) (append_assoc (bigs e n) (big n (e n)) h)
              ∙ add_past (bigs e n) (big n (e n) ++ h) (F n) (S n) 1 (flag n)
              (bigs_all (λ p. joins (F n) (S n) p ≡ false) e n (λ j c d s. apart n j c (omega arith) (omega arith) (λ x. omega arith)))
              ∙ ap (λ (x : Graph). bigs e n ++ x) (grow n (e n) h tn)
              ∙ sym (append_assoc (bigs e n) (big n (e n + 1)) h)
              ∙ ap (λ (x : Graph). bigs e n ++ x ++ h) (ap (big n) (sym z))
              ∙ ap (λ (x : Graph). x ++ big n (e n + is n n) ++ h) (sym others))
          | no q ↦
              let z : e n + is n i ≡ e n = omega (arith, is_ne {u = n} {v = i} (λ x. q (sym x))) in
              ap (λ (x : Graph). add_edge x (F i) (S i) 1 (flag i)) (append_assoc (bigs e n) (big n (e n)) h)
              ∙ bump e n i (big n (e n) ++ h) (omega arith) (omega arith) t
              ∙ sym (append_assoc (bigs (λ j. e j + is j i) n) (big n (e n)) h)
              ∙ ap (λ (x : Graph). bigs (λ j. e j + is j i) n ++ x ++ h) (ap (big n) (sym z))
        ]

    -- ── all copies dealt ──

    -- each place once
    abbrev pub Once : List ℕ → Type 0
    Once cs = (i : ℕ) → count i cs ≤ 1

    -- places other than i are not its pair
    others_apart :
        (i : ℕ) (xs : List ℕ) → i < m → All (λ (j : ℕ). j < m) xs → count i xs ≡ 0 →
        All (λ (p : Pair). joins (F i) (S i) p ≡ false) (map one xs)
    unfolding count
    others_apart i [] b h z = tt
    others_apart i (x ∷ xs) b h z =
        (apart i x 1 b h.0 (λ e. omega (arith, is_eq e)), others_apart i xs b h.1 (omega arith))

    keep_count : (q : ℕ → Bool) (i : ℕ) (xs : List ℕ) → count i (keep q xs) ≤ count i xs
    unfolding keep count
    keep_count q i [] = omega arith
    keep_count q i (x ∷ xs) = go (q x) (keep_count q i xs)
      where
        go : (b : Bool) → count i (keep q xs) ≤ count i xs → count i (pick b (x ∷ keep q xs) (keep q xs)) ≤ is i x + count i xs
        go true h = omega arith
        go false h = omega arith

    -- a half with the places cs dealt to it
    abbrev pub half_of : List ℕ → Graph
    half_of cs = bigs (λ i. count i cs) m ++ map one (small cs)

    count_more : (j i : ℕ) (cs : List ℕ) → count j (cs ++ (i ∷ [])) ≡ count j cs + is j i
    unfolding count
    count_more j i cs = count_append j cs (i ∷ []) ∙ omega arith

    small_more : (i : ℕ) (cs : List ℕ) → small (cs ++ (i ∷ [])) ≡ small cs ++ small (i ∷ [])
    small_more i cs = keep_append (λ j. not (leb 2 (C j))) cs (i ∷ [])

    deal_one :
        (i : ℕ) (cs : List ℕ) → i < m → All (λ (j : ℕ). j < m) cs → count i cs ≡ 0 →
        add_edge (half_of cs) (F i) (S i) 1 (flag i) ≡ half_of (cs ++ (i ∷ []))
    deal_one i cs b h z =
        elim (dec_lt (C i) 2) [
          | yes t ↦
              let rest : map one (small (cs ++ (i ∷ []))) ≡ map one (small cs) ++ (one i ∷ []) =
              ap (map one) (small_more i cs ∙ ap (λ (x : List ℕ). small cs ++ x) (small_one i t)) ∙ map-append one (small cs) (i ∷ []) in
              let front : bigs (λ j. count j (cs ++ (i ∷ []))) m ≡ bigs (λ j. count j cs) m =
              bigs_where m (λ j. count j (cs ++ (i ∷ []))) (λ j. count j cs)
              (λ j s. count_more j i cs ∙ omega (arith, is_ne {u = j} {v = i} (λ e. omega (arith, ap C e)))) in
              add_new (half_of cs) (F i) (S i) 1 (flag i)
              (all_append (λ (p : Pair). joins (F i) (S i) p ≡ false) (bigs (λ j. count j cs) m) (map one (small cs))
              (bigs_all (λ p. joins (F i) (S i) p ≡ false) (λ j. count j cs) m
              (λ j c d s. apart i j c b d (λ e. omega (arith, ap C e))))
              (others_apart i (small cs) b (keep_all (λ j. j < m) (λ j. not (leb 2 (C j))) cs h)
              (omega (arith, keep_count (λ j. not (leb 2 (C j))) i cs))))
              ∙ append_assoc (bigs (λ j. count j cs) m) (map one (small cs)) (one i ∷ [])
              ∙ rw (front, rest)
          | no t ↦
              let big' : 2 ≤ C i = omega arith in
              let rest : small (cs ++ (i ∷ [])) ≡ small cs =
              small_more i cs ∙ ap (λ (x : List ℕ). small cs ++ x) (small_none i big') ∙ append-nil (small cs) in
              let front : bigs (λ j. count j (cs ++ (i ∷ []))) m ≡ bigs (λ j. count j cs + is j i) m =
              bigs_cong (λ j. count j (cs ++ (i ∷ []))) (λ j. count j cs + is j i) m (λ j c. count_more j i cs) in
              bump (λ j. count j cs) m i (map one (small cs)) (omega arith) b big' ∙ rw (front, rest)
        ]

    -- all of cs dealt, one after the other
    pub deal_all :
        (cs ds : List ℕ) → All (λ (j : ℕ). j < m) ds → All (λ (j : ℕ). j < m) cs → ((i : ℕ) → count i (ds ++ cs) ≤ 1) →
        add_pairs (half_of ds) (map one cs) ≡ half_of (ds ++ cs)
    unfolding add_pairs count
    deal_all [] ds hd hc once = ap half_of (sym (append-nil ds))
    deal_all (i ∷ cs) ds hd hc once =
        let e : (ds ++ (i ∷ [])) ++ cs ≡ ds ++ (i ∷ cs) = append_assoc ds (i ∷ []) cs in
        let z : count i ds ≡ 0 = omega (arith, once i, count_append i ds (i ∷ cs), is_eq {u = i} refl) in
        ap (λ (g : Graph). add_pairs g (map one cs)) (deal_one i ds hc.0 hd z)
        ∙ deal_all cs (ds ++ (i ∷ [])) (all_append (λ j. j < m) ds (i ∷ []) hd (hc.0, tt)) hc.1 (λ j. rw e (once j))
        ∙ ap half_of e

    -- no more entries than the graph has
    pub half_length :
        (cs : List ℕ) → All (λ (j : ℕ). j < m) cs → Once cs →
        sum_below (λ i. pick (leb 2 (C i)) 1 0) m + length (small cs) ≤ m
    half_length cs h once =
        let e : sum_below (λ i. count i (small cs)) m ≡ length (small cs) =
        sum_below_count m (small cs) (keep_all (λ j. j < m) (λ j. not (leb 2 (C j))) cs h) in
        let f : sum_below (λ i. pick (leb 2 (C i)) 1 0 + count i (small cs)) m ≤ sum_below (λ i. 1) m =
        sum_below_le m (λ i b. each i) in
        omega (
          arith,
          sum_below_add (λ i. pick (leb 2 (C i)) 1 0) (λ i. count i (small cs)) m,
          sum_below_const 1 m,
        )
      where
        each : (i : ℕ) → pick (leb 2 (C i)) 1 0 + count i (small cs) ≤ 1
        each i =
            elim (dec_lt (C i) 2) [
              | yes t ↦ rw (lt-leb 2 (C i) t) (omega (arith, keep_count (λ j. not (leb 2 (C j))) i cs, once i))
              | no t ↦ let b : 2 ≤ C i = omega arith in rw (le-leb 2 (C i) b) (omega (arith, small_count i b cs))
            ]
