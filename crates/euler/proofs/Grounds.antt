-- What a graph in words that can be split says of its entries, place by place, and of its rest. Assumes nothing.
use Prim.Native.Nat.{ℕ, zero, suc, ◌+◌, ◌*◌, ◌%◌, ◌≤◌, ◌<◌}
use mathlib.Core.Path.{◌≡◌, refl, sym, ◌∙◌, ap}
use mathlib.Core.Bool.{Bool, true, false}
use mathlib.Core.List.{List, [], ◌∷◌, ◌++◌, map, reverse, reverse-append}
use mathlib.Core.Logic.{inl, inr, ⊎_elim}
use native.Mathlib.Omega.{arith}
use native.Mathlib.Decide.{ℕ_discrete, dec_lt}
use native.Mathlib.Numerals.{add-one}
use borrow.Author.Tests.{eq-eqb, ne_eqb}
use lib.Dec.{eqb}
use Rattle.words.specs.Basics.{pick, is, total, count, All}
use Rattle.words.specs.Words.{word}
use Rattle.words.proofs.Sums.{is_eq, is_ne, is_le, total_reverse, total_map, total_zero_all, total_cong_all, count_total, zero_count, all_map}
use Rattle.multigraph.specs.Multigraph.{Pair, pair, Graph, with_copies}
use Rattle.multigraph.specs.Regular.{weigh, names, degree, between, pairs_between, Apart, Across, Regular, SameEnds}
use Rattle.multigraph.specs.Stored.{entry, entries, graph_at}
use Rattle.multigraph.proofs.Ends.{same_ends_sym, between_same, between_cases, between_self}
use Rattle.multigraph.proofs.Spans.{not_joins}
use Rattle.euler.specs.Split.{rest}
use Rattle.euler.specs.Room.{Splits}
use Rattle.euler.proofs.Taken.{ends}
use Rattle.euler.proofs.Trail.{aslant}
use Rattle.euler.proofs.EulerLaws.{beyond, none_aslant}
use Rattle.euler.proofs.Places.{keep, descend, Falling}
use Rattle.euler.proofs.Odds.{EndsFit, odds, odds_below, odds_falling, odd_places}
use Rattle.euler.proofs.HalfLaws.{ApartAt, upto}
use Rattle.euler.proofs.StoredGraphs.{entries_snoc}
use Rattle.euler.proofs.SplitLaws.{rest_even}
use Rattle.euler.proofs.Dealing.{rest_append}

-- ── entries in words ──

module _ (s : List ℕ) (table graph : ℕ) where
  -- the entry at a place; its pair is flagged where its number is not below `pairs`
  abbrev at : ℕ → ℕ → Pair
  at pairs i = entry s table pairs graph i

  -- n entries from the place i on
  abbrev all_of : ℕ → ℕ → ℕ → Graph
  all_of pairs i n = entries s table pairs graph i n

  -- what all entries are, each is
  pub entries_all :
      (R : Pair → Type 0) (pairs i n : ℕ) → All R (all_of pairs i n) → (j : ℕ) → i ≤ j → j < i + n → R (at pairs j)
  unfolding entries
  entries_all R pairs i zero h j lo hi = absurd (omega arith)
  entries_all R pairs i (suc n) h j lo hi =
      elim (ℕ_discrete j i)
      [ yes e ↦ rw e h.0 | no q ↦ entries_all R pairs (i + 1) n h.1 j (omega arith) (omega arith) ]

  -- no entry weighs more than all
  pub entries_part : (f : Pair → ℕ) (pairs i n j : ℕ) → i ≤ j → j < i + n → f (at pairs j) ≤ total f (all_of pairs i n)
  unfolding entries total
  entries_part f pairs i zero j lo hi = absurd (omega arith)
  entries_part f pairs i (suc n) j lo hi =
      elim (ℕ_discrete j i) [
        | yes e ↦ rw e (omega arith)
        | no q ↦ omega (arith, entries_part f pairs (i + 1) n j (omega arith) (omega arith))
      ]

  -- two places have different ends
  entries_apart :
      (i n : ℕ) → Apart (all_of 0 i n) → (x y : ℕ) → i ≤ x → x < y → y < i + n →
      between (at 0 x).first (at 0 x).second (at 0 y).first (at 0 y).second ≡ 0
  unfolding entries pairs_between
  entries_apart i zero h x y a b c = absurd (omega arith)
  entries_apart i (suc n) h x y a b c =
      elim (ℕ_discrete x i) [
        | yes e ↦
            let p : Pair = at 0 i in
            rw e
            (entries_all (λ q. between p.first p.second q.first q.second ≡ 0) 0 (i + 1) n
            (total_zero_all (λ q. between p.first p.second q.first q.second) (all_of 0 (i + 1) n) h.0) y (omega arith)
            (omega arith))
        | no q ↦ entries_apart (i + 1) n h.1 x y (omega arith) b (omega arith)
      ]

  -- what doesn't ask for flags is the same for all
  pub flag_total :
      (f : Pair → ℕ) → ((a b c x y : ℕ) → f (pair a b c x) ≡ f (pair a b c y)) → (pairs i n : ℕ) →
      total f (all_of pairs i n) ≡ total f (all_of 0 i n)
  unfolding entries total
  flag_total f same pairs i zero = refl
  flag_total f same pairs i (suc n) =
      omega (
        arith,
        same (at 0 i).first (at 0 i).second (at 0 i).copies (at pairs i).bad (at 0 i).bad,
        flag_total f same pairs (i + 1) n,
      )

  flag_all :
      (Q : Pair → Type 0) → ((a b c x y : ℕ) → Q (pair a b c x) → Q (pair a b c y)) → (pairs i n : ℕ) → All Q (all_of 0 i n) →
      All Q (all_of pairs i n)
  unfolding entries
  flag_all Q same pairs i zero h = tt
  flag_all Q same pairs i (suc n) h = (
    same (at 0 i).first (at 0 i).second (at 0 i).copies (at 0 i).bad (at pairs i).bad h.0,
    flag_all Q same pairs (i + 1) n h.1,
  )

  module _ (pairs : ℕ) where
    pub entries_none : all_of pairs 0 0 ≡ []
    unfolding entries
    entries_none = refl

    -- one entry more, at the end
    pub entries_more : (n : ℕ) → all_of pairs 0 (suc n) ≡ all_of pairs 0 n ++ (at pairs n ∷ [])
    entries_more n =
        let e : 0 + n ≡ n = omega arith in
        ap (all_of pairs 0) (sym (add-one n))
        ∙ entries_snoc s table pairs graph 0 n
        ∙ ap (λ (i : ℕ). all_of pairs 0 n ++ (at pairs i ∷ [])) e

    -- as the halves' law has them
    pub upto_entries : (n : ℕ) → upto (at pairs) n ≡ all_of pairs 0 n
    unfolding upto
    upto_entries zero = sym entries_none
    upto_entries (suc n) =
        ap (λ (x : Graph). x ++ (at pairs n ∷ [])) (upto_entries n) ∙ sym (entries_more n)

    -- the rest, newest first, is the odd places
    pub rest_places :
        (n : ℕ) → reverse (rest (all_of pairs 0 n)) ≡ map (λ i. with_copies 1 (at pairs i)) (odds (λ i. (at pairs i).copies) (descend n))
    unfolding rest descend keep
    rest_places zero = ap (λ (x : Graph). reverse (rest x)) entries_none
    rest_places (suc n) =
        ap (λ (x : Graph). reverse (rest x)) (entries_more n)
        ∙ ap reverse (rest_append (all_of pairs 0 n) (at pairs n))
        ∙ reverse-append (rest (all_of pairs 0 n)) (rest (at pairs n ∷ []))
        ∙ elim (ℕ_discrete ((at pairs n).copies % 2) 1) [
          | yes o ↦ rw (eq-eqb ((at pairs n).copies % 2) 1 o) (ap (λ (x : Graph). with_copies 1 (at pairs n) ∷ x) (rest_places n))
          | no q ↦ rw (ne_eqb ((at pairs n).copies % 2) 1 q) (rest_places n)
        ]

-- what every pair of a graph is, whatever its copies, every pair of its rest is
rest_all : (Q : Pair → Type 0) → ((p : Pair) → Q p → Q (with_copies 1 p)) → (g : Graph) → All Q g → All Q (rest g)
unfolding rest
rest_all Q same [] h = tt
rest_all Q same (p ∷ g) h = go (eqb (p.copies % 2) 1) (rest_all Q same g h.1)
  where
    go : (b : Bool) → All Q (rest g) → All Q (pick b (with_copies 1 p ∷ rest g) (rest g))
    go true k = (same p h.0, k)
    go false k = k

-- every place of a falling list once
falling_once : (i : ℕ) (xs : List ℕ) → Falling xs → count i xs ≤ 1
unfolding count
falling_once i [] f = omega arith
falling_once i (x ∷ xs) f =
    elim (ℕ_discrete i x) [
      | yes e ↦ omega (arith, is_le i x, zero_count i xs (all_map (λ y b q. omega arith) xs f.0))
      | no n ↦ omega (arith, is_ne {u = i} {v = x} n, falling_once i xs f.1)
    ]

-- ── a graph that can be split ──

module _ {s : List ℕ} {u table graph n width : ℕ} (q : Splits s u table graph n width) where
  -- the parties, and the entries
  abbrev pub N : ℕ
  N = 2 * n

  abbrev pub m : ℕ
  m = word s (graph + 1)

  -- the words of a column
  abbrev pub k : ℕ
  k = n * (width + 1)

  -- the graph, with the pairs whose number is not below `pairs` flagged
  abbrev pub G : ℕ → Graph
  G pairs = entries s table pairs graph 0 m

  pub reg : Regular N q.side (2 * q.half) (G 0)
  unfolding graph_at
  reg = q.regular

  -- ── place by place ──

  across : (pairs : ℕ) → All (Across N q.side) (G pairs)
  across pairs =
      flag_all s table graph (Across N q.side)
      (λ a b c x y h. record { first_below = h.first_below; second_below = h.second_below; sides = h.sides }) pairs 0 m reg.across

  -- each entry joins the two sides
  pub across_at : (i : ℕ) → i < m → Across N q.side (entry s table 0 graph i)
  across_at i b = entries_all s table graph (Across N q.side) 0 0 m reg.across i (omega arith) (omega arith)

  abbrev F : ℕ → ℕ
  F i = (entry s table 0 graph i).first

  abbrev S : ℕ → ℕ
  S i = (entry s table 0 graph i).second

  -- the ends of two places are not the same
  not_same : (i j : ℕ) → i < m → j < m → (i ≡ j → ⊥) → SameEnds (F i) (S i) (F j) (S j) → ⊥
  not_same i j b c n h =
      elim (dec_lt i j) [
        | yes t ↦
            omega (arith, between_same (F i) (S i) (F j) (S j) h, entries_apart s table graph 0 m reg.apart i j (omega arith) t (omega arith))
        | no t ↦
            omega (arith, between_same (F j) (S j) (F i) (S i) (same_ends_sym h), entries_apart s table graph 0 m reg.apart j i (omega arith) (omega arith) (omega arith))
      ]

  pub apart_at : (pairs : ℕ) → ApartAt (λ i. entry s table pairs graph i) m
  apart_at pairs i j c b e n = not_joins (F i) (S i) (with_copies c (entry s table pairs graph j)) (not_same i j b e n)

  -- the ends of every entry are two parties
  pub ends_fit : EndsFit N m F S
  ends_fit =
      record {
        first_below = λ i b. (across_at i b).first_below;
        second_below = λ i b. (across_at i b).second_below;
        different = λ i b e. omega (arith, (across_at i b).sides, ap q.side e);
      }

  -- between two parties there is one pair
  pub few_pairs : N ≡ 2 → m ≤ 1
  few_pairs two =
      elim (dec_lt 1 m) [
        | yes b ↦
            let x = across_at 0 (omega arith) in
            let y = across_at 1 b in
            absurd (not_same 0 1 (omega arith) b (λ e. omega arith) (same (F 0) (S 0) (F 1) (S 1)
            (omega (arith, x.first_below)) (omega (arith, x.second_below)) (omega (arith, y.first_below)) (omega (arith, y.second_below))
            (ends_fit.different 0 (omega arith)) (ends_fit.different 1 b)))
        | no n ↦ omega arith
      ]
    where
      same :
          (a b c d : ℕ) → a < 2 → b < 2 → c < 2 → d < 2 → (a ≡ b → ⊥) → (c ≡ d → ⊥) → SameEnds a b c d
      same a b c d ab bb cb db p q =
          elim (ℕ_discrete c a) [ yes e ↦ inl (e, omega arith) | no n ↦ inr (omega arith, omega arith) ]

  -- ── the rest ──

  module _ (pairs : ℕ) where
    -- the pair of the rest at a place
    abbrev pub Q : ℕ → Pair
    Q i = with_copies 1 (entry s table pairs graph i)

    abbrev odd_ones : List ℕ
    odd_ones = odds (λ i. word s (graph + 3 + 2 * i)) (descend m)

    -- every party has the degree, whatever is flagged
    pub degree_is : (v : ℕ) → v < N → degree v (G pairs) ≡ 2 * q.half
    unfolding weigh
    degree_is v b =
        flag_total s table graph (λ p. p.copies * names v p.first p.second) (λ a b c x y. refl) pairs 0 m ∙ reg.even v b

    -- the rest joins the two sides
    pub rest_across : All (Across N q.side) (rest (G pairs))
    rest_across =
        rest_all (Across N q.side)
        (λ p h. record { first_below = h.first_below; second_below = h.second_below; sides = h.sides }) (G pairs) (across pairs)

    pub rest_slant : total (aslant q.side) (rest (G pairs)) ≡ 0
    rest_slant = none_aslant N q.side (rest (G pairs)) rest_across

    -- every party has an even number of ends in it
    pub rest_evens : (v : ℕ) → total (ends v) (rest (G pairs)) % 2 ≡ 0
    rest_evens v =
        elim (dec_lt v N) [
          | yes b ↦ rest_even v q.half (G pairs) (degree_is v b)
          | no b ↦ ap (λ (x : ℕ). x % 2) (beyond N q.side (rest (G pairs)) rest_across v b)
        ]

    -- newest first, it is the odd places
    pub rest_odd : reverse (rest (G pairs)) ≡ map Q (odd_places m (λ i. word s (graph + 3 + 2 * i)))
    unfolding odd_places
    rest_odd = rest_places s table graph pairs m

    -- sums over the rest are sums over the odd places
    rest_total : (f : Pair → ℕ) → total f (rest (G pairs)) ≡ total (λ i. f (Q i)) odd_ones
    rest_total f =
        sym (total_reverse f (rest (G pairs))) ∙ ap (total f) (rest_places s table graph pairs m) ∙ total_map f Q odd_ones

    -- a place counted by its ends
    count_by_ends : (i : ℕ) (xs : List ℕ) → i < m → All (λ (j : ℕ). j < m) xs → total (λ j. between (F i) (S i) (F j) (S j)) xs ≡ count i xs
    count_by_ends i xs b h =
        total_cong_all (λ j. between (F i) (S i) (F j) (S j)) (is i) xs (all_map one xs h) ∙ sym (count_total i xs)
      where
        one : (j : ℕ) → j < m → between (F i) (S i) (F j) (S j) ≡ is i j
        one j c =
            elim (ℕ_discrete i j) [
              | yes e ↦ rw e (between_self (F j) (S j) ∙ sym (is_eq {u = j} refl))
              | no n ↦
                  ⊎_elim (λ k. absurd (not_same i j b c n k.0)) (λ k. k.1 ∙ sym (is_ne n)) (between_cases (F i) (S i) (F j) (S j))
            ]

    -- Places whose pairs are no more than the rest's stand once each.
    pub places_once :
        (ws : List ℕ) → All (λ (j : ℕ). j < m) ws → ((f : Pair → ℕ) → total f (map Q ws) ≤ total f (rest (G pairs))) → (i : ℕ) →
        count i ws ≤ 1
    places_once ws h few i =
        let C : ℕ → ℕ = λ i. word s (graph + 3 + 2 * i) in
        elim (dec_lt i m) [
          | yes b ↦
              let f : Pair → ℕ = λ p. between (F i) (S i) p.first p.second in
              omega (
                arith,
                few f,
                total_map f Q ws,
                count_by_ends i ws b h,
                rest_total f,
                count_by_ends i odd_ones b (odds_below C m),
                falling_once i odd_ones (odds_falling C m),
              )
          | no n ↦ omega (arith, zero_count i ws (all_map (λ y b e. n (omega arith)) ws h))
        ]
