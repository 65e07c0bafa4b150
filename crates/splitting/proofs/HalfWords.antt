-- A half as it is written to its words. Assumes nothing.
use Prim.Native.Nat.{ℕ, zero, suc, ◌+◌, ◌*◌, ◌-◌, ◌/◌, ◌≤◌, ◌<◌}
use mathlib.Core.Path.{◌≡◌, refl, sym, ◌∙◌, ap, subst}
use mathlib.Core.Bool.{Bool, true, false, not}
use mathlib.Core.List.{List, [], ◌∷◌, ◌++◌, map, map-append, append_assoc, append-nil}
use native.Mathlib.Omega.{arith}
use native.Mathlib.Nat.{add-zero, add-suc}
use native.Mathlib.Decide.{dec_lt}
use lib.Dec.{eqb, leb}
use lib.ListN.{length, length-append, length-map}
use Rattle.words.specs.Basics.{pick, count, All}
use Rattle.words.specs.Words.{word, put_word}
use Rattle.words.proofs.Sums.{all_left, all_right, count_append}
use Rattle.words.proofs.Frames.{here, away, length_put}
use Rattle.multigraph.specs.Multigraph.{Pair, Graph}
use Rattle.multigraph.specs.Stored.{entry, graph_at}
use Rattle.rings.specs.declared.Rings.{Rings}
use Rattle.rings.specs.Model.{Counted, copies_m}
use Rattle.splitting.specs.Model.{more_m, entry_m, entries_m, single_m, singles_m, half_m}
use Rattle.euler.specs.Entries.{many_m, head_m}
use Rattle.splitting.specs.Bounds.{HalfFits}
use Rattle.euler.proofs.EntryLaws.{many_le, many_none, many_one}
use Rattle.euler.proofs.Places.{keep, keep_append}
use Rattle.euler.proofs.Puts.{away2}
use Rattle.rings.proofs.Columns.{mark_of}
use Rattle.euler.proofs.StoredGraphs.{Only, only_put, SameEntry, entries_same}
use Rattle.splitting.proofs.Pushes.{Ready, SoFar, nothing_yet, known, so_far_count, reads, put_next, passed, pushed}
use Rattle.euler.proofs.HalfLaws.{ApartAt, big, bigs, big_yes, big_no, bigs_length, bigs_where, small, one, small_one, small_none, half_length}
use Rattle.splitting.proofs.Parities.{dealt, dealt_all, dealt_count, more_dealt, picks, picks_dealt}

-- the count grows by at most 1
pub entry_count : (l : Rings) (h parity : ℕ) (t : Counted) (i : ℕ) → (entry_m l h parity t i).count ≤ t.count + 1
unfolding entry_m
entry_count l h parity t i = omega (arith, many_le (copies_m l t.words i))

module _ {l : Rings} {m k u h n : ℕ} (pairs parity : ℕ) {s₀ s ws : List ℕ} (g : Ready l m k u h n s₀ s ws) (p2 : parity < 2) (apart : ApartAt (λ i. entry s₀ l.graph.ends pairs l.graph.g i) m) where
  -- the graph's entries
  abbrev A : ℕ → Pair
  A i = entry s₀ l.graph.ends pairs l.graph.g i

  abbrev C : ℕ → ℕ
  C i = copies_m l s₀ i

  -- what the half holds
  abbrev Holding : Counted → Graph → Type 0
  Holding t x = SoFar pairs g t x

  -- ── entries of 2 copies or more ──

  -- what is dealt to an entry
  abbrev extra : ℕ → ℕ
  extra i = more_m (mark_of i ws) parity

  extra_le : (i : ℕ) → extra i ≤ 1
  extra_le i = go (eqb (mark_of i ws) (2 + parity))
    where
      go : (b : Bool) → pick b 1 0 ≤ 1
      go true = omega arith
      go false = omega arith

  entry_is :
      (i : ℕ) (t : Counted) (x : Graph) → Holding t x → i < m →
      entry_m l h parity t i ≡ record { words = put_next pairs g t i (C i / 2 + extra i); count = t.count + many_m (C i) }
  unfolding entry_m
  entry_is i t x f b =
      let c : copies_m l t.words i ≡ C i = reads pairs g t.words (l.graph.g + 3 + 2 * i) f.only (omega arith) in
      let num : word t.words (l.graph.g + 2 + 2 * i) ≡ word s₀ (l.graph.g + 2 + 2 * i) =
      reads pairs g t.words (l.graph.g + 2 + 2 * i) f.only (omega arith) in
      let mark : word t.words (l.b + 8 * i + 2) ≡ mark_of i ws =
      f.only.over (l.b + 8 * i + 2) (omega arith) ∙ g.marks i b in
      rw (num, c, mark)

  entry_pushed :
      (i : ℕ) (t : Counted) (x : Graph) → Holding t x → t.count ≤ i → i < m →
      Holding (entry_m l h parity t i) (x ++ big A i (extra i))
  entry_pushed i t x f few b =
      let c : ℕ = C i / 2 + extra i in
      let room : t.count + 2 ≤ k = omega (arith, g.less) in
      elim (dec_lt (C i) 2) [
        | yes z ↦
            let q : t.count + many_m (C i) ≡ t.count = omega (arith, many_none (C i) z) in
            rw (entry_is i t x f b, q, big_no A i (extra i) z, append-nil x) (passed pairs g t x i c f room)
        | no z ↦
            let two : 2 ≤ C i = omega arith in
            let q : t.count + many_m (C i) ≡ t.count + 1 = omega (arith, many_one (C i) two) in
            rw (entry_is i t x f b, q, big_yes A i (extra i) two)
            (pushed pairs g t x i c f b (omega (arith, extra_le i, g.fits i b)) room)
      ]

  entries_count : (i : ℕ) → (entries_m l h parity i s).count ≤ i
  unfolding entries_m
  entries_count zero = omega arith
  entries_count (suc i) = omega (arith, entries_count i, entry_count l h parity (entries_m l h parity i s) i)

  entries_so_far : (i : ℕ) → i ≤ m → Holding (entries_m l h parity i s) (bigs A extra i)
  unfolding entries_m bigs
  entries_so_far zero b = nothing_yet pairs g
  entries_so_far (suc i) b =
      entry_pushed i (entries_m l h parity i s) (bigs A extra i) (entries_so_far i (omega arith)) (entries_count i) (omega arith)

  -- ── places of one copy ──

  abbrev read : ℕ → List ℕ
  read j = picks l s parity j

  full : ℕ
  full = (n + 1 - parity) / 2

  -- what is read up to j is the front of all that is read
  read_front : (R : List ℕ → Type 0) → ((xs ys : List ℕ) → R (xs ++ ys) → R xs) → (d j : ℕ) → R (read (j + d)) → R (read j)
  unfolding picks
  read_front R cut zero j r = rw add-zero at r
  read_front R cut (suc d) j r =
      read_front R cut d j
      (cut (read (j + d)) (word s (l.col + 2 * (parity + 2 * (j + d)) + 1) ∷ []) (rw add-suc at r))

  read_all : (j : ℕ) → j ≤ full → All (λ (i : ℕ). i < m) (read j)
  unfolding full
  read_all j b =
      let e : j + (full - j) ≡ full = omega arith in
      let a : All (λ (i : ℕ). i < m) (read full) =
      rw (picks_dealt l s parity n p2, g.written) (dealt_all (λ i. i < m) parity ws g.places) in
      read_front (All (λ (i : ℕ). i < m)) (λ xs ys r. all_left (λ i. i < m) xs ys r) (full - j) j (rw e a)

  read_once : (j : ℕ) → j ≤ full → (i : ℕ) → count i (read j) ≤ 1
  unfolding full
  read_once j b i =
      let e : j + (full - j) ≡ full = omega arith in
      let a : count i (read full) ≤ 1 =
      rw (picks_dealt l s parity n p2, g.written) (omega (arith, dealt_count i parity ws, g.once i)) in
      read_front (λ xs. count i xs ≤ 1) (λ xs ys r. omega (arith, count_append i xs ys)) (full - j) j (rw e a)

  abbrev both_parts : ℕ → Graph
  both_parts j = bigs A extra m ++ map (one A) (small A (read j))

  abbrev stage : ℕ → Counted
  stage j = singles_m l h parity j (entries_m l h parity m s)

  small_last : (j i : ℕ) → small A (read j ++ (i ∷ [])) ≡ small A (read j) ++ small A (i ∷ [])
  small_last j i = keep_append (λ x. not (leb 2 (C x))) (read j) (i ∷ [])

  -- no half has more entries than the graph
  count_few : (j : ℕ) (t : Counted) → j ≤ full → Holding t (both_parts j) → t.count ≤ m
  count_few j t b f =
      omega (
        arith,
        so_far_count pairs g t (both_parts j) f,
        length-append (bigs A extra m) (map (one A) (small A (read j))),
        length-map (small A (read j)) (one A),
        bigs_length A extra m,
        half_length A m apart (read j) (read_all j b) (read_once j b),
      )

  -- both parts with the place i read next
  parts_more : (j i : ℕ) → C i < 2 → bigs A extra m ++ map (one A) (small A (read j ++ (i ∷ []))) ≡ both_parts j ++ (one A i ∷ [])
  parts_more j i z =
      let list : map (one A) (small A (read j ++ (i ∷ []))) ≡ map (one A) (small A (read j)) ++ (one A i ∷ []) =
      ap (map (one A)) (small_last j i ∙ ap (λ (x : List ℕ). small A (read j) ++ x) (small_one A i z))
      ∙ map-append (one A) (small A (read j)) (i ∷ []) in
      ap (λ (x : Graph). bigs A extra m ++ x) list
      ∙ sym (append_assoc (bigs A extra m) (map (one A) (small A (read j))) (one A i ∷ []))

  parts_same : (j i : ℕ) → 2 ≤ C i → bigs A extra m ++ map (one A) (small A (read j ++ (i ∷ []))) ≡ both_parts j
  parts_same j i two =
      ap (λ (x : List ℕ). bigs A extra m ++ map (one A) x)
      (small_last j i ∙ ap (λ (x : List ℕ). small A (read j) ++ x) (small_none A i two) ∙ append-nil (small A (read j)))

  single_is :
      (j i : ℕ) (t : Counted) (x : Graph) → Holding t x → word s (l.col + 2 * (parity + 2 * j) + 1) ≡ i → i < m →
      single_m l h t (parity + 2 * j) ≡ record { words = put_next pairs g t i 1; count = t.count + (1 - many_m (C i)) }
  unfolding single_m
  single_is j i t x f e b =
      let at : word t.words (l.col + 2 * (parity + 2 * j) + 1) ≡ i =
      f.only.over (l.col + 2 * (parity + 2 * j) + 1) (omega (arith, g.under, g.behind)) ∙ e in
      let c : copies_m l t.words i ≡ C i = reads pairs g t.words (l.graph.g + 3 + 2 * i) f.only (omega (arith, g.graph)) in
      let num : word t.words (l.graph.g + 2 + 2 * i) ≡ word s₀ (l.graph.g + 2 + 2 * i) =
      reads pairs g t.words (l.graph.g + 2 + 2 * i) f.only (omega (arith, g.graph)) in
      rw (at, num, c)

  single_pushed :
      (j i : ℕ) (t : Counted) → Holding t (both_parts j) → word s (l.col + 2 * (parity + 2 * j) + 1) ≡ i → i < m → t.count ≤ m →
      Holding (single_m l h t (parity + 2 * j)) (bigs A extra m ++ map (one A) (small A (read j ++ (i ∷ []))))
  single_pushed j i t f e b few =
      let room : t.count + 2 ≤ k = omega (arith, g.less) in
      elim (dec_lt (C i) 2) [
        | yes z ↦
            let q : t.count + (1 - many_m (C i)) ≡ t.count + 1 = omega (arith, many_none (C i) z) in
            rw (single_is j i t (both_parts j) f e b, q, parts_more j i z) (pushed pairs g t (both_parts j) i 1 f b (omega arith) room)
        | no z ↦
            let two : 2 ≤ C i = omega arith in
            let q : t.count + (1 - many_m (C i)) ≡ t.count = omega (arith, many_one (C i) two) in
            rw (single_is j i t (both_parts j) f e b, q, parts_same j i two) (passed pairs g t (both_parts j) i 1 f room)
      ]

  no_singles : both_parts 0 ≡ bigs A extra m
  unfolding picks keep
  no_singles = append-nil (bigs A extra m)

  read_more : (j : ℕ) → read (suc j) ≡ read j ++ (word s (l.col + 2 * (parity + 2 * j) + 1) ∷ [])
  unfolding picks
  read_more j = refl

  -- the entry that is read next
  read_below : (j : ℕ) → suc j ≤ full → word s (l.col + 2 * (parity + 2 * j) + 1) < m
  read_below j b =
      (all_right (λ i. i < m) (read j) (word s (l.col + 2 * (parity + 2 * j) + 1) ∷ []) (rw (read_more j) at (read_all (suc j) b))).0

  singles_so_far : (j : ℕ) → j ≤ full → Holding (stage j) (both_parts j)
  unfolding singles_m
  singles_so_far zero b = rw no_singles (entries_so_far m (omega arith))
  singles_so_far (suc j) b =
      let i : ℕ = word s (l.col + 2 * (parity + 2 * j) + 1) in
      let f : Holding (stage j) (both_parts j) = singles_so_far j (omega arith) in
      rw (read_more j) (single_pushed j i (stage j) f refl (read_below j b) (count_few j (stage j) (omega arith) f))

  -- ── the half ──

  -- A half as it stands in its words.
  pub record HalfDone (t : List ℕ) (x : Graph) : Type 0 where
    pub only : Only h (2 * k) s t
    pub graph : graph_at t l.graph.ends pairs h ≡ x
    pub header : word t h ≡ h
    pub count_le : word t (h + 1) ≤ m
    pub numbers :
        (j : ℕ) → j < word t (h + 1) → (i : ℕ) × (i < m) × (word t (h + 2 + 2 * j) ≡ word s₀ (l.graph.g + 2 + 2 * i))

  -- what it holds: the places of its parity dealt
  parts_are : both_parts full ≡ bigs A (λ i. count i (dealt parity ws)) m ++ map (one A) (small A (dealt parity ws))
  unfolding full
  parts_are =
      rw (picks_dealt l s parity n p2, g.written)
      (ap (λ (x : Graph). x ++ map (one A) (small A (dealt parity ws)))
      (bigs_where A m extra (λ i. count i (dealt parity ws)) (λ i b. more_dealt i parity ws p2 (g.once i))))

  -- the two words in front
  headed :
      (t : Counted) (x : Graph) → Holding t x → t.count ≤ m →
      HalfDone (head_m h t.words t.count) x
  unfolding graph_at
  headed t x f few =
      let w : List ℕ = t.words in
      let q : ℕ = t.count in
      let w₁ : List ℕ = put_word w h h in
      let w₂ : List ℕ = put_word w₁ (h + 1) q in
      let len : length w ≡ length s = f.only.len in
      let len₁ : length w₁ ≡ length w = length_put w h h in
      let cnt : word w₂ (h + 1) ≡ q = here w₁ (h + 1) q (omega arith) (omega arith) in
      let old : (j : ℕ) → 0 ≤ j → j < 0 + q → SameEntry l.graph.ends h j w w₂ =
      λ j lo hi.
      let kj : l.graph.ends + 2 * word w (h + 2 + 2 * j) + 1 < u = known pairs g t x f j (omega arith) in
      record {
        number = away2 w h h (h + 1) q (h + 2 + 2 * j) (λ z. omega arith) (λ z. omega arith);
        copies = away2 w h h (h + 1) q (h + 3 + 2 * j) (λ z. omega arith) (λ z. omega arith);
        first = away2 w h h (h + 1) q (l.graph.ends + 2 * word w (h + 2 + 2 * j)) (λ z. omega arith) (λ z. omega arith);
        second = away2 w h h (h + 1) q (l.graph.ends + 2 * word w (h + 2 + 2 * j) + 1) (λ z. omega arith) (λ z. omega arith);
      } in
      record {
        only =
            only_put h (2 * k) s w₁ (h + 1) q (only_put h (2 * k) s w h h f.only (omega arith) (omega arith)) (omega arith) (omega arith);
        graph = rw cnt (entries_same l.graph.ends pairs h 0 q w w₂ old ∙ f.is_held);
        header = away w₁ (h + 1) h q (λ z. omega arith) ∙ here w h h (omega arith) (omega arith);
        count_le = rw cnt few;
        numbers = λ j c.
            let y : j < q = rw cnt at c in
            let r : (i : ℕ) × (i < m) × (word w (h + 2 + 2 * j) ≡ word s₀ (l.graph.g + 2 + 2 * i)) = f.numbers j y in
            (r.0, r.1, (old j (omega arith) (omega arith)).number ∙ r.2);
      }

  pub half_done :
      HalfDone (half_m l h parity m n s)
      (bigs A (λ i. count i (dealt parity ws)) m ++ map (one A) (small A (dealt parity ws)))
  unfolding half_m full
  half_done =
      subst (HalfDone (half_m l h parity m n s)) parts_are (headed (stage full) (both_parts full) (singles_so_far full (omega arith))
      (count_few full (stage full) (omega arith) (singles_so_far full (omega arith))))

  -- every place that it touches is one
  pub half_fits : HalfFits l h parity m n s
  unfolding full
  half_fits =
      record {
        entries =
            record {
              graph = omega (arith, g.graph, g.above, g.under, g.inside);
              marks = g.marks_inside;
              places = omega (arith, g.less, g.under, g.inside);
            };
        singles =
            record {
              singles = λ j b.
                  let f : Holding (stage j) (both_parts j) = singles_so_far j (omega arith) in
                  let len : length (stage j).words ≡ length s = f.only.len in
                  let at : word (stage j).words (l.col + 2 * (parity + 2 * j) + 1) ≡ word s (l.col + 2 * (parity + 2 * j) + 1) =
                  f.only.over (l.col + 2 * (parity + 2 * j) + 1) (omega (arith, g.under, g.behind)) in
                  record {
                    written = omega (arith, g.column_inside);
                    graph = omega (arith, at, read_below j (omega arith), g.graph, g.above, g.under, g.inside);
                    place = omega (arith, count_few j (stage j) (omega arith) f, g.less, g.under, g.inside);
                  };
            };
      }
