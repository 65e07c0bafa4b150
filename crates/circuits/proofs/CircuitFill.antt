-- At degree 2, sifting and filling on words: both halves get the pairs of 2 copies, and every party is told its half-edges.
-- Assumes nothing.
use Prim.Native.Nat.{ℕ, zero, suc, ◌+◌, ◌*◌, ◌%◌, ◌≤◌, ◌<◌}
use mathlib.Core.Path.{◌≡◌, refl, sym, ◌∙◌, ap, subst}
use mathlib.Core.Bool.{Bool}
use mathlib.Core.List.{List, [], ◌∷◌, map, reverse_aux}
use native.Mathlib.Omega.{arith}
use native.Mathlib.Decide.{ℕ_discrete, dec_lt}
use borrow.Author.Tests.{eq-eqb, ne_eqb, lt-ltb, le-ltb, le-leb, lt-leb}
use lib.Dec.{eqb, leb}
use lib.ListN.{length, length-map}
use lib.Seq.{get_or-set_same}
use Rattle.words.specs.Basics.{All}
use Rattle.words.specs.Words.{word, put_word}
use Rattle.words.specs.Frames.{Keeps}
use Rattle.words.proofs.Frames.{here, away, length_put, keeps_refl, keeps_then_put}
use Rattle.circuits.specs.declared.Two.{Two}
use Rattle.euler.specs.Entries.{many_m}
use Rattle.circuits.specs.Model.{ApartSoFar, push_one_m, two_start_m, two_sift_m, two_sift_all_m, half_edge_m, two_note_m, two_fill_m}
use Rattle.circuits.specs.Bounds.{TwoNotes, TwoFills}
use Rattle.euler.proofs.Places.{keep, keep_yes, keep_no, keep_all, keep_length, descend, descend_below, descend_length}
use Rattle.circuits.proofs.CircuitHeld.{Held, held_same, push_one_away, held_more}
use Rattle.euler.proofs.Notes.{Noted, noted_same}
use Rattle.circuits.proofs.ModelLaws.{push_one_length}

-- one entry sifted, by what is read
sift_is :
    (l : Two) (t : ApartSoFar) (j f h e c p q : ℕ) → l.first ≡ f → l.second ≡ h → word t.words (l.graph.g + 2 + 2 * j) ≡ e →
    word t.words (l.graph.g + 3 + 2 * j) ≡ c → t.sifted.even ≡ p → t.sifted.odd ≡ q →
    two_sift_m l t j
    ≡ record {
      words = put_word (push_one_m h (push_one_m f t.words p e) p e) (l.notes + q) e;
      sifted = record { even = p + many_m c; odd = q + c % 2 };
    }
unfolding two_sift_m
sift_is l t j f h e c p q ef eh ee ec ep eq = rw (ee, ec, ep, eq, ef, eh)

-- where the words lie, and what lies below them
pub record Ground (l : Two) (N m k u : ℕ) (s₀ : List ℕ) : Type 0 where
  pub first : l.first ≡ u
  pub second : l.second ≡ u + 2 * k
  pub parties : l.b ≡ u + 4 * k
  pub notes : l.notes ≡ u + 8 * k
  pub room : u + 16 * k ≤ length s₀
  pub small : length s₀ ≤ 4294967296
  pub few : N ≤ k
  pub entries : m < k
  pub graph : l.graph.g + 3 + 2 * m ≤ u
  pub table : (i : ℕ) → i < m → l.graph.ends + 2 * word s₀ (l.graph.g + 2 + 2 * i) + 1 < u
  pub ends : (i side : ℕ) → i < m → side < 2 → word s₀ (l.graph.ends + (2 * word s₀ (l.graph.g + 2 + 2 * i) + side)) < N

-- ── the pairs of some entries ──

-- of the first j entries of the graph at `graph`, the pair numbers of those whose copies pass a test, newest first
abbrev pub those_of : (ℕ → Bool) → List ℕ → ℕ → ℕ → List ℕ
those_of test s graph j =
    map (λ i. word s (graph + 2 + 2 * i)) (keep (λ i. test (word s (graph + 3 + 2 * i))) (descend j))

-- those of 2 copies or more
abbrev pub evens_of : List ℕ → ℕ → ℕ → List ℕ
evens_of s graph j = those_of (λ c. leb 2 c) s graph j

-- those of odd copies
abbrev pub odds_of : List ℕ → ℕ → ℕ → List ℕ
odds_of s graph j = those_of (λ c. eqb (c % 2) 1) s graph j

-- no more than entries
pub those_length : (test : ℕ → Bool) (s : List ℕ) (graph j : ℕ) → length (those_of test s graph j) ≤ j
those_length test s graph j =
    let q : ℕ → Bool = λ i. test (word s (graph + 3 + 2 * i)) in
    omega (
      arith,
      length-map (keep q (descend j)) (λ i. word s (graph + 2 + 2 * i)),
      keep_length q (descend j),
      descend_length j,
    )

-- a party's first word after its half-edges, the last first: that last one plus 1
abbrev pub last_plus_one : List ℕ → ℕ
last_plus_one [] = 0
last_plus_one (y ∷ ys) = y + 1

-- its second: their sum, cut to 32 bits
abbrev pub cut_sum : List ℕ → ℕ
cut_sum [] = 0
cut_sum (y ∷ ys) = (cut_sum ys + y) % 4294967296

module _ {l : Two} {N m k u : ℕ} {s₀ : List ℕ} (g : Ground l N m k u s₀) where
  -- an entry's pair number, its copies, and the party at a half-edge
  abbrev pub num : ℕ → ℕ
  num i = word s₀ (l.graph.g + 2 + 2 * i)

  abbrev pub C : ℕ → ℕ
  C i = word s₀ (l.graph.g + 3 + 2 * i)

  abbrev pub E : ℕ → ℕ
  E y = word s₀ (l.graph.ends + y)

  abbrev evens : ℕ → List ℕ
  evens j = evens_of s₀ l.graph.g j

  abbrev odds : ℕ → List ℕ
  odds j = odds_of s₀ l.graph.g j

  -- a pair number of the graph
  pub record Num (e : ℕ) : Type 0 where
    pub place : ℕ
    pub below : place < m
    pub is_there : e ≡ num place

  num_small : (j : ℕ) → j < m → num j < 4294967296
  num_small j b = omega (arith, g.table j b, g.room, g.small)

  -- each of them is one
  pub those_nums : (test : ℕ → Bool) (j : ℕ) → j ≤ m → All Num (those_of test s₀ l.graph.g j)
  those_nums test j b =
      let q : ℕ → Bool = λ i. test (C i) in
      go (keep q (descend j)) (keep_all (λ i. i < j) q (descend j) (descend_below j))
    where
      go : (xs : List ℕ) → All (λ (i : ℕ). i < j) xs → All Num (map num xs)
      go [] h = tt
      go (x ∷ xs) h = (record { place = x; below = omega (arith, h.0); is_there = refl }, go xs h.1)

  -- ── sifting ──

  -- after the first j entries, from the words s₁ on
  pub record SiftDone (s₁ : List ℕ) (j : ℕ) (t : ApartSoFar) : Type 0 where
    pub keeps : Keeps u s₀ t.words
    pub parties : (a : ℕ) → l.b ≤ a → a < l.notes → word t.words a ≡ word s₁ a
    pub first : Held t.words u (evens j)
    pub second : Held t.words (u + 2 * k) (evens j)
    pub noted : Noted (λ i. l.notes + i) t.words (odds j)
    pub even : t.sifted.even ≡ length (evens j)
    pub odd : t.sifted.odd ≡ length (odds j)

  sift_step : (s₁ : List ℕ) (j : ℕ) (t : ApartSoFar) → j < m → SiftDone s₁ j t → SiftDone s₁ (suc j) (two_sift_m l t j)
  unfolding two_sift_m keep descend
  sift_step s₁ j t b h =
      let s : List ℕ = t.words in
      let p : ℕ = length (evens j) in
      let q : ℕ = length (odds j) in
      let e : ℕ = num j in
      let en : word s (l.graph.g + 2 + 2 * j) ≡ e = h.keeps.same (l.graph.g + 2 + 2 * j) (omega (arith, g.graph)) in
      let ec : word s (l.graph.g + 3 + 2 * j) ≡ C j = h.keeps.same (l.graph.g + 3 + 2 * j) (omega (arith, g.graph)) in
      let ep : t.sifted.even ≡ p = h.even in
      let eq : t.sifted.odd ≡ q = h.odd in
      let pb : p ≤ j = those_length (λ c. leb 2 c) s₀ l.graph.g j in
      let qb : q ≤ j = those_length (λ c. eqb (c % 2) 1) s₀ l.graph.g j in
      let f : List ℕ = push_one_m u s p e in
      let f₂ : List ℕ = push_one_m (u + 2 * k) f p e in
      let w : List ℕ = put_word f₂ (l.notes + q) e in
      let lf : length f ≡ length s = push_one_length u s p e in
      let lf₂ : length f₂ ≡ length f = push_one_length (u + 2 * k) f p e in
      let lw : length w ≡ length s₀ = length_put f₂ (l.notes + q) e ∙ lf₂ ∙ lf ∙ h.keeps.len in
      let whole : two_sift_m l t j ≡ record { words = w; sifted = record { even = p + many_m (C j); odd = q + C j % 2 } } =
      sift_is l t j u (u + 2 * k) e (C j) p q g.first g.second en ec ep eq in
      let to_first : (a : ℕ) → a < u + 2 * k → word w a ≡ word f a =
      λ a lt. away f₂ (l.notes + q) a e (λ x. omega (arith, g.notes)) ∙ push_one_away (u + 2 * k) f p e a (λ x. omega arith) (λ x. omega arith) in
      let to_second : (a : ℕ) → u + 2 * k ≤ a → a < l.notes → word w a ≡ word f₂ a =
      λ a lo hi. away f₂ (l.notes + q) a e (λ x. omega arith) in
      let held₁ : Held w u (e ∷ evens j) =
      held_same f w u (e ∷ evens j) (λ a lo hi. to_first a (omega (arith, g.entries)))
      (held_more s u e (evens j) (omega (arith, h.keeps.len, g.room, g.entries)) (num_small j b) h.first) in
      let old₂ : Held f (u + 2 * k) (evens j) =
      held_same s f (u + 2 * k) (evens j)
      (λ a lo hi. push_one_away u s p e a (λ x. omega (arith, g.entries)) (λ x. omega (arith, g.entries))) h.second in
      let held₂ : Held w (u + 2 * k) (e ∷ evens j) =
      held_same f₂ w (u + 2 * k) (e ∷ evens j) (λ a lo hi. to_second a (omega arith) (omega (arith, g.notes, g.entries)))
      (held_more f (u + 2 * k) e (evens j) (omega (arith, lf, h.keeps.len, g.room, g.entries)) (num_small j b) old₂) in
      let far : (a : ℕ) → u + 4 * k ≤ a → word f₂ a ≡ word s a =
      λ a lo.
      push_one_away (u + 2 * k) f p e a (λ x. omega (arith, g.entries)) (λ x. omega (arith, g.entries))
      ∙ push_one_away u s p e a (λ x. omega (arith, g.entries)) (λ x. omega (arith, g.entries)) in
      let noted' : Noted (λ i. l.notes + i) w (e ∷ odds j) = (
        here f₂ (l.notes + q) e (omega (arith, lf₂, lf, h.keeps.len, g.notes, g.room, g.entries)) (num_small j b),
        noted_same (λ i. l.notes + i) s w (odds j)
            (λ i b. away f₂ (l.notes + q) (l.notes + i) e (λ x. omega arith) ∙ far (l.notes + i) (omega (arith, g.notes))) h.noted,
      ) in
      let keeps' : Keeps u s₀ w =
      record {
        len = lw;
        same = λ a lt.
            to_first a (omega arith) ∙ push_one_away u s p e a (λ x. omega arith) (λ x. omega arith) ∙ h.keeps.same a lt;
      } in
      let parties' : (a : ℕ) → l.b ≤ a → a < l.notes → word w a ≡ word s₁ a =
      λ a lo hi. to_second a (omega (arith, g.parties)) hi ∙ far a (omega (arith, g.parties)) ∙ h.parties a lo hi in
      subst (SiftDone s₁ (suc j)) (sym whole)
      (record {
        keeps = keeps';
        parties = parties';
        first =
            elim (dec_lt (C j) 2) [
              | yes c ↦ rw (lt-leb 2 (C j) c) held₁.2
              | no c ↦ let c' : 2 ≤ C j = omega arith in rw (le-leb 2 (C j) c') held₁
            ];
        second =
            elim (dec_lt (C j) 2) [
              | yes c ↦ rw (lt-leb 2 (C j) c) held₂.2
              | no c ↦ let c' : 2 ≤ C j = omega arith in rw (le-leb 2 (C j) c') held₂
            ];
        noted =
            elim (ℕ_discrete (C j % 2) 1) [
              | yes c ↦ rw (eq-eqb (C j % 2) 1 c) noted'
              | no c ↦ rw (ne_eqb (C j % 2) 1 c) noted'.1
            ];
        even =
            elim (dec_lt (C j) 2) [
              | yes c ↦ rw (lt-leb 2 (C j) c, lt-ltb (C j) 2 c) (omega arith)
              | no c ↦ let c' : 2 ≤ C j = omega arith in rw (le-leb 2 (C j) c', le-ltb (C j) 2 c') (omega arith)
            ];
        odd =
            elim (ℕ_discrete (C j % 2) 1) [
              | yes c ↦ rw (eq-eqb (C j % 2) 1 c, c) (omega arith)
              | no c ↦ let z : C j % 2 ≡ 0 = omega arith in rw (ne_eqb (C j % 2) 1 c, z) (omega arith)
            ];
      })

  pub sift_done : (s₁ : List ℕ) → Keeps u s₀ s₁ → (j : ℕ) → j ≤ m → SiftDone s₁ j (two_sift_all_m l j s₁)
  unfolding two_sift_all_m keep descend
  sift_done s₁ kept zero b =
      record {
        keeps = kept;
        parties = λ a lo hi. refl;
        first = tt;
        second = tt;
        noted = tt;
        even = refl;
        odd = refl;
      }
  sift_done s₁ kept (suc j) b = sift_step s₁ j (two_sift_all_m l j s₁) (omega arith) (sift_done s₁ kept j (omega arith))

  -- ── the start ──

  -- no party below j has a half-edge
  pub record Started (j : ℕ) (s : List ℕ) : Type 0 where
    pub keeps : Keeps u s₀ s
    pub marks : (v : ℕ) → v < j → word s (l.b + 2 * v) ≡ 0
    pub sums : (v : ℕ) → v < j → word s (l.b + 2 * v + 1) ≡ 0

  pub started : (j : ℕ) → j ≤ N → Started j (two_start_m l j s₀)
  unfolding two_start_m
  started zero b =
      record { keeps = keeps_refl u s₀; marks = λ v c. absurd (omega arith); sums = λ v c. absurd (omega arith) }
  started (suc j) b =
      let h : Started j (two_start_m l j s₀) = started j (omega arith) in
      let s : List ℕ = two_start_m l j s₀ in
      let t : List ℕ = put_word s (l.b + 2 * j) 0 in
      let lt : length t ≡ length s = length_put s (l.b + 2 * j) 0 in
      record {
        keeps =
            keeps_then_put (l.b + 2 * j + 1) 0 (omega (arith, g.parties))
            (keeps_then_put (l.b + 2 * j) 0 (omega (arith, g.parties)) h.keeps);
        marks = λ v c.
            away t (l.b + 2 * j + 1) (l.b + 2 * v) 0 (λ x. omega arith)
            ∙ elim (ℕ_discrete v j) [
              | yes e ↦ rw e (here s (l.b + 2 * j) 0 (omega (arith, h.keeps.len, g.parties, g.room, g.few)) (omega arith))
              | no n ↦ away s (l.b + 2 * j) (l.b + 2 * v) 0 (λ x. n (omega arith)) ∙ h.marks v (omega arith)
            ];
        sums = λ v c.
            elim (ℕ_discrete v j) [
              | yes e ↦ rw e (here t (l.b + 2 * j + 1) 0 (omega (arith, lt, h.keeps.len, g.parties, g.room, g.few)) (omega arith))
              | no n ↦
                  away t (l.b + 2 * j + 1) (l.b + 2 * v + 1) 0 (λ x. n (omega arith))
                  ∙ away s (l.b + 2 * j) (l.b + 2 * v + 1) 0 (λ x. omega arith)
                  ∙ h.sums v (omega arith)
            ];
      }

  -- ── filling ──

  -- the half-edges of v among some
  abbrev pub at_party : ℕ → List ℕ → List ℕ
  at_party v ys = keep (λ y. eqb v (E y)) ys

  -- the words of v after the half-edges `done`, the last first
  abbrev pub mark_of : ℕ → List ℕ → ℕ
  mark_of v done = last_plus_one (at_party v done)

  abbrev pub sum_of : ℕ → List ℕ → ℕ
  sum_of v done = cut_sum (at_party v done)

  -- the words after the half-edges `done`, from the words s₂ on
  pub record Filled (s₂ done s : List ℕ) : Type 0 where
    pub len : length s ≡ length s₀
    pub low : (a : ℕ) → a < l.b → word s a ≡ word s₂ a
    pub high : (a : ℕ) → l.notes ≤ a → word s a ≡ word s₂ a
    pub marks : (v : ℕ) → v < N → word s (l.b + 2 * v) ≡ mark_of v done
    pub sums : (v : ℕ) → v < N → word s (l.b + 2 * v + 1) ≡ sum_of v done

  -- a half-edge that can be noted
  pub record Fine (y : ℕ) : Type 0 where
    pub table : l.graph.ends + y < u
    pub party : E y < N

  -- both half-edges of the graph's pairs can
  pub fine : (e side : ℕ) → side < 2 → Num e → Fine (2 * e + side)
  fine e side b i =
      let z : 2 * e + side ≡ 2 * num i.place + side = omega (arith, i.is_there) in
      record { table = omega (arith, g.table i.place i.below); party = rw z (g.ends i.place side i.below b) }

  note_is :
      (side : ℕ) (s : List ℕ) (j y v sum : ℕ) → half_edge_m l side s j ≡ y → word s (l.graph.ends + y) ≡ v →
      word s (l.b + 2 * v + 1) ≡ sum →
      two_note_m l side s j ≡ put_word (put_word s (l.b + 2 * v) (y + 1)) (l.b + 2 * v + 1) (sum + y)
  unfolding two_note_m
  note_is side s j y v sum ey ev es = rw (ey, ev, es)

  note_step :
      (s₂ done s : List ℕ) (side j e : ℕ) → Keeps u s₀ s₂ → word s₂ (l.notes + j) ≡ e → j < k → Fine (2 * e + side) →
      Filled s₂ done s → TwoNotes l side s j × Filled s₂ ((2 * e + side) ∷ done) (two_note_m l side s j)
  note_step s₂ done s side j e kept ne jk fine h =
      let y : ℕ = 2 * e + side in
      let v : ℕ = E y in
      let sum : ℕ = sum_of v done in
      let ey : half_edge_m l side s j ≡ y = ap (λ (x : ℕ). 2 * x + side) (h.high (l.notes + j) (omega arith) ∙ ne) in
      let ev : word s (l.graph.ends + y) ≡ v =
      h.low (l.graph.ends + y) (omega (arith, fine.table, g.parties)) ∙ kept.same (l.graph.ends + y) fine.table in
      let es : word s (l.b + 2 * v + 1) ≡ sum = h.sums v fine.party in
      let t : List ℕ = put_word s (l.b + 2 * v) (y + 1) in
      let w : List ℕ = put_word t (l.b + 2 * v + 1) (sum + y) in
      let lt : length t ≡ length s = length_put s (l.b + 2 * v) (y + 1) in
      let room : l.b + 2 * v + 1 < length s = omega (arith, h.len, g.parties, g.room, g.few, fine.party) in (
        record {
          note = omega (arith, h.len, g.notes, g.room);
          end = rw ey (omega (arith, fine.table, h.len, g.room));
          party = rw (ey, ev) room;
        },
        subst (Filled s₂ (y ∷ done)) (sym (note_is side s j y v sum ey ev es))
            (record {
              len = length_put t (l.b + 2 * v + 1) (sum + y) ∙ lt ∙ h.len;
              low = λ a b.
                  away t (l.b + 2 * v + 1) a (sum + y) (λ x. omega arith)
                  ∙ away s (l.b + 2 * v) a (y + 1) (λ x. omega arith)
                  ∙ h.low a b;
              high = λ a b.
                  away t (l.b + 2 * v + 1) a (sum + y) (λ x. omega (arith, g.notes, g.parties, g.few, fine.party))
                  ∙ away s (l.b + 2 * v) a (y + 1) (λ x. omega (arith, g.notes, g.parties, g.few, fine.party))
                  ∙ h.high a b;
              marks = λ x b.
                  away t (l.b + 2 * v + 1) (l.b + 2 * x) (sum + y) (λ z. omega arith)
                  ∙ elim (ℕ_discrete x v) [
                    | yes q ↦
                        ap (λ (z : ℕ). word t (l.b + 2 * z)) q
                        ∙ here s (l.b + 2 * v) (y + 1) (omega arith) (omega (arith, fine.table, g.room, g.small, g.entries))
                        ∙ ap last_plus_one (sym (keep_yes (λ z. eqb x (E z)) y done (eq-eqb x (E y) q)))
                    | no q ↦
                        away s (l.b + 2 * v) (l.b + 2 * x) (y + 1) (λ z. q (omega arith))
                        ∙ h.marks x b
                        ∙ ap last_plus_one (sym (keep_no (λ z. eqb x (E z)) y done (ne_eqb x (E y) q)))
                  ];
              sums = λ x b.
                  elim (ℕ_discrete x v) [
                    | yes q ↦
                        ap (λ (z : ℕ). word w (l.b + 2 * z + 1)) q
                        ∙ get_or-set_same t (l.b + 2 * v + 1) ((sum + y) % 4294967296) 0 (omega arith)
                        ∙ ap (λ (z : ℕ). (sum_of z done + y) % 4294967296) (sym q)
                        ∙ ap cut_sum (sym (keep_yes (λ z. eqb x (E z)) y done (eq-eqb x (E y) q)))
                    | no q ↦
                        away t (l.b + 2 * v + 1) (l.b + 2 * x + 1) (sum + y) (λ z. q (omega arith))
                        ∙ away s (l.b + 2 * v) (l.b + 2 * x + 1) (y + 1) (λ z. omega arith)
                        ∙ h.sums x b
                        ∙ ap cut_sum (sym (keep_no (λ z. eqb x (E z)) y done (ne_eqb x (E y) q)))
                  ];
            }),
      )

  -- all noted pairs on one side, from the last down
  pub fill_done :
      (s₂ : List ℕ) (side : ℕ) → Keeps u s₀ s₂ → (es : List ℕ) → All (λ (e : ℕ). Fine (2 * e + side)) es → Noted (λ i. l.notes + i) s₂ es →
      length es ≤ k → (done s : List ℕ) → Filled s₂ done s →
      TwoFills l side (length es) s
      × Filled s₂ (reverse_aux (map (λ e. 2 * e + side) es) done) (two_fill_m l side (length es) s)
  unfolding two_fill_m
  fill_done s₂ side kept [] fine n b done s h = (tt, h)
  fill_done s₂ side kept (e ∷ es) fine n b done s h =
      let one : TwoNotes l side s (length es) × Filled s₂ ((2 * e + side) ∷ done) (two_note_m l side s (length es)) =
      note_step s₂ done s side (length es) e kept n.0 (omega arith) fine.0 h in
      let rest : TwoFills l side (length es) (two_note_m l side s (length es)) × Filled s₂ (reverse_aux (map (λ e. 2 * e + side) es) ((2 * e + side) ∷ done)) (two_fill_m l side (length es) (two_note_m l side s (length es))) =
      fill_done s₂ side kept es fine.1 n.1 (omega arith) ((2 * e + side) ∷ done) (two_note_m l side s (length es)) one.1 in
      ((one.0, rest.0), rest.1)
