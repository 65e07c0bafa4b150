-- The words after the rings are filled: each party's ring has its half-edges in its pairs' order. Assumes nothing.
use Prim.Native.Nat.{ℕ, ◌+◌, ◌*◌, ◌-◌, ◌≤◌, ◌<◌}
use mathlib.Core.Path.{◌≡◌, refl, sym, ◌∙◌, ap, subst}
use mathlib.Core.Bool.{Bool, true, false, not}
use mathlib.Core.List.{List, [], ◌∷◌, ◌++◌, map, map-append, append_assoc, append-nil}
use native.Mathlib.Omega.{arith}
use borrow.Author.Tests.{eq-eqb, ne_eqb}
use lib.Dec.{eqb}
use lib.ListN.{length}
use Rattle.words.specs.Basics.{All}
use Rattle.words.specs.Words.{word, put_word}
use Rattle.words.specs.Frames.{Keeps}
use Rattle.words.proofs.Sums.{all_append, all_map, all_both}
use Rattle.words.proofs.Frames.{here, away}
use Rattle.multigraph.specs.Multigraph.{Pair}
use Rattle.rings.specs.declared.Rings.{Rings}
use Rattle.rings.specs.Model.{Counted, copies_m, start_m, append_m, sift_all_m, noted_m, ring_end_m, ends_m, fill_m}
use Rattle.rings.specs.Bounds.{RingsEnd, FillsEnds, Fills}
use Rattle.euler.proofs.Places.{keep, keep_append, keep_all, descend, Falling}
use Rattle.rings.proofs.Chains.{Chain}
use Rattle.rings.proofs.Nodes.{edge, end, nodes}
use Rattle.euler.proofs.Odds.{Odd, odds, odds_below, odds_falling, odds_length, odds_all, odd_places}
use Rattle.rings.proofs.Bases.{Laid, P, Edge, edge_is, end_below, number_kept, end_kept, side_of}
use Rattle.rings.proofs.Asides.{Aside, same_lead}
use Rattle.rings.proofs.Ringed.{Ringed, ringed_same, ringed_more, ringed_appends, started}
use Rattle.rings.proofs.Sifting.{SiftDone, sift_done, sifts_on}
use Rattle.euler.proofs.Notes.{Noted, noted_same}
use Rattle.rings.proofs.Columns.{slot}

module _ {l : Rings} {N m k : ℕ} {s₀ : List ℕ} (g : Laid l N m k s₀) (flag : ℕ → ℕ) where
  abbrev C : ℕ → ℕ
  C i = copies_m l s₀ i

  abbrev Q : ℕ → Pair
  Q i = P g flag i

  abbrev Rung : (ℕ → List ℕ) → List ℕ → Type 0
  Rung R s = Ringed g R s

  -- ── the half-edges of one side ──

  -- the half-edges at v, on one side, of some entries
  abbrev part : Bool → ℕ → List ℕ → List ℕ
  part d v xs = map (edge d) (keep (λ i. eqb v (end Q d i)) xs)

  part_append : (d : Bool) (v : ℕ) (xs ys : List ℕ) → part d v (xs ++ ys) ≡ part d v xs ++ part d v ys
  part_append d v xs ys =
      ap (map (edge d)) (keep_append (λ i. eqb v (end Q d i)) xs ys)
      ∙ map-append (edge d) (keep (λ i. eqb v (end Q d i)) xs) (keep (λ i. eqb v (end Q d i)) ys)

  part_own : (d : Bool) (i : ℕ) → part d (end Q d i) (i ∷ []) ≡ edge d i ∷ []
  unfolding keep
  part_own d i = rw (eq-eqb (end Q d i) (end Q d i) refl)

  part_other : (d : Bool) (v i : ℕ) → (v ≡ end Q d i → ⊥) → part d v (i ∷ []) ≡ []
  unfolding keep
  part_other d v i n = rw (ne_eqb v (end Q d i) n)

  -- a half-edge of an older entry is not among them
  part_fresh : (d : Bool) (v i : ℕ) (xs : List ℕ) → All (λ (y : ℕ). i < y) xs → All (λ (y : ℕ). edge d i ≡ y → ⊥) (part d v xs)
  part_fresh d v i xs h =
      over d (keep (λ j. eqb v (end Q d j)) xs) (keep_all (λ y. i < y) (λ j. eqb v (end Q d j)) xs h)
    where
      over : (d : Bool) (ys : List ℕ) → All (λ (y : ℕ). i < y) ys → All (λ (y : ℕ). edge d i ≡ y → ⊥) (map (edge d) ys)
      over d [] a = tt
      over true (y ∷ ys) a = ((λ e. omega arith), over true ys a.1)
      over false (y ∷ ys) a = ((λ e. omega arith), over false ys a.1)

  -- ── one entry ──

  -- After the entries ys on one side: each ring has what it had before and then their half-edges, and the half-edges of the
  -- other side say that they lead there.
  record Side (d : Bool) (pre : ℕ → List ℕ) (ys s : List ℕ) : Type 0 where
    rung : Rung (λ v. pre v ++ part d v ys) s
    leads : All (λ (i : ℕ). (i < m) × (word s (l.b + 2 * edge (not d) i + 3) ≡ end Q d i)) ys

  -- what filling one side leaves
  record Beside (d : Bool) (s t : List ℕ) : Type 0 where
    marks : (i : ℕ) → i < k → word t (l.b + 8 * i + 2) ≡ word s (l.b + 8 * i + 2)
    leads : (i : ℕ) → i < k → word t (l.b + 2 * edge d i + 3) ≡ word s (l.b + 2 * edge d i + 3)
    high : (a : ℕ) → l.b + 10 * k ≤ a → word t a ≡ word s a

  -- the words after the entry i
  abbrev put_side : Bool → List ℕ → ℕ → List ℕ
  put_side d s i = append_m l (put_word s (l.b + 2 * edge (not d) i + 3) (end Q d i)) (end Q d i) (edge d i)

  -- where an entry says to whom its half-edge leads
  lead_is : (d : Bool) (i : ℕ) → l.b + 8 * i + 7 - 4 * side_of d ≡ l.b + 2 * edge (not d) i + 3
  lead_is true i = omega arith
  lead_is false i = omega arith

  edge_at : (d : Bool) (i : ℕ) → 4 * i + 2 * side_of d ≡ edge d i
  edge_at true i = omega arith
  edge_at false i = omega arith

  lead_low : (d : Bool) (i : ℕ) → i < k → l.b + 2 * edge d i + 3 < l.b + 8 * k
  lead_low true i b = omega arith
  lead_low false i b = omega arith

  lead_one : (d : Bool) (y i : ℕ) → l.b + 2 * edge d y + 3 ≡ l.b + 2 * edge d i + 3 → y ≡ i
  lead_one true y i e = omega arith
  lead_one false y i e = omega arith

  leads_apart : (d : Bool) (y i : ℕ) → l.b + 2 * edge d y + 3 ≡ l.b + 2 * edge (not d) i + 3 → ⊥
  leads_apart true y i e = omega arith
  leads_apart false y i e = omega arith

  lead_no_mark : (d : Bool) (y i : ℕ) → l.b + 8 * y + 2 ≡ l.b + 2 * edge d i + 3 → ⊥
  lead_no_mark true y i e = omega arith
  lead_no_mark false y i e = omega arith

  beside_put : (d : Bool) (s : List ℕ) (i : ℕ) → i < k → Aside g (put_word s (l.b + 2 * edge (not d) i + 3) (end Q d i)) (put_side d s i) → Beside d s (put_side d s i)
  beside_put d s i b a =
      let at : ℕ = l.b + 2 * edge (not d) i + 3 in
      record {
        marks = λ y c. a.marks y c ∙ away s at (l.b + 8 * y + 2) (end Q d i) (lead_no_mark (not d) y i);
        leads = λ y c. a.leads d y c ∙ away s at (l.b + 2 * edge d y + 3) (end Q d i) (leads_apart d y i);
        high = λ j c. a.high j c ∙ away s at j (end Q d i) (λ e. omega (arith, lead_low (not d) i b));
      }

  side_more :
      (d : Bool) (pre : ℕ → List ℕ) (ys : List ℕ) (i : ℕ) (s : List ℕ) → i < m → All (λ (y : ℕ). i < y) ys →
      ((v : ℕ) → All (λ (y : ℕ). edge d i ≡ y → ⊥) (pre v)) → Side d pre ys s →
      Side d pre (ys ++ (i ∷ [])) (put_side d s i) × Beside d s (put_side d s i)
  side_more d pre ys i s b newer fresh h =
      let ik : i < k = omega (arith, g.entries) in
      let v : ℕ = end Q d i in
      let at : ℕ = l.b + 2 * edge (not d) i + 3 in
      let t : List ℕ = put_word s at v in
      let len : length s ≡ length s₀ = h.rung.keeps.len in
      let vb : v < N = end_below g flag d i b in
      let R : ℕ → List ℕ = λ u. pre u ++ part d u ys in
      let T : ℕ → List ℕ = λ u. pre u ++ part d u (ys ++ (i ∷ [])) in
      let r : Rung T (put_side d s i) × Aside g t (put_side d s i) =
      ringed_more g R T t v (edge d i) vb (edge_is g d i b)
      (ringed_same g R s t (same_lead g s (not d) i v ik) h.rung)
      (λ u c. all_append (λ y. edge d i ≡ y → ⊥) (pre u) (part d u ys) (fresh u) (part_fresh d u i ys newer))
      (longer v (edge d i ∷ []) (part_own d i)) (λ u c n. longer u [] (part_other d u i n) ∙ append-nil (R u)) in
      let e : Beside d s (put_side d s i) = beside_put d s i ik r.1 in
      let own : word (put_side d s i) at ≡ v =
      r.1.leads (not d) i ik ∙ here s at v (omega (arith, lead_low (not d) i ik, g.room)) (omega (arith, g.few)) in
      let lead : (y : ℕ) → ((y < m) × (word s (l.b + 2 * edge (not d) y + 3) ≡ end Q d y)) × (i < y) → (y < m) × (word (put_side d s i) (l.b + 2 * edge (not d) y + 3) ≡ end Q d y) =
      λ y p. (
        p.0.0,
        r.1.leads (not d) y (omega (arith, p.0.0, g.entries))
            ∙ away s at (l.b + 2 * edge (not d) y + 3) v (λ q. omega (arith, lead_one (not d) y i q, p.1))
            ∙ p.0.1,
      ) in (
        record {
          rung = r.0;
          leads =
              all_append (λ y. (y < m) × (word (put_side d s i) (l.b + 2 * edge (not d) y + 3) ≡ end Q d y)) ys (i ∷ [])
              (all_map lead ys (all_both (λ y. (y < m) × (word s (l.b + 2 * edge (not d) y + 3) ≡ end Q d y)) (λ y. i < y) ys h.leads newer)) ((b, own), tt);
        },
        e,
      )
    where
      longer : (u : ℕ) (zs : List ℕ) → part d u (i ∷ []) ≡ zs → pre u ++ part d u (ys ++ (i ∷ [])) ≡ (pre u ++ part d u ys) ++ zs
      longer u zs e =
          ap (λ (xs : List ℕ). pre u ++ xs) (part_append d u ys (i ∷ []) ∙ ap (λ (xs : List ℕ). part d u ys ++ xs) e)
          ∙ sym (append_assoc (pre u) (part d u ys) zs)

  -- ── the entry noted at a place ──

  ring_end_is :
      (d : Bool) (s : List ℕ) (j i : ℕ) → noted_m l s j ≡ i → Keeps l.b s₀ s → i < m →
      ring_end_m l (side_of d) s j ≡ put_side d s i
  unfolding ring_end_m
  ring_end_is d s j i e kept b = rw (e, end_kept g flag s kept d i b, lead_is d i, edge_at d i)

  rings_end :
      (d : Bool) (R : ℕ → List ℕ) (s : List ℕ) (j i : ℕ) → noted_m l s j ≡ i → j < k → i < m → Rung R s →
      RingsEnd l (side_of d) s j
  rings_end d R s j i e c b h =
      let ik : i < k = omega (arith, g.entries) in
      let len : length s ≡ length s₀ = h.keeps.len in
      let v : ℕ = end Q d i in
      let at : ℕ = l.b + 2 * edge (not d) i + 3 in
      record {
        note = omega (arith, g.column, g.room);
        number = rw e (omega (arith, g.graph, g.room));
        end = rw (e, number_kept g s h.keeps i b) (table_low d i b len);
        words = rw e (omega (arith, g.room));
        appends =
            rw (e, end_kept g flag s h.keeps d i b, lead_is d i, edge_at d i)
            (ringed_appends g R (put_word s at v) v (edge d i) (end_below g flag d i b)
            (edge_is g d i b)
            (ringed_same g R s (put_word s at v) (same_lead g s (not d) i v ik) h));
      }
    where
      table_low : (d : Bool) (i : ℕ) → i < m → length s ≡ length s₀ → l.graph.ends + 2 * word s₀ (l.graph.g + 2 + 2 * i) + side_of d < length s
      table_low true i b e = omega (arith, g.table i b, g.room)
      table_low false i b e = omega (arith, g.table i b, g.room)

  -- ── all noted entries, from the newest down ──

  -- What filling one side comes to: every place touched is one, the rings have grown by the half-edges of xs, and the rest is
  -- as it was.
  record SideFilled (d : Bool) (pre : ℕ → List ℕ) (ys : List ℕ) (n : ℕ) (s : List ℕ) : Type 0 where
    fills : FillsEnds l (side_of d) n s
    side : Side d pre ys (ends_m l (side_of d) n s)
    beside : Beside d s (ends_m l (side_of d) n s)

  sides :
      (d : Bool) (pre : ℕ → List ℕ) → ((i v : ℕ) → All (λ (y : ℕ). edge d i ≡ y → ⊥) (pre v)) → (xs ys s : List ℕ) (b : ℕ) →
      b ≤ m → length xs ≤ m → All (λ (y : ℕ). b ≤ y) ys → All (λ (x : ℕ). x < b) xs → Falling xs → Noted (slot true l) s xs →
      Side d pre ys s → SideFilled d pre (ys ++ xs) (length xs) s
  unfolding ends_m
  sides d pre fresh [] ys s b bm few done left fall n h =
      record {
        fills = tt;
        side = subst (λ (zs : List ℕ). Side d pre zs s) (sym (append-nil ys)) h;
        beside = record { marks = λ i c. refl; leads = λ i c. refl; high = λ a c. refl };
      }
  sides d pre fresh (x ∷ xs) ys s b bm few done left fall n h =
      let j : ℕ = length xs in
      let xm : x < m = omega (arith, left.0) in
      let t : List ℕ = ring_end_m l (side_of d) s j in
      let e : t ≡ put_side d s x = ring_end_is d s j x n.0 h.rung.keeps xm in
      let q : Side d pre (ys ++ (x ∷ [])) t × Beside d s t =
      subst (λ (u : List ℕ). Side d pre (ys ++ (x ∷ [])) u × Beside d s u) (sym e)
      (side_more d pre ys x s xm (all_map (λ y c. omega (arith, left.0)) ys done) (fresh x) h) in
      let r : SideFilled d pre ((ys ++ (x ∷ [])) ++ xs) j t =
      sides d pre fresh xs (ys ++ (x ∷ [])) t x (omega arith) (omega arith)
      (all_append (λ y. x ≤ y) ys (x ∷ []) (all_map (λ y c. omega (arith, left.0)) ys done) (omega arith, tt)) fall.0 fall.1
      (noted_same (slot true l) s t xs (λ i c. q.1.high (l.col + 2 * i) (omega (arith, g.column))) n.1) q.0 in
      record {
        fills = (rings_end d (λ v. pre v ++ part d v ys) s j x n.0 (omega (arith, g.entries)) xm h.rung, r.fills);
        side = subst (λ (zs : List ℕ). Side d pre zs (ends_m l (side_of d) j t)) (append_assoc ys (x ∷ []) xs) r.side;
        beside =
            record {
              marks = λ i c. r.beside.marks i c ∙ q.1.marks i c;
              leads = λ i c. r.beside.leads i c ∙ q.1.leads i c;
              high = λ a c. r.beside.high a c ∙ q.1.high a c;
            };
      }

  side_none : (d : Bool) (pre : ℕ → List ℕ) (s : List ℕ) → Rung pre s → Side d pre [] s
  unfolding keep
  side_none d pre s h =
      record {
        rung =
            record {
              keeps = h.keeps;
              rings = λ v c.
                  subst (λ (ys : List ℕ). Chain l.b s (l.top + v) ys (l.top + v)) (sym (append-nil (pre v))) (h.rings v c);
              edges = λ v c. subst (All (Edge g)) (sym (append-nil (pre v))) (h.edges v c);
            };
        leads = tt;
      }

  -- ── both sides ──

  abbrev places : List ℕ
  places = odds C (descend m)

  abbrev begun_words : List ℕ
  begun_words = start_m l N s₀

  abbrev noted_words : Counted
  noted_words = sift_all_m l m begun_words

  begun_is : Rung (λ v. []) begun_words
  begun_is = let r = started g N (omega arith) in record { keeps = r.0; rings = r.1; edges = λ v b. tt }

  noted_is : SiftDone g m begun_words noted_words
  noted_is = sift_done g begun_words begun_is.keeps m (omega arith)

  -- one side of all odd entries
  all_places :
      (d : Bool) (pre : ℕ → List ℕ) → ((i v : ℕ) → All (λ (y : ℕ). edge d i ≡ y → ⊥) (pre v)) → (s : List ℕ) → Noted (slot true l) s places →
      Rung pre s → SideFilled d pre places (length places) s
  all_places d pre fresh s n h =
      sides d pre fresh places [] s m (omega arith) (odds_length C m) tt
      (odds_below C m) (odds_falling C m) n (side_none d pre s h)

  firsts_filled : SideFilled true (λ v. []) places (length places) noted_words.words
  firsts_filled =
      all_places true (λ v. []) (λ i v. tt) noted_words.words noted_is.noted
      (ringed_same g (λ v. []) begun_words noted_words.words noted_is.same begun_is)

  -- the words once the first ends are in their rings
  abbrev half_filled : List ℕ
  half_filled = ends_m l 0 (length places) noted_words.words

  seconds_filled : SideFilled false (λ v. part true v places) places (length places) half_filled
  seconds_filled =
      all_places false (λ v. part true v places) (λ i v. apart i (keep (λ j. eqb v (end Q true j)) places)) half_filled
      (noted_same (slot true l) noted_words.words half_filled places
      (λ j c. firsts_filled.beside.high (l.col + 2 * j) (omega (arith, g.column))) noted_is.noted)
      firsts_filled.side.rung
    where
      -- no half-edge of a second end is one of a first end
      apart : (i : ℕ) (ys : List ℕ) → All (λ (y : ℕ). edge false i ≡ y → ⊥) (map (edge true) ys)
      apart i [] = tt
      apart i (y ∷ ys) = ((λ e. omega arith), apart i ys)

  -- The rings are filled: each party's ring has its half-edges, and each half-edge says where it leads.
  pub record Filled (s : List ℕ) : Type 0 where
    pub rung : Rung (λ v. nodes Q v (odd_places m C)) s
    pub marks : (i : ℕ) → i < m → word s (l.b + 8 * i + 2) ≡ 0
    pub leads : (d : Bool) (i : ℕ) → Odd m C i → word s (l.b + 2 * edge d i + 3) ≡ end Q (not d) i

  both_filled : Filled (ends_m l 1 (length places) half_filled)
  unfolding odd_places
  both_filled =
      record {
        rung = seconds_filled.side.rung;
        marks = λ i b.
            let ik : i < k = omega (arith, g.entries) in
            seconds_filled.beside.marks i ik ∙ firsts_filled.beside.marks i ik ∙ noted_is.marks i b;
        leads = leads;
      }
    where
      leads : (d : Bool) (i : ℕ) → Odd m C i → word (ends_m l 1 (length places) half_filled) (l.b + 2 * edge d i + 3) ≡ end Q (not d) i
      leads true i o =
          (odds_all C (λ y. (y < m) × (word (ends_m l 1 (length places) half_filled) (l.b + 2 * edge true y + 3) ≡ end Q false y)) m
          seconds_filled.side.leads i o.below o.odd).1
      leads false i o =
          let ib : i < m = o.below in
          seconds_filled.beside.leads i (omega (arith, g.entries))
          ∙ (odds_all C (λ y. (y < m) × (word half_filled (l.b + 2 * edge false y + 3) ≡ end Q true y)) m
          firsts_filled.side.leads i ib o.odd).1

  -- so it is after filling
  pub filled : Filled (fill_m l m N s₀)
  unfolding fill_m
  filled =
      subst (λ (n : ℕ). Filled (ends_m l 1 n (ends_m l 0 n noted_words.words))) (sym noted_is.counted) both_filled

  -- every place that the filling touches is one
  pub fills_on : Fills l m N s₀
  fills_on =
      record {
        sifts = sifts_on g begun_words begun_is.keeps.len;
        firsts = subst (λ (n : ℕ). FillsEnds l 0 n noted_words.words) (sym noted_is.counted) firsts_filled.fills;
        seconds =
            subst (λ (n : ℕ). FillsEnds l 1 n (ends_m l 0 n noted_words.words)) (sym noted_is.counted)
            seconds_filled.fills;
      }
