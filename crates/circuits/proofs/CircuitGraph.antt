-- The graph in words and its halves, where no pair has more than 2 copies: the pairs of 2 copies go to both halves, the others
-- are the rest, and what is dealt to a half comes behind. Assumes nothing.
use Prim.Native.Nat.{ℕ, zero, suc, ◌+◌, ◌*◌, ◌/◌, ◌%◌, ◌≤◌, ◌<◌}
use mathlib.Core.Path.{◌≡◌, refl, sym, ◌∙◌, ap}
use mathlib.Core.Bool.{Bool, true, false}
use mathlib.Core.List.{List, [], ◌∷◌, ◌++◌, map, map-append, reverse, reverse-cons, append_assoc, append-nil}
use native.Mathlib.Omega.{arith}
use native.Mathlib.Decide.{dec_lt}
use borrow.Author.Tests.{ne_eqb, le-leb, lt-leb}
use lib.Dec.{eqb, leb}
use lib.ListN.{length}
use Rattle.words.specs.Basics.{pick, total, All}
use Rattle.words.specs.Words.{word}
use Rattle.words.specs.Frames.{Keeps}
use Rattle.words.proofs.Sums.{total_append, total_zero_all, all_map}
use Rattle.multigraph.specs.Multigraph.{Pair, pair, Graph, add_edge, with_copies}
use Rattle.multigraph.specs.Regular.{between}
use Rattle.multigraph.specs.Stored.{entry, entries}
use Rattle.euler.proofs.Grounds.{entries_more, upto_entries, rest_places}
use Rattle.multigraph.proofs.Ends.{between_same, between_self}
use Rattle.multigraph.proofs.Spans.{not_joins}
use Rattle.circuits.specs.declared.Two.{Two}
use Rattle.euler.specs.Split.{add_halves, rest, add_pairs}
use Rattle.circuits.proofs.CircuitEnds as Ends
use Rattle.circuits.proofs.CircuitFill as Fill
use Rattle.circuits.proofs.CircuitHeld.{Held}
use Rattle.circuits.proofs.CircuitFill.{Ground}
use Rattle.euler.proofs.HalfLaws as Halves
use Rattle.euler.proofs.HalfLaws.{add_new, ApartAt, bigs, big_yes, big_no}
use Rattle.euler.proofs.Places.{keep, descend}
use Rattle.euler.proofs.Odds.{odds}

-- ── adding behind ──

-- how a pair joins a and b
abbrev pub btw : ℕ → ℕ → Pair → ℕ
btw a b p = between a b p.first p.second

add_behind :
    (h : Graph) (a b n f : ℕ) → total (btw a b) h ≡ 0 → add_edge h a b n f ≡ h ++ (pair a b n f ∷ [])
add_behind h a b n f z =
    add_new h a b n f
    (all_map (λ p e. not_joins a b p (λ x. omega (arith, between_same a b p.first p.second x))) h (total_zero_all (btw a b) h z))

-- where no two pairs have the same ends, all come behind
pub add_pairs_behind :
    (h ps : Graph) → All (λ (p : Pair). p.copies ≡ 1) ps → ((a b : ℕ) → total (btw a b) h + total (btw a b) ps ≤ 1) →
    add_pairs h ps ≡ h ++ ps
unfolding add_pairs total
add_pairs_behind h [] c once = sym (append-nil h)
add_pairs_behind h (p ∷ ps) c once =
    let a : ℕ = p.first in
    let b : ℕ = p.second in
    let new : total (btw a b) h ≡ 0 = omega (arith, once a b, between_self a b) in
    let same : ◌≡◌ {A = Pair} (pair a b 1 p.bad) p = ap (λ (n : ℕ). pair a b n p.bad) (sym c.0) in
    ap (λ (x : Graph). add_pairs x ps) (add_behind h a b 1 p.bad new ∙ ap (λ (q : Pair). h ++ (q ∷ [])) same)
    ∙ add_pairs_behind (h ++ (p ∷ [])) ps c.1
    (λ x y. omega (arith, once x y, total_append (btw x y) h (p ∷ []), one x y))
    ∙ append_assoc h (p ∷ []) ps
  where
    one : (x y : ℕ) → total (btw x y) (p ∷ []) ≡ btw x y p
    one x y = omega arith

module _ {l : Two} {N m k u : ℕ} {s₀ : List ℕ} (g : Ground l N m k u s₀) (pairs : ℕ) where
  -- flagged where the number is not below `pairs`
  abbrev pub flag : ℕ → ℕ
  flag e = pick (leb pairs e) 1 0

  abbrev E : ℕ → ℕ
  E y = word s₀ (l.graph.ends + y)

  abbrev num : ℕ → ℕ
  num i = word s₀ (l.graph.g + 2 + 2 * i)

  abbrev C : ℕ → ℕ
  C i = word s₀ (l.graph.g + 3 + 2 * i)

  abbrev es : List ℕ
  es = Fill.odds_of s₀ l.graph.g m

  -- the pair number e of the rest
  abbrev pub pn : ℕ → Pair
  pn e = Ends.pn E flag es e

  -- the first j entries
  abbrev pub G : ℕ → Graph
  G j = entries s₀ l.graph.ends pairs l.graph.g 0 j

  abbrev at : ℕ → Pair
  at j = entry s₀ l.graph.ends pairs l.graph.g j

  one_copy : (j : ℕ) → with_copies 1 (at j) ≡ pn (num j)
  one_copy j =
      let e : l.graph.ends + 2 * num j + 1 ≡ l.graph.ends + (2 * num j + 1) = omega arith in
      ap (λ (x : ℕ). pair (word s₀ (l.graph.ends + 2 * num j)) (word s₀ x) 1 (flag (num j))) e

  -- ── the rest ──

  -- the rest, newest first, is the pairs of odd copies
  pub rest_are : (j : ℕ) → reverse (rest (G j)) ≡ map pn (Fill.odds_of s₀ l.graph.g j)
  rest_are j = rest_places s₀ l.graph.ends l.graph.g pairs j ∙ go (odds C (descend j))
    where
      go : (xs : List ℕ) → map (λ i. with_copies 1 (at i)) xs ≡ map pn (map num xs)
      go [] = refl
      go (x ∷ xs) = rw (one_copy x, go xs)

  -- ── both halves before the rest is dealt ──

  abbrev evens : ℕ → List ℕ
  evens j = Fill.evens_of s₀ l.graph.g j

  module _ (copies : (i : ℕ) → i < m → C i ≤ 2) where
    -- even and odd ones are no more than all, by any weight that doesn't ask for copies
    pub parts :
        (f : Pair → ℕ) → ((p : Pair) → f (with_copies 1 p) ≡ f p) → (j : ℕ) → j ≤ m →
        total (λ e. f (pn e)) (evens j) + total (λ e. f (pn e)) (Fill.odds_of s₀ l.graph.g j) ≤ total f (G j)
    unfolding keep descend total
    parts f same zero h = omega arith
    parts f same (suc j) h =
        let before : total (λ e. f (pn e)) (evens j) + total (λ e. f (pn e)) (Fill.odds_of s₀ l.graph.g j) ≤ total f (G j) =
        parts f same j (omega arith) in
        let more : total f (G (suc j)) ≡ total f (G j) + f (pn (num j)) =
        ap (total f) (entries_more s₀ l.graph.ends l.graph.g pairs j)
        ∙ total_append f (G j) (at j ∷ [])
        ∙ omega (arith, same (at j), ap f (one_copy j)) in
        elim (dec_lt (C j) 2) [
          | yes q ↦ rw (lt-leb 2 (C j) q) (odd (eqb (C j % 2) 1) before more)
          | no q ↦
              let t : 2 ≤ C j = omega arith in
              rw (le-leb 2 (C j) t, ne_eqb (C j % 2) 1 (λ e. omega (arith, copies j (omega arith)))) (omega arith)
        ]
      where
        odd :
            (q : Bool) →
            total (λ e. f (pn e)) (evens j) + total (λ e. f (pn e)) (Fill.odds_of s₀ l.graph.g j) ≤ total f (G j) →
            total f (G (suc j)) ≡ total f (G j) + f (pn (num j)) →
            total (λ e. f (pn e)) (evens j)
            + total (λ e. f (pn e)) (map num (pick q (j ∷ odds C (descend j)) (odds C (descend j))))
            ≤ total f (G (suc j))
        odd true x y = omega arith
        odd false x y = omega arith

    -- a half's big entries are the pairs of 2 copies
    bigs_are : (j : ℕ) → j ≤ m → bigs at (λ i. 0) j ≡ map pn (reverse (evens j))
    unfolding bigs keep descend
    bigs_are zero h = refl
    bigs_are (suc j) h =
        elim (dec_lt (C j) 2) [
          | yes q ↦ rw (big_no at j 0 q, lt-leb 2 (C j) q) (append-nil (bigs at (λ i. 0) j) ∙ bigs_are j (omega arith))
          | no q ↦
              let t : 2 ≤ C j = omega arith in
              let c : C j / 2 + 0 ≡ 1 = omega (arith, copies j (omega arith)) in
              rw (big_yes at j 0 t, le-leb 2 (C j) t, c, one_copy j, bigs_are j (omega arith))
              (sym (map-append pn (reverse (evens j)) (num j ∷ [])) ∙ ap (map pn) (sym (reverse-cons (num j) (evens j))))
        ]

    -- both halves begin with the pairs of 2 copies
    pub halves_are : ApartAt at m → add_halves [] (G m) ≡ map pn (reverse (evens m))
    halves_are apart =
        ap (add_halves []) (sym (upto_entries s₀ l.graph.ends l.graph.g pairs m))
        ∙ Halves.halves_are at m apart m (omega arith)
        ∙ bigs_are m (omega arith)

  -- ── what a half holds ──

  -- the words of a half that holds ds read as the graph of these pairs
  pub held_graph :
      (t : List ℕ) (h : ℕ) (ds : List ℕ) → Keeps u s₀ t → All (Fill.Num g) ds → Held t h ds →
      entries t l.graph.ends pairs h 0 (length ds) ≡ map pn (reverse ds)
  unfolding entries
  held_graph t h [] kept nums d = refl
  held_graph t h (e ∷ ds) kept nums d =
      let j : ℕ = length ds in
      let n : Fill.Num g e = nums.0 in
      let table : l.graph.ends + 2 * e + 1 < u = rw n.is_there (g.table n.place n.below) in
      let one : entry t l.graph.ends pairs h j ≡ pn e =
      rw (d.0, d.1)
      (ap (λ (x : ℕ). pair x (word t (l.graph.ends + 2 * e + 1)) 1 (flag e)) (kept.same (l.graph.ends + 2 * e) (omega arith))
      ∙ ap (λ (x : ℕ). pair (E (2 * e)) x 1 (flag e)) (kept.same (l.graph.ends + 2 * e + 1) table ∙ ap (word s₀) (omega arith))) in
      entries_more t l.graph.ends h pairs j
      ∙ rw (one, held_graph t h ds kept nums.1 d.2) (sym (ap (map pn) (reverse-cons e ds) ∙ map-append pn (reverse ds) (e ∷ [])))
