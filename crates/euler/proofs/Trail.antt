-- Trails. A trail between two sides that closes has, at every party, as many ends at its places 0, 2, .. as at its places
-- 1, 3, .. . Assumes nothing.
use Prim.Native.Nat.{ℕ, ◌+◌, ◌-◌}
use mathlib.Core.Path.{◌≡◌, refl, sym, ◌∙◌, ap}
use mathlib.Core.List.{List, [], ◌∷◌, reverse, reverse_aux}
use native.Mathlib.Omega.{arith}
use Rattle.words.specs.Basics.{is, total}
use Rattle.multigraph.specs.Multigraph.{Pair}
use Rattle.euler.specs.Split.{every_other, evens, odds}
use Rattle.euler.proofs.Taken.{ends, Leads, leads_back, leads_ends}

-- the pairs lead, one after the other, from a to b
abbrev pub Trail : ℕ → ℕ → List Pair → Type 0
Trail a b [] = a ≡ b
Trail a b (p ∷ ps) = (z : ℕ) × Leads p a z × Trail z b ps

-- a trail walked backwards, in front of another
trail_onto : (a b c : ℕ) (ps qs : List Pair) → Trail a b ps → Trail a c qs → Trail b c (reverse_aux ps qs)
trail_onto a b c [] qs e k = rw e at k
trail_onto a b c (p ∷ ps) qs (z, lead, h) k = trail_onto z b c ps (p ∷ qs) h (a, leads_back lead, k)

-- a trail walked backwards
pub trail_reverse : (a b : ℕ) (ps : List Pair) → Trail a b ps → Trail b a (reverse ps)
trail_reverse a b ps h = trail_onto a b a ps [] h refl

-- how far a pair is from joining the two sides: 0 where its ends are on different sides
abbrev pub aslant : (ℕ → ℕ) → Pair → ℕ
aslant side p = (side p.first + side p.second - 1) + (1 - (side p.first + side p.second))

-- a pair that is not aslant leads to the other side
pub leads_across : (side : ℕ → ℕ) (p : Pair) (a b : ℕ) → Leads p a b → aslant side p ≡ 0 → side a + side b ≡ 1
leads_across side p a b h z = sym (h.same (λ x y. side x + side y) (λ x y. omega arith)) ∙ omega arith

-- The ends of v at places 0, 2, .. against those at places 1, 3, .. of a trail from a to b: a and b are on one side where
-- the trail is even, on two where it is odd.
record Alternates (side : ℕ → ℕ) (v a b : ℕ) (ps : List Pair) : Type 0 where
  even : side a ≡ side b → total (ends v) (evens ps) + is v b ≡ total (ends v) (odds ps) + is v a
  odd : side a + side b ≡ 1 → total (ends v) (evens ps) ≡ total (ends v) (odds ps) + is v a + is v b

alternates :
    (side : ℕ → ℕ) (v a b : ℕ) (ps : List Pair) → Trail a b ps → total (aslant side) ps ≡ 0 → Alternates side v a b ps
unfolding every_other total
alternates side v a b [] e z = record { even = λ h. rw e; odd = λ h. absurd (omega (arith, ap side e)) }
alternates side v a b (p ∷ ps) (c, lead, t) z =
    let sides : side a + side c ≡ 1 = leads_across side p a c lead (omega arith) in
    let at : ends v p ≡ is v a + is v c = leads_ends lead v in
    let later : Alternates side v c b ps = alternates side v c b ps t (omega arith) in
    record {
      even = λ h. omega (arith, later.odd (omega arith));
      odd = λ h. omega (arith, later.even (omega arith));
    }

-- A closed trail between two sides has, at every party, as many ends at places 0, 2, .. as at places 1, 3, ..
pub closed_balanced :
    (side : ℕ → ℕ) (a : ℕ) (ps : List Pair) → Trail a a ps → total (aslant side) ps ≡ 0 → (v : ℕ) →
    total (ends v) (evens ps) ≡ total (ends v) (odds ps)
closed_balanced side a ps t z v = omega (arith, (alternates side v a a ps t z).even refl)
