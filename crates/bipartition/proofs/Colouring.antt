-- The colouring that the search makes: each party below P is coloured at most once, its colour stays once it has one, and the
-- two sides read off the colouring hold each coloured party once, in its own colour's list. Assumes nothing.
use Prim.Native.Nat.{ℕ, ◌+◌, ◌≤◌, ◌<◌}
use mathlib.Core.Path.{◌≡◌, refl, sym, ◌∙◌, ap}
use mathlib.Core.List.{List, [], ◌∷◌, ◌++◌}
use mathlib.Core.Logic.{◌⊎◌, inl, inr, ⊎_elim}
use native.Mathlib.Omega.{arith}
use native.Mathlib.Decide.{ℕ_discrete}
use borrow.Author.Tests.{eq-eqb, ne_eqb}
use lib.ListN.{length, length-append}
use Rattle.words.specs.Basics.{is, count, All, sum_below}
use Rattle.words.proofs.Sums.{is_eq, is_ne, count_append, all_append, all_map, sum_below_add, sum_below_le, sum_below_const, sum_below_cong, sum_below_count}
use Rattle.bipartition.specs.TwoColor.{ColouredParty, Colouring, colour_of, side}

-- ── the colour after one more party is coloured ──

pub colour_new : (m : ColouredParty) (cs : Colouring) (u : ℕ) → u ≡ m.party → colour_of u (m ∷ cs) ≡ m.colour
unfolding colour_of
colour_new m cs u e = rw (eq-eqb u m.party e)

pub colour_other : (m : ColouredParty) (cs : Colouring) (u : ℕ) → (u ≡ m.party → ⊥) → colour_of u (m ∷ cs) ≡ colour_of u cs
unfolding colour_of
colour_other m cs u n = rw (ne_eqb u m.party n)

-- a party that has a colour keeps it when another gets one
pub colour_stays : (m : ColouredParty) (cs : Colouring) (u : ℕ) → colour_of m.party cs ≡ 2 → colour_of u cs ≤ 1 → colour_of u (m ∷ cs) ≡ colour_of u cs
colour_stays m cs u free h = colour_other m cs u (λ e. omega (arith, ap (λ (x : ℕ). colour_of x cs) e))

pub still_coloured : (m : ColouredParty) (cs : Colouring) (u : ℕ) → colour_of m.party cs ≡ 2 → colour_of u cs ≤ 1 → colour_of u (m ∷ cs) ≤ 1
still_coloured m cs u free h = omega (arith, colour_stays m cs u free h)

-- at first nobody has a colour
pub nobody_coloured : (v : ℕ) → colour_of v [] ≤ 1 → ⊥
unfolding colour_of
nobody_coloured v h = omega arith

-- ── each party once ──

-- each party is below P, has colour 0 or 1, and had none before
abbrev pub EachOnce : ℕ → Colouring → Type 0
EachOnce P [] = Unit {0}
EachOnce P (m ∷ cs) = (m.party < P) × (m.colour ≤ 1) × (colour_of m.party cs ≡ 2) × EachOnce P cs

-- ── the sides read off the colouring ──

pub side_same : (c : ℕ) (m : ColouredParty) (cs : Colouring) → c ≡ m.colour → side c (m ∷ cs) ≡ side c cs ++ (m.party ∷ [])
unfolding side
side_same c m cs e = rw (eq-eqb c m.colour e)

pub side_other : (c : ℕ) (m : ColouredParty) (cs : Colouring) → (c ≡ m.colour → ⊥) → side c (m ∷ cs) ≡ side c cs
unfolding side
side_other c m cs n = rw (ne_eqb c m.colour n)

-- what adds up over a list adds up over the two sides, a party at a time
sides_more : (f : List ℕ → ℕ) → ((l : List ℕ) (v : ℕ) → f (l ++ (v ∷ [])) ≡ f l + f (v ∷ [])) → (m : ColouredParty) (cs : Colouring) → m.colour ≤ 1 → f (side 0 (m ∷ cs)) + f (side 1 (m ∷ cs)) ≡ f (m.party ∷ []) + (f (side 0 cs) + f (side 1 cs))
sides_more f adds m cs h =
    elim (ℕ_discrete m.colour 0) [
      | yes e ↦ rw (side_same 0 m cs (sym e), side_other 1 m cs (omega arith)) (omega (arith, adds (side 0 cs) m.party))
      | no n ↦ rw (side_other 0 m cs (omega arith), side_same 1 m cs (omega arith)) (omega (arith, adds (side 1 cs) m.party))
    ]

-- how often a party stands on the two sides
abbrev pub stands : ℕ → Colouring → ℕ
stands v cs = count v (side 0 cs) + count v (side 1 cs)

stands_more : (v : ℕ) (m : ColouredParty) (cs : Colouring) → m.colour ≤ 1 → stands v (m ∷ cs) ≡ is v m.party + stands v cs
unfolding count
stands_more v m cs h = omega (arith, sides_more (count v) (λ l u. count_append v l (u ∷ [])) m cs h)

-- the sides together are as long as the colouring
pub sides_length : (P : ℕ) (cs : Colouring) → EachOnce P cs → length (side 0 cs) + length (side 1 cs) ≡ length cs
unfolding side
sides_length P [] h = refl
sides_length P (m ∷ cs) h = omega (arith, sides_more length (λ l u. length-append l (u ∷ [])) m cs h.1, sides_length P cs h.3)

nobody_stands : (v : ℕ) → (colour_of v [] ≡ 2) × (stands v [] ≡ 0)
unfolding colour_of side count
nobody_stands v = (refl, refl)

-- A party has a colour, 0 or 1, and stands once; or has none and stands nowhere.
abbrev pub OnceOrNot : ℕ → Colouring → Type 0
OnceOrNot v cs = ((colour_of v cs ≤ 1) × (stands v cs ≡ 1)) ⊎ ((colour_of v cs ≡ 2) × (stands v cs ≡ 0))

pub stands_once : (P : ℕ) (cs : Colouring) → EachOnce P cs → (v : ℕ) → OnceOrNot v cs
stands_once P [] h v = inr (nobody_stands v)
stands_once P (m ∷ cs) h v = go (stands_once P cs h.3 v) (ℕ_discrete v m.party)
  where
    go : OnceOrNot v cs → Dec (v ≡ m.party) → OnceOrNot v (m ∷ cs)
    go (inl k) (yes e) = absurd (omega (arith, ap (λ (x : ℕ). colour_of x cs) e))
    go (inr k) (yes e) = inl (omega (arith, colour_new m cs v e, h.1), omega (arith, stands_more v m cs h.1, is_eq e))
    go (inl k) (no n) = inl (omega (arith, colour_other m cs v n), omega (arith, stands_more v m cs h.1, is_ne n))
    go (inr k) (no n) = inr (omega (arith, colour_other m cs v n), omega (arith, stands_more v m cs h.1, is_ne n))

pub coloured_stands : (P : ℕ) (cs : Colouring) → EachOnce P cs → (v : ℕ) → colour_of v cs ≤ 1 → stands v cs ≡ 1
coloured_stands P cs h v c = ⊎_elim (λ k. k.1) (λ k. absurd (omega arith)) (stands_once P cs h v)

pub colour_le : (P : ℕ) (cs : Colouring) → EachOnce P cs → (v : ℕ) → colour_of v cs ≤ 2
colour_le P cs h v = ⊎_elim (λ k. omega arith) (λ k. omega arith) (stands_once P cs h v)

-- the members of a side are parties below P, and have its colour
pub side_members : (P c : ℕ) → c ≤ 1 → (cs : Colouring) → EachOnce P cs → All (λ v. (v < P) × (colour_of v cs ≡ c)) (side c cs)
unfolding side
side_members P c two [] h = tt
side_members P c two (m ∷ cs) h =
    let older : All (λ v. (v < P) × (colour_of v (m ∷ cs) ≡ c)) (side c cs) =
    all_map (λ v k. (k.0, colour_stays m cs v h.2 (omega arith) ∙ k.1)) (side c cs) (side_members P c two cs h.3) in
    elim (ℕ_discrete c m.colour) [
      | yes e ↦
          rw (side_same c m cs e)
          (all_append _ (side c cs) (m.party ∷ []) older ((h.0, colour_new m cs m.party refl ∙ sym e), tt))
      | no n ↦ rw (side_other c m cs n) older
    ]

module _ (P : ℕ) (cs : Colouring) (h : EachOnce P cs) where
  side_below : (c : ℕ) → c ≤ 1 → All (λ v. v < P) (side c cs)
  side_below c two = all_map (λ v k. k.0) (side c cs) (side_members P c two cs h)

  -- the parties below P, each as often as it stands, are the members of the two sides
  sum_stands : sum_below (λ v. stands v cs) P ≡ length cs
  sum_stands =
      sum_below_add (λ v. count v (side 0 cs)) (λ v. count v (side 1 cs)) P
      ∙ omega (arith, sum_below_count P (side 0 cs) (side_below 0 (omega arith)), sum_below_count P (side 1 cs) (side_below 1 (omega arith)), sides_length P cs h)

  -- no more coloured parties than parties
  pub coloured_le : length cs ≤ P
  coloured_le = omega (arith, sum_stands, sum_below_le {f = λ v. stands v cs} {g = λ v. 1} P (λ v k. at v), sum_below_const 1 P)
    where
      at : (v : ℕ) → stands v cs ≤ 1
      at v = ⊎_elim (λ k. omega arith) (λ k. omega arith) (stands_once P cs h v)

  -- and as many, where every party has a colour
  pub coloured_all : ((v : ℕ) → v < P → colour_of v cs ≤ 1) → length cs ≡ P
  coloured_all full =
      sym sum_stands
      ∙ sum_below_cong P (λ v k. coloured_stands P cs h v (full v k))
      ∙ omega (arith, sum_below_const 1 P)
