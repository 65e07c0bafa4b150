-- At degree 2, half-edges by number: the half-edge 2·e stands at the first end of the pair number e, and 2·e + 1 at its
-- second end. In a list of pairs in which every party has two ends or none, these form circuits. Assumes nothing.
use Prim.Native.Nat.{ℕ, ◌+◌, ◌*◌, ◌/◌, ◌%◌, ◌≤◌, ◌<◌}
use mathlib.Core.Path.{◌≡◌, refl, sym, ◌∙◌, ap}
use mathlib.Core.Bool.{Bool, true, false}
use mathlib.Core.List.{List, [], ◌∷◌, ◌++◌, map, reverse}
use mathlib.Core.Logic.{inl, inr, ⊎_elim}
use native.Mathlib.Omega.{arith}
use native.Mathlib.Decide.{ℕ_discrete}
use borrow.Author.Tests.{eq-eqb, ne_eqb}
use lib.Dec.{eqb}
use lib.ListN.{length}
use Rattle.words.specs.Basics.{pick, is, total, count, All}
use Rattle.words.specs.Sides.{mate}
use Rattle.words.proofs.Sums.{is_eq, is_ne, is_pos, is_cases, total_append, total_reverse, total_map, total_add, total_mul, total_const, total_cong, total_le_all, count_total, count_le, all_map}
use Rattle.multigraph.specs.Multigraph.{Pair, pair}
use Rattle.multigraph.specs.Regular.{between, pairs_between}
use Rattle.multigraph.proofs.Ends.{between_self}
use Rattle.euler.specs.Euler.{take_by, first_pair}
use Rattle.euler.proofs.Taken.{ends, Leads}
use Rattle.euler.proofs.Places.{keep, keep_append}
use Rattle.circuits.proofs.Leading.{lead, lead_cons, either_lead, or_lead}
use Rattle.circuits.proofs.CircuitTrails.{TwoEnded}

-- the first and the second of a list
abbrev pub one_th : List ℕ → ℕ
one_th [] = 0
one_th (x ∷ xs) = x

abbrev pub two_th : List ℕ → ℕ
two_th [] = 0
two_th (x ∷ xs) = one_th xs

-- a list of length 2
pub as_two : (xs : List ℕ) → length xs ≡ 2 → xs ≡ one_th xs ∷ two_th xs ∷ []
as_two [] e = absurd (omega arith)
as_two (x ∷ []) e = absurd (omega arith)
as_two (x ∷ y ∷ []) e = refl
as_two (x ∷ y ∷ z ∷ xs) e = absurd (omega arith)

-- the first of a list, if any
abbrev top : List Pair → List Pair
top [] = []
top (p ∷ ps) = p ∷ []

module _ (E flag : ℕ → ℕ) (es : List ℕ) where
  -- the pair number e of the rest
  abbrev pub pn : ℕ → Pair
  pn e = pair (E (2 * e)) (E (2 * e + 1)) 1 (flag e)

  -- the pair of a half-edge
  abbrev pub pr : ℕ → Pair
  pr y = pn (y / 2)

  -- the half-edges in their order: first ends, newest first, then second ends
  abbrev pub firsts : List ℕ
  firsts = map (λ e. 2 * e) es

  abbrev pub seconds : List ℕ
  seconds = map (λ e. 2 * e + 1) es

  abbrev at_v : ℕ → ℕ → Bool
  at_v v y = eqb v (E y)

  -- a party's own
  unfoldable pub own : ℕ → List ℕ
  own v = keep (at_v v) (firsts ++ seconds)

  -- the first of a party's two half-edges, and the last
  abbrev pub early : ℕ → ℕ
  early v = one_th (own v)

  abbrev pub late : ℕ → ℕ
  late v = two_th (own v)

  -- a half-edge of one of these pairs
  abbrev pub Half : ℕ → Type 0
  Half y = 0 < count (y / 2) es

  keep_total : (v : ℕ) (f : ℕ → ℕ) (xs : List ℕ) → total f (keep (at_v v) xs) ≡ total (λ y. is v (E y) * f y) xs
  unfolding keep total
  keep_total v f [] = refl
  keep_total v f (x ∷ xs) =
      elim (ℕ_discrete v (E x)) [
        | yes e ↦
            let one : is v (E x) ≡ 1 = is_eq e in
            rw (eq-eqb v (E x) e, one) (omega (arith, keep_total v f xs))
        | no n ↦
            let none : is v (E x) ≡ 0 = is_ne n in
            rw (ne_eqb v (E x) n, none) (omega (arith, keep_total v f xs))
      ]

  -- two products of one factor
  spread : (a b c : ℕ) → (a + b) * c ≡ a * c + b * c
  spread a b c = omega arith

  half_of : (e : ℕ) → 2 * e / 2 ≡ e
  half_of e = omega arith

  half_of' : (e : ℕ) → (2 * e + 1) / 2 ≡ e
  half_of' e = omega arith

  own_total : (v : ℕ) (f : Pair → ℕ) → total (λ y. f (pr y)) (own v) ≡ total (λ p. ends v p * f p) (map pn es)
  unfolding own
  own_total v f =
      keep_total v (λ y. f (pr y)) (firsts ++ seconds)
      ∙ total_append (λ y. is v (E y) * f (pr y)) firsts seconds
      ∙ omega (
        arith,
        total_map (λ y. is v (E y) * f (pr y)) (λ e. 2 * e) es,
        total_map (λ y. is v (E y) * f (pr y)) (λ e. 2 * e + 1) es,
        total_cong {f = λ e. is v (E (2 * e)) * f (pr (2 * e))} {g = λ e. is v (E (2 * e)) * f (pn e)} (λ e. rw half_of) es,
        total_cong {f = λ e. is v (E (2 * e + 1)) * f (pr (2 * e + 1))} {g = λ e. is v (E (2 * e + 1)) * f (pn e)} (λ e. rw half_of') es,
        total_map (λ p. ends v p * f p) pn es,
        total_cong {f = λ e. ends v (pn e) * f (pn e)} {g = λ e. is v (E (2 * e)) * f (pn e) + is v (E (2 * e + 1)) * f (pn e)} (λ e. spread (is v (E (2 * e))) (is v (E (2 * e + 1))) (f (pn e))) es,
        total_add (λ e. is v (E (2 * e)) * f (pn e)) (λ e. is v (E (2 * e + 1)) * f (pn e)) es,
      )

  -- ── members ──

  halves_is : (y x : ℕ) → is y (2 * x) + is y (2 * x + 1) ≡ is (y / 2) x
  halves_is y x =
      elim (ℕ_discrete (y / 2) x) [
        | yes e ↦
            elim (ℕ_discrete (y % 2) 0) [
              | yes p ↦ omega (arith, is_eq {u = y} {v = 2 * x} (omega arith), is_ne {u = y} {v = 2 * x + 1} (λ q. omega arith), is_eq e)
              | no p ↦ omega (arith, is_ne {u = y} {v = 2 * x} (λ q. omega arith), is_eq {u = y} {v = 2 * x + 1} (omega arith), is_eq e)
            ]
        | no n ↦
            omega (
              arith,
              is_ne {u = y} {v = 2 * x} (λ q. n (omega arith)),
              is_ne {u = y} {v = 2 * x + 1} (λ q. n (omega arith)),
              is_ne n,
            )
      ]

  count_halves : (y : ℕ) → total (is y) (firsts ++ seconds) ≡ count (y / 2) es
  count_halves y =
      total_append (is y) firsts seconds
      ∙ omega (
        arith,
        total_map (is y) (λ e. 2 * e) es,
        total_map (is y) (λ e. 2 * e + 1) es,
        total_add (λ e. is y (2 * e)) (λ e. is y (2 * e + 1)) es,
        total_cong (halves_is y) es,
        count_total (y / 2) es,
      )

  own_count : (v x : ℕ) → count x (own v) ≡ is v (E x) * count (x / 2) es
  unfolding own
  own_count v x =
      count_total x (keep (at_v v) (firsts ++ seconds))
      ∙ keep_total v (is x) (firsts ++ seconds)
      ∙ total_cong {f = λ z. is v (E z) * is x z} {g = λ z. is v (E x) * is x z} same (firsts ++ seconds)
      ∙ total_mul (is v (E x)) (is x) (firsts ++ seconds)
      ∙ ap (λ (k : ℕ). is v (E x) * k) (count_halves x)
    where
      same : (z : ℕ) → is v (E z) * is x z ≡ is v (E x) * is x z
      same z = ⊎_elim (λ c. ap (λ (k : ℕ). is v (E k) * is x z) (sym c.0)) (λ c. rw c.1 (omega arith)) (is_cases x z)

  -- a member of v's own stands at v
  own_is : (v x : ℕ) → 0 < count x (own v) → Half x × (E x ≡ v)
  own_is v x h =
      ⊎_elim
      (λ c. let e : count x (own v) ≡ 1 * count (x / 2) es = own_count v x ∙ rw c.1 in (omega arith, sym c.0))
      (λ c. let e : count x (own v) ≡ 0 * count (x / 2) es = own_count v x ∙ rw c.1 in absurd (omega arith))
      (is_cases v (E x))

  -- and each that stands there is one
  is_own : (x : ℕ) → Half x → 0 < count x (own (E x))
  is_own x h =
      let o : is (E x) (E x) ≡ 1 = is_eq refl in
      let e : count x (own (E x)) ≡ 1 * count (x / 2) es = own_count (E x) x ∙ rw o in
      omega arith

  -- ── the first of them ──

  -- on the side whose half-edge of a pair is `half` and whose end of it is `end`
  lead_by :
      (half : ℕ → ℕ) (end : Pair → ℕ) → ((e : ℕ) → half e / 2 ≡ e) → ((e : ℕ) → end (pn e) ≡ E (half e)) → (v : ℕ) (xs : List ℕ) →
      lead (take_by end v (map pn xs)) ≡ top (map pr (keep (at_v v) (map half xs)))
  unfolding take_by keep
  lead_by half end pair_of end_of_lem v [] = refl
  lead_by half end pair_of end_of_lem v (x ∷ xs) =
      lead_cons (pn x) (map pn xs) (eqb v (end (pn x))) (take_by end v (map pn xs))
      ∙ rw (end_of_lem x) (go (eqb v (E (half x))) (lead_by half end pair_of end_of_lem v xs))
    where
      later : List ℕ
      later = keep (at_v v) (map half xs)

      go :
          (b : Bool) → lead (take_by end v (map pn xs)) ≡ top (map pr later) →
          pick b (pn x ∷ []) (lead (take_by end v (map pn xs))) ≡ top (map pr (pick b (half x ∷ later) later))
      go true e = ap (λ (k : ℕ). pn k ∷ []) (sym (pair_of x))
      go false e = e

  top_append : (xs ys : List ℕ) → top (map pr (xs ++ ys)) ≡ either_lead (top (map pr xs)) (top (map pr ys))
  top_append [] ys = refl
  top_append (x ∷ xs) ys = refl

  lead_own : (v : ℕ) → lead (first_pair v (map pn es)) ≡ top (map pr (own v))
  unfolding first_pair own
  lead_own v =
      or_lead (take_by (λ p. p.first) v (map pn es)) (take_by (λ p. p.second) v (map pn es))
      ∙ rw (lead_by (λ e. 2 * e) (λ p. p.first) half_of (λ e. refl) v es, lead_by (λ e. 2 * e + 1) (λ p. p.second) half_of' (λ e. refl) v es)
      (sym
      (ap (λ (l : List ℕ). top (map pr l)) (keep_append (at_v v) firsts seconds)
      ∙ top_append (keep (at_v v) firsts) (keep (at_v v) seconds)))

  -- ── all of it ──

  leads_pair : (y : ℕ) → Leads (pr y) (E y) (E (mate y))
  leads_pair y =
      elim (ℕ_discrete (y % 2) 0) [
        | yes e ↦
            let a : 2 * (y / 2) ≡ y = omega arith in
            let b : 2 * (y / 2) + 1 ≡ mate y = omega arith in
            record { same = λ w s. ap (λ (z : ℕ). w (E z) (E (2 * (y / 2) + 1))) a ∙ ap (λ (z : ℕ). w (E y) (E z)) b }
        | no n ↦
            let a : 2 * (y / 2) ≡ mate y = omega arith in
            let b : 2 * (y / 2) + 1 ≡ y = omega arith in
            record {
              same = λ w s.
                  ap (λ (z : ℕ). w (E z) (E (2 * (y / 2) + 1))) a ∙ ap (λ (z : ℕ). w (E (mate y)) (E z)) b ∙ s (E (mate y)) (E y);
            }
      ]

  -- every party has two ends or none, no pair names a party twice, and no two pairs have the same ends
  pub record Twos (r : List Pair) : Type 0 where
    pub places : reverse r ≡ map pn es
    pub few : (v : ℕ) → total (ends v) r ≤ 2
    pub even : (v : ℕ) → total (ends v) r % 2 ≡ 0
    pub thin : (v : ℕ) → All (λ (p : Pair). ends v p ≤ 1) r
    pub once : (a b : ℕ) → pairs_between a b r ≤ 1

  module _ (r : List Pair) (t : Twos r) where
    places_total : (f : Pair → ℕ) → total f (map pn es) ≡ total f r
    places_total f = ap (total f) (sym t.places) ∙ total_reverse f r

    -- a party has as many half-edges as ends
    pub own_length : (v : ℕ) → length (own v) ≡ total (ends v) r
    own_length v =
        omega (
          arith,
          total_const 1 (own v),
          own_total v (λ p. 1),
          places_total (λ p. ends v p * 1),
          total_cong {f = λ p. ends v p * 1} {g = ends v} (λ p. omega arith) r,
        )

    -- two, where it has any
    pub own_two : (v : ℕ) → 0 < total (ends v) r → own v ≡ early v ∷ late v ∷ []
    own_two v s = as_two (own v) (omega (arith, own_length v, t.few v, t.even v))

    both_are : (v : ℕ) → 0 < total (ends v) r → (f : Pair → ℕ) → total (λ p. ends v p * f p) r ≡ f (pr (early v)) + f (pr (late v))
    unfolding total
    both_are v s f =
        omega (
          arith,
          places_total (λ p. ends v p * f p),
          own_total v f,
          ap (total (λ y. f (pr y))) (own_two v s),
        )

    some_there : (y : ℕ) → Half y → 0 < total (ends (E y)) r
    some_there y i = omega (arith, is_own y i, count_le y (own (E y)), own_length (E y))

    not_same : (v : ℕ) → 0 < total (ends v) r → (pr (early v) ≡ pr (late v) → ⊥)
    unfolding pairs_between
    not_same v s e =
        let a : ℕ = (pr (early v)).first in
        let b : ℕ = (pr (early v)).second in
        let f : Pair → ℕ = λ p. between a b p.first p.second in
        omega (
          arith,
          both_are v s f,
          ap f e,
          between_self a b,
          total_le_all (λ p. ends v p * f p) f r (all_map (λ p k. less (ends v p) (f p) k) r (t.thin v)),
          t.once a b,
        )
      where
        less : (x y : ℕ) → x ≤ 1 → x * y ≤ y
        less x y k =
            elim (ℕ_discrete x 0) [
              | yes z ↦ rw z (omega arith)
              | no n ↦ let one : x ≡ 1 = omega arith in rw one (omega arith)
            ]

    -- so the pairs form circuits
    pub two_ended : TwoEnded r mate E pr early late Half
    unfolding count
    two_ended =
        record {
          few = t.few;
          mate_half = λ x i. let e : mate x / 2 ≡ x / 2 = omega arith in rw e i;
          mate_mate = λ x i. omega arith;
          mate_pair = λ x i. let e : mate x / 2 ≡ x / 2 = omega arith in ap pn e;
          leads = λ x i. leads_pair x;
          one_of = λ x i.
              let c : 0 < is x (early (E x)) + is x (late (E x)) =
              omega (arith, is_own x i, ap (count x) (own_two (E x) (some_there x i))) in
              ⊎_elim (λ k. inl k.0) (λ k. inr (is_pos x (late (E x)) (omega arith))) (is_cases x (early (E x)));
          early_half = λ v s.
              own_is v (early v) (omega (arith, ap (count (early v)) (own_two v s), is_eq {u = early v} refl));
          late_half = λ v s.
              own_is v (late v) (omega (arith, ap (count (late v)) (own_two v s), is_eq {u = late v} refl));
          some = some_there;
          both = both_are;
          apart = not_same;
        }

    -- and the first pair of a party is that of its first half-edge
    pub first_is : (v : ℕ) → 0 < total (ends v) r → lead (first_pair v (reverse r)) ≡ pr (early v) ∷ []
    first_is v s =
        ap (λ (l : List Pair). lead (first_pair v l)) t.places
        ∙ lead_own v
        ∙ ap (λ (l : List ℕ). top (map pr l)) (own_two v s)
