-- Circuits, at degree 2. In a list of pairs in which every party has at most two ends, a trail that goes on from a half-edge
-- goes on in one way only: from the party to which it leads by that party's other half-edge. So a closed trail from a party
-- is its circuit. Assumes nothing.
use Prim.Native.Nat.{ℕ, zero, suc, ◌+◌, ◌*◌, ◌-◌, ◌%◌, ◌≤◌, ◌<◌}
use mathlib.Core.Path.{◌≡◌, refl, sym, ◌∙◌, ap, subst}
use mathlib.Core.List.{List, [], ◌∷◌, ◌++◌, map, append_assoc}
use mathlib.Core.Logic.{◌⊎◌, ⊎_elim}
use native.Mathlib.Omega.{arith}
use lib.ListN.{length}
use Rattle.words.specs.Basics.{is, total, iterate, All}
use Rattle.words.proofs.Sums.{is_eq, is_same, total_append}
use Rattle.words.proofs.Runs.{iterate_suc_out}
use Rattle.multigraph.specs.Multigraph.{Pair, pair}
use Rattle.euler.proofs.Taken.{ends, Leads, leads_ends}
use Rattle.euler.proofs.Trail.{Trail}

-- n things, each the step of the one before
unfoldable pub trace {ℓ} : {A : Type ℓ} → (A → A) → ℕ → A → List A
trace f zero x = []
trace f (suc n) x = x ∷ trace f n (f x)

-- pairs that no number tells apart are equal
pub pair_same : (p q : Pair) → ((f : Pair → ℕ) → f p ≡ f q) → p ≡ q
pair_same p q h =
    go p.first q.first p.second q.second p.copies q.copies p.bad q.bad (h (λ z. z.first))
    (h (λ z. z.second)) (h (λ z. z.copies)) (h (λ z. z.bad))
  where
    go :
        (a b c d e f g k : ℕ) → a ≡ b → c ≡ d → e ≡ f → g ≡ k →
        ◌≡◌ {A = Pair} (pair a c e g) (pair b d f k)
    go a b c d e f g k x y z w = rw (x, y, z, w)

-- pairs that don't name u
nothing_at : (u : ℕ) (f : Pair → ℕ) (ps : List Pair) → total (ends u) ps ≡ 0 → total (λ p. ends u p * f p) ps ≡ 0
unfolding total
nothing_at u f [] z = refl
nothing_at u f (p ∷ ps) z =
    let none : ends u p ≡ 0 = omega arith in rw none (omega (arith, nothing_at u f ps (omega arith)))

-- two pairs at u of a list in which u has at most two ends are all the pairs there
pub meet :
    (r : List Pair) (p q : Pair) (os : List Pair) (u : ℕ) → total (ends u) r ≤ 2 → 0 < ends u p → 0 < ends u q →
    ((f : Pair → ℕ) → f p + f q + total f os ≡ total f r) → (f : Pair → ℕ) →
    total (λ z. ends u z * f z) r ≡ f p + f q
meet r p q os u two a b whole f =
    let one_p : ends u p ≡ 1 = omega (arith, whole (ends u)) in
    let one_q : ends u q ≡ 1 = omega (arith, whole (ends u)) in
    let none : total (λ z. ends u z * f z) os ≡ 0 = nothing_at u f os (omega (arith, whole (ends u))) in
    let x : ends u p * f p ≡ f p = rw one_p (omega arith) in
    let y : ends u q * f q ≡ f q = rw one_q (omega arith) in
    omega (arith, whole (λ z. ends u z * f z), none, x, y)

-- Half-edges: at which party, of which pair, and which is the pair's other half-edge. A party of the pairs r has two, of which
-- `early` comes first in its order and `late` last.
module _ (r : List Pair) (mate at : ℕ → ℕ) (pr : ℕ → Pair) (early late : ℕ → ℕ) (Half : ℕ → Type 0) where
  -- the party to which a half-edge leads
  abbrev pub to : ℕ → ℕ
  to x = at (mate x)

  -- the half-edge that goes on from there
  unfoldable pub next : ℕ → ℕ
  next x = early (to x) + late (to x) - mate x

  -- What is known of these half-edges.
  pub record TwoEnded : Type 0 where
    pub few : (v : ℕ) → total (ends v) r ≤ 2
    pub mate_half : (x : ℕ) → Half x → Half (mate x)
    pub mate_mate : (x : ℕ) → Half x → mate (mate x) ≡ x
    pub mate_pair : (x : ℕ) → Half x → pr (mate x) ≡ pr x
    pub leads : (x : ℕ) → Half x → Leads (pr x) (at x) (to x)
    pub one_of : (x : ℕ) → Half x → (x ≡ early (at x)) ⊎ (x ≡ late (at x))
    pub early_half : (v : ℕ) → 0 < total (ends v) r → Half (early v) × (at (early v) ≡ v)
    pub late_half : (v : ℕ) → 0 < total (ends v) r → Half (late v) × (at (late v) ≡ v)
    pub some : (x : ℕ) → Half x → 0 < total (ends (at x)) r
    pub both :
        (v : ℕ) → 0 < total (ends v) r → (f : Pair → ℕ) →
        total (λ p. ends v p * f p) r ≡ f (pr (early v)) + f (pr (late v))
    pub apart : (v : ℕ) → 0 < total (ends v) r → (pr (early v) ≡ pr (late v) → ⊥)

  module _ (h : TwoEnded) where
    -- what the next half-edge is
    record GoesOn (x y : ℕ) : Type 0 where
      half : Half y
      here : at y ≡ to x
      both : (f : Pair → ℕ) → total (λ p. ends (to x) p * f p) r ≡ f (pr x) + f (pr y)

    next_is : (x : ℕ) → Half x → GoesOn x (next x)
    unfolding next
    next_is x i =
        let v : ℕ = to x in
        let m : Half (mate x) = h.mate_half x i in
        let s : 0 < total (ends v) r = h.some (mate x) m in
        let one : (y : ℕ) → next x ≡ y → Half y × (at y ≡ v) → ((f : Pair → ℕ) → total (λ p. ends v p * f p) r ≡ f (pr x) + f (pr y)) → GoesOn x (next x) =
        λ y n k both. rw n (record { half = k.0; here = k.1; both = both }) in
        ⊎_elim
        (λ e.
        one (late v) (omega arith) (h.late_half v s)
        (λ f. h.both v s f ∙ ap (λ (p : Pair). f p + f (pr (late v))) (ap pr (sym e) ∙ h.mate_pair x i)))
        (λ e.
        one (early v) (omega arith) (h.early_half v s)
        (λ f. omega (arith, h.both v s f, ap f (ap pr (sym e) ∙ h.mate_pair x i))))
        (h.one_of (mate x) m)

    -- A trail qs to c goes on from the half-edge x; os are the other pairs.
    pub record Goes (c x : ℕ) (qs os : List Pair) : Type 0 where
      pub half : Half x
      pub trail : Trail (to x) c qs
      pub whole : (f : Pair → ℕ) → f (pr x) + total f qs + total f os ≡ total f r

    record Went (c x : ℕ) (q : Pair) (qs os : List Pair) : Type 0 where
      goes : Goes c (next x) qs (pr x ∷ os)
      pair : pr (next x) ≡ q
      here : at (next x) ≡ to x
      ends_are : (u : ℕ) → ends u q ≡ is u (to x) + is u (to (next x))

    goes_on : (c x : ℕ) (q : Pair) (qs os : List Pair) → Goes c x (q ∷ qs) os → Went c x q qs os
    unfolding total
    goes_on c x q qs os g =
        let u : ℕ = to x in
        let z : ℕ = g.trail.0 in
        let lead : Leads q u z = g.trail.1 in
        let n : GoesOn x (next x) = next_is x g.half in
        let before : 0 < ends u (pr x) = omega (arith, leads_ends (h.leads x g.half) u, is_same u) in
        let after : 0 < ends u q = omega (arith, leads_ends lead u, is_same u) in
        let same : pr (next x) ≡ q =
        pair_same (pr (next x)) q
        (λ f.
        omega (
          arith,
          n.both f,
          meet r (pr x) q (qs ++ os) u (h.few u) before after (λ f. omega (arith, total_append f qs os, g.whole f)) f,
        )) in
        let lead' : Leads q (at (next x)) (to (next x)) = rw same at (h.leads (next x) n.half) in
        let there : to (next x) ≡ z =
        omega (arith, lead.same (λ a b. a + b) (λ a b. omega arith), lead'.same (λ a b. a + b) (λ a b. omega arith), n.here) in
        record {
          goes =
              record {
                half = n.half;
                trail = rw there g.trail.2;
                whole = λ f. omega (arith, g.whole f, ap f same);
              };
          pair = same;
          here = n.here;
          ends_are = λ u. omega (arith, leads_ends lead' u, ap (is u) n.here);
        }

    -- the trail is the trace
    traced : (c x : ℕ) (qs os : List Pair) → Goes c x qs os → map pr (trace next (length qs) (next x)) ≡ qs
    unfolding trace
    traced c x [] os g = refl
    traced c x (q ∷ qs) os g =
        let w : Went c x q qs os = goes_on c x q qs os g in
        rw (w.pair, traced c (next x) qs (pr x ∷ os) w.goes)

    traced_half : (c x : ℕ) (qs os : List Pair) → Goes c x qs os → All Half (trace next (length qs) (next x))
    unfolding trace
    traced_half c x [] os g = tt
    traced_half c x (q ∷ qs) os g =
        let w : Went c x q qs os = goes_on c x q qs os g in
        (w.goes.half, traced_half c (next x) qs (pr x ∷ os) w.goes)

    -- the half-edge at its end
    last_of :
        (c x : ℕ) (qs os : List Pair) → Goes c x qs os →
        (pre : List Pair) × Goes c (iterate (length qs) next x) [] (pre ++ os)
    unfolding iterate
    last_of c x [] os g = ([], g)
    last_of c x (q ∷ qs) os g =
        let l : (pre : List Pair) × Goes c (iterate (length qs) next (next x)) [] (pre ++ (pr x ∷ os)) =
        last_of c (next x) qs (pr x ∷ os) (goes_on c x q qs os g).goes in (
          l.0 ++ (pr x ∷ []),
          subst (Goes c (iterate (length qs) next (next x)) []) (sym (append_assoc l.0 (pr x ∷ []) os)) l.1,
        )

    -- it doesn't come to v on its way
    inner :
        (v x : ℕ) (qs os : List Pair) → Goes v x qs os → is v (to x) + total (ends v) qs ≤ 1 →
        All (λ (y : ℕ). at y ≡ v → ⊥) (trace next (length qs) (next x))
    unfolding trace total
    inner v x [] os g b = tt
    inner v x (q ∷ qs) os g b =
        let w : Went v x q qs os = goes_on v x q qs os g in (
          λ e. omega (arith, w.ends_are v, is_eq {u = v} {v = to x} (sym e ∙ w.here)),
          inner v (next x) qs (pr x ∷ os) w.goes (omega (arith, w.ends_are v)),
        )

    -- each visit of a party is two ends
    visits :
        (u c x : ℕ) (qs os : List Pair) → Goes c x qs os →
        total (ends u) qs + is u (to x) + is u c
        ≡ 2 * (is u (to x) + total (λ y. is u (to y)) (trace next (length qs) (next x)))
    unfolding trace total
    visits u c x [] os g = omega (arith, ap (is u) g.trail)
    visits u c x (q ∷ qs) os g =
        let w : Went c x q qs os = goes_on c x q qs os g in
        omega (arith, w.ends_are u, visits u c (next x) qs (pr x ∷ os) w.goes)

    -- The closed trail T from v is the circuit from v's last half-edge: that many steps lead back to it, and no fewer.
    pub record Circuit (v : ℕ) (T : List Pair) : Type 0 where
      pub pairs : map pr (trace next (length T) (late v)) ≡ T
      pub halves : All Half (trace next (length T) (late v))
      pub closes : iterate (length T) next (late v) ≡ late v
      pub inner : (j : ℕ) → 0 < j → j < length T → (iterate j next (late v) ≡ late v → ⊥)
      pub visits : (u : ℕ) → total (ends u) T ≡ 2 * total (λ y. is u (to y)) (trace next (length T) (late v))

    closing :
        (v : ℕ) (qs os : List Pair) → 0 < total (ends v) r → Goes v (late v) qs os → suc (length qs) % 2 ≡ 0 →
        next (iterate (length qs) next (late v)) ≡ late v
    unfolding iterate next total
    closing v [] os s g even = absurd (omega arith)
    closing v (q ∷ qs) os s g even =
        let x : ℕ = late v in
        let y : ℕ = iterate (length qs) next (next x) in
        let l : (pre : List Pair) × Goes v y [] (pre ++ (pr x ∷ os)) =
        last_of v (next x) qs (pr x ∷ os) (goes_on v x q qs os g).goes in
        let pre : List Pair = l.0 in
        let back : to y ≡ v = l.1.trail in
        let i : Half y = l.1.half in
        ⊎_elim
        (λ e. let n : early (to y) + late (to y) - mate y ≡ late (to y) = omega arith in n ∙ ap late back)
        (λ e.
        let same : pr y ≡ pr x = sym (h.mate_pair y i) ∙ ap pr (e ∙ ap late back) in
        let at_x : at x ≡ v = (h.late_half v s).1 in
        let two : (f : Pair → ℕ) → total (λ z. ends v z * f z) r ≡ f (pr y) + f (pr x) =
        meet r (pr y) (pr x) (pre ++ os) v (h.few v)
        (omega (arith, leads_ends (h.leads y i) v, is_eq {u = v} (sym back)))
        (omega (arith, leads_ends (h.leads x g.half) v, is_eq {u = v} (sym at_x)))
        (λ f. omega (arith, total_append f pre os, total_append f pre (pr x ∷ os), l.1.whole f)) in
        absurd
        (h.apart v s
        (pair_same (pr (early v)) (pr x) (λ f. omega (arith, h.both v s f, two f, ap f same)))))
        (h.one_of (mate y) (h.mate_half y i))

    trace_at : (Q : ℕ → Type 0) (n x j : ℕ) → All Q (trace next n x) → j < n → Q (iterate j next x)
    unfolding trace iterate
    trace_at Q zero x j a b = absurd (omega arith)
    trace_at Q (suc n) x zero a b = a.0
    trace_at Q (suc n) x (suc j) a b = trace_at Q n (next x) j a.1 (omega arith)

    not_before :
        (v n : ℕ) → at (late v) ≡ v → All (λ (y : ℕ). at y ≡ v → ⊥) (trace next n (next (late v))) → (j : ℕ) → 0 < j →
        j < suc n → (iterate j next (late v) ≡ late v → ⊥)
    unfolding iterate
    not_before v n here off zero lo hi e = absurd (omega arith)
    not_before v n here off (suc j) lo hi e =
        trace_at (λ y. at y ≡ v → ⊥) n (next (late v)) j off (omega arith) (ap at e ∙ here)

    -- A closed trail that begins with the last pair of v is the circuit.
    pub circuit_of :
        (v : ℕ) (qs os : List Pair) → 0 < total (ends v) r → Trail v v (pr (late v) ∷ qs) →
        ((f : Pair → ℕ) → total f (pr (late v) ∷ qs) + total f os ≡ total f r) → suc (length qs) % 2 ≡ 0 →
        Circuit v (pr (late v) ∷ qs)
    unfolding trace iterate total
    circuit_of v qs os s t whole even =
        let x : ℕ = late v in
        let i : Half x = (h.late_half v s).0 in
        let here : at x ≡ v = (h.late_half v s).1 in
        let lead : Leads (pr x) v t.0 = t.1 in
        let there : to x ≡ t.0 =
        omega (arith, lead.same (λ a b. a + b) (λ a b. omega arith), (h.leads x i).same (λ a b. a + b) (λ a b. omega arith), here) in
        let g : Goes v x qs os =
        record { half = i; trail = rw there t.2; whole = λ f. omega (arith, whole f) } in
        let at_ends : (u : ℕ) → ends u (pr x) ≡ is u v + is u (to x) = λ u. omega (arith, leads_ends (h.leads x i) u, ap (is u) here) in
        let off : All (λ (y : ℕ). at y ≡ v → ⊥) (trace next (length qs) (next x)) =
        inner v x qs os g (omega (arith, at_ends v, whole (ends v), h.few v, is_same v)) in
        record {
          pairs = ap (λ (l : List Pair). pr x ∷ l) (traced v x qs os g);
          halves = (i, traced_half v x qs os g);
          closes = iterate_suc_out (length qs) next x ∙ closing v qs os s g even;
          inner = λ j lo hi. not_before v (length qs) here off j lo hi;
          visits = λ u. omega (arith, at_ends u, visits u v x qs os g);
        }

    pub next_half : (x : ℕ) → Half x → Half (next x)
    next_half x i = (next_is x i).half
