-- At degree 2, the cycles of pairs in which every party has at most two ends are circuits: from each party in number order
-- that has pairs left, the circuit from its last half-edge. Assumes nothing.
use Prim.Native.Nat.{ℕ, suc, ◌+◌, ◌*◌, ◌%◌, ◌<◌}
use mathlib.Core.Path.{◌≡◌, refl, sym, ◌∙◌, ap, subst}
use mathlib.Core.Bool.{Bool, true, false}
use mathlib.Core.List.{List, [], ◌∷◌, ◌++◌, reverse, reverse-cons, append-nil}
use mathlib.Core.Logic.{◌⊎◌, inl, inr}
use native.Mathlib.Omega.{arith}
use native.Mathlib.Decide.{ℕ_discrete}
use lib.ListN.{length, length-reverse}
use Rattle.words.specs.Basics.{total}
use Rattle.words.proofs.Sums.{is_eq, is_same, total_append, total_reverse}
use Rattle.multigraph.specs.Multigraph.{Pair}
use Rattle.euler.specs.Euler.{Taken, taken, none, first_pair, Walking, Tour, visited}
use Rattle.euler.proofs.Taken.{ends, Leads, leads_ends}
use Rattle.euler.proofs.Trail.{Trail, aslant, trail_reverse}
use Rattle.euler.proofs.Walks.{Closed, walk_head}
use Rattle.euler.proofs.Tours.{with_cycle, visited_named}
use Rattle.euler.proofs.Straight.{along, along_total, walked, TourAt, tour_start, tour_past, tour_closed, tour_walk}
use Rattle.euler.proofs.Straight as Straight
use Rattle.circuits.proofs.Leading.{lead, Leaves, leaves_all, leaves_then, leaves_walk}
use Rattle.circuits.proofs.CircuitTrails.{TwoEnded, Circuit, circuit_of, meet, pair_same}

-- the pair that is taken
lead_taken : (t : Taken) (p : Pair) → lead t ≡ p ∷ [] → (os : List Pair) × (t ≡ taken p os)
lead_taken (taken q os) p e = (os, ap (λ (x : Pair). taken x os) (ap head e))
  where
    head : List Pair → Pair
    head [] = p
    head (x ∷ xs) = x
lead_taken none p e = absurd (omega (arith, ap length e))

-- a walk that leads back to v by no pair of v is empty
no_pair : (v : ℕ) (ps : List Pair) → Trail v v ps → total (ends v) ps ≡ 0 → ps ≡ []
unfolding total
no_pair v [] t z = refl
no_pair v (p ∷ ps) t z = let k : Leads p v t.0 = t.1 in absurd (omega (arith, leads_ends k v, is_same v))

module _ (r : List Pair) (mate at : ℕ → ℕ) (pr : ℕ → Pair) (early late : ℕ → ℕ) (Half : ℕ → Type 0) (h : TwoEnded r mate at pr early late Half) (side : ℕ → ℕ) (slant : total (aslant side) r ≡ 0) (evens : (v : ℕ) → total (ends v) r % 2 ≡ 0) (order : (v : ℕ) → 0 < total (ends v) r → lead (first_pair v (reverse r)) ≡ pr (early v) ∷ []) where
  abbrev CircuitOf : ℕ → List Pair → Type 0
  CircuitOf v T = Circuit r mate at pr early late Half h v T

  -- A closed trail from v whose last pair is v's first is v's circuit.
  closed_circuit :
      (v : ℕ) (xs os : List Pair) → 0 < total (ends v) r → Trail v v (xs ++ (pr (early v) ∷ [])) →
      ((f : Pair → ℕ) → total f (xs ++ (pr (early v) ∷ [])) + total f os ≡ total f r) →
      length (xs ++ (pr (early v) ∷ [])) % 2 ≡ 0 → CircuitOf v (xs ++ (pr (early v) ∷ []))
  unfolding total
  closed_circuit v [] os s t whole even = absurd (omega arith)
  closed_circuit v (q ∷ ys) os s t whole even =
      let p : Pair = pr (early v) in
      let k : Leads q v t.0 = t.1 in
      let same : q ≡ pr (late v) =
      pair_same q (pr (late v))
      (λ f.
      omega (
        arith,
        h.both v s f,
        meet r q p (ys ++ os) v (h.few v) (omega (arith, leads_ends k v, is_same v))
            (omega (arith, leads_ends (h.leads (early v) (h.early_half v s).0) v, is_eq {u = v} (sym (h.early_half v s).1)))
            (λ f. omega (arith, whole f, total_append f ys (p ∷ []), total_append f ys os)) f,
      )) in
      subst (λ (z : Pair). CircuitOf v (z ∷ ys ++ (p ∷ []))) (sym same)
      (circuit_of r mate at pr early late Half h v (ys ++ (p ∷ [])) os s
      (subst (λ (z : Pair). Trail v v (z ∷ ys ++ (p ∷ []))) same t) (λ f. omega (arith, whole f, ap f same)) even)

  -- what the definition's tour has come to before party v
  pub record TourOrdered (v : ℕ) (t : Tour) : Type 0 where
    pub so_far : TourAt v r t
    pub leaves : Leaves (reverse r) t.left

  -- party v has no pair left, and adds nothing
  pub record Passed (t u : Tour) : Type 0 where
    pub along_same : along u.cycles ≡ along t.cycles
    pub left_same : (f : Pair → ℕ) → total f u.left ≡ total f t.left

  -- party v has pairs left, and its circuit is one more cycle
  pub record OneMore (v : ℕ) (t u : Tour) : Type 0 where
    pub cycle : List Pair
    pub circuit : CircuitOf v cycle
    pub size : length cycle % 2 ≡ 0
    pub some : 0 < length cycle
    pub along_more : along u.cycles ≡ along t.cycles ++ cycle
    pub left_less : (f : Pair → ℕ) → total f cycle + total f u.left ≡ total f t.left

  -- one of the two
  pub record Turned (v : ℕ) (t : Tour) : Type 0 where
    pub after : Tour
    pub ordered : TourOrdered (suc v) after
    pub by : ((total (ends v) t.left ≡ 0) × Passed t after) ⊎ ((total (ends v) t.left ≡ 2) × OneMore v t after)

  module _ (v : ℕ) (t : Tour) (k : TourOrdered v t) where
    abbrev w : Walking
    w = walked v t.left

    abbrev u : Tour
    u = with_cycle t w

    closed : Closed v t.left w
    closed = tour_closed side r slant evens v t k.so_far

    cycle_even : length (reverse w.written) % 2 ≡ 0
    cycle_even = Straight.cycle_even side r slant evens v t k.so_far

    -- the walk from a party not visited
    walks_on : visited v t.cycles ≡ false → TourOrdered (suc v) u
    walks_on e =
        record {
          so_far = tour_walk side r slant evens v t k.so_far e;
          leaves = leaves_then (reverse r) t.left w.left k.leaves (leaves_walk v (2 * length t.left) t.left);
        }

    -- a party visited
    stays : visited v t.cycles ≡ true → TourOrdered (suc v) t
    stays e = record { so_far = tour_past side r slant evens v t k.so_far e; leaves = k.leaves }

    along_u : along u.cycles ≡ along t.cycles ++ reverse w.written
    along_u = Straight.along_more t.cycles (reverse w.written)

    -- no pair is left at v
    nothing : total (ends v) t.left ≡ 0 → Passed t u
    unfolding total
    nothing z =
        let empty : w.written ≡ [] = no_pair v w.written closed.trail (omega (arith, closed.whole (ends v))) in
        record {
          along_same = along_u ∙ ap (λ (l : List Pair). along t.cycles ++ reverse l) empty ∙ append-nil (along t.cycles);
          left_same = λ f. omega (arith, closed.whole f, ap (total f) empty);
        }

    -- both are
    circuit_more : total (ends v) t.left ≡ 2 → OneMore v t u
    unfolding total
    circuit_more two =
        let p : Pair = pr (early v) in
        let all : total (ends v) r ≡ 2 = omega (arith, h.few v, k.so_far.toured.whole (ends v)) in
        let first : (os : List Pair) × (first_pair v t.left ≡ taken p os) =
        lead_taken (first_pair v t.left) p
        (k.leaves.same v (omega (arith, total_reverse (ends v) r)) ∙ order v (omega arith)) in
        let last : (before : List Pair) × (w.written ≡ p ∷ before) =
        walk_head v t.left p first.0 k.so_far.toured.even two first.1 in
        let as_cycle : reverse w.written ≡ reverse last.0 ++ (p ∷ []) =
        ap reverse last.1 ∙ reverse-cons p last.0 in
        let goes : CircuitOf v (reverse last.0 ++ (p ∷ [])) =
        closed_circuit v (reverse last.0) (w.left ++ along t.cycles) (omega arith)
        (subst (Trail v v) as_cycle (trail_reverse v v w.written closed.trail))
        (λ f.
        omega (
          arith,
          ap (total f) as_cycle,
          total_reverse f w.written,
          total_append f w.left (along t.cycles),
          along_total f t.cycles,
          closed.whole f,
          k.so_far.toured.whole f,
        ))
        (rw (← as_cycle) cycle_even) in
        record {
          cycle = reverse w.written;
          circuit = subst (CircuitOf v) (sym as_cycle) goes;
          size = cycle_even;
          some = omega (arith, ap length last.1, length-reverse w.written);
          along_more = along_u;
          left_less = λ f. omega (arith, closed.whole f, total_reverse f w.written);
        }

  -- one party more
  pub turned : (v : ℕ) (t : Tour) → TourOrdered v t → Turned v t
  turned v t k = go (visited v t.cycles) refl
    where
      go : (b : Bool) → visited v t.cycles ≡ b → Turned v t
      go true e =
          let z : total (ends v) t.left ≡ 0 = k.so_far.toured.spent v (visited_named v t.cycles e) in
          record { after = t; ordered = stays v t k e; by = inl (z, record { along_same = refl; left_same = λ f. refl }) }
      go false e =
          elim (ℕ_discrete (total (ends v) t.left) 0) [
            | yes z ↦ record { after = u v t k; ordered = walks_on v t k e; by = inl (z, nothing v t k z) }
            | no n ↦
                let two : total (ends v) t.left ≡ 2 = omega (arith, h.few v, k.so_far.toured.whole (ends v), k.so_far.toured.even v) in
                record { after = u v t k; ordered = walks_on v t k e; by = inr (two, circuit_more v t k two) }
          ]

  -- before the first party
  pub begun : TourOrdered 0 (record { cycles = []; left = reverse r })
  begun = record { so_far = tour_start side r slant evens; leaves = leaves_all (reverse r) }
