-- A walk leaves the order of the pairs that remain: a party none of whose pairs was taken has the same first pair as before.
-- Assumes nothing.
use Prim.Native.Nat.{ℕ, ◌+◌, ◌≤◌}
use mathlib.Core.Path.{◌≡◌, refl, sym, ◌∙◌, ap}
use mathlib.Core.Bool.{Bool, true, false}
use mathlib.Core.List.{List, [], ◌∷◌}
use native.Mathlib.Omega.{arith}
use borrow.Author.Tests.{ne_eqb}
use lib.Dec.{eqb}
use Rattle.words.specs.Basics.{pick, total, iterate}
use Rattle.words.proofs.Sums.{is_eq}
use Rattle.words.proofs.Runs.{iterate_keeps}
use Rattle.multigraph.specs.Multigraph.{Pair}
use Rattle.euler.specs.Euler.{Taken, taken, none, past, take_by, or_else, first_pair, Step, Walking, standing, step_back, follow, walk_step}
use Rattle.euler.proofs.Taken.{ends}
use Rattle.euler.proofs.Walks.{begin}

-- the pair taken, if any
abbrev pub lead : Taken → List Pair
lead (taken p ps) = p ∷ []
lead none = []

-- os are the pairs ps without one q
data Drops (q : Pair) : List Pair → List Pair → Type 0 where
  here : (ps : List Pair) → Drops q (q ∷ ps) ps
  there : (p : Pair) (ps os : List Pair) → Drops q ps os → Drops q (p ∷ ps) (p ∷ os)

abbrev Dropped : List Pair → Taken → Type 0
Dropped ps (taken q os) = Drops q ps os
Dropped ps none = Unit {0}

drops_cons : (p : Pair) (ps : List Pair) (t : Taken) (b : Bool) → Dropped ps t → Dropped (p ∷ ps) (pick b (taken p ps) (past p t))
drops_cons p ps t true d = here ps
drops_cons p ps (taken q os) false d = there p ps os d
drops_cons p ps none false d = tt

drops_by : (end : Pair → ℕ) (v : ℕ) (ps : List Pair) → Dropped ps (take_by end v ps)
unfolding take_by
drops_by end v [] = tt
drops_by end v (p ∷ ps) = drops_cons p ps (take_by end v ps) (eqb v (end p)) (drops_by end v ps)

drops_pair : (v : ℕ) (ps : List Pair) → Dropped ps (first_pair v ps)
unfolding first_pair
drops_pair v ps =
    go (take_by (λ p. p.first) v ps) (take_by (λ p. p.second) v ps) (drops_by (λ p. p.first) v ps) (drops_by (λ p. p.second) v ps)
  where
    go : (t u : Taken) → Dropped ps t → Dropped ps u → Dropped ps (or_else t u)
    go (taken q os) u d e = d
    go none u d e = e

-- ── what a dropped pair leaves ──

-- one pair more in front
pub lead_cons : (p : Pair) (ps : List Pair) (b : Bool) (t : Taken) → lead (pick b (taken p ps) (past p t)) ≡ pick b (p ∷ []) (lead t)
lead_cons p ps true t = refl
lead_cons p ps false (taken q os) = refl
lead_cons p ps false none = refl

kept_by :
    (end : Pair → ℕ) (u : ℕ) (q : Pair) (ps os : List Pair) → Drops q ps os → (u ≡ end q → ⊥) →
    lead (take_by end u os) ≡ lead (take_by end u ps)
unfolding take_by
kept_by end u q ps os (here ns) n =
    sym (lead_cons q ns (eqb u (end q)) (take_by end u ns) ∙ rw (ne_eqb u (end q) n))
kept_by end u q ps os (there p ps' os' d) n =
    lead_cons p os' (eqb u (end p)) (take_by end u os')
    ∙ ap (pick (eqb u (end p)) (p ∷ [])) (kept_by end u q ps' os' d n)
    ∙ sym (lead_cons p ps' (eqb u (end p)) (take_by end u ps'))

-- the one, or else the other
abbrev pub either_lead : List Pair → List Pair → List Pair
either_lead [] l = l
either_lead (p ∷ ps) l = p ∷ ps

pub or_lead : (t u : Taken) → lead (or_else t u) ≡ either_lead (lead t) (lead u)
or_lead (taken q os) u = refl
or_lead none u = refl

kept_pair : (u : ℕ) (q : Pair) (ps os : List Pair) → Drops q ps os → ends u q ≡ 0 → lead (first_pair u os) ≡ lead (first_pair u ps)
unfolding first_pair
kept_pair u q ps os d z =
    or_lead (take_by (λ p. p.first) u os) (take_by (λ p. p.second) u os)
    ∙ rw (kept_by (λ p. p.first) u q ps os d (λ e. omega (arith, is_eq e)), kept_by (λ p. p.second) u q ps os d (λ e. omega (arith, is_eq e)))
    (sym (or_lead (take_by (λ p. p.first) u ps) (take_by (λ p. p.second) u ps)))

drops_total : (f : Pair → ℕ) (q : Pair) (ps os : List Pair) → Drops q ps os → total f ps ≡ f q + total f os
unfolding total
drops_total f q ps os (here ns) = refl
drops_total f q ps os (there p ps' os' d) = omega (arith, drops_total f q ps' os' d)

-- ── the walk ──

-- os are some of the pairs ps, and a party that has all its ends in them has its first pair there
pub record Leaves (ps os : List Pair) : Type 0 where
  pub fewer : (u : ℕ) → total (ends u) os ≤ total (ends u) ps
  pub same : (u : ℕ) → total (ends u) os ≡ total (ends u) ps → lead (first_pair u os) ≡ lead (first_pair u ps)

-- nothing taken
pub leaves_all : (ps : List Pair) → Leaves ps ps
leaves_all ps = record { fewer = λ u. omega arith; same = λ u e. refl }

-- one after the other
pub leaves_then : (ps os ns : List Pair) → Leaves ps os → Leaves os ns → Leaves ps ns
leaves_then ps os ns a b =
    record {
      fewer = λ u. omega (arith, a.fewer u, b.fewer u);
      same = λ u e.
          b.same u (omega (arith, a.fewer u, b.fewer u)) ∙ a.same u (omega (arith, a.fewer u, b.fewer u));
    }

leaves_dropped : (q : Pair) (ps os : List Pair) → Drops q ps os → Leaves ps os
leaves_dropped q ps os d =
    record {
      fewer = λ u. omega (arith, drops_total (ends u) q ps os d);
      same = λ u e. kept_pair u q ps os d (omega (arith, drops_total (ends u) q ps os d));
    }

leaves_step : (s : ℕ) (w : Walking) → Leaves w.left (walk_step s w).left
unfolding walk_step
leaves_step s w = go (first_pair (standing s w.stack) w.left) (drops_pair (standing s w.stack) w.left)
  where
    back : (stack : List Step) → Leaves w.left (step_back stack w.left w.written).left
    back [] = leaves_all w.left
    back (e ∷ stack) = leaves_all w.left

    go : (t : Taken) → Dropped w.left t → Leaves w.left (follow s w t).left
    go (taken q os) d = leaves_dropped q w.left os d
    go none d = back w.stack

-- a walk leaves the order
pub leaves_walk : (s n : ℕ) (r : List Pair) → Leaves r (iterate n (walk_step s) (begin r)).left
leaves_walk s n r =
    iterate_keeps {Inv = λ w. Leaves r w.left} (walk_step s)
    (λ w k. leaves_then r w.left (walk_step s w).left k (leaves_step s w)) n (begin r) (leaves_all r)
