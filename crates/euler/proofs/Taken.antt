-- What taking a party's first remaining pair gives: a pair that has the party as an end and leaves the others, or none, and
-- then no remaining pair names the party. Assumes nothing.
use Prim.Native.Nat.{ℕ, suc, ◌+◌}
use mathlib.Core.Path.{◌≡◌, refl, ◌∙◌}
use mathlib.Core.List.{List, [], ◌∷◌}
use native.Mathlib.Omega.{arith}
use native.Mathlib.Decide.{ℕ_discrete}
use borrow.Author.Tests.{eq-eqb, ne_eqb}
use lib.Dec.{eqb}
use lib.ListN.{length}
use Rattle.words.specs.Basics.{pick, is, total}
use Rattle.words.proofs.Sums.{is_ne, total_add}
use Rattle.multigraph.specs.Multigraph.{Pair}
use Rattle.multigraph.specs.Regular.{names, Symmetric}
use Rattle.euler.specs.Euler.{Taken, taken, none, past, take_by, or_else, first_pair, other_node}

-- how often a pair names the party v
abbrev pub ends : ℕ → Pair → ℕ
ends v p = names v p.first p.second

-- The pair leads from a to b: no weight that doesn't ask which end is first can tell its ends from a and b.
pub record Leads (p : Pair) (a b : ℕ) : Type 0 where
  pub same : (w : ℕ → ℕ → ℕ) → Symmetric w → w p.first p.second ≡ w a b

-- the other way
pub leads_back : {p : Pair} {a b : ℕ} → Leads p a b → Leads p b a
leads_back {a = a} {b = b} h = record { same = λ w s. h.same w s ∙ s a b }

-- and neither can the number of its ends
pub leads_ends : {p : Pair} {a b : ℕ} → Leads p a b → (v : ℕ) → ends v p ≡ is v a + is v b
leads_ends h v = h.same (names v) (λ a b. omega arith)

-- The pair q is taken out of the pairs ps at the party v, and os are the others.
pub record Takes (v : ℕ) (ps : List Pair) (q : Pair) (os : List Pair) : Type 0 where
  pub whole : (f : Pair → ℕ) → total f ps ≡ f q + total f os
  pub shorter : length ps ≡ suc (length os)
  pub leads : Leads q v (other_node q v)

-- what is known of a pair taken or not: of none that the number f is 0 at every pair
abbrev pub Found : ℕ → (Pair → ℕ) → List Pair → Taken → Type 0
Found v f ps (taken q os) = Takes v ps q os
Found v f ps none = total f ps ≡ 0

leads_first : (v : ℕ) (p : Pair) → v ≡ p.first → Leads p v (other_node p v)
leads_first v p e = record { same = λ w s. rw (eq-eqb v p.first e, e) }

leads_second : (v : ℕ) (p : Pair) → v ≡ p.second → Leads p v (other_node p v)
leads_second v p e =
    elim (ℕ_discrete v p.first) [
      | yes h ↦ leads_first v p h
      | no h ↦ record { same = λ w s. rw (ne_eqb v p.first h, e) (s p.first p.second) }
    ]

takes_past :
    (v : ℕ) (f : Pair → ℕ) (p : Pair) (ps : List Pair) (t : Taken) → f p ≡ 0 → Found v f ps t →
    Found v f (p ∷ ps) (past p t)
unfolding total
takes_past v f p ps (taken q os) z h =
    record { whole = λ f. omega (arith, h.whole f); shorter = omega (arith, h.shorter); leads = h.leads }
takes_past v f p ps none z h = omega arith

-- one pair more in front, asked by the end that `end` reads off a pair
found_cons :
    (v : ℕ) (end : Pair → ℕ) (p : Pair) (ps : List Pair) (t : Taken) → (v ≡ end p → Leads p v (other_node p v)) →
    Found v (λ q. is v (end q)) ps t → Found v (λ q. is v (end q)) (p ∷ ps) (pick (eqb v (end p)) (taken p ps) (past p t))
unfolding total
found_cons v end p ps t lead h =
    elim (ℕ_discrete v (end p)) [
      | yes e ↦ rw (eq-eqb v (end p) e) (record { whole = λ f. refl; shorter = refl; leads = lead e })
      | no n ↦ rw (ne_eqb v (end p) n) (takes_past v (λ q. is v (end q)) p ps t (is_ne n) h)
    ]

take_by_finds :
    (v : ℕ) (end : Pair → ℕ) → ((p : Pair) → v ≡ end p → Leads p v (other_node p v)) → (ps : List Pair) →
    Found v (λ p. is v (end p)) ps (take_by end v ps)
unfolding take_by total
take_by_finds v end lead [] = refl
take_by_finds v end lead (p ∷ ps) = found_cons v end p ps (take_by end v ps) (lead p) (take_by_finds v end lead ps)

-- the first remaining pair of v, or none, and then no remaining pair names v
pub first_pair_finds : (v : ℕ) (ps : List Pair) → Found v (ends v) ps (first_pair v ps)
unfolding first_pair
first_pair_finds v ps =
    go (take_by (λ p. p.first) v ps) (take_by (λ p. p.second) v ps) (take_by_finds v (λ p. p.first) (leads_first v) ps)
    (take_by_finds v (λ p. p.second) (leads_second v) ps)
  where
    go :
        (t u : Taken) → Found v (λ p. is v p.first) ps t → Found v (λ p. is v p.second) ps u →
        Found v (ends v) ps (or_else t u)
    go (taken q os) u h k = h
    go none (taken q os) h k = k
    go none none h k = total_add (λ p. is v p.first) (λ p. is v p.second) ps ∙ omega arith
