-- The laws of the models of the split of a graph of degree 2 that the functions' proofs cite. Assumes nothing.
use Prim.Native.Nat.{ℕ, suc, ◌+◌, ◌*◌, ◌-◌}
use mathlib.Core.Path.{◌≡◌, sym, ◌∙◌, ap, subst}
use mathlib.Core.List.{List}
use borrow.Author.Tests.{eq-eqb, ne_eqb}
use lib.ListN.{length}
use Rattle.words.specs.Words.{word, put_word}
use Rattle.words.proofs.Frames.{length_put}
use Rattle.circuits.specs.declared.Two.{Two}
use Rattle.std.specs.Prelude.{Some, None}
use mathlib.Core.Bool.{Bool, true, false}
use lib.Dec.{ltb}
use Rattle.words.specs.Basics.{pick}
use Rattle.circuits.specs.Model.{Told, push_one_m, two_step_m, two_pair_m, two_circuit_m, two_from_m, copies_sum_m, few_sum_m}
use Rattle.circuits.specs.Bounds.{TwoSteps, TwoCircuits}

-- a pair written to a half leaves the length
pub push_one_length : (h : ℕ) (s : List ℕ) (at e : ℕ) → length (push_one_m h s at e) ≡ length s
push_one_length h s at e = length_put (put_word s (h + 2 + 2 * at) e) (h + 3 + 2 * at) 1 ∙ length_put s (h + 2 + 2 * at) e

-- ── steps and circuits ──

-- two steps
pub two_pair_so :
    (l : Two) (s : List ℕ) (at y : ℕ) {p q : Told} → p ≡ two_step_m l l.first s at y →
    q ≡ two_step_m l l.second p.words at p.number → q ≡ two_pair_m l s at y
unfolding two_pair_m
two_pair_so l s at y ep eq = eq ∙ ap (λ (x : Told). two_step_m l l.second x.words at x.number) ep

-- what the next two steps ask
pub two_circuits_first :
    (l : Two) (y₀ n k : ℕ) (s : List ℕ) (at y : ℕ) → n ≡ suc k → TwoCircuits l y₀ n s at y →
    TwoSteps l l.first s at y
    × TwoSteps l l.second (two_step_m l l.first s at y).words at (two_step_m l l.first s at y).number
    × (((two_pair_m l s at y).number ≡ y₀ → ⊥) → TwoCircuits l y₀ k (two_pair_m l s at y).words (at + 1) (two_pair_m l s at y).number)
two_circuits_first l y₀ n k s at y e h = rw e at h

-- no steps left
pub two_circuit_none : (l : Two) (y₀ n : ℕ) (s : List ℕ) (at y : ℕ) → n ≡ 0 → two_circuit_m l y₀ n s at y ≡ record { words = s; number = at }
unfolding two_circuit_m
two_circuit_none l y₀ n s at y e = rw e

-- back at the start after two steps more
pub two_circuit_back :
    (l : Two) (y₀ n k : ℕ) (s : List ℕ) (at y : ℕ) (q : Told) → n ≡ suc k → q ≡ two_pair_m l s at y → q.number ≡ y₀ →
    two_circuit_m l y₀ n s at y ≡ record { words = q.words; number = at + 1 }
unfolding two_circuit_m
two_circuit_back l y₀ n k s at y q e eq b =
    let c : (two_pair_m l s at y).number ≡ y₀ = ap (λ (x : Told). x.number) (sym eq) ∙ b in
    rw (e, eq-eqb (two_pair_m l s at y).number y₀ c)
    (ap (λ (x : Told). record { words = x.words; number = at + 1 }) (sym eq))

-- or not yet back
pub two_circuit_on :
    (l : Two) (y₀ n k : ℕ) (s : List ℕ) (at y : ℕ) (q : Told) → n ≡ suc k → q ≡ two_pair_m l s at y → (q.number ≡ y₀ → ⊥) →
    two_circuit_m l y₀ n s at y ≡ two_circuit_m l y₀ k q.words (at + 1) q.number
unfolding two_circuit_m
two_circuit_on l y₀ n k s at y q e eq b =
    let c : (two_pair_m l s at y).number ≡ y₀ → ⊥ = λ z. b (ap (λ (x : Told). x.number) eq ∙ z) in
    rw (e, ne_eqb (two_pair_m l s at y).number y₀ c)
    (ap (λ (x : Told). two_circuit_m l y₀ k x.words (at + 1) x.number) (sym eq))

pub two_circuits_on :
    (l : Two) (y₀ n k : ℕ) (s : List ℕ) (at y : ℕ) (q : Told) → n ≡ suc k → q ≡ two_pair_m l s at y → (q.number ≡ y₀ → ⊥) →
    TwoCircuits l y₀ n s at y → TwoCircuits l y₀ k q.words (at + 1) q.number
two_circuits_on l y₀ n k s at y q e eq b h =
    subst (λ (x : Told). TwoCircuits l y₀ k x.words (at + 1) x.number) (sym eq)
    ((two_circuits_first l y₀ n k s at y e h).2 (λ z. b (ap (λ (x : Told). x.number) eq ∙ z)))

-- ── all circuits ──

-- a party with no mark
pub two_from_none : (l : Two) (m : ℕ) (t : Told) (v y : ℕ) → y ≡ word t.words (l.b + 2 * v) → y ≡ 0 → t ≡ two_from_m l m t v
unfolding two_from_m
two_from_none l m t v y e z =
    let w : word t.words (l.b + 2 * v) ≡ 0 = sym e ∙ z in rw (eq-eqb (word t.words (l.b + 2 * v)) 0 w)

-- a party with one
pub two_from_some :
    (l : Two) (m : ℕ) (t : Told) (v y : ℕ) → y ≡ word t.words (l.b + 2 * v) → (y ≡ 0 → ⊥) →
    two_circuit_m l (y - 1) m t.words t.number (y - 1) ≡ two_from_m l m t v
unfolding two_from_m
two_from_some l m t v y e n =
    let w : word t.words (l.b + 2 * v) ≡ 0 → ⊥ = λ z. n (e ∙ z) in
    rw (ne_eqb (word t.words (l.b + 2 * v)) 0 w) (rw e)

-- ── the copies ──

-- where the sum is the parties, it is the sum of all copies
pub few_sum_all : (g m parties : ℕ) (s : List ℕ) → few_sum_m g m parties s ≡ Some parties → copies_sum_m g m s ≡ parties
few_sum_all g m parties s = go (ltb parties m)
  where
    go : (b : Bool) → pick b None (Some (copies_sum_m g m s)) ≡ Some parties → copies_sum_m g m s ≡ parties
    go true e = cc
    go false e = cc
