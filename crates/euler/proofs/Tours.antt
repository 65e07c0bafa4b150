-- The walks from all parties: each adds a balanced cycle, and a party from which a walk began, or that a cycle names, has no
-- pair left. Assumes nothing.
use Prim.Native.Nat.{ℕ, zero, suc, ◌+◌, ◌*◌, ◌%◌, ◌<◌}
use mathlib.Core.Path.{◌≡◌, refl, ◌∙◌, ap}
use mathlib.Core.Bool.{Bool, true, false, ◌||◌}
use mathlib.Core.List.{List, [], ◌∷◌, ◌++◌, reverse}
use mathlib.Core.Logic.{⊎_elim}
use native.Mathlib.Omega.{arith}
use native.Mathlib.Decide.{ℕ_discrete}
use borrow.Author.Tests.{eqb-true}
use lib.Dec.{eqb}
use lib.ListN.{length}
use Rattle.words.specs.Basics.{pick, total, iterate, All, ran, Ran}
use Rattle.words.proofs.Bools.{never_true, either}
use Rattle.words.proofs.Sums.{is_eq, total_append, total_reverse, all_append}
use Rattle.words.proofs.Runs.{ran_then}
use Rattle.multigraph.specs.Multigraph.{Pair}
use Rattle.euler.specs.Euler.{Walking, walk_step, Tour, walk_from, names_party, visited, tour_below}
use Rattle.euler.specs.Split.{evens, odds}
use Rattle.euler.proofs.Taken.{ends}
use Rattle.euler.proofs.Trail.{aslant, trail_reverse, closed_balanced}
use Rattle.euler.proofs.Walks.{begin, Closed, walk_closes}

-- the sum of f over all pairs of the cycles
abbrev pub in_all : (Pair → ℕ) → List (List Pair) → ℕ
in_all f cs = total (λ (c : List Pair). total f c) cs

-- at v, a cycle has as many ends at places 0, 2, .. as at places 1, 3, ..
abbrev pub Balanced : ℕ → List Pair → Type 0
Balanced v c = total (ends v) (evens c) ≡ total (ends v) (odds c)

-- a visited party is named by a pair of a cycle
named : (v : ℕ) (ps : List Pair) → names_party v ps ≡ true → 0 < total (ends v) ps
unfolding names_party total
named v [] e = never_true e
named v (p ∷ ps) e =
    ⊎_elim
    (λ t.
    ⊎_elim (λ u. omega (arith, is_eq (eqb-true v p.first u))) (λ u. omega (arith, is_eq (eqb-true v p.second u)))
    (either (eqb v p.first) (eqb v p.second) t))
    (λ t. omega (arith, named v ps t))
    (either (eqb v p.first || eqb v p.second) (names_party v ps) e)

pub visited_named : (v : ℕ) (cs : List (List Pair)) → visited v cs ≡ true → 0 < in_all (ends v) cs
unfolding visited total
visited_named v [] e = never_true e
visited_named v (c ∷ cs) e =
    ⊎_elim (λ t. omega (arith, named v c t)) (λ t. omega (arith, visited_named v cs t))
    (either (names_party v c) (visited v cs) e)

-- What holds of the cycles and the pairs left, after the parties below n, of the pairs r.
pub record Toured (r : List Pair) (n : ℕ) (t : Tour) : Type 0 where
  pub whole : (f : Pair → ℕ) → in_all f t.cycles + total f t.left ≡ total f r
  pub balanced : (v : ℕ) → All (Balanced v) t.cycles
  pub even : (v : ℕ) → total (ends v) t.left % 2 ≡ 0
  pub below : (v : ℕ) → v < n → total (ends v) t.left ≡ 0
  pub spent : (v : ℕ) → 0 < in_all (ends v) t.cycles → total (ends v) t.left ≡ 0

-- one more cycle, the written pairs in the order of writing
in_all_more :
    (f : Pair → ℕ) (cs : List (List Pair)) (written : List Pair) →
    in_all f (cs ++ (reverse written ∷ [])) ≡ in_all f cs + total f written
unfolding total
in_all_more f cs written =
    total_append (λ (c : List Pair). total f c) cs (reverse written ∷ []) ∙ omega (arith, total_reverse f written)

-- a tour with the cycle of a finished walk
abbrev pub with_cycle : Tour → Walking → Tour
with_cycle t w = record { cycles = t.cycles ++ (reverse w.written ∷ []); left = w.left }

-- the cycle of a closed walk is balanced
cycle_balanced :
    (side : ℕ → ℕ) (n : ℕ) (r : List Pair) (w : Walking) → total (aslant side) r ≡ 0 → Closed n r w → (v : ℕ) →
    Balanced v (reverse w.written)
cycle_balanced side n r w z c =
    closed_balanced side n (reverse w.written) (trail_reverse n n w.written c.trail)
    (omega (arith, total_reverse (aslant side) w.written, c.whole (aslant side)))

-- a closed walk from n is one more cycle
one_more :
    (side : ℕ → ℕ) (r : List Pair) (n : ℕ) (t : Tour) (w : Walking) → total (aslant side) r ≡ 0 → Toured r n t →
    Closed n t.left w → Toured r (suc n) (with_cycle t w)
one_more side r n t w z h c =
    record {
      whole = λ f. omega (arith, in_all_more f t.cycles w.written, h.whole f, c.whole f);
      balanced = λ v.
          all_append (Balanced v) t.cycles (reverse w.written ∷ []) (h.balanced v)
          (cycle_balanced side n t.left w (omega (arith, h.whole (aslant side))) c v, tt);
      even = c.even;
      below = λ v k.
          elim (ℕ_discrete v n) [
            | yes e ↦ ap (λ (u : ℕ). total (ends u) w.left) e ∙ c.start_spent
            | no m ↦ omega (arith, h.below v (omega arith), c.whole (ends v))
          ];
      spent = λ v k.
          elim (ℕ_discrete (total (ends v) w.written) 0) [
            | yes e ↦ omega (arith, h.spent v (omega (arith, in_all_more (ends v) t.cycles w.written)), c.whole (ends v))
            | no m ↦ c.spent v (omega arith)
          ];
    }

-- the walk from n adds a cycle
walk_from_tours :
    (side : ℕ → ℕ) (r : List Pair) (n : ℕ) (t : Tour) → total (aslant side) r ≡ 0 → Toured r n t →
    Ran (Toured r (suc n)) (walk_from n t)
unfolding walk_from
walk_from_tours side r n t z h =
    let w : Walking = iterate (2 * length t.left) (walk_step n) (begin t.left) in
    let c : Closed n t.left w = walk_closes n t.left h.even in
    rw (c.empty, c.stuck) (one_more side r n t w z h c)

-- a visited party needs no walk
skips : (r : List Pair) (n : ℕ) (t : Tour) → visited n t.cycles ≡ true → Toured r n t → Toured r (suc n) t
skips r n t e h =
    record {
      whole = h.whole;
      balanced = h.balanced;
      even = h.even;
      below = λ v k.
          elim (ℕ_discrete v n)
          [ yes q ↦ h.spent v (rw q (visited_named n t.cycles e)) | no m ↦ h.below v (omega arith) ];
      spent = h.spent;
    }

-- the parties below n, of pairs between two sides in which every party has an even number of ends
pub tour_below_tours :
    (side : ℕ → ℕ) (r : List Pair) → total (aslant side) r ≡ 0 → ((v : ℕ) → total (ends v) r % 2 ≡ 0) → (n : ℕ) →
    Ran (Toured r n) (tour_below n r)
unfolding tour_below total
tour_below_tours side r z even zero =
    record {
      whole = λ f. omega (arith, total_reverse f r);
      balanced = λ v. tt;
      even = λ v. omega (arith, total_reverse (ends v) r, even v);
      below = λ v k. absurd (omega arith);
      spent = λ v k. absurd (omega arith);
    }
tour_below_tours side r z even (suc n) =
    ran_then (Toured r n) (Toured r (suc n)) (tour_below n r) (λ t. pick (visited n t.cycles) (ran t) (walk_from n t))
    (tour_below_tours side r z even n) (λ t h. go t h (visited n t.cycles) refl)
  where
    go :
        (t : Tour) → Toured r n t → (b : Bool) → visited n t.cycles ≡ b →
        Ran (Toured r (suc n)) (pick b (ran t) (walk_from n t))
    go t h true e = skips r n t e h
    go t h false e = walk_from_tours side r n t z h
