-- The cases of the functions of walking on words, for the code's proofs. Assumes nothing.
use Prim.Native.Nat.{ℕ, ◌+◌, ◌*◌, ◌-◌, ◌<◌, ◌≤◌}
use mathlib.Core.Path.{◌≡◌, sym, ◌∙◌, ap}
use mathlib.Core.Bool.{Bool, true, false}
use mathlib.Core.List.{List}
use native.Mathlib.Omega.{arith}
use native.Mathlib.Numerals.{add-one}
use borrow.Author.Tests.{eq-eqb, ne_eqb, lt-ltb, le-ltb, le-leb, lt-leb}
use lib.Dec.{eqb, ltb, leb}
use Rattle.words.specs.Basics.{pick, iterate}
use Rattle.words.specs.Words.{word}
use Rattle.words.proofs.Runs.{iterate_suc_out, iterate_rest, iterate_add}
use Rattle.rings.specs.declared.Rings.{Rings}
use Rattle.walking.specs.declared.Walk.{Walk}
use Rattle.walking.specs.Model.{Stage, party, Small, take_m, back_m, stuck_m, step_m, walk_m}

-- stuck with something on the stack, or with nothing
pub stuck_backs : (l : Rings) (s : List ℕ) (w : Walk) → 0 < w.height → stuck_m l s w ≡ back_m l s w
unfolding stuck_m
stuck_backs l s w h = rw (lt-ltb 0 w.height h)

pub stuck_next :
    (l : Rings) (s : List ℕ) (w : Walk) → w.height ≤ 0 →
    stuck_m l s w ≡ record { words = s; walk = record { next = party (w.next.0 + 1); at = party (w.next.0 + 1); height = 0; written = w.written } }
unfolding stuck_m
stuck_next l s w h = rw (le-ltb 0 w.height h)

-- a step past the last party, one that takes, one that is stuck
pub step_idle : (l : Rings) (parties : ℕ) (t : Stage) → parties ≤ t.walk.next.0 → step_m l parties t ≡ t
unfolding step_m
step_idle l parties t h = rw (le-leb parties t.walk.next.0 h)

pub step_takes :
    (l : Rings) (parties : ℕ) (s : List ℕ) (w : Walk) → w.next.0 < parties →
    (word s (l.b + 2 * (l.top + w.at.0)) ≡ l.top + w.at.0 → ⊥) →
    step_m l parties (record { words = s; walk = w }) ≡ take_m l s w (word s (l.b + 2 * (l.top + w.at.0)))
unfolding step_m
step_takes l parties s w n h =
    rw (lt-leb parties w.next.0 n, ne_eqb (word s (l.b + 2 * (l.top + w.at.0))) (l.top + w.at.0) h)

pub step_stuck :
    (l : Rings) (parties : ℕ) (s : List ℕ) (w : Walk) → w.next.0 < parties →
    word s (l.b + 2 * (l.top + w.at.0)) ≡ l.top + w.at.0 → step_m l parties (record { words = s; walk = w }) ≡ stuck_m l s w
unfolding step_m
step_stuck l parties s w n h =
    rw (lt-leb parties w.next.0 n, eq-eqb (word s (l.b + 2 * (l.top + w.at.0))) (l.top + w.at.0) h)

-- one step more
pub walk_more : (l : Rings) (parties k : ℕ) (t : Stage) → walk_m l parties (k + 1) t ≡ step_m l parties (walk_m l parties k t)
walk_more l parties k t = rw add-one (iterate_suc_out k (step_m l parties) t)

-- past the last party further steps change nothing
pub walk_rests :
    (l : Rings) (parties bound k : ℕ) (t u : Stage) → k ≤ bound → u ≡ walk_m l parties k t → parties ≤ u.walk.next.0 →
    walk_m l parties bound t ≡ u
walk_rests l parties bound k t u h e n =
    ap (λ (b : ℕ). walk_m l parties b t) more
    ∙ iterate_add k (bound - k) (step_m l parties) t
    ∙ ap (iterate (bound - k) (step_m l parties)) (sym e)
    ∙ iterate_rest (bound - k) (step_m l parties) u (step_idle l parties u n)
  where
    more : bound ≡ k + (bound - k)
    more = omega arith

small_stuck : (l : Rings) (k : ℕ) (s : List ℕ) (w : Walk) → Small k w → Small (k + 1) (stuck_m l s w).walk
unfolding stuck_m back_m
small_stuck l k s w h = go (ltb 0 w.height)
  where
    go :
        (c : Bool) →
        Small (k + 1)
        (pick c (back_m l s w)
        (record {
          words = s;
          walk = record { next = party (w.next.0 + 1); at = party (w.next.0 + 1); height = 0; written = w.written };
        })).walk
    go true = omega arith
    go false = omega arith

-- the numbers of a walk grow by at most 1 a step, but for the party, which is a word
pub small_step :
    (l : Rings) (parties k : ℕ) (t : Stage) → ((i : ℕ) → word t.words i < 4294967296) → Small k t.walk →
    Small (k + 1) (step_m l parties t).walk
unfolding step_m take_m
small_step l parties k t fit h =
    go (leb parties w.next.0) (eqb (word s (l.b + 2 * (l.top + w.at.0))) (l.top + w.at.0))
  where
    s : List ℕ
    s = t.words

    w : Walk
    w = t.walk

    go :
        (a b : Bool) →
        Small (k + 1) (pick a t (pick b (stuck_m l s w) (take_m l s w (word s (l.b + 2 * (l.top + w.at.0)))))).walk
    go true b = omega arith
    go false true = small_stuck l k s w h
    go false false = omega (arith, fit (l.b + 2 * word s (l.b + 2 * (l.top + w.at.0)) + 3))
