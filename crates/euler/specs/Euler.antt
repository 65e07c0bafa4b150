-- Module 3 of document 01, `euler_cycles`: from each unvisited party in number order, walk the first remaining pair; when
-- stuck, step back and write down the pair; a cycle is read in that written order. Assumes nothing.
use Rattle.std.specs.Prelude.{ℕ, zero, suc, ◌*◌, Bool, false, ◌||◌, List, [], ◌∷◌, ◌++◌, reverse, eqb, length}
use Rattle.words.specs.Basics.{pick, iterate, Run, ran, failed, and_then}
use Rattle.multigraph.specs.Multigraph.{Pair}

-- a pair taken out of those that remain, and the others; or none
pub data Taken : Type 0 where
  taken : Pair → List Pair → Taken
  none : Taken

-- one pair more in front, which is not taken
abbrev pub past : Pair → Taken → Taken
past p (taken q ps) = taken q (p ∷ ps)
past p none = none

-- the first pair of the list whose end, as `end` reads it, is v
unfoldable pub take_by : (Pair → ℕ) → ℕ → List Pair → Taken
take_by end v [] = none
take_by end v (p ∷ ps) = let later = past p (take_by end v ps) in pick (eqb v (end p)) (taken p ps) later

-- what is taken, or else the other
abbrev pub or_else : Taken → Taken → Taken
or_else (taken p ps) other = taken p ps
or_else none other = other

-- The first remaining pair of a party: pairs where it is first end come newest first, then those where it is second end,
-- newest first. The list of those that remain is newest first.
unfoldable pub first_pair : ℕ → List Pair → Taken
first_pair v ps = or_else (take_by (λ p. p.first) v ps) (take_by (λ p. p.second) v ps)

-- the other end of a pair (`other_node`)
abbrev pub other_node : Pair → ℕ → ℕ
other_node p v = pick (eqb v p.first) p.second p.first

-- a pair on the stack and the party that it led to
pub record Step : Type 0 where
  pub pair : Pair
  pub to : ℕ

-- A walk from one party: the stack, last first; the pairs that remain, newest first; the pairs written down, last first.
pub record Walking : Type 0 where
  pub stack : List Step
  pub left : List Pair
  pub written : List Pair

-- the party at which the walk stands
abbrev pub standing : ℕ → List Step → ℕ
standing s [] = s
standing s (e ∷ stack) = e.to

-- stuck: step back and write down the pair; at the start with an empty stack the walk has ended
abbrev pub step_back : List Step → List Pair → List Pair → Walking
step_back [] left written = record { stack = []; left = left; written = written }
step_back (e ∷ stack) left written = record { stack = stack; left = left; written = e.pair ∷ written }

-- a step: the pair taken is walked; where none is, the walk is stuck
abbrev pub follow : ℕ → Walking → Taken → Walking
follow s w none = step_back w.stack w.left w.written
follow s w (taken p ps) =
    record {
      stack = record { pair = p; to = other_node p (standing s w.stack) } ∷ w.stack;
      left = ps;
      written = w.written;
    }

-- one step of the walk from s
unfoldable pub walk_step : ℕ → Walking → Walking
walk_step s w = follow s w (first_pair (standing s w.stack) w.left)

-- the cycles written so far, in order, and the pairs that remain, newest first
pub record Tour : Type 0 where
  pub cycles : List (List Pair)
  pub left : List Pair

-- a finished walk is one more cycle
abbrev pub finished : Tour → Walking → List Step → Taken → Run Tour
finished t w [] none = ran (record { cycles = t.cycles ++ (reverse w.written ∷ []); left = w.left })
finished t w [] (taken p ps) = failed
finished t w (e ∷ stack) none = failed
finished t w (e ∷ stack) (taken p ps) = failed

-- The walk from s. Each pair is walked once and written down once, so twice as many steps as pairs suffice (a law).
unfoldable pub walk_from : ℕ → Tour → Run Tour
walk_from s t =
    let w : Walking =
    iterate (2 * length t.left) (walk_step s) (record { stack = []; left = t.left; written = [] }) in
    finished t w w.stack (first_pair s w.left)

-- A party is visited if a pair written down so far has it as an end. (A party from which a walk began is not asked again.)
unfoldable pub names_party : ℕ → List Pair → Bool
names_party v [] = false
names_party v (p ∷ ps) = eqb v p.first || eqb v p.second || names_party v ps

-- in one of the cycles
unfoldable pub visited : ℕ → List (List Pair) → Bool
visited v [] = false
visited v (c ∷ cs) = names_party v c || visited v cs

-- the parties below v, in number order
unfoldable pub tour_below : ℕ → List Pair → Run Tour
tour_below zero r = ran (record { cycles = []; left = reverse r })
tour_below (suc v) r =
    and_then (tour_below v r) (λ t. pick (visited v t.cycles) (ran t) (walk_from v t))

-- The cycles of a graph on the parties below N, its pairs in number order.
unfoldable pub euler_cycles : ℕ → List Pair → Run (List (List Pair))
euler_cycles N r = and_then (tour_below N r) (λ t. ran t.cycles)
