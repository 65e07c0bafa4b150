-- Worked examples of `euler_cycles` and `rbmg_split_into_two`, each by computing, with the answers of the Rust. A wrong turn
-- is refused here: cycles read forwards, the oldest pair first, second ends before first ends, the places of a cycle dealt
-- the other way round, half the copies rounded up. Assumes nothing.
use Rattle.std.specs.Prelude.{ℕ, ◌≡◌, refl, [], ◌∷◌}
use Rattle.words.specs.Basics.{ran}
use Rattle.multigraph.specs.Multigraph.{Pair, pair, Graph}
use Rattle.euler.specs.Euler.{euler_cycles}
use Rattle.euler.specs.Split.{rbmg_split_into_two}
use Rattle.euler.specs.Computing.{computing}

-- a pair with one copy and no flag
abbrev one : ℕ → ℕ → Pair
one a b = pair a b 1 0

-- ── cycles ──

abbrev square : Graph
square = one 0 2 ∷ one 0 3 ∷ one 1 2 ∷ one 1 3 ∷ []

-- From 0 the newest pair is 0-3: the walk is 0-3, 3-1, 1-2, 2-0, and the pairs are written down from its end.
pub square_cycles : euler_cycles 4 square ≡ ran ((one 0 2 ∷ one 1 2 ∷ one 1 3 ∷ one 0 3 ∷ []) ∷ [])
unfolding computing
square_cycles = refl

-- The walk comes back to 0 by 0-3, 3-1, 1-4, 4-0 and is stuck. It steps back to 3, writing three pairs, and goes on from
-- there by 3-6, 6-5, 5-2, 2-3.
pub eight_cycles :
    euler_cycles 7
    (one 2 3 ∷ one 2 5 ∷ one 6 3 ∷ one 6 5 ∷ one 0 4 ∷ one 1 4 ∷ one 1 3 ∷ one 0 3 ∷ [])
    ≡ ran ((one 0 4 ∷ one 1 4 ∷ one 1 3 ∷ one 2 3 ∷ one 2 5 ∷ one 6 5 ∷ one 6 3 ∷ one 0 3 ∷ []) ∷ [])
unfolding computing
eight_cycles = refl

-- At 3, reached by 1-3, the pair 3-2 has it as first end and comes before 6-3, which is newer.
pub first_ends_first :
    euler_cycles 7
    (one 0 3 ∷ one 3 2 ∷ one 6 3 ∷ one 0 4 ∷ one 1 4 ∷ one 3 1 ∷ one 5 2 ∷ one 6 5 ∷ [])
    ≡ ran ((one 0 3 ∷ one 6 3 ∷ one 6 5 ∷ one 5 2 ∷ one 3 2 ∷ one 3 1 ∷ one 1 4 ∷ one 0 4 ∷ []) ∷ [])
unfolding computing
first_ends_first = refl

-- Two squares and a party with no pair: one cycle from 0, an empty one from 4, one from 5; the others are visited.
pub three_starts :
    euler_cycles 9
    (one 5 7 ∷ one 0 2 ∷ one 8 5 ∷ one 0 3 ∷ one 6 7 ∷ one 1 2 ∷ one 8 6 ∷ one 1 3 ∷ [])
    ≡ ran ((one 0 2 ∷ one 1 2 ∷ one 1 3 ∷ one 0 3 ∷ []) ∷ [] ∷ (one 8 5 ∷ one 8 6 ∷ one 6 7 ∷ one 5 7 ∷ []) ∷ [])
unfolding computing
three_starts = refl

-- ── halves ──

-- Places 0 and 2 of the cycle 0-2 1-2 1-3 0-3 to the first half, places 1 and 3 to the second.
pub square_halves :
    rbmg_split_into_two 4 square
    ≡ ran (record { first_half = one 0 2 ∷ one 1 3 ∷ []; second_half = one 1 2 ∷ one 0 3 ∷ [] })
unfolding computing
square_halves = refl

-- Of 3 copies each half gets one, and the third is dealt: a half that has the pair adds to it, and a new pair comes last and
-- takes its flag along.
pub odd_copies :
    rbmg_split_into_two 4 (pair 0 2 3 0 ∷ pair 0 3 1 1 ∷ pair 3 1 3 0 ∷ pair 2 1 1 0 ∷ [])
    ≡ ran (record {
      first_half = pair 0 2 2 0 ∷ pair 3 1 2 0 ∷ [];
      second_half = pair 0 2 1 0 ∷ pair 3 1 1 0 ∷ pair 2 1 1 0 ∷ pair 0 3 1 1 ∷ [];
    })
unfolding computing
odd_copies = refl

-- three parties a side, degree 4
pub three_a_side :
    rbmg_split_into_two 6
    (pair 0 3 3 0 ∷ pair 0 4 1 0 ∷ pair 4 1 2 1 ∷ pair 1 5 1 0 ∷ pair 1 3 1 0 ∷ pair 2 5 3 1 ∷ pair 2 4 1 0 ∷ [])
    ≡ ran (record {
      first_half = pair 0 3 2 0 ∷ pair 4 1 1 1 ∷ pair 2 5 1 1 ∷ pair 1 5 1 0 ∷ pair 2 4 1 0 ∷ [];
      second_half = pair 0 3 1 0 ∷ pair 4 1 1 1 ∷ pair 2 5 2 1 ∷ pair 1 3 1 0 ∷ pair 0 4 1 0 ∷ [];
    })
unfolding computing
three_a_side = refl

-- A pair with zero copies, which the search can add, is dropped.
pub zero_dropped :
    rbmg_split_into_two 4 (pair 0 2 4 0 ∷ pair 1 3 4 0 ∷ pair 0 3 0 1 ∷ [])
    ≡ ran (record { first_half = pair 0 2 2 0 ∷ pair 1 3 2 0 ∷ []; second_half = pair 0 2 2 0 ∷ pair 1 3 2 0 ∷ [] })
unfolding computing
zero_dropped = refl
