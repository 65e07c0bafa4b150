-- Worked examples, each by computing, over two parties a side: left 0 and 1, right 2 and 3. Checked by hand against the Rust's
-- text. Assumes nothing.
use Rattle.std.specs.Prelude.{ℕ, ◌≡◌, refl, List, [], ◌∷◌}
use Rattle.words.specs.Basics.{Run, ran, failed}
use Rattle.multigraph.specs.Multigraph.{pair, Graph}
use Rattle.coloring.specs.EdgeColor.{rbmg_edge_color_when_power_of_two, rbmg_edge_color}
use Rattle.coloring.specs.Computing.{computing}

-- a copies of 0-2 and 1-3, b copies of 0-3 and 1-2
abbrev pub square : ℕ → ℕ → Graph
square a b = pair 0 2 a 0 ∷ pair 0 3 b 0 ∷ pair 1 2 b 0 ∷ pair 1 3 a 0 ∷ []

-- a matching's two pairs in number order
abbrev pub two : ℕ → ℕ → ℕ → ℕ → Graph
two a b c d = pair a b 1 0 ∷ pair c d 1 0 ∷ []

abbrev pub color : ℕ → Graph → Run (List Graph)
color d g = rbmg_edge_color d 4 (0 ∷ 1 ∷ []) (2 ∷ 3 ∷ []) d g

-- degree 0 gives none, degree 1 one matching
pub degree_none : color 0 [] ≡ ran []
unfolding computing
degree_none = refl

pub degree_one : color 1 (two 1 3 0 2) ≡ ran (two 1 3 0 2 ∷ [])
unfolding computing
degree_one = refl

-- without fuel there is no result
pub no_fuel : rbmg_edge_color 0 4 (0 ∷ 1 ∷ []) (2 ∷ 3 ∷ []) 1 (two 0 2 1 3) ≡ failed
unfolding computing
no_fuel = refl

-- Degree 2, the cycle 0-2 1-2 1-3 0-3: by the power of two the first half's matching comes first,
pub power_order : rbmg_edge_color_when_power_of_two 4 1 (square 1 1) ≡ ran (two 0 2 1 3 ∷ two 1 2 0 3 ∷ [])
unfolding computing
power_order = refl

-- and by `rbmg_edge_color` the second half's.
pub second_half_first : color 2 (square 1 1) ≡ ran (two 1 2 0 3 ∷ two 0 2 1 3 ∷ [])
unfolding computing
second_half_first = refl

-- Degree 3: the matching 0-2 1-3 is set aside and comes last.
pub aside_last : color 3 (square 1 2) ≡ ran (two 0 3 1 2 ∷ two 0 3 1 2 ∷ two 0 2 1 3 ∷ [])
unfolding computing
aside_last = refl

-- Degree 6: the first half's matchings are 1-2 0-3, then 0-2 1-3 twice. The earliest is moved to the second half, which then
-- has degree 4 and comes first; what is left of the first half's comes after it.
pub earliest_moved :
    color 6 (square 3 3)
    ≡ ran
    (two 0 3 1 2 ∷ two 1 3 0 2 ∷ two 0 3 1 2 ∷ two 0 3 1 2 ∷ two 0 2 1 3 ∷ two 0 2 1 3 ∷ [])
unfolding computing
earliest_moved = refl
