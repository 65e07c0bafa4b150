-- Document 01's example, 0-1 and 1-2 among three parties, step by step, each by computing: docs/WALKTHROUGH.md tells of it.
-- Assumes nothing.
use Rattle.std.specs.Prelude.{◌≡◌, refl, List, [], ◌∷◌}
use Rattle.words.specs.Basics.{ran}
use Rattle.appointments.specs.Appointments.{Appt, appt}
use Rattle.bipartition.specs.TwoColor.{sides, two_color}
use Rattle.multigraph.specs.Multigraph.{Graph, pair}
use Rattle.euler.specs.Split.{rbmg_split_into_two}
use Rattle.coloring.specs.EdgeColor.{rbmg_edge_color}
use Rattle.regular_graph.specs.Evening.{add_appointments, padded, even_out}
use Rattle.highest_slot.specs.Slots.{give_slots}
use Rattle.planning.specs.Computing.{computing}

abbrev pub appointments : List Appt
appointments = appt 0 1 ∷ appt 1 2 ∷ []

-- party 0 gets colour 1 and stands right; its neighbour 1 stands left, and 2 right again
pub two_sides : two_color 3 appointments ≡ sides (1 ∷ []) (0 ∷ 2 ∷ [])
unfolding computing
two_sides = refl

-- the new party 3 comes to the left, and two pairs with it, so that every party has degree 2
abbrev pub evened : Graph
evened = pair 0 1 1 0 ∷ pair 1 2 1 0 ∷ pair 3 0 1 0 ∷ pair 3 2 1 0 ∷ []

pub evens_out : even_out 2 (add_appointments [] appointments) (padded 3 2 (1 ∷ [])) (padded 3 2 (0 ∷ 2 ∷ [])) ≡ ran evened
unfolding computing
evens_out = refl

-- one closed round, 0-1-2-3-0, written down backwards: 3-0, 3-2, 1-2, 0-1. Places 0 and 2 go to the first half.
abbrev pub first_half : Graph
first_half = pair 3 0 1 0 ∷ pair 1 2 1 0 ∷ []

abbrev pub second_half : Graph
second_half = pair 3 2 1 0 ∷ pair 0 1 1 0 ∷ []

pub splits : rbmg_split_into_two 4 evened ≡ ran (record { first_half = first_half; second_half = second_half })
unfolding computing
splits = refl

-- both halves are matchings, and the second half's come first
pub colours : rbmg_edge_color 2 4 (1 ∷ 3 ∷ []) (0 ∷ 2 ∷ []) 2 evened ≡ ran (second_half ∷ first_half ∷ [])
unfolding computing
colours = refl

-- 0-1 is in matching 0, 1-2 in matching 1
pub gives_slots : give_slots appointments (second_half ∷ first_half ∷ []) ≡ ran (0 ∷ 1 ∷ [])
unfolding computing
gives_slots = refl
