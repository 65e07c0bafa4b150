-- The second half of module 8 of document 01, `bipartite_edge_color_given_partition`: each appointment takes the highest slot its pair
-- has left. Assumes nothing.
use Rattle.std.specs.Prelude.{ℕ, ◌+◌, List, [], ◌∷◌, leb}
use Rattle.words.specs.Basics.{pick, Run, ran, failed, and_then}
use Rattle.appointments.specs.Appointments.{Appt}
use Rattle.multigraph.specs.Multigraph.{Graph, remove_edge}
use Rattle.multigraph.specs.Regular.{pairs_between}

-- a slot given, and the matchings without the pair that it was given to; or none left
pub data Given : Type 0 where
  given : ℕ → List Graph → Given
  none_left : Given

-- the matching i, where no later one has the pair: it gives the slot if it has the pair itself
abbrev pub give_here : ℕ → ℕ → ℕ → Graph → List Graph → Given
give_here a b i m ms = pick (leb 1 (pairs_between a b m)) (given i (remove_edge m a b 1 ∷ ms)) none_left

-- the matching m before later ones: what these give, m staying as it is, or else what m gives here
abbrev pub or_here : Graph → Given → Given → Given
or_here m (given s ms) here = given s (m ∷ ms)
or_here m none_left here = here

-- Matching i is slot i, counted from i on. The highest slot that the pair with ends a and b has left is given and taken.
unfoldable pub give : ℕ → ℕ → ℕ → List Graph → Given
give a b i [] = none_left
give a b i (m ∷ ms) = or_here m (give a b (i + 1) ms) (give_here a b i m ms)

-- goes on with the slot given and the matchings left; fails where none is left, as the Rust would panic
abbrev pub with_slot : Given → (ℕ → List Graph → Run (List ℕ)) → Run (List ℕ)
with_slot (given s ms) next = next s ms
with_slot none_left next = failed

-- Each appointment, in list order, takes the highest slot its pair has left.
unfoldable pub give_slots : List Appt → List Graph → Run (List ℕ)
give_slots [] ms = ran []
give_slots (x ∷ xs) ms =
    with_slot (give x.first x.second 0 ms)
    (λ s rest. and_then (give_slots xs rest) (λ slots. ran (s ∷ slots)))
