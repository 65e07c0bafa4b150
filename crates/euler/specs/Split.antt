-- Module 4 of document 01, `rbmg_split_into_two`: of each pair half the copies to each half; the odd ones form a rest, whose
-- cycles are dealt, place by place, to the one half and the other. Assumes nothing.
use Rattle.std.specs.Prelude.{ℕ, ◌/◌, ◌%◌, Bool, true, false, List, [], ◌∷◌, eqb, leb}
use Rattle.words.specs.Basics.{pick, Run, ran, and_then}
use Rattle.multigraph.specs.Multigraph.{Pair, Graph, add_edge, with_copies}
use Rattle.euler.specs.Euler.{euler_cycles}

-- both halves of a graph
pub record Halves : Type 0 where
  pub first_half : Graph
  pub second_half : Graph

-- Pairs in number order: half the copies, rounded down, if at least 2. Both halves get this much.
unfoldable pub add_halves : Graph → Graph → Graph
add_halves h [] = h
add_halves h (p ∷ g) =
    add_halves (pick (leb 2 p.copies) (add_edge h p.first p.second (p.copies / 2) p.bad) h) g

-- the rest: the odd ones, with one copy each
unfoldable pub rest : Graph → Graph
rest [] = []
rest (p ∷ g) = let later = rest g in pick (eqb (p.copies % 2) 1) (with_copies 1 p ∷ later) later

-- every other member of a list, from the first on or from the second on
unfoldable pub every_other {ℓ} : {A : Type ℓ} → Bool → List A → List A
every_other b [] = []
every_other true (x ∷ xs) = x ∷ every_other false xs
every_other false (x ∷ xs) = every_other true xs

-- the pairs of a cycle at places 0, 2, ..
abbrev pub evens : List Pair → List Pair
evens c = every_other true c

-- and at places 1, 3, ..
abbrev pub odds : List Pair → List Pair
odds c = every_other false c

-- one copy of each pair of a list, with its ends and flag
unfoldable pub add_pairs : Graph → List Pair → Graph
add_pairs h [] = h
add_pairs h (p ∷ ps) = add_pairs (add_edge h p.first p.second 1 p.bad) ps

-- along each cycle places 0, 2, .. go to the first half, the others to the second
unfoldable pub deal : Halves → List (List Pair) → Halves
deal h [] = h
deal h (c ∷ cs) =
    deal
    (record { first_half = add_pairs h.first_half (evens c); second_half = add_pairs h.second_half (odds c) })
    cs

-- The two halves of a graph on the parties below N.
unfoldable pub rbmg_split_into_two : ℕ → Graph → Run Halves
rbmg_split_into_two N g =
    and_then (euler_cycles N (rest g))
    (λ cs. ran (deal (record { first_half = add_halves [] g; second_half = add_halves [] g }) cs))
