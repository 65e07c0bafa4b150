-- Modules 6 and 7 of document 01: the colouring of a regular graph is the list of its matchings. Assumes nothing.
use Rattle.std.specs.Prelude.{ℕ, zero, suc, ◌-◌, ◌/◌, ◌%◌, ◌^◌, List, [], ◌∷◌, ◌++◌, eqb, take, drop}
use Rattle.words.specs.Basics.{pick, Run, ran, failed, and_then}
use Rattle.multigraph.specs.Multigraph.{Graph, add_matching, remove_matching}
use Rattle.euler.specs.Split.{rbmg_split_into_two}
use Rattle.perfect_matching.specs.Matching.{rbmg_find_perfect_matching}
use Rattle.words.specs.PowersOfTwo.{log_up}

-- `rbmg_edge_color_when_power_of_two`, for degree 2^e. Degree 1: one matching, pairs in number order. Otherwise the first half's
-- matchings, then the second's.
unfoldable pub rbmg_edge_color_when_power_of_two : ℕ → ℕ → Graph → Run (List Graph)
rbmg_edge_color_when_power_of_two N zero g = ran (g ∷ [])
rbmg_edge_color_when_power_of_two N (suc e) g =
    and_then (rbmg_split_into_two N g) λ h.
    and_then (rbmg_edge_color_when_power_of_two N e h.first_half) λ cs.
    and_then (rbmg_edge_color_when_power_of_two N e h.second_half) λ ds.
    ran (cs ++ ds)

-- a matching set aside, if there is one, and the graph without it
pub record SetAside : Type 0 where
  pub aside : List Graph
  pub graph : Graph

-- Odd degree: one matching is set aside.
unfoldable pub set_aside : ℕ → List ℕ → List ℕ → ℕ → Graph → Run SetAside
set_aside N left right d g =
    let odd : Run SetAside =
    and_then (rbmg_find_perfect_matching N left right d g)
    (λ m. ran (record { aside = m ∷ []; graph = remove_matching g m })) in
    pick (eqb (d % 2) 1) odd (ran (record { aside = []; graph = g }))

-- one copy more of every pair of each of these matchings, one matching after the other
unfoldable pub add_matchings : Graph → List Graph → Graph
add_matchings g [] = g
add_matchings g (m ∷ ms) = add_matchings (add_matching g m) ms

-- `rbmg_edge_color`. Split; colour the first half by this same routine; move its earliest matchings to the second until that
-- degree is a power of two. Result: the second half's, what is left of the first's, the one set aside. Degree 0 gives none,
-- degree 1 one matching. The degree falls by half, so fuel of the degree suffices (a law).
unfoldable pub rbmg_edge_color : ℕ → ℕ → List ℕ → List ℕ → ℕ → Graph → Run (List Graph)
rbmg_edge_color zero N left right zero g = ran []
rbmg_edge_color zero N left right (suc d) g = failed
rbmg_edge_color (suc fuel) N left right zero g = ran []
rbmg_edge_color (suc fuel) N left right (suc zero) g = ran (g ∷ [])
rbmg_edge_color (suc fuel) N left right (suc (suc d)) g =
    let k : ℕ = suc (suc d) / 2 in
    let e : ℕ = log_up k in
    and_then (set_aside N left right (suc (suc d)) g) λ s.
    and_then (rbmg_split_into_two N s.graph) λ h.
    and_then (rbmg_edge_color fuel N left right k h.first_half) λ cs.
    and_then
    (rbmg_edge_color_when_power_of_two N e (add_matchings h.second_half (take (2 ^ e - k) cs))) λ ds.
    ran (ds ++ drop (2 ^ e - k) cs ++ s.aside)
