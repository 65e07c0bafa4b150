-- Module 8 of document 01, `bipartite_edge_color_given_partition`. Assumes nothing.
use Rattle.std.specs.Prelude.{ℕ, ◌+◌, max, List, [], length}
use Rattle.words.specs.Basics.{Run, and_then}
use Rattle.appointments.specs.Appointments.{Appt, largest_load}
use Rattle.coloring.specs.EdgeColor.{rbmg_edge_color}
use Rattle.regular_graph.specs.Evening.{add_appointments, padded, even_out}
use Rattle.highest_slot.specs.Slots.{give_slots}

-- The slots of a list whose parties below P stand on two sides.
unfoldable pub bipartite_edge_color_given_partition : ℕ → List Appt → List ℕ → List ℕ → Run (List ℕ)
bipartite_edge_color_given_partition P xs l_nodes r_nodes =
    let D : ℕ = largest_load P xs in
    let n : ℕ = max (length l_nodes) (length r_nodes) in
    let left : List ℕ = padded P n l_nodes in
    let right : List ℕ = padded P n r_nodes in
    and_then (even_out D (add_appointments [] xs) left right) λ g.
    and_then (rbmg_edge_color D (n + n) left right D g) λ ms.
    give_slots xs ms
