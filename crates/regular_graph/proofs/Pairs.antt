-- The pairs of a list: each appointment adds one copy to every weight of the graph, so a party's degree is its load, and the
-- copies between two parties are the appointments between them. Assumes nothing.
use Prim.Native.Nat.{ℕ, ◌+◌}
use mathlib.Core.Path.{◌≡◌}
use mathlib.Core.List.{List, [], ◌∷◌}
use native.Mathlib.Omega.{arith}
use Rattle.words.specs.Basics.{All}
use Rattle.appointments.specs.Appointments as Appointments
use Rattle.appointments.specs.Appointments.{Appt, load}
use Rattle.appointments.proofs.Loads.{weigh_appts, weigh_appts_none, weigh_appts_cons}
use Rattle.multigraph.specs.Multigraph.{pair, Graph, add_edge}
use Rattle.multigraph.specs.Regular.{weigh, names, degree, between, copies_between, Across, Symmetric}
use Rattle.multigraph.proofs.Ends.{names_symmetric, between_symmetric}
use Rattle.multigraph.proofs.Weights.{weigh_none}
use Rattle.multigraph.proofs.Adding.{weigh_add_edge, across_add_edge, positive_add_edge, apart_add_edge}
use Rattle.multigraph.proofs.Matchings.{Sound}
use Rattle.regular_graph.specs.Evening.{add_appointments}

-- Adding the appointments of a list adds their weights.
pub weigh_add_appointments :
    (w : ℕ → ℕ → ℕ) → Symmetric w → (g : Graph) (xs : List Appt) →
    weigh w (add_appointments g xs) ≡ weigh w g + weigh_appts w xs
unfolding add_appointments
weigh_add_appointments w s g [] = omega (arith, weigh_appts_none w)
weigh_add_appointments w s g (x ∷ xs) =
    omega (
      arith,
      weigh_add_appointments w s (add_edge g x.first x.second 1 0) xs,
      weigh_add_edge w s g x.first x.second 1 0,
      weigh_appts_cons w x xs,
    )

-- So the pairs of a list weigh what its appointments weigh.
pub weigh_list : (w : ℕ → ℕ → ℕ) → Symmetric w → (xs : List Appt) → weigh w (add_appointments [] xs) ≡ weigh_appts w xs
weigh_list w s xs = omega (arith, weigh_add_appointments w s [] xs, weigh_none w)

-- A party's degree in the pairs of a list is its load.
pub degree_load : (v : ℕ) (xs : List Appt) → degree v (add_appointments [] xs) ≡ load v xs
unfolding load weigh_appts Appointments.names
degree_load v xs = weigh_list (names v) (names_symmetric v) xs

-- The copies between two parties are the appointments between them.
pub copies_appts : (u v : ℕ) (xs : List Appt) → copies_between u v (add_appointments [] xs) ≡ weigh_appts (between u v) xs
copies_appts u v xs = weigh_list (between u v) (between_symmetric u v) xs

-- both ends of an appointment are below N and on different sides
abbrev pub Crosses : ℕ → (ℕ → ℕ) → Appt → Type 0
Crosses N side x = Across N side (pair x.first x.second 1 0)

-- The pairs of a list are apart, positive and across, as its appointments are.
pub sound_add_appointments :
    (N : ℕ) (side : ℕ → ℕ) (g : Graph) (xs : List Appt) → Sound N side g → All (Crosses N side) xs →
    Sound N side (add_appointments g xs)
unfolding add_appointments
sound_add_appointments N side g [] h k = h
sound_add_appointments N side g (x ∷ xs) h k =
    sound_add_appointments N side (add_edge g x.first x.second 1 0) xs
    (record {
      across = across_add_edge N side g x.first x.second 1 0 h.across k.0;
      apart = apart_add_edge g x.first x.second 1 0 h.apart;
      positive = positive_add_edge g x.first x.second 1 0 h.positive (omega arith);
    })
    k.1

-- and so are those of the whole list
pub sound_list : (N : ℕ) (side : ℕ → ℕ) (xs : List Appt) → All (Crosses N side) xs → Sound N side (add_appointments [] xs)
sound_list N side xs = sound_add_appointments N side [] xs (record { across = tt; apart = tt; positive = tt })
