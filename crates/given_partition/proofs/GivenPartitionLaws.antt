-- A list whose parties stand on two sides always gets a plan, without a clash and with slots below D. Assumes nothing.
use Prim.Native.Nat.{ℕ, zero, suc, ◌≤◌, ◌<◌}
use mathlib.Core.Path.{◌≡◌, refl, sym}
use mathlib.Core.List.{List, [], ◌∷◌}
use native.Mathlib.Omega.{arith}
use native.Mathlib.Decide.{dec_lt}
use lib.ListN.{get_or}
use Rattle.words.specs.Basics.{total, All, Ran}
use Rattle.words.proofs.Sums.{is_ne, total_all_zero, all_map}
use Rattle.words.proofs.Runs.{ran_map, ran_then}
use Rattle.appointments.specs.Appointments as Appointments
use Rattle.appointments.specs.Appointments.{Appt, load, largest_load}
use Rattle.appointments.specs.Plans.{PlanOf, ClashFree}
use Rattle.appointments.proofs.Loads.{Listed, load_le_largest, largest_load_le}
use Rattle.appointments.specs.TwoSides.{TwoSides}
use Rattle.multigraph.specs.Multigraph.{Graph}
use Rattle.multigraph.specs.Regular.{names, degree, between, Across, Regular, Positive, Partition}
use Rattle.multigraph.proofs.Ends.{between_symmetric}
use Rattle.multigraph.proofs.Weights.{weigh_none}
use Rattle.multigraph.proofs.Matchings.{Sound}
use Rattle.coloring.specs.EdgeColor.{rbmg_edge_color}
use Rattle.coloring.specs.Coloring.{Coloring}
use Rattle.coloring.proofs.ColorLaws.{color_law}
use Rattle.perfect_matching.specs.Perfect.{Perfect}
use Rattle.regular_graph.specs.Evening.{add_appointments, padded, even_out}
use Rattle.highest_slot.specs.Slots.{give_slots}
use Rattle.given_partition.specs.GivenPartition.{bipartite_edge_color_given_partition}
use Rattle.regular_graph.proofs.Pairs.{degree_load, copies_appts, sound_list}
use Rattle.regular_graph.proofs.Padding.{padded_side, even_length, even_parties, padded_partition, padded_crosses}
use Rattle.regular_graph.proofs.RegularLaws.{Evened, even_out_law}
use Rattle.highest_slot.proofs.GiveSlots.{SlotsGiven, give_slots_law}

-- a plan of the list with slots below D and without a clash
pub record ProperPlan (P : ℕ) (xs : List Appt) (plan : List ℕ) : Type 0 where
  pub plan_of : PlanOf xs plan
  pub below : All (λ (s : ℕ). s < largest_load P xs) plan
  pub clash_free : ClashFree P xs plan

-- ── loads ──

-- a list of parties below P names no other
pub load_off : (P : ℕ) (xs : List Appt) → All (Listed P) xs → (v : ℕ) → P ≤ v → load v xs ≡ 0
unfolding load Appointments.names
load_off P xs h v l = total_all_zero (Appointments.names v) xs (all_map off xs h)
  where
    off : (x : Appt) → Listed P x → Appointments.names v x ≡ 0
    off x k = omega (arith, is_ne {u = v} {v = x.first} (λ e. omega arith), is_ne {u = v} {v = x.second} (λ e. omega arith))

-- so D bounds the degree of every party of the list's pairs, added ones too
degree_le : (P : ℕ) (xs : List Appt) → All (Listed P) xs → (v : ℕ) → degree v (add_appointments [] xs) ≤ largest_load P xs
degree_le P xs h v =
    elim (dec_lt v P) [
      | yes l ↦ omega (arith, degree_load v xs, load_le_largest P xs v l)
      | no n ↦ omega (arith, degree_load v xs, load_off P xs h v (omega arith))
    ]

-- ── colours ──

-- a party below N is named at most once by a slot's matching
degree_le_one :
    (N : ℕ) (side : ℕ → ℕ) (ms : List Graph) → All (Perfect N side) ms → (v s : ℕ) → v < N → degree v (get_or ms s []) ≤ 1
degree_le_one N side [] h v s l = omega (arith, weigh_none (names v))
degree_le_one N side (m ∷ ms) h v zero l = omega (arith, h.0.regular.even v l)
degree_le_one N side (m ∷ ms) h v (suc s) l = degree_le_one N side ms h.1 v s l

-- without parties there are no pairs, and no colours
no_parties : (side : ℕ → ℕ) (g : Graph) → All (Across 0 side) g → Coloring 0 side 0 g []
unfolding total
no_parties side [] h = record { as_many = refl; perfect = tt; copies = λ w s. sym (weigh_none w) }
no_parties side (p ∷ g) h = absurd (omega (arith, h.0.first_below))

colour_any :
    (N : ℕ) (side : ℕ → ℕ) (left right : List ℕ) (d : ℕ) (g : Graph) → Regular N side d g → Positive g →
    Partition N side left right → (N ≡ 0 → d ≡ 0) → Ran (Coloring N side d g) (rbmg_edge_color d N left right d g)
unfolding rbmg_edge_color
colour_any zero side left right d g r pos part none = rw (none refl) (no_parties side g r.across)
colour_any (suc N) side left right d g r pos part none =
    color_law d (suc N) side left right d g r pos part (omega arith) (omega arith)

-- ── the plan ──

module _
    (P : ℕ) (xs : List Appt) (side : ℕ → ℕ) (left right : List ℕ) (listed : All (Listed P) xs)
    (two : TwoSides P xs side left right) where
  abbrev N : ℕ
  N = even_parties left right

  abbrev side' : ℕ → ℕ
  side' = padded_side P left right side

  abbrev list_pairs : Graph
  list_pairs = add_appointments [] xs

  no_load : N ≡ 0 → largest_load P xs ≡ 0
  no_load z = omega (arith, largest_load_le P xs 0 (λ v h. absurd (omega (arith, two.all_parties))))

  -- slots from the colours of the evened graph
  slots_law :
      (g : Graph) (ms : List Graph) → Evened N side' (largest_load P xs) list_pairs g →
      Coloring N side' (largest_load P xs) g ms → Ran (ProperPlan P xs) (give_slots xs ms)
  slots_law g ms e c =
      ran_map proper (give_slots xs ms)
      (give_slots_law xs ms (all_map (λ m p. p.positive) ms c.perfect)
      (λ u v. omega (arith, copies_appts u v xs, e.kept u v, c.copies (between u v) (between_symmetric u v))))
    where
      free : (plan : List ℕ) → SlotsGiven xs ms plan → ClashFree P xs plan
      free plan h v s l =
          let below : v < N = omega (arith, two.all_parties) in
          omega (arith, h.meets_le v s, degree_le_one N side' ms c.perfect v s below)

      proper : (plan : List ℕ) → SlotsGiven xs ms plan → ProperPlan P xs plan
      proper plan h =
          record {
            plan_of = h.plan_of;
            below = all_map (λ s l. omega (arith, c.as_many)) plan h.below;
            clash_free = free plan h;
          }

  -- König's theorem, as the Rust carries it out: a list on two sides has a clash-free plan with as many slots as its largest
  -- load, and the steps find one.
  pub given_partition_law : Ran (ProperPlan P xs) (bipartite_edge_color_given_partition P xs left right)
  unfolding bipartite_edge_color_given_partition
  given_partition_law =
      let D : ℕ = largest_load P xs in
      let left' : List ℕ = padded P (even_length left right) left in
      let right' : List ℕ = padded P (even_length left right) right in
      let part : Partition N side' left' right' = padded_partition P xs side left right two in
      let sound : Sound N side' list_pairs = sound_list N side' xs (padded_crosses P xs side left right two listed) in
      ran_then (Evened N side' D list_pairs) (ProperPlan P xs) (even_out D list_pairs left' right') _
      (even_out_law N side' D list_pairs left' right' part sound (λ v h. degree_le P xs listed v))
      (λ g e.
      ran_then (Coloring N side' D g) (ProperPlan P xs) (rbmg_edge_color D N left' right' D g) (λ ms. give_slots xs ms)
      (colour_any N side' left' right' D g e.regular e.positive part no_load)
      (λ ms c. slots_law g ms e c))
