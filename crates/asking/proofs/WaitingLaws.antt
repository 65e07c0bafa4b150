-- Waiting's laws: no gap with one slot or none, all numbers from the lowest slot to the highest, and at most D − 2. Assumes nothing.
use Prim.Native.Nat.{ℕ, ◌-◌, ◌≤◌, ◌<◌}
use mathlib.Core.Path.{◌≡◌}
use mathlib.Core.List.{List, [], ◌∷◌}
use native.Mathlib.Omega.{arith}
use lib.ListN.{length}
use Rattle.words.specs.Basics.{All}
use Rattle.words.proofs.Sums.{all_counted}
use Rattle.appointments.specs.Appointments.{Appt}
use Rattle.asking.specs.PartySlots.{slots_of, lowest, highest}
use Rattle.asking.specs.Waiting.{free_between, waiting, WaitsInTheHall}
use Rattle.asking.proofs.PartySlots.{slots_load, slots_each, highest_in}
use Rattle.asking.proofs.Between.{free_le, between_whole}

-- no slot or one leaves no number between
one_slot : (mine : List ℕ) → length mine ≤ 1 → free_between (lowest mine) (highest mine) mine ≡ 0
unfolding lowest highest
one_slot [] h = omega (arith, free_le 65535 0 [])
one_slot (s ∷ []) h = omega (arith, free_le s (highest (s ∷ [])) (s ∷ []))
one_slot (s ∷ t ∷ mine) h = absurd (omega arith)

-- with all slots below D
with_d : (D : ℕ) (mine : List ℕ) → All (λ (s : ℕ). s < D) mine → free_between (lowest mine) (highest mine) mine ≤ D - 2
with_d D [] h = omega (arith, one_slot [] (omega arith))
with_d D (s ∷ mine) h =
    let top : highest (s ∷ mine) < D = all_counted (λ (t : ℕ). t < D) (highest (s ∷ mine)) (s ∷ mine) h (highest_in (s ∷ mine) (omega arith)) in
    omega (arith, top, free_le (lowest (s ∷ mine)) (highest (s ∷ mine)) (s ∷ mine))

pub waits_in_the_hall : (xs : List Appt) (slots : List ℕ) (party : ℕ) → WaitsInTheHall xs slots party
unfolding waiting
waits_in_the_hall xs slots party =
    let mine : List ℕ = slots_of party xs slots in
    record {
      no_gap = λ h. one_slot mine (omega (arith, slots_load party xs slots));
      whole = λ h. between_whole mine h;
      below_d = λ D h. with_d D mine (slots_each (λ (s : ℕ). s < D) party xs slots h);
    }
