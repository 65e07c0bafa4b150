-- The whole numbers from a party's lowest slot to its highest: each is one of its slots or free. Assumes nothing.
use Prim.Native.Nat.{ℕ, ◌+◌, ◌-◌, ◌≤◌, ◌<◌}
use mathlib.Core.Path.{◌≡◌, sym, ◌∙◌, ap}
use mathlib.Core.List.{List}
use native.Mathlib.Omega.{arith}
use native.Mathlib.Decide.{ℕ_discrete}
use lib.ListN.{length}
use Rattle.words.specs.Basics.{is, count, All, sum_below}
use Rattle.words.proofs.Sums.{is_eq, is_ne, is_le, zero_count, all_counted, all_map, sum_below_more, sum_below_add, sum_below_cong, sum_below_const, sum_below_join, sum_below_le}
use Rattle.appointments.specs.Plans.{different}
use Rattle.appointments.proofs.PlanSums.{used, unused, unused_or_used, different_by_slots}
use Rattle.asking.specs.PartySlots.{lowest, highest}
use Rattle.asking.specs.Waiting.{free_between}
use Rattle.asking.proofs.PartySlots.{lowest_under, highest_over, lowest_in, highest_in}

-- no more are free than there are numbers
pub free_le : (low high : ℕ) (mine : List ℕ) → free_between low high mine ≤ high - (low + 1)
unfolding free_between
free_le low high mine =
    let n : ℕ = high - (low + 1) in
    let most : sum_below (λ k. is (count (low + 1 + k) mine) 0) n ≤ sum_below (λ k. 1) n = sum_below_le n (λ k h. is_le (count (low + 1 + k) mine) 0) in
    omega (arith, most, sum_below_const 1 n)

module _ (mine : List ℕ) (some : 0 < length mine) where
  abbrev low : ℕ
  low = lowest mine

  abbrev high : ℕ
  high = highest mine

  -- 1 for a number that is no slot
  abbrev free : ℕ → ℕ
  free s = unused s mine

  -- up to the highest
  free_and_different : sum_below free (high + 1) + different mine ≡ high + 1
  free_and_different =
      let below : All (λ s. s < high + 1) mine = all_map (λ s h. omega arith) mine (highest_over mine) in
      omega (
        arith,
        sym (sum_below_add free (λ s. used s mine) (high + 1)) ∙ sum_below_cong (high + 1) (λ s h. unused_or_used s mine) ∙ sum_below_const 1 (high + 1),
        different_by_slots (high + 1) mine below,
      )

  low_taken : free low ≡ 0
  low_taken = is_ne (λ e. omega (arith, lowest_in mine some))

  high_taken : free high ≡ 0
  high_taken = is_ne (λ e. omega (arith, highest_in mine some))

  -- all numbers below the lowest are free, and the lowest is not
  free_under : sum_below free (low + 1) ≡ low
  free_under =
      let each : sum_below free low ≡ sum_below (λ s. 1) low =
      sum_below_cong low (λ s h. is_eq (zero_count s mine (all_map (λ x k e. omega arith) mine (lowest_under mine)))) in
      omega (arith, sum_below_more free low, each, sum_below_const 1 low, low_taken)

  low_le_high : low ≤ high
  low_le_high = all_counted (λ s. s ≤ high) low mine (highest_over mine) (lowest_in mine some)

  -- A party with a slot waits in, or meets, each whole number from its lowest slot to its highest.
  pub between_whole : free_between low high mine + different mine ≡ high - low + 1
  unfolding free_between
  between_whole =
      let n : ℕ = high - (low + 1) in
      elim (ℕ_discrete low high) [
        | yes e ↦
            let same : sum_below free (high + 1) ≡ sum_below free (low + 1) = ap (λ (t : ℕ). sum_below free (t + 1)) (sym e) in
            omega (arith, same, free_under, free_and_different, free_le low high mine)
        | no q ↦
            let h : low ≤ high = low_le_high in
            let up : low + 1 + (n + 1) ≡ high + 1 = omega arith in
            let all : sum_below free (high + 1) ≡ sum_below free (low + 1) + sum_below (λ k. free (low + 1 + k)) (n + 1) =
            ap (sum_below free) (sym up) ∙ sum_below_join free (low + 1) (n + 1) in
            let last : free (low + 1 + n) ≡ 0 = ap free (omega arith) ∙ high_taken in
            omega (arith, all, sum_below_more (λ k. free (low + 1 + k)) n, last, free_under, free_and_different)
      ]
