-- The theorem by positions: positions that are chosen, each at most once, are some of all positions, and so are the appointments that
-- stand there. Assumes nothing.
use Prim.Native.Nat.{ℕ, zero, suc, ◌+◌, ◌*◌, ◌%◌, ◌≤◌, ◌<◌}
use mathlib.Core.Path.{◌≡◌, refl, sym, ◌∙◌, ap}
use mathlib.Core.List.{List, [], ◌∷◌, ◌++◌, map}
use native.Mathlib.Omega.{arith}
use native.Mathlib.Decide.{ℕ_discrete}
use lib.ListN.{length, drop}
use Rattle.words.specs.Basics.{count}
use Rattle.words.specs.Words.{word}
use Rattle.words.proofs.Sums.{is_same, is_eq, is_ne, count_append, all_counted}
use Rattle.appointments.specs.Appointments.{Appt, appt, appts}
use Rattle.appointments.specs.Lent.{lent_appts}
use Rattle.appointments.proofs.Flat.{appts_count, rest_cons, rest_none}
use Rattle.cancelling.specs.Cancelling.{Kept, Chosen, at_positions, CancellingByPositions}
use Rattle.cancelling.proofs.KeptLaws.{kept_map}
use Rattle.cancelling.proofs.Cancelled.{cancelling}

-- ── numbers that are counted no more often ──

-- what stands before a number of a list, and what behind it
record Split (v : ℕ) (zs : List ℕ) : Type 0 where
  before : List ℕ
  after : List ℕ
  whole : zs ≡ before ++ v ∷ after

split : (v : ℕ) (zs : List ℕ) → 0 < count v zs → Split v zs
unfolding count
split v [] h = absurd (omega arith)
split v (z ∷ zs) h =
    elim (ℕ_discrete v z) [
      | yes e ↦ record { before = []; after = zs; whole = ap (λ (x : ℕ). x ∷ zs) (sym e) }
      | no n ↦
          let s : Split v zs = split v zs (omega (arith, is_ne n)) in
          record { before = z ∷ s.before; after = s.after; whole = ap (λ (r : List ℕ). z ∷ r) s.whole }
    ]

-- numbers of which none is counted more often are some of the list
counted_kept : (zs ys : List ℕ) → ((v : ℕ) → count v ys ≤ count v zs) → Kept zs ys
unfolding count
counted_kept zs [] h = tt
counted_kept zs (y ∷ ys) h =
    let s : Split y zs = split y zs (omega (arith, h y, is_same y)) in (
      s.before,
      s.after,
      s.whole,
      counted_kept (s.before ++ s.after) ys (
          λ v. omega (
            arith,
            h v,
            ap (count v) s.whole,
            count_append v s.before (y ∷ s.after),
            count_append v s.before s.after,
          )
          ),
    )

-- ── all positions ──

-- the n numbers from k on
from : ℕ → ℕ → List ℕ
from k zero = []
from k (suc n) = k ∷ from (k + 1) n

from_counts : (k n v : ℕ) → k ≤ v → v < k + n → 0 < count v (from k n)
unfolding count from
from_counts k zero v low high = absurd (omega arith)
from_counts k (suc n) v low high =
    elim (ℕ_discrete v k)
    [ yes e ↦ omega (arith, is_eq e) | no n' ↦ omega (arith, from_counts (k + 1) n v (omega arith) (omega arith)) ]

-- chosen positions are some of all positions
chosen_kept : (A : ℕ) (positions : List ℕ) → Chosen A positions → Kept (from 0 A) positions
chosen_kept A positions c = counted_kept (from 0 A) positions no_more
  where
    no_more : (v : ℕ) → count v positions ≤ count v (from 0 A)
    no_more v =
        let below : 0 < count v positions → v < A = all_counted (λ (i : ℕ). i < A) v positions c.there in
        elim (ℕ_discrete (count v positions) 0) [
          | yes none ↦ omega arith
          | no some ↦
              let b : v < A = below (omega arith) in
              omega (arith, c.once v, from_counts 0 A v (omega arith) (omega arith))
        ]

-- ── the appointments that stand there ──

module _ (list : List ℕ) where
  -- the appointment at a position
  entry : ℕ → Appt
  entry i = appt (word list (2 * i)) (word list (2 * i + 1))

  entries : (positions : List ℕ) → appts (at_positions list positions) ≡ map entry positions
  unfolding appts at_positions entry
  entries [] = refl
  entries (i ∷ positions) = ap (λ (r : List Appt). entry i ∷ r) (entries positions)

  all_entries : (k n : ℕ) → k + n ≡ length (appts list) → map entry (from k n) ≡ drop k (appts list)
  unfolding from entry
  all_entries k zero e = sym (rest_none (appts list) k (omega arith))
  all_entries k (suc n) e =
      ap (λ (r : List Appt). entry k ∷ r) (all_entries (k + 1) n (omega arith))
      ∙ sym (rest_cons list k (omega (arith, appts_count list)))

  even_positions : (positions : List ℕ) → length (at_positions list positions) % 2 ≡ 0
  unfolding at_positions
  even_positions [] = refl
  even_positions (i ∷ positions) = omega (arith, even_positions positions)

-- Cancelling can't lengthen a plan, by the positions that are kept.
pub cancelling_by_positions : CancellingByPositions
cancelling_by_positions l D positions planned chosen =
    cancelling l D (at_positions list positions) planned (even_positions list positions) (
    rw (entries list positions, ← all_entries list 0 A (omega arith))
    (kept_map (entry list) (from 0 A) positions (chosen_kept A positions chosen))
    )
  where
    list : List ℕ
    list = l.list

    A : ℕ
    A = length (lent_appts l)
