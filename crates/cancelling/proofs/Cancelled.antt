-- The theorem: of an accepted list any appointments that are kept are accepted, and D is no larger. Assumes nothing.
use Prim.Native.Nat.{ℕ, ◌+◌, ◌*◌, ◌%◌, ◌≤◌}
use mathlib.Core.Path.{◌≡◌, sym, ◌∙◌}
use mathlib.Core.List.{List}
use native.Mathlib.Nat.{le_trans, mul-le-mul_left, mul-le-mul_right}
use native.Mathlib.Omega.{arith}
use lib.ListN.{length}
use Rattle.appointments.specs.Appointments.{appts, largest_load}
use Rattle.appointments.specs.Checks.{passed}
use Rattle.appointments.specs.Rounds.{OddRound}
use Rattle.appointments.specs.Lent.{Lent, with_list, lent_appts, lent_d, lent_checks}
use Rattle.appointments.proofs.Loads.{Listed}
use Rattle.appointments.proofs.ChecksLaws.{Filled, Passes, passes_passed}
use Rattle.appointments.proofs.LentLaws.{lent_passes}
use Rattle.appointments.proofs.AnswerLaws.{accepted_refused}
use Rattle.planning.specs.Planning.{plan_answer, plan_slots}
use Rattle.planning.specs.Demand3.{Demand3}
use Rattle.planning.proofs.Demand3.{demand_3}
use Rattle.cancelling.specs.Cancelling.{Kept, Cancelling}
use Rattle.cancelling.proofs.KeptLaws.{kept_length, kept_all, kept_largest, kept_odd}

-- Checks 1 to 8 pass what is kept: nothing that they bound grows.
pub kept_passes :
    (P : ℕ) (list kept : List ℕ) (slots scratch : ℕ) → length kept % 2 ≡ 0 → Kept (appts list) (appts kept) →
    Passes P list slots scratch → Passes P kept slots scratch
kept_passes P list kept slots scratch even k p =
    record {
      good =
          record {
            parties = p.good.parties;
            even = even;
            few = omega (arith, fewer, p.good.few);
            filled = kept_all Filled (appts list) (appts kept) k p.good.filled;
            listed = kept_all (Listed P) (appts list) (appts kept) k p.good.listed;
          };
      product = le_trans (mul-le-mul_right P lower) p.product;
      slot_room = omega (arith, fewer, p.slot_room);
      scratch_room = le_trans (mul-le-mul_left (128 * P) more) p.scratch_room;
    }
  where
    fewer : length (appts kept) ≤ length (appts list)
    fewer = kept_length (appts list) (appts kept) k

    lower : largest_load P (appts kept) ≤ largest_load P (appts list)
    lower = kept_largest P (appts list) (appts kept) k

    more : largest_load P (appts kept) + 1 ≤ largest_load P (appts list) + 1
    more = omega (arith, lower)

-- Cancelling can't lengthen a plan.
pub cancelling : Cancelling
cancelling l D kept planned even k =
    record {
      its_D = lent_d kept_lent;
      answer = after.accepts still even_rounds;
      no_larger = omega (arith, kept_largest l.parties (lent_appts l) (appts kept) k, (before.plan D planned).largest);
    }
  where
    kept_lent : Lent
    kept_lent = with_list l kept

    before : Demand3 l (plan_answer l) (plan_slots l)
    before = demand_3 l

    after : Demand3 kept_lent (plan_answer kept_lent) (plan_slots kept_lent)
    after = demand_3 kept_lent

    was : lent_checks l passed ≡ passed
    was = before.only_passed D planned

    still : lent_checks kept_lent passed ≡ passed
    still =
        passes_passed l.parties kept (length l.slots) (length l.scratch)
        (kept_passes l.parties l.list kept (length l.slots) (length l.scratch) even k (lent_passes l was))

    -- an odd round of what is kept would be one of the whole list, which was accepted and not refused with 9
    even_rounds : OddRound (appts kept) → ⊥
    even_rounds odd = accepted_refused D 9 0 (sym planned ∙ before.nine_only was (kept_odd (lent_appts l) (appts kept) k odd))
