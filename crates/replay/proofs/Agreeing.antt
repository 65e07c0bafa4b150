-- From the planning call's answer to what it tells. Assumes nothing.
use Prim.Native.Nat.{ℕ, ◌-◌, ◌/◌, ◌≤◌}
use mathlib.Core.Path.{◌≡◌, refl, sym, ◌∙◌}
use Rattle.std.specs.Prelude.{◌↔◌, IsTrue, nat_eq}
use mathlib.Core.Bool.{Bool, true, false}
use mathlib.Core.List.{List, [], ◌∷◌}
use native.Mathlib.Omega.{arith}
use lib.ListN.{length, get_or, take, drop}
use lib.Pointwise.{pointwise}
use lib.Seq.{take_all}
use Rattle.std.specs.Cmp.Lexicographic.{same_text, other_text}
use Rattle.appointments.specs.Answers.{accepted}
use Rattle.appointments.specs.Lent.{Lent, lent_appts}
use Rattle.appointments.proofs.ChecksLaws.{Passes, good_length}
use Rattle.appointments.proofs.LentLaws.{lent_passes}
use Rattle.planning.specs.Planning.{plan_answer, plan_slots}
use Rattle.planning.proofs.Demand3.{demand_3}
use Rattle.replay.specs.Stored.{answer_told}

-- a plan is the same where 0 and D are, and then its slots
pub plan_same :
    (r : Bool) (stored : List ℕ) (d : ℕ) (plan : List ℕ) → 2 ≤ length stored → get_or stored 0 0 ≡ 0 → get_or stored 1 0 ≡ d →
    r ≡ pointwise nat_eq (take (length stored - 2) (drop 2 stored)) plan → IsTrue r ↔ (stored ≡ 0 ∷ d ∷ plan)
plan_same r [] d plan h first second e = absurd (omega arith)
plan_same r (x ∷ []) d plan h first second e = absurd (omega arith)
plan_same true (x ∷ y ∷ rest) d plan h first second e =
    let behind : take (length (x ∷ y ∷ rest) - 2) rest ≡ rest = take_all (length (x ∷ y ∷ rest) - 2) rest (omega arith) in
    let same : rest ≡ plan = sym behind ∙ same_text _ plan e in
    ((λ t. rw (first, second, same)), (λ q. refl))
plan_same false (x ∷ y ∷ rest) d plan h first second e =
    let behind : take (length (x ∷ y ∷ rest) - 2) rest ≡ rest = take_all (length (x ∷ y ∷ rest) - 2) rest (omega arith) in
    ((λ t. cc), (λ q. let same : rest ≡ plan = cc in absurd (other_text _ plan e (behind ∙ same))))

module _ (l : Lent) where
  -- a plan: the list passed the checks, so there are A slots, and A is half the list's length
  module _ (D : ℕ) (e : plan_answer l ≡ accepted D) where
    passes : Passes l.parties l.list (length l.slots) (length l.scratch)
    passes = lent_passes l ((demand_3 l).only_passed D e)

    half : length l.list / 2 ≡ length (lent_appts l)
    half = omega (arith, good_length passes.good)

    pub slots_room : length l.list / 2 ≤ length l.slots
    slots_room = omega (arith, half, passes.slot_room)

    pub plan_told :
        (r : Bool) (stored : List ℕ) → (IsTrue r ↔ (stored ≡ 0 ∷ D ∷ take (length l.list / 2) (plan_slots l))) →
        IsTrue r ↔ (stored ≡ answer_told l)
    plan_told r stored d = rw (e, ← half) d
