-- In a planned list nobody waits in more than D − 2 slots; and main's output is never longer than 1,801 bytes: of an accepted plan
-- since P·(D+1) is at most 128, and of a refusal since it is one short line. Assumes nothing.
use Prim.Native.Nat.{ℕ, ◌≤◌}
use mathlib.Core.Path.{◌≡◌, refl, subst}
use mathlib.Core.Bool.{Bool, true, false}
use mathlib.Core.List.{List}
use native.Mathlib.Omega.{arith}
use borrow.Author.Tests.{ltb-false}
use lib.Dec.{ltb}
use lib.ListN.{length, take, length-take}
use Rattle.words.specs.Basics.{pick}
use Rattle.appointments.specs.Appointments.{appts, largest_load}
use Rattle.appointments.proofs.ChecksLaws.{Passes}
use Rattle.appointments.specs.Answers.{Answer, accepted}
use Rattle.appointments.specs.Lent.{Lent, lent_appts, lent_d}
use Rattle.appointments.proofs.LentLaws.{lent_passes}
use Rattle.planning.specs.Planning.{plan_answer, plan_slots}
use Rattle.planning.specs.Demand3.{ShortestPlan}
use Rattle.planning.proofs.Demand3.{demand_3, refusal_small}
use Rattle.asking.proofs.WaitingLaws.{waits_in_the_hall}
use Rattle.reading.specs.Reading.{Input, input, malformed, read_input}
use Rattle.printing.specs.Printing.{Report, printed, plan_lines}
use Rattle.text.specs.Text.{main_lent, planned_report, input_report, report, text_output}
use Rattle.text.specs.Waits.{WaitsInAPlan}
use Rattle.printing.proofs.Lengths.{BelowD, plan_fits, refusal_fits}
use Rattle.reading.proofs.ReadingLaws.{input_place}

-- ── what an answer of the planning call tells ──

-- Planned: checks 1 to 8 passed, and the figure is D.
planned_passes : (l : Lent) (D : ℕ) → plan_answer l ≡ accepted D
    → Passes l.parties l.list (length l.slots) (length l.scratch) × (lent_d l ≡ D)
planned_passes l D e = (lent_passes l ((demand_3 l).only_passed D e), ((demand_3 l).plan D e).largest)

-- By demand 3 each appointment of a planned list has a slot, and it is below D.
plan_below : (l : Lent) (D : ℕ) → plan_answer l ≡ accepted D
    → (length (lent_appts l) ≤ length (plan_slots l)) × BelowD l.parties (lent_appts l) (plan_slots l)
plan_below l D e =
    let A : ℕ = length (lent_appts l) in
    let plan : ShortestPlan l.parties (lent_appts l) D (take A (plan_slots l)) = (demand_3 l).plan D e in
    (omega (arith, plan.plan_of, length-take A (plan_slots l)), rw plan.largest plan.below)

-- So in a planned list nobody waits in more than D − 2 slots.
pub waits_in_a_plan : WaitsInAPlan
waits_in_a_plan l D party e = (waits_in_the_hall (lent_appts l) (plan_slots l) party).below_d D ((demand_3 l).plan D e).below

-- ── the whole output ──

-- the report of an answer
pub answer_fits : (P : ℕ) (list : List ℕ) → length (printed (planned_report P list (plan_answer (main_lent P list)) (plan_slots (main_lent P list)))) ≤ 1801
answer_fits P list = go (plan_answer (main_lent P list)) refl
  where
    go : (a : Answer ℕ) → plan_answer (main_lent P list) ≡ a → length (printed (planned_report P list a (plan_slots (main_lent P list)))) ≤ 1801
    go (accepted D) e =
        let p : Passes P list 4096 16384 × (largest_load P (appts list) ≡ D) = planned_passes (main_lent P list) D e in
        let slots : List ℕ = plan_slots (main_lent P list) in
        let b = plan_below (main_lent P list) D e in
        subst (λ (E : ℕ). length (plan_lines P list E slots) ≤ 1801) p.1 (plan_fits P list slots p.0 b.0 b.1)
    go (Answer.refused number place) e =
        let small = refusal_small (main_lent P list) number place e in
        omega (arith, refusal_fits number place (omega (arith, small.number)) (omega (arith, small.place)))

input_fits : (broken : Bool) (bytes : List ℕ) → length bytes ≤ 4096 → length (printed (input_report (read_input broken bytes))) ≤ 1801
input_fits broken bytes h = go (read_input broken bytes) refl
  where
    go : (i : Input) → read_input broken bytes ≡ i → length (printed (input_report i)) ≤ 1801
    go (input P list) e = answer_fits P list
    go (malformed n) e = omega (arith, refusal_fits 10 n (omega arith) (omega (arith, input_place broken bytes n e)))

-- Main's output has at most 1,801 bytes, whatever its input.
pub output_fits : (broken : Bool) (bytes : List ℕ) → length (text_output broken bytes) ≤ 1801
unfolding text_output report
output_fits broken bytes = go (ltb 4096 (length bytes)) refl
  where
    go : (t : Bool) → ltb 4096 (length bytes) ≡ t → length (printed (pick t (Report.refused 11 0) (input_report (read_input broken bytes)))) ≤ 1801
    go true e = omega (arith, refusal_fits 11 0 (omega arith) (omega arith))
    go false e = input_fits broken bytes (ltb-false 4096 (length bytes) e)
