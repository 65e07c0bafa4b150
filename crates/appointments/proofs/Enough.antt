-- W is what check 8 asks, and 1,179,648 words are enough for every list that passes check 6. Assumes nothing.
use Prim.Native.Nat.{ℕ, ◌+◌, ◌*◌, ◌≤◌}
use mathlib.Core.Path.{◌≡◌, refl, ap}
use mathlib.Core.List.{List}
use native.Mathlib.Omega.{arith}
use native.Mathlib.Nat.{mul-add, mul_assoc, mul_comm}
use Rattle.appointments.specs.Appointments.{appts, largest_load, scratch_words}
use Rattle.appointments.specs.Checks.{Check, passed, checks_1_to_6}
use Rattle.appointments.specs.Answers.{accepted, answer}
use Rattle.appointments.specs.Needed.{needing, needs_answer, Exact, scratch_enough, Enough}
use Rattle.appointments.proofs.AnswerLaws.{accepted_passed}
use Rattle.appointments.proofs.ChecksLaws.{passes_passed, passed_sized}
use Rattle.appointments.proofs.Causes.{Cause, many_parties, odd_length, many_appts, blank_end, unlisted_end, large_product, few_slots, small_scratch, cause_refused, refused_cause}

-- W is 128 × (D×P + P), and checks 1 and 6 bound both
pub words_enough : (P D : ℕ) → P ≤ 1024 → D * P ≤ 8192 → scratch_words P D ≤ scratch_enough
words_enough P D p h =
    let each : 128 * P * (D + 1) ≡ 128 * P * D + 128 * P * 1 = mul-add (128 * P) D 1 in
    let product : 128 * P * D ≡ 128 * (P * D) = mul_assoc 128 P D in
    omega (arith, mul_comm P D)

-- what check 8 refuses has fewer words
few_words : {P : ℕ} {list : List ℕ} {slots scratch n i : ℕ} → Cause P list slots scratch n i → n ≡ 8 → scratch_enough ≤ scratch → ⊥
few_words (many_parties h) e w = omega arith
few_words (odd_length p h) e w = omega arith
few_words (many_appts p k h) e w = omega arith
few_words (blank_end p k a h) e w = omega arith
few_words (unlisted_end p k a f h) e w = omega arith
few_words (large_product g h) e w = omega arith
few_words (few_slots g p h) e w = omega arith
few_words {P} {list} (small_scratch g p r h) e w =
    omega (arith, words_enough P (largest_load P (appts list)) g.parties p)

-- Scratch of that many words is enough for every list.
pub enough : (P : ℕ) (list : List ℕ) → Enough P list
enough P list =
    record {
      words = λ ok. let c = passed_sized P list passed ok in words_enough P (largest_load P (appts list)) c.0.parties c.1;
      never_8 = λ slots scratch place w e. few_words (refused_cause P list slots scratch 8 place e) refl w;
    }

-- ── the words that the call gives ──

pub needed_words : (c : Check) (d w D W : ℕ) → answer c (needing d w) ≡ accepted (needing D W) → (c ≡ passed) × (d ≡ D) × (w ≡ W)
needed_words c d w D W e =
    let k = accepted_passed c (needing d w) (needing D W) e in
    (k.0, ap (λ n. n.d) k.1, ap (λ n. n.words) k.1)

-- W is what check 8 asks.
pub exact : (P : ℕ) (list : List ℕ) → Exact P list
unfolding needs_answer
exact P list D W slots scratch e room =
    let D₀ : ℕ = largest_load P (appts list) in
    let k = needed_words (checks_1_to_6 P list passed) D₀ (scratch_words P D₀) D W e in
    let c = passed_sized P list passed k.0 in
    record {
      passes = λ h. passes_passed P list slots scratch (record { good = c.0; product = c.1; slot_room = room; scratch_room = rw k.2 h });
      refuses = λ h. cause_refused P list slots scratch passed (small_scratch c.0 c.1 room (rw k.2 h));
    }
