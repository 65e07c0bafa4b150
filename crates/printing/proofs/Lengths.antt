-- How long printed lines are: a number has as many digits as its size says, and with P·(D+1) at most 128, which main's scratch
-- of 16,384 words asks for, an accepted plan prints at most 1,801 bytes. Assumes nothing.
use Prim.Native.Nat.{ℕ, zero, suc, ◌+◌, ◌*◌, ◌%◌, ◌/◌, ◌^◌, ◌≤◌, ◌<◌}
use mathlib.Core.Path.{◌≡◌, refl}
use mathlib.Core.Bool.{Bool, true, false}
use mathlib.Core.List.{List, [], ◌∷◌, ◌++◌}
use native.Mathlib.Omega.{arith}
use borrow.Author.Tests.{ltb-false}
use lib.Dec.{ltb}
use lib.ListN.{length, get_or, take, length-append}
use lib.Seq.{length-take-le, get_or-take}
use Rattle.words.specs.Basics.{pick, All, sum_below}
use Rattle.words.proofs.Sums.{all_at, all_map, sum_below_le, sum_below_const}
use Rattle.appointments.specs.Appointments.{Appt, appts, load, largest_load}
use Rattle.appointments.proofs.Loads.{Listed, load_le_largest, loads_sum}
use Rattle.appointments.proofs.ChecksLaws.{Passes}
use Rattle.asking.specs.Waiting.{waiting}
use Rattle.asking.proofs.WaitingLaws.{waits_in_the_hall}
use Rattle.words.specs.Ascii.{ascii}
use Rattle.printing.specs.Printing.{decimal_by, decimal, line, appointment_lines, party_lines, plan_lines, refusal_line}

-- ── one number ──

-- a number below 10^(k+1) has at most k + 1 digits
decimal_by_length : (fuel n k : ℕ) → n < 10 ^ suc k → length (decimal_by fuel n) ≤ suc k
unfolding decimal_by
decimal_by_length zero n k h = omega arith
decimal_by_length (suc fuel) n zero h = go (ltb n 10) refl
  where
    go : (b : Bool) → ltb n 10 ≡ b → length (pick b ((48 + n) ∷ []) (decimal_by fuel (n / 10) ++ ((48 + n % 10) ∷ []))) ≤ 1
    go true e = omega arith
    go false e = absurd (omega (arith, ltb-false n 10 e))
decimal_by_length (suc fuel) n (suc k) h = go (ltb n 10) (decimal_by_length fuel (n / 10) k (omega arith))
  where
    go : (b : Bool) → length (decimal_by fuel (n / 10)) ≤ suc k → length (pick b ((48 + n) ∷ []) (decimal_by fuel (n / 10) ++ ((48 + n % 10) ∷ []))) ≤ suc (suc k)
    go true rest = omega arith
    go false rest = omega (arith, length-append (decimal_by fuel (n / 10)) ((48 + n % 10) ∷ []))

pub three_digits : (n : ℕ) → n < 1000 → length (decimal n) ≤ 3
unfolding decimal
three_digits n h = decimal_by_length (suc n) n 2 h

pub five_digits : (n : ℕ) → n < 100000 → length (decimal n) ≤ 5
unfolding decimal
five_digits n h = decimal_by_length (suc n) n 4 h

-- ── lines ──

pub line_two : (a b : List ℕ) → length (line (a ∷ b ∷ [])) ≡ length a + length b + 2
unfolding line
line_two a b = simp length-append (omega arith)

pub line_three : (a b c : List ℕ) → length (line (a ∷ b ∷ c ∷ [])) ≡ length a + length b + length c + 3
unfolding line
line_three a b c = simp length-append (omega arith)

pub line_four : (a b c d : List ℕ) → length (line (a ∷ b ∷ c ∷ d ∷ [])) ≡ length a + length b + length c + length d + 4
unfolding line
line_four a b c d = simp length-append (omega arith)

-- each line of an appointment has at most 18 bytes
appointment_lines_length : (i : ℕ) (xs : List Appt) (slots : List ℕ) → i + length xs ≤ 1000 → All (Listed 1000) xs
    → ((j : ℕ) → j < i + length xs → get_or slots j 0 < 100000) → length (appointment_lines i xs slots) ≤ 18 * length xs
unfolding appointment_lines
appointment_lines_length i [] slots h ends fit = omega arith
appointment_lines_length i (x ∷ xs) slots h ends fit =
    let this : List ℕ = line (decimal i ∷ decimal x.first ∷ decimal x.second ∷ decimal (get_or slots i 0) ∷ []) in
    let rest : length (appointment_lines (i + 1) xs slots) ≤ 18 * length xs =
    appointment_lines_length (i + 1) xs slots (omega arith) ends.1 (λ j l. fit j (omega arith)) in
    let first : length this ≤ 18 =
    omega (
      arith,
      line_four (decimal i) (decimal x.first) (decimal x.second) (decimal (get_or slots i 0)),
      three_digits i (omega arith),
      three_digits x.first ends.0.0,
      three_digits x.second ends.0.1,
      five_digits (get_or slots i 0) (fit i (omega arith)),
    ) in
    omega (arith, length-append this (appointment_lines (i + 1) xs slots))

-- each line of a party at most 14
party_lines_length : (xs : List Appt) (slots : List ℕ) (v k : ℕ) → v + k ≤ 1000 → ((u : ℕ) → waiting xs slots u < 1000) → length (party_lines xs slots v k) ≤ 14 * k
unfolding party_lines
party_lines_length xs slots v zero h waits = omega arith
party_lines_length xs slots v (suc k) h waits =
    let this : List ℕ = line (ascii "party" ∷ decimal v ∷ decimal (waiting xs slots v) ∷ []) in
    let rest : length (party_lines xs slots (v + 1) k) ≤ 14 * k = party_lines_length xs slots (v + 1) k (omega arith) waits in
    let first : length this ≤ 14 =
    omega (arith, line_three (ascii "party") (decimal v) (decimal (waiting xs slots v)), three_digits v (omega arith), three_digits (waiting xs slots v) (waits v)) in
    omega (arith, length-append this (party_lines xs slots (v + 1) k))

-- ── an accepted plan ──

-- A list's appointments are at most half of P-as-D: the loads make twice the appointments, and none is above D.
pub appointments_few : (P : ℕ) (xs : List Appt) → All (Listed P) xs → 2 * length xs ≤ P * largest_load P xs
appointments_few P xs h =
    let loads : sum_below (λ v. load v xs) P ≤ sum_below (λ v. largest_load P xs) P = sum_below_le P (λ v l. load_le_largest P xs v l) in
    omega (arith, loads_sum P xs h, sum_below_const (largest_load P xs) P)

-- scratch for P parties and D slots within main's 16,384 words
small_load : (P : ℕ) (xs : List Appt) → P * (largest_load P xs + 1) ≤ 128 → largest_load P xs < 1000
unfolding largest_load
small_load zero xs h = omega arith
small_load (suc P) xs h = omega arith

-- the slots of the appointments are below D, as demand 3 has it
abbrev pub BelowD : ℕ → List Appt → List ℕ → Type 0
BelowD P xs slots = All (λ (s : ℕ). s < largest_load P xs) (take (length xs) slots)

-- the slot at a position
slot_below : (P : ℕ) (xs : List Appt) (slots : List ℕ) → length xs ≤ length slots → BelowD P xs slots → (j : ℕ) → j < length xs → get_or slots j 0 < largest_load P xs
slot_below P xs slots room below j h =
    let D : ℕ = largest_load P xs in
    let inside : j < length (take (length xs) slots) = omega (arith, length-take-le (length xs) slots room) in
    rw (get_or-take (length xs) slots j 0 h) at (all_at (λ (s : ℕ). s < D) (take (length xs) slots) 0 below j inside)

-- An accepted plan prints at most 1,801 bytes: its slots, and so each party's waiting, are below D, which has at most three digits.
pub plan_fits : (P : ℕ) (list slots : List ℕ) → Passes P list 4096 16384 → length (appts list) ≤ length slots → BelowD P (appts list) slots
    → length (plan_lines P list (largest_load P (appts list)) slots) ≤ 1801
unfolding plan_lines
plan_fits P list slots p enough below =
    let D : ℕ = largest_load P (appts list) in
    let xs : List Appt = appts list in
    let room : P * (D + 1) ≤ 128 = omega (arith, p.scratch_room) in
    let few : 2 * length xs ≤ P * D = appointments_few P xs p.good.listed in
    let head : length (line (ascii "plan" ∷ decimal D ∷ [])) ≤ 9 =
    omega (arith, line_two (ascii "plan") (decimal D), three_digits D (small_load P xs room)) in
    let middle : length (appointment_lines 0 xs slots) ≤ 18 * length xs =
    appointment_lines_length 0 xs slots (omega arith) (all_map (λ x (l : Listed P x). (omega arith, omega arith)) xs p.good.listed) (λ j l. omega (arith, slot_below P xs slots enough below j (omega arith), small_load P xs room)) in
    let waits : (u : ℕ) → waiting xs slots u < 1000 = λ u. omega (arith, (waits_in_the_hall xs slots u).below_d D below, small_load P xs room) in
    let parties : length (party_lines xs slots 0 P) ≤ 14 * P = party_lines_length xs slots 0 P (omega arith) waits in
    omega (
      arith,
      length-append (line (ascii "plan" ∷ decimal D ∷ [])) (appointment_lines 0 xs slots ++ party_lines xs slots 0 P),
      length-append (appointment_lines 0 xs slots) (party_lines xs slots 0 P),
    )

-- A refusal's line has at most 20 bytes.
pub refusal_fits : (number place : ℕ) → number < 100000 → place < 100000 → length (refusal_line number place) ≤ 20
unfolding refusal_line
refusal_fits number place h k =
    omega (arith, line_three (ascii "refused") (decimal number) (decimal place), five_digits number h, five_digits place k)
