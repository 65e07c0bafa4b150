-- Writing and reading a filed plan: what exactly each accepts, what the buffers hold afterwards, and that a refusal leaves
-- them. Assumes nothing.
use Prim.Native.Nat.{ℕ, ◌*◌, ◌%◌, ◌≤◌}
use mathlib.Core.Path.{◌≡◌, ◌∙◌, ap}
use mathlib.Core.Bool.{not, ◌||◌}
use mathlib.Core.List.{List, ◌∷◌, ◌++◌}
use native.Mathlib.Omega.{arith}
use borrow.Author.Tests.{eq-eqb, le-ltb, eqb-true, ltb-false, not-false}
use lib.Dec.{eqb, ltb}
use lib.ListN.{length, drop, length-drop}
use Rattle.words.proofs.Bools.{neither}
use Rattle.appointments.specs.Appointments.{appts}
use Rattle.appointments.specs.Checks.{Check}
use Rattle.appointments.proofs.ChecksLaws.{even_test, test_even, bar_passed}
use Rattle.appointments.specs.Answers.{accepted, refused}
use Rattle.filing.specs.Filed.{numbers_of, rows, rows_list, rows_slots, filed_length, filed_bytes, writing_checks, writing_answer, writing_output, header, filed_rows, reading_checks, reading_answer, reading_list, reading_slots}
use Rattle.appointments.proofs.AnswerLaws.{accepted_passed, after_accepted, after_refused}
use Rattle.filing.specs.declared.Header.{Header}
use Rattle.filing.proofs.Bytes.{bytes_length, words_length, rows_length, rows_list_length, rows_slots_length}

-- ── what writing accepts ──

-- Checks 1, 2, 3, 7 and 13 pass.
pub record Writable (P : ℕ) (list slots output : List ℕ) : Type 0 where
  pub parties : P ≤ 1024
  pub even : length list % 2 ≡ 0
  pub few : length (appts list) ≤ 4096
  pub slot_room : length (appts list) ≤ length slots
  pub room : filed_length (length (appts list)) ≤ length output

module _ (P : ℕ) (list slots output : List ℕ) where
  pub writable_accepted : Writable P list slots output → writing_answer P list slots output ≡ accepted (filed_length (length (appts list)))
  unfolding writing_answer
  writable_accepted w =
      rw (
        le-ltb 1024 P w.parties,
        even_test (length list) w.even,
        le-ltb 4096 (length (appts list)) w.few,
        le-ltb (length slots) (length (appts list)) w.slot_room,
        le-ltb (length output) (filed_length (length (appts list))) w.room,
      )

  passed_writable : writing_checks P list slots output ≡ Check.passed → Writable P list slots output
  unfolding writing_checks
  passed_writable e =
      let one = bar_passed (ltb 1024 P) 1 _ e in
      let two = bar_passed (eqb (length list % 2) 1) 2 _ one.1 in
      let three = bar_passed (ltb 4096 (length (appts list))) 3 _ two.1 in
      let seven = bar_passed (ltb (length slots) (length (appts list))) 7 _ three.1 in
      let thirteen = bar_passed (ltb (length output) (filed_length (length (appts list)))) 13 _ seven.1 in
      record {
        parties = ltb-false 1024 P one.0;
        even = test_even (length list) two.0;
        few = ltb-false 4096 (length (appts list)) three.0;
        slot_room = ltb-false (length slots) (length (appts list)) seven.0;
        room = ltb-false (length output) (filed_length (length (appts list))) thirteen.0;
      }

  -- Accepted: the checks passed, and the answer is the length.
  pub accepted_writable : (n : ℕ) → writing_answer P list slots output ≡ accepted n → Writable P list slots output × (filed_length (length (appts list)) ≡ n)
  unfolding writing_answer
  accepted_writable n e =
      let p = accepted_passed (writing_checks P list slots output) (filed_length (length (appts list))) n e in
      (passed_writable p.0, p.1)

  -- A refusal leaves the output.
  pub writing_refused : (number place : ℕ) → writing_answer P list slots output ≡ refused number place → writing_output P list slots output ≡ output
  unfolding writing_output
  writing_refused number place e = after_refused (writing_answer P list slots output) number place (filed_bytes P list slots) output e

  -- the filed plan is as long as writing says
  pub filed_bytes_length : Writable P list slots output → length (filed_bytes P list slots) ≡ filed_length (length (appts list))
  unfolding filed_bytes
  filed_bytes_length w =
      omega (arith, bytes_length (P ∷ length (appts list) ∷ rows (appts list) slots), rows_length (appts list) slots w.slot_room)

  -- Accepted: the first bytes of the output are the filed plan, and those past it stay.
  pub writing_wrote : Writable P list slots output → writing_output P list slots output ≡ filed_bytes P list slots ++ drop (filed_length (length (appts list))) output
  unfolding writing_output
  writing_wrote w =
      after_accepted (writing_answer P list slots output) (filed_length (length (appts list))) (filed_bytes P list slots) output (writable_accepted w)
      ∙ ap (λ (k : ℕ). filed_bytes P list slots ++ drop k output) (filed_bytes_length w)

-- ── what reading accepts ──

-- Checks 12, 1, 3 and 13 pass.
pub record Readable (bytes list slots : List ℕ) : Type 0 where
  pub whole : length bytes ≡ filed_length (header bytes).appointments
  pub parties : (header bytes).parties ≤ 1024
  pub few : (header bytes).appointments ≤ 4096
  pub list_room : 2 * (header bytes).appointments ≤ length list
  pub slot_room : (header bytes).appointments ≤ length slots

module _ (bytes list slots : List ℕ) where
  pub readable_accepted : Readable bytes list slots → reading_answer bytes list slots ≡ accepted (header bytes)
  unfolding reading_answer
  readable_accepted r =
      rw (
        le-ltb (length bytes) 4 (omega (arith, r.whole)),
        eq-eqb (length bytes) (filed_length (header bytes).appointments) r.whole,
        le-ltb 1024 (header bytes).parties r.parties,
        le-ltb 4096 (header bytes).appointments r.few,
        le-ltb (length list) (2 * (header bytes).appointments) r.list_room,
        le-ltb (length slots) (header bytes).appointments r.slot_room,
      )

  passed_readable : reading_checks bytes list slots ≡ Check.passed → Readable bytes list slots
  unfolding reading_checks
  passed_readable e =
      let A : ℕ = (header bytes).appointments in
      let twelve = bar_passed (ltb (length bytes) 4 || not (eqb (length bytes) (filed_length A))) 12 _ e in
      let long = neither (ltb (length bytes) 4) (not (eqb (length bytes) (filed_length A))) twelve.0 in
      let one = bar_passed (ltb 1024 (header bytes).parties) 1 _ twelve.1 in
      let three = bar_passed (ltb 4096 A) 3 _ one.1 in
      let thirteen = bar_passed (ltb (length list) (2 * A) || ltb (length slots) A) 13 _ three.1 in
      let room = neither (ltb (length list) (2 * A)) (ltb (length slots) A) thirteen.0 in
      record {
        whole = eqb-true (length bytes) (filed_length A) (not-false (eqb (length bytes) (filed_length A)) long.1);
        parties = ltb-false 1024 (header bytes).parties one.0;
        few = ltb-false 4096 A three.0;
        list_room = ltb-false (length list) (2 * A) room.0;
        slot_room = ltb-false (length slots) A room.1;
      }

  -- Accepted: the checks passed, and the answer is the header.
  pub accepted_readable : (h : Header) → reading_answer bytes list slots ≡ accepted h → Readable bytes list slots × (header bytes ≡ h)
  unfolding reading_answer
  accepted_readable h e =
      let p = accepted_passed (reading_checks bytes list slots) (header bytes) h e in
      (passed_readable p.0, p.1)

  -- A refusal leaves list and slots.
  pub reading_refused_list : (number place : ℕ) → reading_answer bytes list slots ≡ refused number place → reading_list bytes list slots ≡ list
  unfolding reading_list
  reading_refused_list number place e = after_refused (reading_answer bytes list slots) number place (rows_list (filed_rows bytes)) list e

  pub reading_refused_slots : (number place : ℕ) → reading_answer bytes list slots ≡ refused number place → reading_slots bytes list slots ≡ slots
  unfolding reading_slots
  reading_refused_slots number place e = after_refused (reading_answer bytes list slots) number place (rows_slots (filed_rows bytes)) slots e

  -- how many rows, ends and slots are read
  pub filed_rows_length : Readable bytes list slots → length (filed_rows bytes) ≡ 3 * (header bytes).appointments
  unfolding filed_rows
  filed_rows_length r = omega (arith, length-drop 2 (numbers_of bytes), words_length bytes, r.whole)

  pub list_read : Readable bytes list slots → length (rows_list (filed_rows bytes)) ≡ 2 * (header bytes).appointments
  list_read r = omega (arith, rows_list_length (filed_rows bytes), filed_rows_length r)

  pub slots_read : Readable bytes list slots → length (rows_slots (filed_rows bytes)) ≡ (header bytes).appointments
  slots_read r = omega (arith, rows_slots_length (filed_rows bytes), filed_rows_length r)

  -- Accepted: the first 2·A list entries and the first A slots are those of the rows, and the entries past them stay.
  pub reading_list_read : Readable bytes list slots → reading_list bytes list slots ≡ rows_list (filed_rows bytes) ++ drop (2 * (header bytes).appointments) list
  unfolding reading_list
  reading_list_read r =
      after_accepted (reading_answer bytes list slots) (header bytes) (rows_list (filed_rows bytes)) list (readable_accepted r)
      ∙ ap (λ (k : ℕ). rows_list (filed_rows bytes) ++ drop k list) (list_read r)

  pub reading_slots_read : Readable bytes list slots → reading_slots bytes list slots ≡ rows_slots (filed_rows bytes) ++ drop (header bytes).appointments slots
  unfolding reading_slots
  reading_slots_read r =
      after_accepted (reading_answer bytes list slots) (header bytes) (rows_slots (filed_rows bytes)) slots (readable_accepted r)
      ∙ ap (λ (k : ℕ). rows_slots (filed_rows bytes) ++ drop k slots) (slots_read r)
