-- Writing a filed plan step by step: the header's bytes, an appointment's bytes, all of them; and what the call tells and
-- leaves in each case. Assumes nothing.
use Prim.Native.Nat.{ℕ, suc, ◌+◌, ◌*◌, ◌%◌, ◌/◌, ◌≤◌, ◌<◌}
use mathlib.Core.Path.{◌≡◌, refl, sym, ◌∙◌, ap}
use mathlib.Core.List.{List, ◌∷◌, ◌++◌}
use native.Mathlib.Omega.{arith}
use borrow.Author.Tests.{lt-ltb, le-ltb}
use lib.Dec.{ltb}
use lib.ListN.{length, get_or, set, drop}
use Rattle.words.specs.Words.{filled}
use Rattle.words.proofs.Filling.{filled_more, filled_all, RowAt}
use Rattle.appointments.specs.Appointments.{appts}
use Rattle.appointments.specs.Checks.{Check, passed, bar, check_parties, check_even, check_count, check_slots}
use Rattle.appointments.proofs.Flat.{appts_count}
use Rattle.appointments.specs.Answers.{accepted, refused}
use Rattle.checking.specs.Checked.{checked}
use Rattle.checking.proofs.Answering.{enough_slots, bar_stays, bar_goes_on}
use Rattle.filing.specs.Filed.{bytes_of, rows, filed_length, filed_bytes, writing_checks, writing_answer, writing_output}
use Rattle.filing.specs.Buffers.{put_number, put_row}
use Rattle.filing.proofs.Bytes.{bytes_length, rows_length}
use Rattle.filing.proofs.FiledLaws.{Writable, accepted_writable, writing_refused, writing_wrote}
use Rattle.filing.proofs.ByIndex.{byte_low, byte_high, rows_at}

-- ── the bytes, step by step ──

-- two bytes more, those of a number
filled_number : (new : List ℕ) (n w : ℕ) (buffer : List ℕ) → n + 1 < length new → n + 1 < length buffer → get_or new n 0 ≡ w % 256 → get_or new (n + 1) 0 ≡ w / 256 % 256 → put_number (filled new n buffer) n w ≡ filled new (n + 2) buffer
filled_number new n w buffer h k low high =
    let two : n + 1 + 1 ≡ n + 2 = omega arith in
    ap (λ (l : List ℕ). set l (n + 1) (w / 256 % 256)) (filled_more new n (w % 256) buffer (omega arith) (omega arith) (sym low))
    ∙ filled_more new (n + 1) (w / 256 % 256) buffer h k (sym high)
    ∙ ap (λ (m : ℕ). filled new m buffer) two

module _ (P : ℕ) (list slots : List ℕ) where
  -- the 16-bit numbers of the filed plan
  abbrev numbers : List ℕ
  numbers = P ∷ length (appts list) ∷ rows (appts list) slots

  pub filed_long : length list / 2 ≤ length slots → length (filed_bytes P list slots) ≡ 6 * (length list / 2) + 4
  unfolding filed_bytes
  filed_long h = omega (arith, bytes_length numbers, appts_count list, rows_length (appts list) slots (omega (arith, appts_count list)))

  -- one number more
  number_put : (n k w : ℕ) (out : List ℕ) → n ≡ 2 * k → get_or numbers k 0 ≡ w → n + 1 < length (filed_bytes P list slots) → n + 1 < length out → put_number (filled (filed_bytes P list slots) n out) n w ≡ filled (filed_bytes P list slots) (n + 2) out
  unfolding filed_bytes
  number_put n k w out e f h room =
      let low : get_or (bytes_of numbers) n 0 ≡ w % 256 = rw (e, ← f) (byte_low numbers k) in
      let high : get_or (bytes_of numbers) (n + 1) 0 ≡ w / 256 % 256 = rw (e, ← f) (byte_high numbers k) in
      filled_number (bytes_of numbers) n w out h room low high

  -- the header: P, then A
  pub header_put :
      (out one two : List ℕ) → length list / 2 ≤ length slots → 4 ≤ length out →
      one ≡ put_number out 0 P → two ≡ put_number one 2 (length list / 2) → two ≡ filled (filed_bytes P list slots) 4 out
  header_put out one two h room e f =
      let first : one ≡ filled (filed_bytes P list slots) 2 out = e ∙ number_put 0 0 P out refl refl (omega (arith, filed_long h)) (omega arith) in
      f
      ∙ ap (λ (l : List ℕ). put_number l 2 (length list / 2)) first
      ∙ number_put 2 1 (length list / 2) out refl (appts_count list) (omega (arith, filed_long h)) (omega arith)

  -- an appointment
  pub row_put : (i : ℕ) (out : List ℕ) → length list / 2 ≤ length slots → i < length list / 2 → 6 * i + 9 < length out → put_row list slots i (filled (filed_bytes P list slots) (6 * i + 4) out) ≡ filled (filed_bytes P list slots) (6 * (i + 1) + 4) out
  row_put i out h k room =
      let new : List ℕ = filed_bytes P list slots in
      let r : RowAt (rows (appts list) slots) i (get_or list (2 * i) 0) (get_or list (2 * i + 1) 0) (get_or slots i 0) = rows_at list slots i k (omega arith) in
      let long : length new ≡ 6 * (length list / 2) + 4 = filed_long h in
      let four : 6 * i + 4 + 2 + 2 ≡ 6 * i + 4 + 4 = omega arith in
      let six : 6 * i + 4 + 4 + 2 ≡ 6 * (i + 1) + 4 = omega arith in
      ap (λ (l : List ℕ). put_number (put_number l (6 * i + 4 + 2) (get_or list (2 * i + 1) 0)) (6 * i + 4 + 4) (get_or slots i 0))
      (number_put (6 * i + 4) (suc (suc (3 * i))) (get_or list (2 * i) 0) out (omega arith) r.first_at (omega arith) (omega arith))
      ∙ ap (λ (l : List ℕ). put_number l (6 * i + 4 + 4) (get_or slots i 0))
      (number_put (6 * i + 4 + 2) (suc (suc (3 * i + 1))) (get_or list (2 * i + 1) 0) out (omega arith) r.second_at (omega arith) (omega arith)
      ∙ ap (λ (m : ℕ). filled new m out) four)
      ∙ number_put (6 * i + 4 + 4) (suc (suc (3 * i + 2))) (get_or slots i 0) out (omega arith) r.third_at (omega arith) (omega arith)
      ∙ ap (λ (m : ℕ). filled new m out) six

-- ── what the call tells and leaves ──

module _ (P : ℕ) (list slots output : List ℕ) where
  -- refused with a number and a place, the output as it was
  abbrev Barred : ℕ → ℕ → Type 0
  Barred n i = (refused n i ≡ writing_answer P list slots output) × (output ≡ writing_output P list slots output)

  barred : (n i : ℕ) → writing_checks P list slots output ≡ Check.refused n i → Barred n i
  unfolding writing_answer
  barred n i e =
      let told : writing_answer P list slots output ≡ refused n i = rw e in
      (sym told, sym (writing_refused P list slots output n i told))

  abbrev then_13 : Check
  then_13 = bar (ltb (length output) (4 + 6 * (length list / 2))) 13 passed

  pub barred_1 : (n i : ℕ) → refused n i ≡ checked (check_parties P passed) → Barred n i
  unfolding writing_checks
  barred_1 n i e = barred n i (bar_stays _ 1 _ n i e)

  module _ (parties : accepted tt ≡ checked (check_parties P passed)) where
    pub barred_2 : (n i : ℕ) → refused n i ≡ checked (check_even list passed) → Barred n i
    unfolding writing_checks
    barred_2 n i e = barred n i (bar_goes_on _ 1 _ parties ∙ bar_stays _ 2 _ n i e)

    module _ (even : accepted tt ≡ checked (check_even list passed)) where
      after_2 : writing_checks P list slots output ≡ check_count (length list / 2) (check_slots (length slots) (length list / 2) then_13)
      unfolding writing_checks
      after_2 = bar_goes_on _ 1 _ parties ∙ bar_goes_on _ 2 _ even ∙ rw (appts_count list)

      pub barred_3 : (n i : ℕ) → refused n i ≡ checked (check_count (length list / 2) passed) → Barred n i
      barred_3 n i e = barred n i (after_2 ∙ bar_stays _ 3 _ n i e)

      module _ (few : accepted tt ≡ checked (check_count (length list / 2) passed)) where
        pub barred_7 : (n i : ℕ) → refused n i ≡ checked (check_slots (length slots) (length list / 2) passed) → Barred n i
        barred_7 n i e = barred n i (after_2 ∙ bar_goes_on _ 3 _ few ∙ bar_stays _ 7 _ n i e)

        module _ (slot_room : accepted tt ≡ checked (check_slots (length slots) (length list / 2) passed)) where
          only_13 : writing_checks P list slots output ≡ then_13
          only_13 = after_2 ∙ bar_goes_on _ 3 _ few ∙ bar_goes_on _ 7 _ slot_room

          pub barred_13 : length output < 6 * (length list / 2) + 4 → Barred 13 0
          barred_13 o = barred 13 0 (only_13 ∙ rw (lt-ltb (length output) (4 + 6 * (length list / 2)) (omega arith)))

          -- written: its length, and the output filled with the plan
          pub written :
              6 * (length list / 2) + 4 ≤ length output →
              (accepted (6 * (length list / 2) + 4) ≡ writing_answer P list slots output)
              × (filled (filed_bytes P list slots) (6 * (length list / 2) + 4) output ≡ writing_output P list slots output)
          unfolding writing_answer
          written o =
              let long : 6 * (length list / 2) + 4 ≡ filed_length (length (appts list)) = omega (arith, appts_count list) in
              let told : writing_answer P list slots output ≡ accepted (filed_length (length (appts list))) =
              rw (only_13, le-ltb (length output) (4 + 6 * (length list / 2)) (omega arith)) in
              let w : Writable P list slots output = (accepted_writable P list slots output _ told).0 in (
                rw (told, long),
                filled_all (filed_bytes P list slots) (6 * (length list / 2) + 4) output (filed_long P list slots (enough_slots _ _ slot_room))
                    ∙ ap (λ (m : ℕ). filed_bytes P list slots ++ drop m output) long
                    ∙ sym (writing_wrote P list slots output w),
              )
