-- Reading a filed plan step by step: an appointment's ends and slot, all of them; and what the call tells and leaves in each
-- case. Assumes nothing.
use Prim.Native.Nat.{ℕ, ◌+◌, ◌*◌, ◌≤◌, ◌<◌}
use mathlib.Core.Path.{◌≡◌, refl, sym, ◌∙◌, ap}
use mathlib.Core.Logic.{◌⊎◌, inl, inr}
use mathlib.Core.Bool.{Bool, true, false, ◌||◌}
use mathlib.Core.List.{List, ◌++◌}
use native.Mathlib.Omega.{arith}
use borrow.Author.Tests.{eq-eqb, ne_eqb, lt-ltb, le-ltb}
use lib.Dec.{ltb}
use lib.ListN.{length, get_or, drop, set, length-drop}
use lib.Seq.{get_or-drop}
use Rattle.words.specs.Words.{filled}
use Rattle.words.proofs.Filling.{filled_more, filled_all, RowAt}
use Rattle.appointments.specs.Checks.{Check, passed, bar, check_parties, check_count}
use Rattle.appointments.specs.Answers.{accepted, refused}
use Rattle.checking.specs.Checked.{checked}
use Rattle.checking.proofs.Answering.{bar_stays, bar_goes_on}
use Rattle.filing.specs.Filed.{numbers_of, rows_list, rows_slots, header_of, header, filed_rows, reading_checks, reading_answer, reading_list, reading_slots}
use Rattle.filing.specs.Buffers.{take_row, take_slot}
use Rattle.filing.proofs.Bytes.{words_length, rows_list_length, rows_slots_length}
use Rattle.filing.proofs.FiledLaws.{Readable, accepted_readable, reading_refused_list, reading_refused_slots, reading_list_read, reading_slots_read}
use Rattle.filing.proofs.ByIndex.{read_at}

-- ── the entries, step by step ──

module _ (bytes : List ℕ) (count : ℕ) (whole : length bytes ≡ 6 * count + 4) where
  rows_long : length (filed_rows bytes) ≡ 3 * count
  unfolding filed_rows
  rows_long = omega (arith, length-drop 2 (numbers_of bytes), words_length bytes)

  -- how many ends and slots there are
  pub ends_long : length (rows_list (filed_rows bytes)) ≡ 2 * count
  ends_long = omega (arith, rows_list_length (filed_rows bytes), rows_long)

  pub slots_long : length (rows_slots (filed_rows bytes)) ≡ count
  slots_long = omega (arith, rows_slots_length (filed_rows bytes), rows_long)

  -- a number of the rows, among all numbers
  in_rows : (k n : ℕ) → n ≡ 2 + k → get_or (numbers_of bytes) n 0 ≡ get_or (filed_rows bytes) k 0
  unfolding filed_rows
  in_rows k n e = rw e (sym (get_or-drop 2 (numbers_of bytes) k 0))

  module _ (i : ℕ) (h : i < count) where
    row : RowAt (filed_rows bytes) i (get_or (rows_list (filed_rows bytes)) (2 * i) 0) (get_or (rows_list (filed_rows bytes)) (2 * i + 1) 0) (get_or (rows_slots (filed_rows bytes)) i 0)
    row = read_at (filed_rows bytes) i (omega (arith, rows_long))

    -- an appointment's two ends
    pub row_taken : (list : List ℕ) → 2 * count ≤ length list → take_row bytes i (filled (rows_list (filed_rows bytes)) (2 * i) list) ≡ filled (rows_list (filed_rows bytes)) (2 * (i + 1)) list
    row_taken list room =
        let new : List ℕ = rows_list (filed_rows bytes) in
        let first : get_or (numbers_of bytes) (3 * i + 2) 0 ≡ get_or new (2 * i) 0 = in_rows (3 * i) (3 * i + 2) (omega arith) ∙ row.first_at in
        let second : get_or (numbers_of bytes) (3 * i + 3) 0 ≡ get_or new (2 * i + 1) 0 = in_rows (3 * i + 1) (3 * i + 3) (omega arith) ∙ row.second_at in
        let two : 2 * i + 1 + 1 ≡ 2 * (i + 1) = omega arith in
        ap (λ (l : List ℕ). set l (2 * i + 1) (get_or (numbers_of bytes) (3 * i + 3) 0))
        (filled_more new (2 * i) (get_or (numbers_of bytes) (3 * i + 2) 0) list (omega (arith, ends_long)) (omega arith) first)
        ∙ filled_more new (2 * i + 1) (get_or (numbers_of bytes) (3 * i + 3) 0) list (omega (arith, ends_long)) (omega arith) second
        ∙ ap (λ (m : ℕ). filled new m list) two

    -- and its slot
    pub slot_taken : (slots : List ℕ) → count ≤ length slots → take_slot bytes i (filled (rows_slots (filed_rows bytes)) i slots) ≡ filled (rows_slots (filed_rows bytes)) (i + 1) slots
    slot_taken slots room =
        let new : List ℕ = rows_slots (filed_rows bytes) in
        filled_more new i (get_or (numbers_of bytes) (3 * i + 4) 0) slots (omega (arith, slots_long)) (omega arith)
        (in_rows (3 * i + 2) (3 * i + 4) (omega arith) ∙ row.third_at)

-- ── what the call tells and leaves ──

or_true : (a : Bool) → (a || true) ≡ true
or_true true = refl
or_true false = refl

module _ (bytes list slots : List ℕ) where
  -- refused with a number and a place, list and slots as they were
  abbrev pub Barred : ℕ → ℕ → Type 0
  Barred n i =
      (refused n i ≡ reading_answer bytes list slots)
      × ((list ≡ reading_list bytes list slots) × (slots ≡ reading_slots bytes list slots))

  barred : (n i : ℕ) → reading_checks bytes list slots ≡ Check.refused n i → Barred n i
  unfolding reading_answer
  barred n i e =
      let told : reading_answer bytes list slots ≡ refused n i = rw e in
      (sym told, (sym (reading_refused_list bytes list slots n i told), sym (reading_refused_slots bytes list slots n i told)))

  pub short_12 : length bytes < 4 → Barred 12 0
  unfolding reading_checks
  short_12 h = barred 12 0 (rw (lt-ltb (length bytes) 4 h))

  module _ (p count : ℕ) (h : 4 ≤ length bytes) (e : p ≡ get_or (numbers_of bytes) 0 0) (f : count ≡ get_or (numbers_of bytes) 1 0) where
    pub barred_12 : (length bytes ≡ 6 * count + 4 → ⊥) → Barred 12 0
    unfolding reading_checks header
    barred_12 n =
        let off : length bytes ≡ 4 + 6 * count → ⊥ = λ q. n (omega arith) in
        barred 12 0 (rw (le-ltb (length bytes) 4 h, ← f, ne_eqb (length bytes) (4 + 6 * count) off))

    abbrev then_13 : Check
    then_13 = bar (ltb (length list) (2 * count) || ltb (length slots) count) 13 passed

    module _ (whole : length bytes ≡ 6 * count + 4) where
      after_12 : reading_checks bytes list slots ≡ check_parties p (check_count count then_13)
      unfolding reading_checks header
      after_12 =
          let is_whole : length bytes ≡ 4 + 6 * count = omega arith in
          rw (le-ltb (length bytes) 4 h, ← f, eq-eqb (length bytes) (4 + 6 * count) is_whole, ← e)

      pub barred_1 : (n i : ℕ) → refused n i ≡ checked (check_parties p passed) → Barred n i
      barred_1 n i k = barred n i (after_12 ∙ bar_stays _ 1 _ n i k)

      module _ (parties : accepted tt ≡ checked (check_parties p passed)) where
        pub barred_3 : (n i : ℕ) → refused n i ≡ checked (check_count count passed) → Barred n i
        barred_3 n i k = barred n i (after_12 ∙ bar_goes_on _ 1 _ parties ∙ bar_stays _ 3 _ n i k)

        module _ (few : accepted tt ≡ checked (check_count count passed)) where
          only_13 : reading_checks bytes list slots ≡ then_13
          only_13 = after_12 ∙ bar_goes_on _ 1 _ parties ∙ bar_goes_on _ 3 _ few

          -- the list or the slots are too short
          pub short_13 : (length list < 2 * count) ⊎ (length slots < count) → Barred 13 0
          short_13 (inl s) = barred 13 0 (only_13 ∙ rw (lt-ltb (length list) (2 * count) s))
          short_13 (inr s) = barred 13 0 (only_13 ∙ rw (lt-ltb (length slots) count s, or_true (ltb (length list) (2 * count))))

          -- read: P and A, and the list and the slots filled with the plan's
          pub was_read :
              2 * count ≤ length list → count ≤ length slots →
              (accepted (header_of p count) ≡ reading_answer bytes list slots)
              × ((filled (rows_list (filed_rows bytes)) (2 * count) list ≡ reading_list bytes list slots)
              × (filled (rows_slots (filed_rows bytes)) count slots ≡ reading_slots bytes list slots))
          unfolding reading_answer header
          was_read room seats =
              let told : reading_answer bytes list slots ≡ accepted (header bytes) =
              rw (only_13, le-ltb (length list) (2 * count) room, le-ltb (length slots) count seats) in
              let r : Readable bytes list slots = (accepted_readable bytes list slots _ told).0 in (
                rw (told, e, f),
                (
                  filled_all (rows_list (filed_rows bytes)) (2 * count) list (ends_long bytes count whole)
                      ∙ ap (λ (m : ℕ). rows_list (filed_rows bytes) ++ drop (2 * m) list) f
                      ∙ sym (reading_list_read bytes list slots r),
                  filled_all (rows_slots (filed_rows bytes)) count slots (slots_long bytes count whole)
                      ∙ ap (λ (m : ℕ). rows_slots (filed_rows bytes) ++ drop m slots) f
                      ∙ sym (reading_slots_read bytes list slots r),
                ),
              )
