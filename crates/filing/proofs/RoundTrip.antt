-- The filed plan's two laws: reading undoes writing, and writing undoes reading. Assumes nothing.
use Prim.Native.Nat.{ℕ, ◌*◌, ◌≤◌, ◌<◌}
use mathlib.Core.Path.{◌≡◌, refl, sym, ◌∙◌, ap, subst}
use mathlib.Core.List.{List, [], ◌∷◌, ◌++◌}
use native.Mathlib.Omega.{arith}
use lib.ListN.{length, take, drop, get_or, length-append}
use lib.Seq.{take_at}
use Rattle.words.specs.Basics.{All}
use Rattle.appointments.specs.Appointments.{appts}
use Rattle.appointments.proofs.Loads.{appts_length}
use Rattle.appointments.specs.Answers.{accepted}
use Rattle.filing.specs.Filed.{bytes_of, numbers_of, rows, rows_list, rows_slots, filed_length, filed_bytes, writing_answer, writing_output, header_of, header, filed_rows, reading_answer, reading_list, reading_slots, ReadsBack, WritesBack}
use Rattle.filing.specs.declared.Header.{Header}
use Rattle.filing.proofs.Bytes.{Word, Byte, words_length, words_of_bytes, bytes_of_words, list_of_rows, slots_of_rows, rows_are, rows_back}
use Rattle.filing.proofs.FiledLaws.{filed_rows_length, Writable, writable_accepted, accepted_writable, filed_bytes_length, writing_wrote, Readable, readable_accepted, accepted_readable, list_read, slots_read, reading_list_read, reading_slots_read}

-- ── reading undoes writing ──

module _ (P : ℕ) (list slots output : List ℕ) (w : Writable P list slots output) (ends : All Word list) (slots_fit : All Word slots) where
  -- the 16-bit numbers of what was written
  words_written : numbers_of (filed_bytes P list slots) ≡ P ∷ length (appts list) ∷ rows (appts list) slots
  unfolding filed_bytes
  words_written =
      words_of_bytes (P ∷ length (appts list) ∷ rows (appts list) slots)
      (omega (arith, w.parties), (omega (arith, w.few), rows_are list slots ends slots_fit))

  header_written : header (filed_bytes P list slots) ≡ header_of P (length (appts list))
  unfolding header
  header_written = rw words_written

  rows_written : filed_rows (filed_bytes P list slots) ≡ rows (appts list) slots
  unfolding filed_rows
  rows_written = rw words_written

  appointments_written : (header (filed_bytes P list slots)).appointments ≡ length (appts list)
  appointments_written = ap (λ (h : Header). h.appointments) header_written

  module _ (lists seats : List ℕ) (list_room : length list ≤ length lists) (slot_room : length (appts list) ≤ length seats) where
    -- what was written can be read
    written_readable : Readable (filed_bytes P list slots) lists seats
    written_readable =
        let parties : (header (filed_bytes P list slots)).parties ≡ P = ap (λ (h : Header). h.parties) header_written in
        let A : (header (filed_bytes P list slots)).appointments ≡ length (appts list) = appointments_written in
        record {
          whole = omega (arith, filed_bytes_length P list slots output w);
          parties = omega (arith, w.parties);
          few = omega (arith, w.few);
          list_room = omega (arith, appts_length list w.even);
          slot_room = omega arith;
        }

    read_answer : reading_answer (filed_bytes P list slots) lists seats ≡ accepted (header_of P (length (appts list)))
    read_answer = readable_accepted (filed_bytes P list slots) lists seats written_readable ∙ ap accepted header_written

    read_list : reading_list (filed_bytes P list slots) lists seats ≡ list ++ drop (length list) lists
    read_list =
        let ends_back : rows_list (filed_rows (filed_bytes P list slots)) ≡ list = ap rows_list rows_written ∙ list_of_rows list slots w.even w.slot_room in
        let all_back : 2 * (header (filed_bytes P list slots)).appointments ≡ length list = omega (arith, appointments_written, appts_length list w.even) in
        reading_list_read (filed_bytes P list slots) lists seats written_readable
        ∙ ap (λ (l : List ℕ). l ++ drop (2 * (header (filed_bytes P list slots)).appointments) lists) ends_back
        ∙ ap (λ (k : ℕ). list ++ drop k lists) all_back

    read_slots : reading_slots (filed_bytes P list slots) lists seats ≡ take (length (appts list)) slots ++ drop (length (appts list)) seats
    read_slots =
        let slots_back : rows_slots (filed_rows (filed_bytes P list slots)) ≡ take (length (appts list)) slots = ap rows_slots rows_written ∙ slots_of_rows (appts list) slots w.slot_room in
        reading_slots_read (filed_bytes P list slots) lists seats written_readable
        ∙ ap (λ (l : List ℕ). l ++ drop (header (filed_bytes P list slots)).appointments seats) slots_back
        ∙ ap (λ (k : ℕ). take (length (appts list)) slots ++ drop k seats) appointments_written

-- Reading undoes writing: from the bytes that writing gave, as many as it said, reading into buffers that are long enough
-- gives back P, A, the list and its slots.
pub reading_undoes_writing : (P : ℕ) (list slots output lists seats : List ℕ) (n : ℕ) → All Word list → All Word slots
    → writing_answer P list slots output ≡ accepted n → length list ≤ length lists → length (appts list) ≤ length seats
    → ReadsBack P list slots (take n (writing_output P list slots output)) lists seats
reading_undoes_writing P list slots output lists seats n ends fit e h k =
    let a : Writable P list slots output × (filed_length (length (appts list)) ≡ n) = accepted_writable P list slots output n e in
    let bytes : List ℕ = filed_bytes P list slots in
    let long : length bytes ≡ n = filed_bytes_length P list slots output a.0 ∙ a.1 in
    let wrote : take n (writing_output P list slots output) ≡ bytes =
    ap (λ (l : List ℕ). take n l) (writing_wrote P list slots output a.0) ∙ take_at bytes (drop (filed_length (length (appts list))) output) n long in
    subst (λ (l : List ℕ). ReadsBack P list slots l lists seats) (sym wrote)
    (record {
      answer = read_answer P list slots output a.0 ends fit lists seats h k;
      ends = read_list P list slots output a.0 ends fit lists seats h k;
      plan = read_slots P list slots output a.0 ends fit lists seats h k;
    })

-- ── writing undoes reading ──

two_first : (ws : List ℕ) → 1 < length ws → get_or ws 0 0 ∷ get_or ws 1 0 ∷ drop 2 ws ≡ ws
two_first [] h = absurd (omega arith)
two_first (a ∷ []) h = absurd (omega arith)
two_first (a ∷ b ∷ rest) h = refl

module _ (bytes lists seats : List ℕ) where
  -- the list and the slots that were read, as the caller has them
  abbrev list_got : List ℕ
  list_got = take (2 * (header bytes).appointments) (reading_list bytes lists seats)

  abbrev slots_got : List ℕ
  slots_got = reading_slots bytes lists seats

  module _ (r : Readable bytes lists seats) where
    list_got_is : list_got ≡ rows_list (filed_rows bytes)
    list_got_is =
        ap (λ (l : List ℕ). take (2 * (header bytes).appointments) l) (reading_list_read bytes lists seats r)
        ∙ take_at (rows_list (filed_rows bytes)) (drop (2 * (header bytes).appointments) lists) (2 * (header bytes).appointments) (list_read bytes lists seats r)

    list_got_length : length list_got ≡ 2 * (header bytes).appointments
    list_got_length = ap length list_got_is ∙ list_read bytes lists seats r

    appointments_got : length (appts list_got) ≡ (header bytes).appointments
    appointments_got = omega (arith, appts_length list_got (omega (arith, list_got_length)), list_got_length)

    rows_got : rows (appts list_got) slots_got ≡ filed_rows bytes
    rows_got =
        rw (list_got_is, reading_slots_read bytes lists seats r)
        (rows_back (drop (header bytes).appointments seats) (filed_rows bytes) (omega (arith, filed_rows_length bytes lists seats r)))

    -- the two numbers of the header and the rows are all the numbers
    words_again : (header bytes).parties ∷ (header bytes).appointments ∷ filed_rows bytes ≡ numbers_of bytes
    unfolding header filed_rows
    words_again = two_first (numbers_of bytes) (omega (arith, words_length bytes, r.whole))

    bytes_again : All Byte bytes → filed_bytes (header bytes).parties list_got slots_got ≡ bytes
    unfolding filed_bytes
    bytes_again all_bytes =
        ap (λ (k : ℕ). bytes_of ((header bytes).parties ∷ k ∷ rows (appts list_got) slots_got)) appointments_got
        ∙ ap (λ (l : List ℕ). bytes_of ((header bytes).parties ∷ (header bytes).appointments ∷ l)) rows_got
        ∙ ap bytes_of words_again
        ∙ bytes_of_words bytes all_bytes (omega (arith, r.whole))

    slots_got_room : (header bytes).appointments ≤ length slots_got
    slots_got_room =
        rw (reading_slots_read bytes lists seats r)
        (omega (arith, length-append (rows_slots (filed_rows bytes)) (drop (header bytes).appointments seats), slots_read bytes lists seats r))

    got_writable : (output : List ℕ) → length bytes ≤ length output → Writable (header bytes).parties list_got slots_got output
    got_writable output h =
        let A : length (appts list_got) ≡ (header bytes).appointments = appointments_got in
        record {
          parties = r.parties;
          even = omega (arith, list_got_length);
          few = omega (arith, r.few);
          slot_room = omega (arith, slots_got_room);
          room = omega (arith, r.whole);
        }

writes_back : (bytes lists seats : List ℕ) (r : Readable bytes lists seats) → All Byte bytes → (output : List ℕ) → length bytes ≤ length output
    → WritesBack bytes (header bytes).parties (list_got bytes lists seats) (slots_got bytes lists seats) output
writes_back bytes lists seats r all_bytes output room =
    let P : ℕ = (header bytes).parties in
    let list : List ℕ = list_got bytes lists seats in
    let slots : List ℕ = slots_got bytes lists seats in
    let w : Writable P list slots output = got_writable bytes lists seats r output room in
    let long : filed_length (length (appts list)) ≡ length bytes = omega (arith, appointments_got bytes lists seats r, r.whole) in
    record {
      answer = writable_accepted P list slots output w ∙ ap accepted long;
      wrote =
          writing_wrote P list slots output w
          ∙ ap (λ (l : List ℕ). l ++ drop (filed_length (length (appts list))) output) (bytes_again bytes lists seats r all_bytes)
          ∙ ap (λ (k : ℕ). bytes ++ drop k output) long;
    }

-- Writing undoes reading: of the P, the list and the slots that reading gave, writing into an output that is long enough
-- gives back the bytes.
pub writing_undoes_reading : (bytes lists seats output : List ℕ) (h : Header) → All Byte bytes → reading_answer bytes lists seats ≡ accepted h → length bytes ≤ length output
    → WritesBack bytes h.parties (take (2 * h.appointments) (reading_list bytes lists seats)) (reading_slots bytes lists seats) output
writing_undoes_reading bytes lists seats output h all_bytes e room =
    let a : Readable bytes lists seats × (header bytes ≡ h) = accepted_readable bytes lists seats h e in
    subst (λ (g : Header). WritesBack bytes g.parties (take (2 * g.appointments) (reading_list bytes lists seats)) (reading_slots bytes lists seats) output) a.1
    (writes_back bytes lists seats a.0 all_bytes output room)
