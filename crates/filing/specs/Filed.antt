-- Document 01's filed plan: its bytes, writing it and reading it, and what it means that each undoes the other. Assumes nothing.
use Rattle.std.specs.Prelude.{ℕ, ◌+◌, ◌*◌, ◌%◌, ◌/◌, ◌≡◌, not, ◌||◌, List, [], ◌∷◌, ◌++◌, eqb, ltb, length, get_or, take, drop}
use Rattle.appointments.specs.Appointments.{Appt, appts}
use Rattle.appointments.specs.Checks.{Check, passed, bar, check_parties, check_even, check_count, check_slots}
use Rattle.appointments.specs.Answers.{Answer, accepted, answer, figure, over, after}
use Rattle.filing.specs.declared.Header.{Header}

-- 16-bit numbers as bytes, low byte first
unfoldable pub bytes_of : List ℕ → List ℕ
bytes_of [] = []
bytes_of (w ∷ words) = (w % 256) ∷ (w / 256 % 256) ∷ bytes_of words

-- bytes as 16-bit numbers, low byte first
unfoldable pub numbers_of : List ℕ → List ℕ
numbers_of [] = []
numbers_of (low ∷ []) = []
numbers_of (low ∷ high ∷ bytes) = (low + 256 * high) ∷ numbers_of bytes

-- per appointment its first end, second end and slot
unfoldable pub rows : List Appt → List ℕ → List ℕ
rows [] slots = []
rows (x ∷ xs) [] = []
rows (x ∷ xs) (s ∷ slots) = x.first ∷ x.second ∷ s ∷ rows xs slots

-- the list of such rows
unfoldable pub rows_list : List ℕ → List ℕ
rows_list [] = []
rows_list (a ∷ []) = []
rows_list (a ∷ b ∷ []) = []
rows_list (a ∷ b ∷ s ∷ rest) = a ∷ b ∷ rows_list rest

-- the slots of such rows
unfoldable pub rows_slots : List ℕ → List ℕ
rows_slots [] = []
rows_slots (a ∷ []) = []
rows_slots (a ∷ b ∷ []) = []
rows_slots (a ∷ b ∷ s ∷ rest) = s ∷ rows_slots rest

-- how many bytes a filed plan of A appointments has
abbrev pub filed_length : ℕ → ℕ
filed_length A = 4 + 6 * A

-- The filed plan: P and A, then the rows; all 16-bit, low byte first.
unfoldable pub filed_bytes : ℕ → List ℕ → List ℕ → List ℕ
unfolding bytes_of rows
filed_bytes P list slots = bytes_of (P ∷ length (appts list) ∷ rows (appts list) slots)

-- Writing checks 1, 2, 3, 7, 13.
unfoldable pub writing_checks : ℕ → List ℕ → List ℕ → List ℕ → Check
writing_checks P list slots output =
    let A : ℕ = length (appts list) in
    check_parties P
    (check_even list
    (check_count A
    (check_slots (length slots) A
    (bar (ltb (length output) (filed_length A)) 13
    passed))))

-- Writing gives its length.
unfoldable pub writing_answer : ℕ → List ℕ → List ℕ → List ℕ → Answer ℕ
unfolding writing_checks
writing_answer P list slots output = answer (writing_checks P list slots output) (filed_length (length (appts list)))

-- the output after writing
unfoldable pub writing_output : ℕ → List ℕ → List ℕ → List ℕ → List ℕ
unfolding writing_answer filed_bytes
writing_output P list slots output = after (writing_answer P list slots output) (filed_bytes P list slots) output

-- P and A as the bytes of a filed plan say them
abbrev pub header_of : ℕ → ℕ → Header
header_of P A = record { parties = P; appointments = A }

unfoldable pub header : List ℕ → Header
unfolding numbers_of
header bytes = header_of (get_or (numbers_of bytes) 0 0) (get_or (numbers_of bytes) 1 0)

-- the rows in the bytes of a filed plan
unfoldable pub filed_rows : List ℕ → List ℕ
unfolding numbers_of
filed_rows bytes = drop 2 (numbers_of bytes)

-- Reading checks 12 (length not 4+6×A, or under 4), 1, 3, 13 (list or slots).
unfoldable pub reading_checks : List ℕ → List ℕ → List ℕ → Check
unfolding header
reading_checks bytes list slots =
    let A : ℕ = (header bytes).appointments in
    bar (ltb (length bytes) 4 || not (eqb (length bytes) (filed_length A))) 12
    (check_parties (header bytes).parties
    (check_count A
    (bar (ltb (length list) (2 * A) || ltb (length slots) A) 13
    passed)))

-- Reading gives P and A.
unfoldable pub reading_answer : List ℕ → List ℕ → List ℕ → Answer Header
unfolding reading_checks
reading_answer bytes list slots = answer (reading_checks bytes list slots) (header bytes)

-- P and A of an answer, 0 for a refusal
abbrev pub parties_of : Answer Header → ℕ
parties_of = figure (λ h. h.parties)

abbrev pub appointments_of : Answer Header → ℕ
appointments_of = figure (λ h. h.appointments)

-- the list and the slots after reading
unfoldable pub reading_list : List ℕ → List ℕ → List ℕ → List ℕ
unfolding reading_answer rows_list filed_rows
reading_list bytes list slots = after (reading_answer bytes list slots) (rows_list (filed_rows bytes)) list

unfoldable pub reading_slots : List ℕ → List ℕ → List ℕ → List ℕ
unfolding reading_answer rows_slots filed_rows
reading_slots bytes list slots = after (reading_answer bytes list slots) (rows_slots (filed_rows bytes)) slots

-- ── reading undoes writing, and writing reading ──

-- What reading these bytes gives: P, A, the list and its slots; the entries of the two buffers past those stay.
pub record ReadsBack (P : ℕ) (list slots bytes lists seats : List ℕ) : Type 0 where
  pub answer : reading_answer bytes lists seats ≡ accepted (header_of P (length (appts list)))
  pub ends : reading_list bytes lists seats ≡ over list lists
  pub plan : reading_slots bytes lists seats ≡ take (length (appts list)) slots ++ drop (length (appts list)) seats

-- What writing gives of what was read: these bytes; the output past them stays.
pub record WritesBack (bytes : List ℕ) (P : ℕ) (list slots output : List ℕ) : Type 0 where
  pub answer : writing_answer P list slots output ≡ accepted (length bytes)
  pub wrote : writing_output P list slots output ≡ over bytes output
