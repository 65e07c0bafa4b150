-- Bytes and rows of a filed plan: 16-bit numbers come back from their bytes and bytes from their numbers; a list and its
-- slots come back from their rows and rows from their list and slots; and how long each is. Assumes nothing.
use Prim.Native.Nat.{ℕ, ◌+◌, ◌*◌, ◌%◌, ◌/◌, ◌≤◌, ◌<◌}
use mathlib.Core.Path.{◌≡◌, refl, ◌∙◌}
use mathlib.Core.List.{List, [], ◌∷◌, ◌++◌}
use native.Mathlib.Omega.{arith}
use native.Mathlib.Nat.{add-mul-mod_self_left, add-mul-div_left, mod-eq_of_lt}
use lib.ListN.{length, take}
use Rattle.words.specs.Basics.{All}
use Rattle.appointments.specs.Appointments.{Appt, appts}
use Rattle.filing.specs.Filed.{bytes_of, numbers_of, rows, rows_list, rows_slots}

-- a 16-bit number, a byte
abbrev pub Word : ℕ → Type 0
Word w = w < 65536

abbrev pub Byte : ℕ → Type 0
Byte b = b < 256

-- ── bytes and 16-bit numbers ──

pub bytes_length : (words : List ℕ) → length (bytes_of words) ≡ 2 * length words
unfolding bytes_of
bytes_length [] = refl
bytes_length (w ∷ words) = omega (arith, bytes_length words)

pub words_length : (bytes : List ℕ) → length (numbers_of bytes) ≡ length bytes / 2
unfolding numbers_of
words_length [] = refl
words_length (low ∷ []) = refl
words_length (low ∷ high ∷ bytes) = omega (arith, words_length bytes)

word_back : (w : ℕ) → Word w → w % 256 + 256 * (w / 256 % 256) ≡ w
word_back w h = omega arith

pub words_of_bytes : (words : List ℕ) → All Word words → numbers_of (bytes_of words) ≡ words
unfolding bytes_of numbers_of
words_of_bytes [] h = refl
words_of_bytes (w ∷ words) h = rw (word_back w h.0, words_of_bytes words h.1)

low_back : (low high : ℕ) → Byte low → (low + 256 * high) % 256 ≡ low
low_back low high h = add-mul-mod_self_left low 256 high ∙ mod-eq_of_lt h

high_back : (low high : ℕ) → Byte low → Byte high → (low + 256 * high) / 256 % 256 ≡ high
high_back low high h k =
    let whole : (low + 256 * high) / 256 ≡ low / 256 + high = add-mul-div_left low high (omega arith) in
    rw whole (omega arith)

pub bytes_of_words : (bytes : List ℕ) → All Byte bytes → length bytes % 2 ≡ 0 → bytes_of (numbers_of bytes) ≡ bytes
unfolding bytes_of numbers_of
bytes_of_words [] h e = refl
bytes_of_words (low ∷ []) h e = absurd (omega arith)
bytes_of_words (low ∷ high ∷ bytes) h e =
    rw (low_back low high h.0, high_back low high h.0 h.1.0, bytes_of_words bytes h.1.1 (omega arith))

-- every byte written is a byte, every number read a 16-bit number
pub bytes_are : (words : List ℕ) → All Byte (bytes_of words)
unfolding bytes_of
bytes_are [] = tt
bytes_are (w ∷ words) = (omega arith, (omega arith, bytes_are words))

pub words_are : (bytes : List ℕ) → All Byte bytes → All Word (numbers_of bytes)
unfolding numbers_of
words_are [] h = tt
words_are (low ∷ []) h = tt
words_are (low ∷ high ∷ bytes) h = (omega (arith, h.0, h.1.0), words_are bytes h.1.1)

-- ── rows ──

pub rows_length : (xs : List Appt) (slots : List ℕ) → length xs ≤ length slots → length (rows xs slots) ≡ 3 * length xs
unfolding rows
rows_length [] slots h = refl
rows_length (x ∷ xs) [] h = absurd (omega arith)
rows_length (x ∷ xs) (s ∷ slots) h = omega (arith, rows_length xs slots (omega arith))

pub list_of_rows : (list slots : List ℕ) → length list % 2 ≡ 0 → length (appts list) ≤ length slots → rows_list (rows (appts list) slots) ≡ list
unfolding appts rows rows_list
list_of_rows [] slots e h = refl
list_of_rows (a ∷ []) slots e h = absurd (omega arith)
list_of_rows (a ∷ b ∷ rest) [] e h = absurd (omega arith)
list_of_rows (a ∷ b ∷ rest) (s ∷ slots) e h = rw (list_of_rows rest slots (omega arith) (omega arith))

pub slots_of_rows : (xs : List Appt) (slots : List ℕ) → length xs ≤ length slots → rows_slots (rows xs slots) ≡ take (length xs) slots
unfolding rows rows_slots
slots_of_rows [] slots h = refl
slots_of_rows (x ∷ xs) [] h = absurd (omega arith)
slots_of_rows (x ∷ xs) (s ∷ slots) h = rw (slots_of_rows xs slots (omega arith))

pub rows_are : (list slots : List ℕ) → All Word list → All Word slots → All Word (rows (appts list) slots)
unfolding appts rows
rows_are [] slots h k = tt
rows_are (a ∷ []) slots h k = tt
rows_are (a ∷ b ∷ rest) [] h k = tt
rows_are (a ∷ b ∷ rest) (s ∷ slots) h k = (h.0, (h.1.0, (k.0, rows_are rest slots h.1.1 k.1)))

module _ (more : List ℕ) where
  -- rows that are whole come back from their list and slots, whatever stands after the slots
  pub rows_back : (ws : List ℕ) → length ws % 3 ≡ 0 → rows (appts (rows_list ws)) (rows_slots ws ++ more) ≡ ws
  unfolding appts rows rows_list rows_slots
  rows_back [] e = refl
  rows_back (a ∷ []) e = absurd (omega arith)
  rows_back (a ∷ b ∷ []) e = absurd (omega arith)
  rows_back (a ∷ b ∷ s ∷ rest) e = rw (rows_back rest (omega arith))

pub rows_list_length : (ws : List ℕ) → length (rows_list ws) ≡ 2 * (length ws / 3)
unfolding rows_list
rows_list_length [] = refl
rows_list_length (a ∷ []) = refl
rows_list_length (a ∷ b ∷ []) = refl
rows_list_length (a ∷ b ∷ s ∷ rest) = omega (arith, rows_list_length rest)

pub rows_slots_length : (ws : List ℕ) → length (rows_slots ws) ≡ length ws / 3
unfolding rows_slots
rows_slots_length [] = refl
rows_slots_length (a ∷ []) = refl
rows_slots_length (a ∷ b ∷ []) = refl
rows_slots_length (a ∷ b ∷ s ∷ rest) = omega (arith, rows_slots_length rest)
