-- Bytes, 16-bit numbers and rows of a filed plan by index. Assumes nothing.
use Prim.Native.Nat.{ℕ, zero, suc, ◌+◌, ◌*◌, ◌%◌, ◌/◌, ◌<◌}
use mathlib.Core.Path.{◌≡◌, refl}
use mathlib.Core.List.{List, [], ◌∷◌}
use native.Mathlib.Omega.{arith}
use lib.ListN.{length, get_or}
use Rattle.appointments.specs.Appointments.{appts}
use Rattle.words.proofs.Filling.{RowAt, row_on}
use Rattle.filing.specs.Filed.{bytes_of, numbers_of, rows, rows_list, rows_slots}

-- ── numbers and their bytes ──

pub byte_low : (words : List ℕ) (k : ℕ) → get_or (bytes_of words) (2 * k) 0 ≡ get_or words k 0 % 256
unfolding bytes_of
byte_low [] k = refl
byte_low (w ∷ words) zero = refl
byte_low (w ∷ words) (suc k) =
    let on : 2 * suc k ≡ suc (suc (2 * k)) = omega arith in
    rw on (byte_low words k)

pub byte_high : (words : List ℕ) (k : ℕ) → get_or (bytes_of words) (2 * k + 1) 0 ≡ get_or words k 0 / 256 % 256
unfolding bytes_of
byte_high [] k = refl
byte_high (w ∷ words) zero = refl
byte_high (w ∷ words) (suc k) =
    let on : 2 * suc k + 1 ≡ suc (suc (2 * k + 1)) = omega arith in
    rw on (byte_high words k)

pub word_at : (bytes : List ℕ) (k : ℕ) → k < length bytes / 2 → get_or bytes (2 * k) 0 + 256 * get_or bytes (2 * k + 1) 0 ≡ get_or (numbers_of bytes) k 0
unfolding numbers_of
word_at [] k h = absurd (omega arith)
word_at (low ∷ []) k h = absurd (omega arith)
word_at (low ∷ high ∷ bytes) zero h = refl
word_at (low ∷ high ∷ bytes) (suc k) h =
    let on : 2 * suc k ≡ suc (suc (2 * k)) = omega arith in
    let off : 2 * suc k + 1 ≡ suc (suc (2 * k + 1)) = omega arith in
    rw (off, on) (word_at bytes k (omega arith))

-- ── rows ──

-- of the rows that are written
pub rows_at : (list slots : List ℕ) (i : ℕ) → i < length list / 2 → i < length slots → RowAt (rows (appts list) slots) i (get_or list (2 * i) 0) (get_or list (2 * i + 1) 0) (get_or slots i 0)
unfolding appts rows
rows_at [] slots i h k = absurd (omega arith)
rows_at (a ∷ []) slots i h k = absurd (omega arith)
rows_at (a ∷ b ∷ list) [] i h k = absurd (omega arith)
rows_at (a ∷ b ∷ list) (s ∷ slots) zero h k = record { first_at = refl; second_at = refl; third_at = refl }
rows_at (a ∷ b ∷ list) (s ∷ slots) (suc i) h k =
    let on : 2 * suc i ≡ suc (suc (2 * i)) = omega arith in
    let off : 2 * suc i + 1 ≡ suc (suc (2 * i + 1)) = omega arith in
    rw (off, on) (row_on a b s (rows (appts list) slots) i _ _ _ (rows_at list slots i (omega arith) (omega arith)))

-- of the rows that are read: the list and the slots hold them
pub read_at : (ws : List ℕ) (i : ℕ) → i < length ws / 3 → RowAt ws i (get_or (rows_list ws) (2 * i) 0) (get_or (rows_list ws) (2 * i + 1) 0) (get_or (rows_slots ws) i 0)
unfolding rows_list rows_slots
read_at [] i h = absurd (omega arith)
read_at (a ∷ []) i h = absurd (omega arith)
read_at (a ∷ b ∷ []) i h = absurd (omega arith)
read_at (a ∷ b ∷ s ∷ ws) zero h = record { first_at = refl; second_at = refl; third_at = refl }
read_at (a ∷ b ∷ s ∷ ws) (suc i) h =
    let on : 2 * suc i ≡ suc (suc (2 * i)) = omega arith in
    let off : 2 * suc i + 1 ≡ suc (suc (2 * i + 1)) = omega arith in
    rw (off, on) (row_on a b s ws i _ _ _ (read_at ws i (omega arith)))
