-- A flat list taken by two: as many chunks as appointments, each the two ends of one; and the mark of a blank end in code. Assumes nothing.
use Prim.Native.Nat.{ℕ, zero, suc, ◌+◌, ◌*◌, ◌/◌, ◌<◌}
use mathlib.Core.Path.{◌≡◌, refl, ◌∙◌, ap}
use mathlib.Core.List.{List, [], ◌∷◌}
use native.Mathlib.Omega.{arith}
use lib.ListN.{length, get_or, drop}
use Rattle.std.specs.Simd.{first_chunks}
use Rattle.words.specs.Words.{word}
use Rattle.appointments.specs.Checks.{blank}
use Rattle.appointments.specs.declared.TheConstants.{BLANK}

-- the code's mark is document 01's
pub blank_mark : BLANK ≡ blank
blank_mark = refl

-- the list taken by two, as code takes it
abbrev pub chunks_of : List ℕ → List (List ℕ)
chunks_of list = first_chunks 2 (length list / 2) list

-- as many chunks as asked for
pub chunks_count : (k : ℕ) (list : List ℕ) → length (first_chunks 2 k list) ≡ k
chunks_count zero list = refl
chunks_count (suc k) list = ap suc (chunks_count k (drop 2 list))

-- the chunk at a position holds the two numbers of the appointment there
pub chunk_at :
    (k : ℕ) (list : List ℕ) (i : ℕ) (d : List ℕ) → i < k → 2 * k < length list + 1 →
    get_or (first_chunks 2 k list) i d ≡ word list (2 * i) ∷ word list (2 * i + 1) ∷ []
chunk_at zero list i d h l = absurd (omega arith)
chunk_at (suc k) [] i d h l = absurd (omega arith)
chunk_at (suc k) (a ∷ []) i d h l = absurd (omega arith)
chunk_at (suc k) (a ∷ b ∷ rest) zero d h l = refl
chunk_at (suc k) (a ∷ b ∷ rest) (suc i) d h l =
    let first : 2 * suc i ≡ suc (suc (2 * i)) = omega arith in
    let second : suc (suc (2 * i)) + 1 ≡ suc (suc (2 * i + 1)) = omega arith in
    rw (first, second) (chunk_at k rest i d (omega arith) (omega arith))

-- What the chunk of the appointment at position i is: that appointment is in the list, and the chunk is its ends.
pub record ChunkSeen (list : List ℕ) (i : ℕ) (chunk : List ℕ) : Type 0 where
  pub inside : i < length list / 2
  pub ends : chunk ≡ word list (2 * i) ∷ word list (2 * i + 1) ∷ []

-- and so in the chunks that code takes
pub chunk_seen : (chunks : List (List ℕ)) (list : List ℕ) (i : ℕ) → chunks ≡ chunks_of list → i < length chunks → ChunkSeen list i (get_or chunks i [])
chunk_seen chunks list i front within =
    let inside : i < length list / 2 = omega (arith, within, ap length front, chunks_count (length list / 2) list) in
    record { inside = inside; ends = ap (λ (c : List (List ℕ)). get_or c i []) front ∙ chunk_at (length list / 2) list i [] inside (omega arith) }
