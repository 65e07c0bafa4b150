-- What the steps of the diagonal ask and give (`src/diagonal_places.rt`). Assumes nothing.
use Rattle.std.specs.Prelude.{ℕ, ◌+◌, ◌*◌, ◌<◌, ◌≤◌, ◌≡◌, List, ◌⊎◌, length}
use Rattle.words.specs.Frames.{ChangesThree}
use Rattle.words.specs.Words.{word, put_word, word_limit}
use Rattle.multigraph.specs.Places.{HasEnds}
use Rattle.list_pairs.specs.declared.Bases.{Bases}

-- the words after place i of the diagonal has begun: both parties' place, the number m + i, and its row of ends
abbrev pub begun : ℕ → ℕ → ℕ → ℕ → ℕ → ℕ → ℕ → List ℕ → List ℕ
begun ends diag b m i l r s =
    put_word (put_word (put_word (put_word (put_word s (b + l) i) (b + r) i) (diag + i) (m + i)) (ends + 2 * (m + i)) l)
    (ends + 2 * (m + i) + 1) r

-- place i has its two parties, their places, its number and its row
pub record Begins (at : Bases) (diag b m i : ℕ) (s : List ℕ) : Type 0 where
  pub left_party : at.left + i < length s
  pub right_party : at.right + i < length s
  pub left_place : b + word s (at.left + i) < length s
  pub right_place : b + word s (at.right + i) < length s
  pub number : diag + i < length s
  pub row : at.ends + 2 * (m + i) + 1 < length s

-- Where things lie, from below: the n parties of each side, the n numbers of the diagonal, the table of ends with n rows more than
-- there are pairs, which are m, and each party's place.
pub record DiagRoom (n : ℕ) (at : Bases) (diag b m : ℕ) (s : List ℕ) : Type 0 where
  pub after_left : at.left + n ≤ diag
  pub after_right : at.right + n ≤ diag
  pub after_diag : diag + n ≤ at.ends
  pub after_ends : at.ends + 2 * (m + n) ≤ b
  pub room : b + (n + n) ≤ length s
  pub low : b + (n + n) < word_limit

-- all these places are small numbers; that the table's is, `Bases` says
pub record DiagSmall (at : Bases) (diag b : ℕ) : Type 0 where
  pub left : at.left < word_limit
  pub right : at.right < word_limit
  pub numbers : diag < word_limit
  pub places : b < word_limit

-- all 2·n parties are different numbers below n + n
pub record DiagFit (n : ℕ) (at : Bases) (diag b m : ℕ) (s : List ℕ) : Type 0 where
  pub left_once : (i j : ℕ) → i < n → j < n → word s (at.left + i) ≡ word s (at.left + j) → i ≡ j
  pub right_once : (i j : ℕ) → i < n → j < n → word s (at.right + i) ≡ word s (at.right + j) → i ≡ j
  pub apart : (i j : ℕ) → i < n → j < n → word s (at.left + i) ≡ word s (at.right + j) → ⊥
  pub left_below : (i : ℕ) → i < n → word s (at.left + i) < n + n
  pub right_below : (i : ℕ) → i < n → word s (at.right + i) < n + n
  pub lies : DiagRoom n at diag b m s

-- k places have begun
pub record Begun (n : ℕ) (at : Bases) (diag b m k : ℕ) (s t : List ℕ) : Type 0 where
  pub left_place : (i : ℕ) → i < k → word t (b + word s (at.left + i)) ≡ i
  pub right_place : (i : ℕ) → i < k → word t (b + word s (at.right + i)) ≡ i
  pub numbers : (i : ℕ) → i < k → word t (diag + i) ≡ m + i
  pub firsts : (i : ℕ) → i < k → word t (at.ends + 2 * (m + i)) ≡ word s (at.left + i)
  pub seconds : (i : ℕ) → i < k → word t (at.ends + 2 * (m + i) + 1) ≡ word s (at.right + i)
  pub changes : (mark : ℕ) → ChangesThree diag n (at.ends + 2 * m) (2 * n) b (n + n) mark s t

-- the place at which the first end of pair e stands
abbrev pub place_of : ℕ → ℕ → ℕ → List ℕ → ℕ
place_of ends b e s = word s (b + word s (ends + 2 * e))

-- the two parties of place i are the ends of pair e
abbrev pub AtPlace : Bases → List ℕ → ℕ → ℕ → Type 0
AtPlace at s e i = HasEnds s at.ends e (word s (at.left + i)) (word s (at.right + i))

-- the place of its first end has the ends of pair e as parties
abbrev pub OnDiagonal : ℕ → Bases → ℕ → ℕ → List ℕ → Type 0
OnDiagonal n at b e s =
    (place_of at.ends b e s < n)
    × AtPlace at s e (place_of at.ends b e s)

-- pair e has its row, and each place its two parties and its number
pub record Looks (n : ℕ) (at : Bases) (diag e : ℕ) (s : List ℕ) : Type 0 where
  pub row : at.ends + 2 * e + 1 < length s
  pub lefts : at.left + n ≤ length s
  pub rights : at.right + n ≤ length s
  pub numbers : diag + n ≤ length s

-- that place learns the number e, if there is one
abbrev pub LookedAt : ℕ → Bases → ℕ → ℕ → ℕ → List ℕ → List ℕ → Type 0
LookedAt n at diag b e s t =
    (OnDiagonal n at b e s × (t ≡ put_word s (diag + place_of at.ends b e s) e))
    ⊎ ((OnDiagonal n at b e s → ⊥) × (t ≡ s))

-- the places are known
pub record DiagReady (n : ℕ) (at : Bases) (diag b m : ℕ) (s : List ℕ) : Type 0 where
  pub left_place : (i : ℕ) → i < n → word s (b + word s (at.left + i)) ≡ i
  pub right_place : (i : ℕ) → i < n → word s (b + word s (at.right + i)) ≡ i
  pub numbers : (i : ℕ) → i < n → word s (diag + i) ≡ m + i
  pub lies : DiagRoom n at diag b m s

-- the first k pairs have been looked at
pub record Looked (n : ℕ) (at : Bases) (diag m k : ℕ) (s t : List ℕ) : Type 0 where
  pub numbers :
      (i : ℕ) → i < n →
      ((word t (diag + i) < k) × AtPlace at s (word t (diag + i)) i)
      ⊎ ((word t (diag + i) ≡ m + i)
      × ((e : ℕ) → e < k → AtPlace at s e i → ⊥))
  pub len : length t ≡ length s
  pub under : (i : ℕ) → i < diag → word t i ≡ word s i
  pub over : (i : ℕ) → diag + n ≤ i → word t i ≡ word s i
