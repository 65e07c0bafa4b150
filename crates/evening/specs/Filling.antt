-- What the steps of evening out ask and give (`src/filling.rt`). Assumes nothing.
use Rattle.std.specs.Prelude.{ℕ, ◌+◌, ◌-◌, ◌/◌, ◌<◌, ◌≤◌, min, ◌≡◌, List, ◌⊎◌}
use Rattle.words.specs.Words.{word, put_word, word_limit}
use Rattle.multigraph.specs.Places.{size}
use Rattle.list_pairs.specs.Adding.{AddsPair}
use Rattle.list_pairs.specs.Ends.{Joins}
use Rattle.list_pairs.specs.Rows.{row, counter}
use Rattle.list_pairs.specs.declared.Bases.{Bases}
use Rattle.list_pairs.specs.declared.rows.RowBases.{RowBases}

-- every place is a small number; that those of the table of ends and of the graph are, `Bases` says
pub record FillSmall (at : Bases) (rs : RowBases) : Type 0 where
  pub left : at.left < word_limit
  pub right : at.right < word_limit
  pub apair : at.apair < word_limit
  pub counts : rs.counts < word_limit
  pub rows : rs.rows < word_limit
  pub degree : rs.d < 2147483648

-- The pair with the ends l and r by the row of l: that of one of its appointments, or the next number if none has these ends.
abbrev pub PairFound : List ℕ → Bases → RowBases → ℕ → ℕ → List ℕ → ℕ → Type 0
PairFound list at rs l r s e =
    ((t : ℕ) × (t < rs.d) × Joins list (row s rs l t / 2) l r × (e ≡ word s (at.apair + row s rs l t / 2)))
    ⊎ (((t : ℕ) → t < rs.d → Joins list (row s rs l t / 2) l r → ⊥) × (e ≡ size s at.g))

-- The smaller shortfall of l and r. Their degrees stand in the counters: at first as many as half-edges in the rows.
abbrev pub shortfall : RowBases → ℕ → ℕ → List ℕ → ℕ
shortfall rs l r s = min (rs.d - counter s rs l) (rs.d - counter s rs r)

-- the smaller shortfall is added as copies of the pair l, r, and to both degrees
pub record Filled (list : List ℕ) (at : Bases) (rs : RowBases) (l r : ℕ) (s t : List ℕ) : Type 0 where
  pub number : ℕ
  pub added : List ℕ
  pub found : PairFound list at rs l r s number
  pub adds : AddsPair at.ends at.g number l r (shortfall rs l r s) s added
  pub degrees :
      t
      ≡ put_word (put_word added (rs.counts + l) (counter s rs l + shortfall rs l r s)) (rs.counts + r)
      (counter s rs r + shortfall rs l r s)

-- the next party on the left, where i have been passed
abbrev pub next_left : Bases → List ℕ → ℕ → ℕ
next_left at s i = word s (at.left + i)

-- and on the right, where j have been
abbrev pub next_right : Bases → List ℕ → ℕ → ℕ
next_right at s j = word s (at.right + j)

-- One step: i and j say how many parties have been passed on the left and on the right before it, i' and j' after it.
pub data StepTaken (list : List ℕ) (at : Bases) (rs : RowBases) (n : ℕ) (s t : List ℕ) (i j i' j' : ℕ) : Type 0 where
  all_passed : n ≤ i → t ≡ s → i' ≡ i → j' ≡ j → StepTaken list at rs n s t i j i' j'
  left_full :
      i < n → counter s rs (next_left at s i) ≡ rs.d → t ≡ s → i' ≡ i + 1 → j' ≡ j →
      StepTaken list at rs n s t i j i' j'
  none_right :
      i < n → (counter s rs (next_left at s i) ≡ rs.d → ⊥) → n ≤ j → t ≡ s → i' ≡ i → j' ≡ j →
      StepTaken list at rs n s t i j i' j'
  right_full :
      i < n → (counter s rs (next_left at s i) ≡ rs.d → ⊥) → j < n → counter s rs (next_right at s j) ≡ rs.d → t ≡ s → i' ≡ i →
      j' ≡ j + 1 → StepTaken list at rs n s t i j i' j'
  both_short :
      i < n → (counter s rs (next_left at s i) ≡ rs.d → ⊥) → j < n → (counter s rs (next_right at s j) ≡ rs.d → ⊥) →
      Filled list at rs (next_left at s i) (next_right at s j) s t → i' ≡ i → j' ≡ j → StepTaken list at rs n s t i j i' j'
