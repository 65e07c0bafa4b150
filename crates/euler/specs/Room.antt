-- What `rbmg_split_into_two` asks of the words, and what it gives. Assumes nothing.
use Rattle.std.specs.Prelude.{ℕ, ◌+◌, ◌*◌, ◌<◌, ◌≤◌, ◌≡◌, List, length}
use Rattle.words.specs.Basics.{total, ran}
use Rattle.words.specs.Words.{word, word_limit}
use Rattle.words.specs.Frames.{Keeps}
use Rattle.multigraph.specs.Multigraph.{Pair}
use Rattle.multigraph.specs.Regular.{names, Regular}
use Rattle.multigraph.specs.Stored.{graph_at}
use Rattle.euler.specs.Split.{rbmg_split_into_two}

-- The graph at g, on n parties a side, is regular of even degree, no party is in more than `width` pairs, and the graph and its
-- pairs' ends lie below the mark, above which there is room.
pub record Splits (s : List ℕ) (used ends g n width : ℕ) : Type 0 where
  pub side : ℕ → ℕ
  pub half : ℕ
  pub regular : Regular (2 * n) side (2 * half) (graph_at s ends 0 g)
  pub wide :
      (v : ℕ) → v < 2 * n → total (λ (p : Pair). names v p.first p.second) (graph_at s ends 0 g) ≤ width
  pub some : 0 < n
  pub few : 2 * n ≤ 2048
  pub two : 2 ≤ width
  pub size : n * (width + 1) ≤ 2097152
  pub pairs : word s (g + 1) ≤ n * width
  pub graph : g + 3 + 2 * word s (g + 1) ≤ used
  pub base : ends ≤ used
  pub table : (i : ℕ) → i < word s (g + 1) → ends + 2 * word s (g + 2 + 2 * i) + 1 < used
  pub room : used + 16 * (n * (width + 1)) ≤ length s
  pub short : length s ≤ word_limit

-- every pair number of the graph at h is one of the graph at g
pub record NumbersFrom (s t : List ℕ) (g h : ℕ) : Type 0 where
  pub from : (j : ℕ) → j < word t (h + 1) → (i : ℕ) × (i < word s (g + 1)) × (word t (h + 2 + 2 * j) ≡ word s (g + 2 + 2 * i))

-- The two halves stand at the old mark and 2·n·(width + 1) words above it; the new mark is behind them, and what lay below the
-- old one is as it was.
pub record HalvesStored (s t : List ℕ) (used mark ends g n width : ℕ) : Type 0 where
  pub halves :
      (pairs : ℕ) →
      rbmg_split_into_two (2 * n) (graph_at s ends pairs g)
      ≡ ran (record {
        first_half = graph_at t ends pairs used;
        second_half = graph_at t ends pairs (used + 2 * (n * (width + 1)));
      })
  pub first_base : word t used ≡ used
  pub second_base : word t (used + 2 * (n * (width + 1))) ≡ used + 2 * (n * (width + 1))
  pub first_count : word t (used + 1) ≤ word s (g + 1)
  pub second_count : word t (used + 2 * (n * (width + 1)) + 1) ≤ word s (g + 1)
  pub first_numbers : NumbersFrom s t g used
  pub second_numbers : NumbersFrom s t g (used + 2 * (n * (width + 1)))
  pub above : mark ≡ used + 4 * (n * (width + 1))
  pub keeps : Keeps used s t
