-- What the laws say of `euler_cycles` and of `rbmg_split_into_two`. Assumes nothing.
use Rattle.std.specs.Prelude.{ℕ, ◌+◌, ◌≡◌, List}
use Rattle.words.specs.Basics.{total, All}
use Rattle.multigraph.specs.Multigraph.{Pair, Graph}
use Rattle.multigraph.specs.Regular.{names, weigh, Regular, Positive, Symmetric, Agrees}
use Rattle.euler.specs.Split.{Halves, evens, odds}

-- The cycles hold the pairs of the rest, each once (every weight agrees), and in each cycle every party stands as often at
-- places 0, 2, .. as at places 1, 3, ..
pub record CyclesOf (r : List Pair) (cs : List (List Pair)) : Type 0 where
  pub whole : (f : Pair → ℕ) → total (λ (c : List Pair). total f c) cs ≡ total f r
  pub balanced :
      (v : ℕ) →
      All (λ (c : List Pair).
      total (λ (p : Pair). names v p.first p.second) (evens c)
      ≡ total (λ (p : Pair). names v p.first p.second) (odds c)) cs

-- Two regular halves of half the degree, whose copies add up to the graph's; pairs take their flags along.
pub record SplitOf (N : ℕ) (side : ℕ → ℕ) (k : ℕ) (g : Graph) (h : Halves) : Type 0 where
  pub first_regular : Regular N side k h.first_half
  pub second_regular : Regular N side k h.second_half
  pub first_positive : Positive h.first_half
  pub second_positive : Positive h.second_half
  pub copies : (w : ℕ → ℕ → ℕ) → Symmetric w → weigh w h.first_half + weigh w h.second_half ≡ weigh w g
  pub first_flags : (flag : ℕ → ℕ → ℕ) → Symmetric flag → Agrees flag g → Agrees flag h.first_half
  pub second_flags : (flag : ℕ → ℕ → ℕ) → Symmetric flag → Agrees flag g → Agrees flag h.second_half
