-- What the laws say of a colouring: as many matchings as the degree, whose copies add up to the graph's. Assumes nothing.
use Rattle.std.specs.Prelude.{ℕ, ◌≡◌, List, length}
use Rattle.words.specs.Basics.{total, All}
use Rattle.multigraph.specs.Multigraph.{Graph}
use Rattle.multigraph.specs.Regular.{weigh, Symmetric}
use Rattle.perfect_matching.specs.Perfect.{Perfect}

pub record Coloring (N : ℕ) (side : ℕ → ℕ) (d : ℕ) (g : Graph) (ms : List Graph) : Type 0 where
  pub as_many : length ms ≡ d
  pub perfect : All (Perfect N side) ms
  pub copies : (w : ℕ → ℕ → ℕ) → Symmetric w → total (λ (m : Graph). weigh w m) ms ≡ weigh w g
