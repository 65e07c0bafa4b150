-- What the laws say of a perfect matching and of a matching search. Assumes nothing.
use Rattle.std.specs.Prelude.{ℕ, ◌≤◌, ◌≡◌}
use Rattle.multigraph.specs.Multigraph.{Graph}
use Rattle.multigraph.specs.Regular.{copies_between, Regular, Positive}
use Rattle.perfect_matching.specs.Matching.{flagged_pairs}

-- a regular graph in which every pair has a copy
pub record Full (N : ℕ) (side : ℕ → ℕ) (d : ℕ) (g : Graph) : Type 0 where
  pub regular : Regular N side d g
  pub positive : Positive g

-- a perfect matching: such a graph of degree 1
abbrev pub Perfect : ℕ → (ℕ → ℕ) → Graph → Type 0
Perfect N side m = Full N side 1 m

-- a perfect matching made of the graph's own pairs: no pair of it is flagged, and the graph has every copy of it
pub record MatchingOf (N : ℕ) (side : ℕ → ℕ) (g m : Graph) : Type 0 where
  pub perfect : Perfect N side m
  pub unflagged : flagged_pairs m ≡ 0
  pub own : (u v : ℕ) → copies_between u v m ≤ copies_between u v g
