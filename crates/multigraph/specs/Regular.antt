-- What the laws say of a graph: degrees, copies between two parties, and regular. A matching is a regular graph of degree 1.
-- Assumes nothing.
use Rattle.std.specs.Prelude.{ℕ, ◌+◌, ◌*◌, ◌<◌, ◌≡◌, List, [], ◌∷◌, ◌⊎◌, length}
use Rattle.words.specs.Basics.{pick, is, total, count, All}
use Rattle.multigraph.specs.Multigraph.{Pair, Graph, joins}

-- the copies of a graph, each weighed by its ends
unfoldable pub weigh : (ℕ → ℕ → ℕ) → Graph → ℕ
weigh w g = total (λ p. p.copies * w p.first p.second) g

-- how often a copy with ends a and b names the party v
abbrev pub names : ℕ → ℕ → ℕ → ℕ
names v a b = is v a + is v b

-- a party's degree, counting copies
abbrev pub degree : ℕ → Graph → ℕ
degree v g = weigh (names v) g

-- 1 where a copy with ends a and b joins u and v, either way round
unfoldable pub between : ℕ → ℕ → ℕ → ℕ → ℕ
between u v a b = pick (joins u v (record { first = a; second = b; copies = 0; bad = 0 })) 1 0

-- the ends c and d are a and b, one way round or the other
abbrev pub SameEnds : ℕ → ℕ → ℕ → ℕ → Type 0
SameEnds a b c d = ((c ≡ a) × (d ≡ b)) ⊎ ((c ≡ b) × (d ≡ a))

-- how many copies join u and v
abbrev pub copies_between : ℕ → ℕ → Graph → ℕ
copies_between u v g = weigh (between u v) g

-- how many pairs join u and v
unfoldable pub pairs_between : ℕ → ℕ → Graph → ℕ
pairs_between u v g = total (λ p. between u v p.first p.second) g

-- no two pairs have the same ends
abbrev pub Apart : Graph → Type 0
Apart [] = Unit {0}
Apart (p ∷ g) = (pairs_between p.first p.second g ≡ 0) × Apart g

-- both ends are below N and on different sides; a side is 0 (left) or 1 (right)
pub record Across (N : ℕ) (side : ℕ → ℕ) (p : Pair) : Type 0 where
  pub first_below : p.first < N
  pub second_below : p.second < N
  pub sides : side p.first + side p.second ≡ 1

-- A bipartite graph on the parties below N in which every party has degree d and no two pairs have the same ends.
pub record Regular (N : ℕ) (side : ℕ → ℕ) (d : ℕ) (g : Graph) : Type 0 where
  pub even : (v : ℕ) → v < N → degree v g ≡ d
  pub across : All (Across N side) g
  pub apart : Apart g

-- every pair has a copy
abbrev pub Positive : Graph → Type 0
Positive g = All (λ (p : Pair). 0 < p.copies) g

-- The two sides as lists: each party below N stands once in one of them, left ones have side 0 and right ones side 1, and
-- both are equally long.
pub record Partition (N : ℕ) (side : ℕ → ℕ) (left right : List ℕ) : Type 0 where
  pub once : (v : ℕ) → v < N → count v left + count v right ≡ 1
  pub left_side : All (λ (v : ℕ). (v < N) × (side v ≡ 0)) left
  pub right_side : All (λ (v : ℕ). (v < N) × (side v ≡ 1)) right
  pub same_length : length left ≡ length right
  pub whole : length left + length right ≡ N

-- a weight that doesn't ask which end is first
abbrev pub Symmetric : (ℕ → ℕ → ℕ) → Type 0
Symmetric w = (a b : ℕ) → w a b ≡ w b a

-- a pair's flag goes by its ends
abbrev pub Agrees : (ℕ → ℕ → ℕ) → Graph → Type 0
Agrees flag g = All (λ (p : Pair). p.bad ≡ flag p.first p.second) g
