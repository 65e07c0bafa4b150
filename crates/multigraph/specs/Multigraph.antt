-- Module 1 of document 01, the pairs of `RegularBipartiteMultiGraph`. A graph is the list of its pairs by number, that is by
-- creation. Assumes nothing.
use Rattle.std.specs.Prelude.{ℕ, ◌+◌, ◌-◌, Bool, ◌&&◌, ◌||◌, List, [], ◌∷◌, eqb}
use Rattle.words.specs.Basics.{pick}

-- A pair has two ends, copies (`multiplicity`) and a flag (`bad`): 1 if flagged, else 0.
pub record Pair : Type 0 where
  pub first : ℕ
  pub second : ℕ
  pub copies : ℕ
  pub bad : ℕ

abbrev pub pair : ℕ → ℕ → ℕ → ℕ → Pair
pair a b m f = record { first = a; second = b; copies = m; bad = f }

abbrev pub Graph : Type 0
Graph = List Pair

-- the same pair with another number of copies
abbrev pub with_copies : ℕ → Pair → Pair
with_copies m p = pair p.first p.second m p.bad

-- the pair has these two ends, either way round
abbrev pub joins : ℕ → ℕ → Pair → Bool
joins a b p = (eqb p.first a && eqb p.second b) || (eqb p.first b && eqb p.second a)

-- Adding to an existing pair, either way round, adds copies and keeps its first orientation and flag; a new pair comes last.
unfoldable pub add_edge : Graph → ℕ → ℕ → ℕ → ℕ → Graph
add_edge [] a b m f = pair a b m f ∷ []
add_edge (p ∷ g) a b m f =
    pick (joins a b p) (with_copies (p.copies + m) p ∷ g) (p ∷ add_edge g a b m f)

-- A pair whose copies reach 0 by removal goes. (Where there is no such pair the Rust panics and this leaves the graph; no
-- step here removes a pair that isn't there.)
unfoldable pub remove_edge : Graph → ℕ → ℕ → ℕ → Graph
remove_edge [] a b m = []
remove_edge (p ∷ g) a b m =
    pick (joins a b p)
    (pick (eqb (p.copies - m) 0) g (with_copies (p.copies - m) p ∷ g))
    (p ∷ remove_edge g a b m)

-- A matching is a list of pairs too, of which only the ends are read.
unfoldable pub add_matching : Graph → List Pair → Graph
add_matching g [] = g
add_matching g (p ∷ m) = add_matching (add_edge g p.first p.second 1 0) m

unfoldable pub remove_matching : Graph → List Pair → Graph
remove_matching g [] = g
remove_matching g (p ∷ m) = remove_matching (remove_edge g p.first p.second 1) m
