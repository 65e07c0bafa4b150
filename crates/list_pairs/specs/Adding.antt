-- A graph in which a pair's number is its place, and what adding copies to it asks and gives (`src/adding.rt`). Assumes nothing.
use Rattle.std.specs.Prelude.{ℕ, ◌+◌, ◌*◌, ◌<◌, ◌≤◌, ◌≡◌, List, ◌⊎◌, length}
use Rattle.words.specs.Frames.{Changes}
use Rattle.words.specs.Words.{word, put_word, word_limit}
use Rattle.multigraph.specs.Multigraph.{Pair, pair, Graph, add_edge}
use Rattle.multigraph.specs.Places.{size, copies_of, HasEnds}
use Rattle.multigraph.specs.Steps.{span}
use Rattle.list_pairs.specs.Contract.{Plain}

-- the pair at place e, which is its number
abbrev pub plain_pair : List ℕ → ℕ → ℕ → ℕ → Pair
plain_pair s ends g e = pair (word s (ends + 2 * e)) (word s (ends + 2 * e + 1)) (copies_of s g e) 0

-- the whole graph
abbrev pub plain_graph : List ℕ → ℕ → ℕ → Graph
plain_graph s ends g = span (plain_pair s ends g) 0 (size s g)

-- the words after a new pair
abbrev pub pushed : ℕ → ℕ → ℕ → ℕ → ℕ → ℕ → List ℕ → List ℕ
pushed ends g m l r copies s =
    put_word
    (put_word (put_word (put_word (put_word s (ends + 2 * m) l) (ends + 2 * m + 1) r) (g + 2 + 2 * m) m) (g + 3 + 2 * m) copies)
    (g + 1) (m + 1)

-- the next pair has a row in the table of ends and an entry in the graph
pub record HasPlace (ends g : ℕ) (s : List ℕ) : Type 0 where
  pub row : ends + 2 * size s g + 1 < length s
  pub entry : g + 3 + 2 * size s g < length s

-- e is the number of the pair with the ends l and r, or, if there is none, the next number
abbrev pub ItsNumber : ℕ → ℕ → ℕ → ℕ → ℕ → List ℕ → Type 0
ItsNumber ends g e l r s =
    ((e < size s g) × HasEnds s ends e l r)
    ⊎ ((e ≡ size s g) × ((f : ℕ) → f < size s g → HasEnds s ends f l r → ⊥))

-- There is room for one entry more, and e is the number for the ends l and r.
pub record PairFits (ends g e l r copies : ℕ) (s : List ℕ) : Type 0 where
  pub plain : Plain ends g s
  pub its : ItsNumber ends g e l r s
  pub after_ends : ends + 2 * (size s g + 1) ≤ g
  pub inside : g + 2 + 2 * (size s g + 1) ≤ length s
  pub small : g + 2 + 2 * (size s g + 1) ≤ word_limit
  pub left_small : l < word_limit
  pub right_small : r < word_limit
  pub light : (f : ℕ) → f < size s g → copies_of s g f + copies < word_limit
  pub few : copies < word_limit

-- Copies have been added to the pair with the ends l and r, which has number e.
pub record PairAdded (ends g e l r copies : ℕ) (s t : List ℕ) : Type 0 where
  pub graph : plain_graph t ends g ≡ add_edge (plain_graph s ends g) l r copies 0
  pub plain : Plain ends g t
  pub grown : size s g ≤ size t g
  pub by_one : size t g ≤ size s g + 1
  pub same_size : e < size s g → size t g ≡ size s g
  pub new_size : size s g ≤ e → size t g ≡ size s g + 1
  pub its_number : e < size t g
  pub its_ends : HasEnds t ends e l r
  pub changes : Changes (ends + 2 * size s g) 2 g (2 + 2 * (size s g + 1)) s t

-- what `add_pair` gives where the pair fits
abbrev pub AddsPair : ℕ → ℕ → ℕ → ℕ → ℕ → ℕ → List ℕ → List ℕ → Type 0
AddsPair ends g e l r copies s t = PairFits ends g e l r copies s → PairAdded ends g e l r copies s t
