-- Graphs as they lie in words. One table holds the ends of every pair, two words each, at the pair's number; a graph at g is its
-- own base, the count of its entries, and then for each entry a pair's number and its copies. Assumes nothing.
use Rattle.std.specs.Prelude.{ℕ, zero, suc, ◌+◌, ◌*◌, List, [], ◌∷◌, leb}
use Rattle.words.specs.Basics.{pick}
use Rattle.words.specs.Words.{word, put_word}
use Rattle.multigraph.specs.Multigraph.{Pair, pair, Graph}

-- the head of a graph: its base and the number of its entries
abbrev pub head_m : ℕ → List ℕ → ℕ → List ℕ
head_m g s n = put_word (put_word s g g) (g + 1) n

-- A pair by its number: its ends stand in the table; it is flagged if its number is not below `pairs`.
abbrev pub numbered : List ℕ → ℕ → ℕ → ℕ → ℕ → Pair
numbered s ends pairs e copies =
    pair (word s (ends + 2 * e)) (word s (ends + 2 * e + 1)) copies (pick (leb pairs e) 1 0)

-- the entry at place i of the graph at g
abbrev pub entry : List ℕ → ℕ → ℕ → ℕ → ℕ → Pair
entry s ends pairs g i = numbered s ends pairs (word s (g + 2 + 2 * i)) (word s (g + 3 + 2 * i))

-- k entries from place i on
unfoldable pub entries : List ℕ → ℕ → ℕ → ℕ → ℕ → ℕ → Graph
entries s ends pairs g i zero = []
entries s ends pairs g i (suc k) = entry s ends pairs g i ∷ entries s ends pairs g (i + 1) k

-- The graph at g, its pairs in number order: a pair's number within one graph is its place among the entries.
unfoldable pub graph_at : List ℕ → ℕ → ℕ → ℕ → Graph
graph_at s ends pairs g = entries s ends pairs g 0 (word s (g + 1))

-- a matching at m: k pair numbers side by side, each with one copy
unfoldable pub matching_at : List ℕ → ℕ → ℕ → ℕ → ℕ → Graph
matching_at s ends pairs m zero = []
matching_at s ends pairs m (suc k) = numbered s ends pairs (word s m) 1 ∷ matching_at s ends pairs (m + 1) k

-- d matchings of n pair numbers each, side by side at `out`
unfoldable pub matchings_at : List ℕ → ℕ → ℕ → ℕ → ℕ → ℕ → List Graph
matchings_at s ends pairs out n zero = []
matchings_at s ends pairs out n (suc d) = matching_at s ends pairs out n ∷ matchings_at s ends pairs (out + n) n d
