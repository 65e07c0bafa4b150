-- What the inner steps of the routines over words state. Assumes nothing.
use Rattle.std.specs.Prelude.{ℕ, zero, suc, ◌+◌, ◌*◌, ◌-◌, ◌<◌, ◌≤◌, ◌≡◌, List, [], ◌∷◌, ◌++◌, ◌⊎◌, ltb, length}
use Rattle.words.specs.Basics.{pick}
use Rattle.words.specs.Words.{word, put_word, word_limit}
use Rattle.multigraph.specs.Multigraph.{Pair, Graph, with_copies}
use Rattle.multigraph.specs.Stored.{entry}
use Rattle.multigraph.specs.Places.{size, number, copies_of, Laid, Stored}

-- ── writing into the map ──

-- For the keys before place n, one after the other, value i was written at key i: so a number's word is the value at some place
-- where it stands, or as before if it stands nowhere.
pub record Written (key value : ℕ → ℕ) (n rows places : ℕ) (s t : List ℕ) : Type 0 where
  pub len : length t ≡ length s
  pub under : (i : ℕ) → i < places → word t i ≡ word s i
  pub over : (i : ℕ) → places + rows ≤ i → word t i ≡ word s i
  pub at :
      (e : ℕ) → e < rows →
      ((i : ℕ) × (i < n) × (key i ≡ e) × (word t (places + e) ≡ value i))
      ⊎ (((i : ℕ) → i < n → key i ≡ e → ⊥) × (word t (places + e) ≡ word s (places + e)))

-- the keys stand outside the map, each has a row in it, and the values fit a word
pub record Writable (at value : ℕ → ℕ) (n rows places : ℕ) (s : List ℕ) : Type 0 where
  pub outside : (i e : ℕ) → i < n → e < rows → at i ≡ places + e → ⊥
  pub below : (i : ℕ) → i < n → word s (at i) < rows
  pub inside : places + rows ≤ length s
  pub fits : (i : ℕ) → i < n → value i < word_limit

abbrev pub Writes : (ℕ → ℕ) → (ℕ → ℕ) → ℕ → ℕ → List ℕ → List ℕ → Type 0
Writes at value n places s t =
    (rows : ℕ) → Writable at value n rows places s → Written (λ i. word s (at i)) value n rows places s t

-- ── a graph without a matching ──

-- k pairs given place by place, from place i on
unfoldable pub span : (ℕ → Pair) → ℕ → ℕ → Graph
span f i zero = []
span f i (suc k) = f i ∷ span f (i + 1) k

-- what is left of a pair that loses so many copies: none if no copy is
unfoldable pub left_of : Pair → ℕ → Graph
left_of p less = pick (ltb 0 (p.copies - less)) (with_copies (p.copies - less) p ∷ []) []

-- k pairs given place by place, each with what is left of it
unfoldable pub without : (ℕ → Pair) → (ℕ → ℕ) → ℕ → ℕ → Graph
without f less i zero = []
without f less i (suc k) = left_of (f i) (less i) ++ without f less (i + 1) k

-- how many copies a pair loses by the map: 1 where it is absent
abbrev pub less_of : ℕ → ℕ
less_of place = pick (ltb 0 place) 0 1

-- what entry i of the graph at g loses, and what is left of it
abbrev pub loses : ℕ → ℕ → List ℕ → ℕ → ℕ
loses places g s i = less_of (word s (places + number s g i))

abbrev pub rest_left : ℕ → ℕ → ℕ → List ℕ → ℕ
rest_left places g i s = copies_of s g i - loses places g s i

-- one entry copied to place at, and the next place
abbrev pub rest_words : ℕ → ℕ → ℕ → ℕ → ℕ → List ℕ → List ℕ
rest_words places g to at i s =
    put_word (put_word s (to + 2 + 2 * at) (number s g i)) (to + 3 + 2 * at) (rest_left places g i s)

abbrev pub rest_next : ℕ → ℕ → ℕ → ℕ → List ℕ → ℕ
rest_next places g at i s = pick (ltb 0 (rest_left places g i s)) (at + 1) at

-- the graph lies below `to`, and as many entries go there
pub record Copyable (ends pairs most places g to : ℕ) (s : List ℕ) : Type 0 where
  pub laid : Laid ends places pairs g
  pub stored : Stored pairs most 0 s g
  pub graph_below : g + 2 + 2 * size s g ≤ to
  pub inside : to + 2 + 2 * size s g ≤ length s

-- i entries are copied to `at` places, each with what is left of it
pub record Copied (ends pairs most places g to i at : ℕ) (s t : List ℕ) : Type 0 where
  pub at_le : at ≤ i
  pub rest : span (entry t ends pairs to) 0 at ≡ without (entry s ends pairs g) (loses places g s) 0 i
  pub numbers : (j : ℕ) → j < at → number t to j < pairs
  pub copies : (j : ℕ) → j < at → copies_of t to j ≤ most
  pub len : length t ≡ length s
  pub under : (j : ℕ) → j < to + 2 → word t j ≡ word s j
  pub over : (j : ℕ) → to + 2 + 2 * size s g ≤ j → word t j ≡ word s j

abbrev pub CopiesRest : ℕ → ℕ → ℕ → ℕ → ℕ → List ℕ → List ℕ → Type 0
CopiesRest places g to i at s t =
    (ends pairs most : ℕ) → Copyable ends pairs most places g to s → Copied ends pairs most places g to i at s t
