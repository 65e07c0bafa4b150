-- Words in a list that stands for a lent slice: read as 0 past the end, written only inside, numbers cut to the word's width.
-- Assumes nothing.
use Rattle.std.specs.Prelude.{ℕ, zero, suc, ◌+◌, ◌%◌, List, [], ◌∷◌, ◌++◌, get_or, take, drop, set}

-- A word is a number below this.
abbrev pub word_limit : ℕ
word_limit = 4294967296

-- the word at i, and 0 past the end
abbrev pub word : List ℕ → ℕ → ℕ
word s i = get_or s i 0

-- x, cut to 32 bits, put at i; past the end nothing happens
abbrev pub put_word : List ℕ → ℕ → ℕ → List ℕ
put_word s i x = set s i (x % word_limit)

-- x, cut to 16 bits, put at i; past the end nothing happens
abbrev pub put_word16 : List ℕ → ℕ → ℕ → List ℕ
put_word16 s i x = set s i (x % 65536)

-- the first n entries are those of a new list, the others stay
abbrev pub filled : List ℕ → ℕ → List ℕ → List ℕ
filled new n buffer = take n new ++ drop n buffer

-- the n words from a on, in order
unfoldable pub region : List ℕ → ℕ → ℕ → List ℕ
region s a zero = []
region s a (suc n) = region s a n ++ (word s (a + n) ∷ [])
