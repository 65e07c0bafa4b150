-- What the inner steps do, on the list of words: each pair's slots become a chain of links, highest slot first. A link is one
-- word: the slot times 16,384, and the place among the matchings' words where the next link stands. There are at most 16,384
-- places (`few` in the Stored.antt of `slots`). Assumes nothing.
use Rattle.std.specs.Prelude.{ℕ, zero, suc, ◌+◌, ◌*◌, ◌/◌, ◌%◌, List}
use Rattle.words.specs.Words.{word, put_word, put_word16}

-- The pair at place t has this slot: its number makes room for its link so far, and its link is now this place.
unfoldable pub pushed : ℕ → ℕ → ℕ → ℕ → List ℕ → List ℕ
pushed out links slot t s =
    put_word (put_word s (out + t) (word s (links + word s (out + t)))) (links + word s (out + t)) (slot * 16384 + t)

-- this slot for the first j pairs of its matching
unfoldable pub matching_pushed : ℕ → ℕ → ℕ → ℕ → ℕ → List ℕ → List ℕ
matching_pushed n out links slot zero s = s
matching_pushed n out links slot (suc j) s = pushed out links slot (n * slot + j) (matching_pushed n out links slot j s)

-- every slot below a number for the pairs of its matching
unfoldable pub all_pushed : ℕ → ℕ → ℕ → ℕ → List ℕ → List ℕ
all_pushed n out links zero s = s
all_pushed n out links (suc slot) s = matching_pushed n out links slot n (all_pushed n out links slot s)

-- the first link of the pair whose number stands at `at`
abbrev pub link : ℕ → ℕ → List ℕ → ℕ
link links at s = word s (links + word s at)

-- the words after that link is taken, and the slots: the link's slot at i
unfoldable pub taken_words : ℕ → ℕ → ℕ → List ℕ → List ℕ
taken_words out links at s = put_word s (links + word s at) (word s (out + link links at s % 16384))

unfoldable pub taken_slots : ℕ → ℕ → ℕ → List ℕ → List ℕ → List ℕ
taken_slots links at i s slots = put_word16 slots i (link links at s / 16384)

-- k appointments from i on
unfoldable pub given_words : ℕ → ℕ → ℕ → ℕ → ℕ → List ℕ → List ℕ
given_words out pair_numbers links i zero s = s
given_words out pair_numbers links i (suc k) s =
    given_words out pair_numbers links (i + 1) k (taken_words out links (pair_numbers + i) s)

unfoldable pub given_slots : ℕ → ℕ → ℕ → ℕ → ℕ → List ℕ → List ℕ → List ℕ
given_slots out pair_numbers links i zero s slots = slots
given_slots out pair_numbers links i (suc k) s slots =
    given_slots out pair_numbers links (i + 1) k (taken_words out links (pair_numbers + i) s)
    (taken_slots links (pair_numbers + i) i s slots)
