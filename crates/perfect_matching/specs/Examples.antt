-- Worked examples, each by computing: the powers of two, a search's graph, a tie, and the list on which the Rust panics. Checked
-- by hand against the Rust's text. Assumes nothing.
use Rattle.std.specs.Prelude.{ℕ, ◌≡◌, refl, List, [], ◌∷◌, map}
use Rattle.words.specs.Basics.{ran}
use Rattle.multigraph.specs.Multigraph.{pair, Graph}
use Rattle.perfect_matching.specs.Matching.{flagged_pairs, halve, search_graph, rbmg_find_perfect_matching}
use Rattle.words.specs.PowersOfTwo.{log_up}
use Rattle.perfect_matching.specs.Computing.{computing}

-- 2^e is the least power of two not below m, for m from 0 to 9: a power of two is its own.
pub powers :
    map log_up (0 ∷ 1 ∷ 2 ∷ 3 ∷ 4 ∷ 5 ∷ 6 ∷ 7 ∷ 8 ∷ 9 ∷ []) ≡ 0 ∷ 0 ∷ 1 ∷ 2 ∷ 2 ∷ 3 ∷ 3 ∷ 3 ∷ 3 ∷ 4 ∷ []
unfolding computing
powers = refl

-- ── two parties a side: left 0 and 1, right 2 and 3 ──

abbrev pub lefts : List ℕ
lefts = 0 ∷ 1 ∷ []

abbrev pub rights : List ℕ
rights = 2 ∷ 3 ∷ []

-- Degree 3: t is 8, α is 2 and β is 2. The pairs of 0 with 2 and of 1 with 3 are new, so they are flagged.
pub new_flagged :
    search_graph lefts rights 3 (pair 0 3 3 0 ∷ pair 1 2 3 0 ∷ [])
    ≡ pair 0 3 6 0 ∷ pair 1 2 6 0 ∷ pair 0 2 2 1 ∷ pair 1 3 2 1 ∷ []
unfolding computing
new_flagged = refl

-- Its splits give (2, 2), (0, 2) and (0, 0) flagged pairs, so the first half goes on each time.
pub new_matching :
    rbmg_find_perfect_matching 4 lefts rights 3 (pair 0 3 3 0 ∷ pair 1 2 3 0 ∷ []) ≡ ran (pair 0 3 1 0 ∷ pair 1 2 1 0 ∷ [])
unfolding computing
new_matching = refl

-- An old pair keeps its flag: all four have 4 copies, none flagged.
pub old_unflagged :
    search_graph lefts rights 3 (pair 0 2 1 0 ∷ pair 0 3 2 0 ∷ pair 1 2 2 0 ∷ pair 1 3 1 0 ∷ [])
    ≡ pair 0 2 4 0 ∷ pair 0 3 4 0 ∷ pair 1 2 4 0 ∷ pair 1 3 4 0 ∷ []
unfolding computing
old_unflagged = refl

-- A tie goes to the first half. The last split has one copy of each pair; its cycle is 0-2 1-2 1-3 0-3, and the first half is
-- 0-2 and 1-3, the second 1-2 and 0-3.
pub tie :
    rbmg_find_perfect_matching 4 lefts rights 3 (pair 0 2 1 0 ∷ pair 0 3 2 0 ∷ pair 1 2 2 0 ∷ pair 1 3 1 0 ∷ [])
    ≡ ran (pair 0 2 1 0 ∷ pair 1 3 1 0 ∷ [])
unfolding computing
tie = refl

-- Where β is 0 (no odd degree from 3 on has that), a pair with zero copies is kept as the Rust keeps it.
pub zero_copies :
    search_graph lefts rights 1 (pair 0 3 1 0 ∷ pair 1 2 1 0 ∷ [])
    ≡ pair 0 3 2 0 ∷ pair 1 2 2 0 ∷ pair 0 2 0 1 ∷ pair 1 3 0 1 ∷ []
unfolding computing
zero_copies = refl

-- ── the list on which the Rust panics: P = 7, 6-5 six times, 6-3 twice, 4-3 twice, 5-4 five times ──

-- its graph, evened out to degree 11 on five parties a side; t is 64, α is 5 and β is 9
abbrev pub eleven : Graph
eleven =
    pair 6 5 6 0
    ∷ pair 6 3 2 0
    ∷ pair 4 3 2 0
    ∷ pair 5 4 5 0
    ∷ pair 4 0 4 0
    ∷ pair 6 0 3 0
    ∷ pair 7 0 4 0
    ∷ pair 7 1 7 0
    ∷ pair 8 1 4 0
    ∷ pair 8 2 7 0
    ∷ pair 9 2 4 0
    ∷ pair 9 3 7 0
    ∷ []

abbrev pub five_lefts : List ℕ
five_lefts = 4 ∷ 6 ∷ 7 ∷ 8 ∷ 9 ∷ []

abbrev pub five_rights : List ℕ
five_rights = 0 ∷ 1 ∷ 2 ∷ 3 ∷ 5 ∷ []

-- Counting pairs, the flagged pair 9-5 survives: there the Rust panics.
pub first_search :
    halve 10 flagged_pairs 6 (search_graph five_lefts five_rights 11 eleven)
    ≡ ran (pair 4 0 1 0 ∷ pair 9 5 1 1 ∷ pair 6 3 1 0 ∷ pair 7 1 1 0 ∷ pair 8 2 1 0 ∷ [])
unfolding computing
first_search = refl

-- Counting copies, none does, and that is the matching.
pub second_search :
    rbmg_find_perfect_matching 10 five_lefts five_rights 11 eleven
    ≡ ran (pair 4 0 1 0 ∷ pair 6 5 1 0 ∷ pair 9 3 1 0 ∷ pair 8 2 1 0 ∷ pair 7 1 1 0 ∷ [])
unfolding computing
second_search = refl
