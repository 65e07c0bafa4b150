-- A small plan over words, worked out by hand, in which a wrong turn shows. Assumes nothing.
use Rattle.std.specs.Prelude.{◌≡◌, refl, ℕ, List, [], ◌∷◌}
use Rattle.multigraph.specs.Multigraph.{pair}
use Rattle.multigraph.specs.Stored.{matchings_at}
use Rattle.multigraph.specs.Computing as Multigraph
use Rattle.slot_chains.specs.Steps.{pushed, matching_pushed, all_pushed, taken_words, taken_slots, given_words, given_slots}

-- The appointments 0-1 2-3 1-0 over words: at 0 the ends of the pairs 0-1, 4-3, 3-2 and 4-1, at 8 the numbers of the appointments' pairs,
-- at 11 three matchings of two numbers each, at 17 a word for each pair, in which anything may stand.
abbrev words : List ℕ
words =
    0 ∷ 1 ∷ 4 ∷ 3 ∷ 3 ∷ 2 ∷ 4 ∷ 1 ∷ 0 ∷ 2 ∷ 0 ∷ 0 ∷ 1 ∷ 2 ∷ 3 ∷ 0 ∷ 1 ∷ 9 ∷ 9 ∷ 9 ∷ 9 ∷ []

in_words :
    matchings_at words 0 4 11 2 3
    ≡ (pair 0 1 1 0 ∷ pair 4 3 1 0 ∷ []) ∷ (pair 3 2 1 0 ∷ pair 4 1 1 0 ∷ []) ∷ (pair 0 1 1 0 ∷ pair 4 3 1 0 ∷ []) ∷ []
unfolding Multigraph.computing
in_words = refl

over_words : given_slots 11 8 17 0 3 (all_pushed 2 11 17 3 words) (7 ∷ 7 ∷ 7 ∷ 7 ∷ []) ≡ 2 ∷ 1 ∷ 0 ∷ 7 ∷ []
unfolding pushed matching_pushed all_pushed taken_words taken_slots given_words given_slots
over_words = refl
