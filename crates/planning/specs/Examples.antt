-- Worked examples of the planning call, each by computing: lists on which the Rust gives the same slots, the list on which
-- the Rust panics and the second search answers, check 8 before refusal 9, and what stays in buffers longer than needed.
-- Assumes nothing.
use Rattle.std.specs.Prelude.{◌≡◌, refl, [], ◌∷◌, ◌++◌, replicate}
use Rattle.appointments.specs.Answers.{refused}
use Rattle.appointments.specs.Lent.{lent}
use Rattle.planning.specs.Planning.{plan_answer, plan_slots, plan_scratch}
use Rattle.planning.specs.FifteenLists.{Row, row, call}
use Rattle.planning.specs.Computing.{computing}

-- ── lists and their slots ──

abbrev pub tree : Row
tree = row 7 (1 ∷ 2 ∷ 1 ∷ 4 ∷ 2 ∷ 5 ∷ 5 ∷ 3 ∷ 0 ∷ 2 ∷ []) 0 0 3 (1 ∷ 0 ∷ 2 ∷ 1 ∷ 0 ∷ [])

pub tree_holds : call tree ≡ tree
unfolding computing
tree_holds = refl

abbrev pub star : Row
star = row 6 (0 ∷ 2 ∷ 5 ∷ 0 ∷ 5 ∷ 4 ∷ 1 ∷ 0 ∷ []) 0 0 3 (0 ∷ 1 ∷ 0 ∷ 2 ∷ [])

pub star_holds : call star ≡ star
unfolding computing
star_holds = refl

-- a repeated appointment is served its highest slot first
abbrev pub again : Row
again = row 3 (2 ∷ 1 ∷ 2 ∷ 1 ∷ 0 ∷ 1 ∷ []) 0 0 3 (2 ∷ 1 ∷ 0 ∷ [])

pub again_holds : call again ≡ again
unfolding computing
again_holds = refl

-- P 3, 0-2 1-0 0-1: the pair 1-0 keeps its first orientation when 0-1 is added (taken over: 1 2 0).
abbrev pub orientation_kept : Row
orientation_kept = row 3 (0 ∷ 2 ∷ 1 ∷ 0 ∷ 0 ∷ 1 ∷ []) 0 0 3 (0 ∷ 2 ∷ 1 ∷ [])

pub orientation_kept_holds : call orientation_kept ≡ orientation_kept
unfolding computing
orientation_kept_holds = refl

-- P 3, 0-1 0-2 0-1 0-1: the first half's matchings come first (the second's: 3 0 2 1).
abbrev pub first_half_first : Row
first_half_first = row 3 (0 ∷ 1 ∷ 0 ∷ 2 ∷ 0 ∷ 1 ∷ 0 ∷ 1 ∷ []) 0 0 4 (3 ∷ 1 ∷ 2 ∷ 0 ∷ [])

pub first_half_first_holds : call first_half_first ≡ first_half_first
unfolding computing
first_half_first_holds = refl

-- P 3, 0-1 0-1 0-1 2-0 2-0 0-1: the earliest matchings are moved (the latest: 5 4 3 2 0 1).
abbrev pub earliest_moved : Row
earliest_moved = row 3 (0 ∷ 1 ∷ 0 ∷ 1 ∷ 0 ∷ 1 ∷ 2 ∷ 0 ∷ 2 ∷ 0 ∷ 0 ∷ 1 ∷ []) 0 0 6 (4 ∷ 3 ∷ 2 ∷ 5 ∷ 0 ∷ 1 ∷ [])

pub earliest_moved_holds : call earliest_moved ≡ earliest_moved
unfolding computing
earliest_moved_holds = refl

-- P 5: the first search counts flagged pairs (copies: 7 8 6 4 5 3 2 1 0 3).
abbrev pub pairs_counted_first : Row
pairs_counted_first = row 5 (2 ∷ 3 ∷ 4 ∷ 3 ∷ 3 ∷ 4 ∷ 2 ∷ 3 ∷ 3 ∷ 4 ∷ 3 ∷ 2 ∷ 3 ∷ 4 ∷ 2 ∷ 3 ∷ 4 ∷ 3 ∷ 4 ∷ 1 ∷ []) 0 0 9 (8 ∷ 7 ∷ 5 ∷ 6 ∷ 4 ∷ 3 ∷ 2 ∷ 1 ∷ 0 ∷ 3 ∷ [])

pub pairs_counted_first_holds : call pairs_counted_first ≡ pairs_counted_first
unfolding computing
pairs_counted_first_holds = refl

-- P 5, 3-4 2-3 0-1 1-2: the lowest free slot per appointment would give 0 1 0 2, one slot more than D.
abbrev pub no_longer : Row
no_longer = row 5 (3 ∷ 4 ∷ 2 ∷ 3 ∷ 0 ∷ 1 ∷ 1 ∷ 2 ∷ []) 0 0 2 (1 ∷ 0 ∷ 0 ∷ 1 ∷ [])

pub no_longer_holds : call no_longer ≡ no_longer
unfolding computing
no_longer_holds = refl

-- 6-5 six times, 6-3 twice, 4-3 twice, 5-4 five times: the search that counts flagged pairs ends with one of them, where the
-- Rust panics; the one that counts copies goes on.
abbrev pub second_search : Row
second_search =
    row 7
    (6 ∷ 5 ∷ 6 ∷ 5 ∷ 6 ∷ 5 ∷ 6 ∷ 5 ∷ 6 ∷ 5 ∷ 6 ∷ 5 ∷ 6 ∷ 3 ∷ 6 ∷ 3 ∷ 4 ∷ 3 ∷ 4 ∷ 3 ∷ 5 ∷ 4 ∷ 5 ∷ 4 ∷ 5 ∷ 4 ∷ 5 ∷ 4 ∷ 5 ∷ 4 ∷ [])
    0 0 11 (10 ∷ 9 ∷ 6 ∷ 5 ∷ 3 ∷ 1 ∷ 8 ∷ 4 ∷ 6 ∷ 3 ∷ 8 ∷ 7 ∷ 4 ∷ 2 ∷ 0 ∷ [])

pub second_search_holds : call second_search ≡ second_search
unfolding computing
second_search_holds = refl

-- ── buffers ──

-- P 1, 0-0: W is 384. With 383 words check 8 refuses and leaves scratch, with 384 it's 9 and they are cleared.
pub scratch_383 : plan_answer (lent 1 (0 ∷ 0 ∷ []) (7 ∷ []) (replicate 383 7)) ≡ refused 8 0
unfolding computing
scratch_383 = refl

pub scratch_383_left : plan_scratch (lent 1 (0 ∷ 0 ∷ []) (7 ∷ []) (replicate 383 7)) ≡ replicate 383 7
unfolding computing
scratch_383_left = refl

pub scratch_384 : plan_answer (lent 1 (0 ∷ 0 ∷ []) (7 ∷ []) (replicate 384 7)) ≡ refused 9 0
unfolding computing
scratch_384 = refl

pub scratch_384_cleared : plan_scratch (lent 1 (0 ∷ 0 ∷ []) (7 ∷ []) (replicate 386 7)) ≡ replicate 384 0 ++ (7 ∷ 7 ∷ [])
unfolding computing
scratch_384_cleared = refl

-- P 2, 0-1: W is 512. Slot entries past the first stay, words past the 512th too.
pub slots_past : plan_slots (lent 2 (0 ∷ 1 ∷ []) (7 ∷ 7 ∷ 7 ∷ []) (replicate 513 7)) ≡ 0 ∷ 7 ∷ 7 ∷ []
unfolding computing
slots_past = refl

pub scratch_past : plan_scratch (lent 2 (0 ∷ 1 ∷ []) (7 ∷ 7 ∷ 7 ∷ []) (replicate 513 7)) ≡ replicate 512 0 ++ (7 ∷ [])
unfolding computing
scratch_past = refl
