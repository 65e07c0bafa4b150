-- Worked examples, each by computing: loads, D, W, the number of slots, meets, the checks and how much scratch a list
-- needs at their limits, and what is remembered for checks 4 and 5. Assumes nothing.
use Rattle.std.specs.Prelude.{ℕ, zero, suc, true, ◌≡◌, refl, List, [], ◌∷◌}
use Rattle.appointments.specs.Appointments.{appts, load, largest_load, scratch_words}
use Rattle.appointments.specs.Plans.{different, meets}
use Rattle.appointments.specs.Checks.{First, at, nowhere, first_from, has_blank, has_unlisted, passed, refused, bar, checks_with_slots, checks_1_to_8, checks}
use Rattle.appointments.specs.Answers.{Answer, accepted, number_of, place_of}
use Rattle.appointments.specs.Answers as answers
use Rattle.appointments.specs.declared.Needs.{Needs}
use Rattle.appointments.specs.Needed.{needing, needs_answer, d_of, words_of, scratch_enough}
use Rattle.appointments.specs.Computing.{computing}

-- the appointment 0-1, n times
unfoldable pub again : ℕ → List ℕ
again zero = []
again (suc n) = 0 ∷ 1 ∷ again n

-- ── loads, D and W ──

-- A party with itself is named twice.
pub self_load : load 0 (appts (0 ∷ 0 ∷ [])) ≡ 2
unfolding computing
self_load = refl

-- so D is 2 and W is 128 × 1 × 3
pub self_words : scratch_words 1 (largest_load 1 (appts (0 ∷ 0 ∷ []))) ≡ 384
unfolding computing
self_words = refl

-- 0-1 1-2: D is 2, the load of party 1
pub two_appts : largest_load 3 (appts (0 ∷ 1 ∷ 1 ∷ 2 ∷ [])) ≡ 2
unfolding computing
two_appts = refl

-- ── plans ──

-- equal slots count once, and slots need not be below D
pub three_slots : different (7 ∷ 0 ∷ 7 ∷ 65536 ∷ []) ≡ 3
unfolding computing
three_slots = refl

-- 0-1 1-2 in one slot: party 1 meets it twice, a clash
pub a_clash : meets 1 0 (appts (0 ∷ 1 ∷ 1 ∷ 2 ∷ [])) (0 ∷ 0 ∷ []) ≡ 2
unfolding computing
a_clash = refl

-- a party with itself makes a clash alone
pub self_clash : meets 0 0 (appts (0 ∷ 0 ∷ [])) (0 ∷ []) ≡ 2
unfolding computing
self_clash = refl

-- ── checks ──

-- check 1: P 1,024 passes, 1,025 doesn't
pub parties_1024 : checks 1024 [] 0 131072 ≡ passed
unfolding computing
parties_1024 = refl

pub parties_1025 : checks 1025 [] 0 131200 ≡ refused 1 0
unfolding computing
parties_1025 = refl

-- check 2 comes before the others look at the list
pub odd_list : checks 1 (65535 ∷ []) 0 0 ≡ refused 2 0
unfolding computing
odd_list = refl

-- check 3: A 4,096 passes, 4,097 doesn't
pub appts_4096 : checks 2 (again 4096) 4096 1048832 ≡ passed
unfolding computing again
appts_4096 = refl

pub appts_4097 : checks 2 (again 4097) 4097 9999999 ≡ refused 3 0
unfolding computing again
appts_4097 = refl

-- check 4 covers the whole list before 5 begins: an end of 2 at an earlier place, or at the same, doesn't matter
pub blank_before_unlisted : checks 2 (0 ∷ 2 ∷ 1 ∷ 65535 ∷ []) 9 99999 ≡ refused 4 1
unfolding computing
blank_before_unlisted = refl

pub blank_beside_unlisted : checks 2 (0 ∷ 1 ∷ 2 ∷ 65535 ∷ []) 9 99999 ≡ refused 4 1
unfolding computing
blank_beside_unlisted = refl

-- check 5: the first place with an end not below P, here its second end
pub first_unlisted : checks 2 (0 ∷ 1 ∷ 0 ∷ 2 ∷ 9 ∷ 0 ∷ []) 9 99999 ≡ refused 5 1
unfolding computing
first_unlisted = refl

-- check 6: P 3 passes with D 2,730, and 2,731 gives 6
pub product_8190 : checks 3 (again 2730) 2730 1048704 ≡ passed
unfolding computing again
product_8190 = refl

pub product_8193 : checks 3 (again 2731) 2731 9999999 ≡ refused 6 0
unfolding computing again
product_8193 = refl

-- check 7: one slot entry for each appointment
pub slots_short : checks 2 (0 ∷ 1 ∷ 0 ∷ 1 ∷ []) 1 99999 ≡ refused 7 0
unfolding computing
slots_short = refl

-- check 8: W words of scratch pass, one fewer doesn't
pub scratch_384 : checks 1 (0 ∷ 0 ∷ []) 1 384 ≡ passed
unfolding computing
scratch_384 = refl

pub scratch_383 : checks 1 (0 ∷ 0 ∷ []) 1 383 ≡ refused 8 0
unfolding computing
scratch_383 = refl

-- a later check is asked once these have passed, and a refusal of theirs stays
pub goes_on_with_18 : checks_1_to_8 1 (0 ∷ 0 ∷ []) 1 384 (bar true 18 passed) ≡ refused 18 0
unfolding computing
goes_on_with_18 = refl

pub stays_8 : checks_1_to_8 1 (0 ∷ 0 ∷ []) 1 383 (bar true 18 passed) ≡ refused 8 0
unfolding computing
stays_8 = refl

-- ── what is remembered for 4 and for 5 ──

-- the first position with a blank end, and the first with an unlisted one
abbrev first_two : ℕ → List ℕ → First × First
first_two P list = (first_from 0 has_blank (appts list), first_from 0 (has_unlisted P) (appts list))

-- 0-blank 0-7: a blank end is none for 5, so that 5 has position 1
pub blank_no_unlisted : first_two 2 (0 ∷ 65535 ∷ 0 ∷ 7 ∷ []) ≡ (at 0, at 1)
unfolding computing
blank_no_unlisted = refl

-- 0-7 0-blank: both are remembered (and 4 decides, as in `blank_before_unlisted`)
pub unlisted_then_blank : first_two 2 (0 ∷ 7 ∷ 0 ∷ 65535 ∷ []) ≡ (at 1, at 0)
unfolding computing
unlisted_then_blank = refl

-- 0-1 7-blank blank-0 1-2: both ends of an appointment count, each for its own number, and the first of each stays
pub beside_each_other : first_two 2 (0 ∷ 1 ∷ 7 ∷ 65535 ∷ 65535 ∷ 0 ∷ 1 ∷ 2 ∷ []) ≡ (at 1, at 1)
unfolding computing
beside_each_other = refl

-- two blanks and nothing else; 65,534, which is none
pub blanks_alone : first_two 0 (65535 ∷ 65535 ∷ []) ≡ (at 0, nowhere)
unfolding computing
blanks_alone = refl

pub highest_end : first_two 1024 (0 ∷ 1023 ∷ 65534 ∷ 0 ∷ []) ≡ (nowhere, at 1)
unfolding computing
highest_end = refl

-- with P 65,535, which check 1 refuses, no end is unlisted and a blank one is still blank
pub all_parties : first_two 65535 (65534 ∷ 65535 ∷ []) ≡ (at 0, nowhere)
unfolding computing
all_parties = refl

-- no end of either kind, and no appointment at all
pub none_of_both : first_two 2 (0 ∷ 1 ∷ 1 ∷ 0 ∷ []) ≡ (nowhere, nowhere)
unfolding computing
none_of_both = refl

pub none_at_all : first_two 0 [] ≡ (nowhere, nowhere)
unfolding computing
none_at_all = refl

-- ── how much scratch a list needs ──

-- P 2 with D 4,096: W is 128 × 2 × 4,097
pub needs_4096 : needs_answer 2 (again 4096) ≡ accepted (needing 4096 1048832)
unfolding computing again
needs_4096 = refl

-- P 3 with D 2,730, and 2,731 gives 6
pub needs_2730 : needs_answer 3 (again 2730) ≡ accepted (needing 2730 1048704)
unfolding computing again
needs_2730 = refl

pub needs_2731 : needs_answer 3 (again 2731) ≡ answers.refused 6 0
unfolding computing again
needs_2731 = refl

-- P 1,024 with D 8 needs all of the scratch that is enough for every list, and 9 gives 6
pub needs_8 : needs_answer 1024 (again 8) ≡ accepted (needing 8 scratch_enough)
unfolding computing again
needs_8 = refl

pub needs_9 : needs_answer 1024 (again 9) ≡ answers.refused 6 0
unfolding computing again
needs_9 = refl

-- without parties no words are needed; without appointments 128 for each party
pub needs_nothing : needs_answer 0 [] ≡ accepted (needing 0 0)
unfolding computing
needs_nothing = refl

pub needs_empty : needs_answer 3 [] ≡ accepted (needing 0 384)
unfolding computing
needs_empty = refl

-- number, place, D and W of an answer
abbrev four : Answer Needs → List ℕ
four a = number_of a ∷ place_of a ∷ d_of a ∷ words_of a ∷ []

pub needs_figures : four (needs_answer 2 (0 ∷ 1 ∷ [])) ≡ (0 ∷ 0 ∷ 1 ∷ 512 ∷ [])
unfolding computing
needs_figures = refl

pub needs_no_figures : four (needs_answer 2 (0 ∷ 1 ∷ 0 ∷ 65535 ∷ [])) ≡ (4 ∷ 1 ∷ 0 ∷ 0 ∷ [])
unfolding computing
needs_no_figures = refl

-- a blank end, an end not below P, and the checks before them
pub needs_blank : needs_answer 2 (0 ∷ 1 ∷ 2 ∷ 65535 ∷ []) ≡ answers.refused 4 1
unfolding computing
needs_blank = refl

pub needs_unlisted : needs_answer 2 (0 ∷ 1 ∷ 0 ∷ 2 ∷ []) ≡ answers.refused 5 1
unfolding computing
needs_unlisted = refl

pub needs_1025 : needs_answer 1025 (0 ∷ []) ≡ answers.refused 1 0
unfolding computing
needs_1025 = refl

pub needs_odd : needs_answer 0 (0 ∷ []) ≡ answers.refused 2 0
unfolding computing
needs_odd = refl

pub needs_4097 : needs_answer 0 (again 4097) ≡ answers.refused 3 0
unfolding computing again
needs_4097 = refl

-- 7 comes after the list's own checks
with_slots :
    (checks_with_slots 2 (0 ∷ 1 ∷ 1 ∷ 2 ∷ []) 0 passed ≡ refused 5 1)
    × (checks_with_slots 2 (0 ∷ 1 ∷ []) 0 passed ≡ refused 7 0)
    × (checks_with_slots 2 (0 ∷ 1 ∷ []) 1 passed ≡ passed)
    × (checks_with_slots 2 (0 ∷ 1 ∷ []) 1 (refused 14 0) ≡ refused 14 0)
unfolding computing
with_slots = (refl, refl, refl, refl)
