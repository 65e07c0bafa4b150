-- The planning call: its answer, and the slots and scratch afterwards, for acceptance and for every refusal. Assumes nothing.
use Rattle.std.specs.Prelude.{ℕ, List, [], replicate}
use Rattle.words.specs.Basics.{Run, ran, failed}
use Rattle.appointments.specs.Appointments.{Appt}
use Rattle.appointments.specs.Checks.{Check, passed, refused}
use Rattle.appointments.specs.Answers.{Answer, answer, once, after}
use Rattle.appointments.specs.Lent.{Lent, lent_appts, lent_d, lent_words, lent_checks}
use Rattle.bipartition.specs.TwoColor.{Sides, sides, not_bipartite, unfinished, two_color}
use Rattle.given_partition.specs.GivenPartition.{bipartite_edge_color_given_partition}

-- `bipartite_edge_color`: a plan, or `GraphNotBipartite`, or (which a law rules out) neither.
pub data Outcome : Type 0 where
  plan : List ℕ → Outcome
  graph_not_bipartite : Outcome
  no_outcome : Outcome

-- the slots that module 8 gives are the plan
abbrev pub outcome : Run (List ℕ) → Outcome
outcome (ran slots) = plan slots
outcome failed = no_outcome

-- with two sides the slots of module 8; with two neighbours on one side `GraphNotBipartite`
abbrev pub given_sides : ℕ → List Appt → Sides → Outcome
given_sides P xs (sides left right) = outcome (bipartite_edge_color_given_partition P xs left right)
given_sides P xs not_bipartite = graph_not_bipartite
given_sides P xs unfinished = no_outcome

-- The outcome of a list between P parties: `two_color` finds the sides, and module 8 the slots.
unfoldable pub bipartite_edge_color : ℕ → List Appt → Outcome
bipartite_edge_color P xs = given_sides P xs (two_color P xs)

-- 9: two neighbours on one side. A list without an outcome would get a number that no table has.
abbrev pub check_outcome : Outcome → Check
check_outcome (plan slots) = passed
check_outcome graph_not_bipartite = refused 9 0
check_outcome no_outcome = refused 1000 0

-- the slots of a plan
abbrev pub outcome_slots : Outcome → List ℕ
outcome_slots (plan slots) = slots
outcome_slots graph_not_bipartite = []
outcome_slots no_outcome = []

-- the outcome of what the call is lent
abbrev pub lent_outcome : Lent → Outcome
lent_outcome l = bipartite_edge_color l.parties (lent_appts l)

-- The answer of the planning call: checks 1 to 8, then 9; accepted, it tells D.
unfoldable pub plan_answer : Lent → Answer ℕ
plan_answer l = answer (lent_checks l (check_outcome (lent_outcome l))) (lent_d l)

-- The slots afterwards: accepted, the first A entries hold the plan and later ones stay.
unfoldable pub plan_slots : Lent → List ℕ
unfolding plan_answer
plan_slots l = after (plan_answer l) (outcome_slots (lent_outcome l)) l.slots

-- Scratch afterwards: once checks 1 to 8 have passed, so after 9 too, the first W words are 0 and the others stay.
unfoldable pub plan_scratch : Lent → List ℕ
plan_scratch l = once (lent_checks l passed) (replicate (lent_words l) 0) l.scratch
