-- What the planning call comes to, by its steps: a list without parties, one that is not bipartite, and one that gets its plan;
-- and from the answer to a list that passed the answer of the call. Assumes nothing.
use Prim.Native.Nat.{ℕ, ◌+◌, ◌*◌, ◌<◌, ◌≤◌}
use mathlib.Core.Path.{◌≡◌, refl, sym, ◌∙◌, ap}
use mathlib.Core.List.{List, [], ◌∷◌, ◌++◌}
use native.Mathlib.Omega.{arith}
use native.Mathlib.Nat.{zero-add}
use lib.ListN.{length, take, drop, replicate, length-take, length-replicate}
use Rattle.std.specs.Prelude.{Some, None}
use Rattle.words.specs.Basics.{All}
use Rattle.appointments.specs.Appointments.{Appt, appts, scratch_words}
use Rattle.appointments.specs.Checks.{Check, passed}
use Rattle.checking.specs.Checked.{answered, WordsFit}
use Rattle.appointments.specs.Answers.{Answer, accepted, refused}
use Rattle.appointments.specs.Lent.{Lent, lent_appts, lent_d, lent_words, lent_checks}
use Rattle.appointments.proofs.Loads.{Listed, largest_load_empty}
use Rattle.appointments.proofs.ChecksLaws.{Passes, passes_passed, good_goes_on}
use Rattle.appointments.proofs.LentLaws.{lent_passes, lent_goes_on}
use Rattle.appointments.proofs.AnswerLaws.{accepted_passed}
use Rattle.checking.proofs.Answering.{answered_number, d_small}
use Rattle.bipartition.specs.TwoColor.{sides, not_bipartite, two_color}
use Rattle.two_color.specs.Contract.{Colored}
use Rattle.bipartition.proofs.TwoColorLaws.{sides_proper}
use Rattle.given_partition.specs.GivenPartition.{bipartite_edge_color_given_partition}
use Rattle.given_partition.specs.Steps.{Ready, left_side, right_side, Sided, SlotsPlanned}
use Rattle.given_partition.proofs.Sizes.{sizes}
use Rattle.planning.specs.Planning.{plan, graph_not_bipartite, outcome, given_sides, bipartite_edge_color, check_outcome, lent_outcome, plan_answer, plan_slots, plan_scratch}
use Rattle.planning.specs.Demand3.{Demand3}
use Rattle.planning.specs.Steps.{WorkedOut}
use Rattle.planning.specs.Computing.{computing}
use Rattle.planning.proofs.Outcomes.{barred_answer}
use Rattle.planning.proofs.Demand3.{demand_3}
use Rattle.planning.proofs.Frame.{refusal_slots, barred_scratch, passed_clears}

-- ── the steps ──

-- other words of the same length are as ready
ready_on : {P D q : ℕ} {list s t : List ℕ} → length t ≡ length s → Ready P D q list s → Ready P D q list t
ready_on e r =
    record { checked = rw e r.checked; largest = r.largest; unit = r.unit; whole = e ∙ r.whole }

-- the two sides, from word 0 and from word P on
sides_found :
    {P u l : ℕ} {list s t : List ℕ} → Colored P list 0 s u t (Some l) →
    two_color P (appts list) ≡ sides (left_side t l) (right_side t P l)
sides_found c = rw zero-add at c.answers.1

module _ {P D q u l : ℕ} {list s t : List ℕ} (r : Ready P D q list s) where
  pub two_colored : 0 < P → Colored P list 0 s u t (Some l) → Sided P D q l list t
  two_colored some c =
      let proper = sides_proper P (appts list) (sizes r).listed (sides_found c) in
      record {
        ready = ready_on c.keeps.len r;
        some = some;
        few = c.answers.0;
        side = proper.0;
        two = proper.1;
      }

-- without parties there is no appointment, and nothing to give
none_listed : (xs : List Appt) → All (Listed 0) xs → xs ≡ []
none_listed [] h = refl
none_listed (x ∷ xs) h = absurd (omega (arith, h.0.0))

no_slots : bipartite_edge_color 0 [] ≡ plan []
unfolding computing
no_slots = refl

odd_outcome : (P : ℕ) (xs : List Appt) → two_color P xs ≡ not_bipartite → bipartite_edge_color P xs ≡ graph_not_bipartite
unfolding bipartite_edge_color
odd_outcome P xs e = ap (given_sides P xs) e

sided_outcome :
    (P : ℕ) (xs : List Appt) {left right : List ℕ} → two_color P xs ≡ sides left right →
    bipartite_edge_color P xs ≡ outcome (bipartite_edge_color_given_partition P xs left right)
unfolding bipartite_edge_color
sided_outcome P xs e = ap (given_sides P xs) e

module _ {P D : ℕ} {list slots : List ℕ} where
  pub worked_none : {q : ℕ} {s : List ℕ} → Ready P D q list s → P ≡ 0 → WorkedOut P D list slots slots (accepted 0) s s
  worked_none r e =
      let none : appts list ≡ [] = none_listed (appts list) (rw e at (sizes r).listed) in
      let found : bipartite_edge_color P (appts list) ≡ plan [] = rw (e, none) no_slots in
      let idle : D ≡ 0 = r.largest ∙ rw (e, none) (largest_load_empty 0) in
      record { answers = rw (found, idle); holds = rw found; len = refl }

  pub worked_odd :
      {u : ℕ} {s t : List ℕ} → Colored P list 0 s u t None → WorkedOut P D list slots slots (refused 9 0) s t
  worked_odd c =
      let found : bipartite_edge_color P (appts list) ≡ graph_not_bipartite = odd_outcome P (appts list) c.answers in
      record { answers = rw found; holds = refl; len = c.keeps.len }

  pub worked_plan :
      {l u : ℕ} {slots' s t v : List ℕ} → Colored P list 0 s u t (Some l) → SlotsPlanned P l list slots slots' t v →
      WorkedOut P D list slots slots' (accepted D) s v
  worked_plan c x =
      let found : bipartite_edge_color P (appts list) ≡ plan x.slots_of =
      sided_outcome P (appts list) (sides_found c) ∙ ap outcome x.found in
      record { answers = rw found; holds = rw found x.held; len = x.len ∙ c.keeps.len }

-- ── the call ──

module _ (l : Lent) where
  -- what the call states, of an answer and of slots and scratch afterwards
  abbrev pub Stated : Answer ℕ → List ℕ → List ℕ → Type 0
  Stated a slots scratch =
      (a ≡ plan_answer l) × ((slots ≡ plan_slots l) × ((scratch ≡ plan_scratch l) × Demand3 l a slots))

  stated :
      (a : Answer ℕ) (slots scratch : List ℕ) → a ≡ plan_answer l → slots ≡ plan_slots l → scratch ≡ plan_scratch l →
      Stated a slots scratch
  stated a slots scratch e f g = (e, (f, (g, rw (e, f) (demand_3 l))))

  -- what the checks told
  abbrev pub Told : Answer ℕ → Type 0
  Told a = a ≡ answered (lent_checks l passed) (lent_d l)

  module _ {number place : ℕ} (told : Told (refused number place)) where
    barred : lent_checks l passed ≡ Check.refused number place
    barred = answered_number (lent_checks l passed) (lent_d l) number place told

    answers : plan_answer l ≡ refused number place
    answers = barred_answer l number place barred

    pub refused_stated : Stated (refused number place) l.slots l.scratch
    refused_stated =
        stated (refused number place) l.slots l.scratch (sym answers) (sym (refusal_slots l number place answers))
        (sym (barred_scratch l number place barred))

  module _ {D : ℕ} (told : Told (accepted D)) where
    passed_with : (lent_checks l passed ≡ passed) × (lent_d l ≡ D)
    passed_with = accepted_passed (lent_checks l passed) (lent_d l) D (sym told)

    ok : lent_checks l passed ≡ passed
    ok = passed_with.0

    figure : D ≡ lent_d l
    figure = sym passed_with.1

    passes : Passes l.parties l.list (length l.slots) (length l.scratch)
    passes = lent_passes l ok

    abbrev q : ℕ
    q = l.parties * (D + 1)

    words_are : lent_words l ≡ 128 * q
    words_are = rw (← figure) (omega arith)

    -- as many words as W, or fewer, can be lent
    pub words_there : (w : ℕ) → w ≤ 128 * q → w ≤ length l.scratch
    words_there w h = omega (arith, passes.scratch_room, words_are)

    pub taken_length : (w : ℕ) → w ≤ 128 * q → w ≡ length (take w l.scratch)
    taken_length w h = omega (arith, length-take w l.scratch, words_there w h)

    pub figures : (l.parties ≤ 1024) × ((D ≤ 8192) × (q ≤ 9216))
    figures =
        let good = passes.good in
        let most : lent_d l ≤ 8192 = d_small l.parties l.list (good_goes_on l.parties l.list passed good) in
        let product : D * l.parties ≤ 8192 = rw figure passes.product in
        (good.parties, (rw figure most, omega (arith, good.parties)))

    -- W can be computed, and is 128 words for each of the q
    pub words_fit : WordsFit l.parties D
    words_fit =
        let f = figures in
        let units : scratch_words l.parties D ≡ 128 * q = omega arith in
        record { parties = f.0; figure = f.1.0; words = omega (arith, units, f.1.1) }

    pub units_are : (w : ℕ) → w ≡ scratch_words l.parties D → w ≡ 128 * q
    units_are w e = omega (arith, e)

    pub ready : Ready l.parties D q l.list (take (128 * q) l.scratch)
    ready =
        let all_taken : 128 * q ≡ length (take (128 * q) l.scratch) = taken_length (128 * q) (omega arith) in
        record {
          checked =
              passes_passed l.parties l.list (length (lent_appts l)) (length (take (128 * q) l.scratch))
              (record {
                good = passes.good;
                product = passes.product;
                slot_room = omega arith;
                scratch_room = omega (arith, all_taken, words_are);
              });
          largest = figure;
          unit = refl;
          whole = sym all_taken;
        }

    pub slot_room : length (lent_appts l) ≤ length l.slots
    slot_room = passes.slot_room

    pub planned_stated :
        {a : Answer ℕ} {slots cleared : List ℕ} →
        WorkedOut l.parties D l.list l.slots slots a (take (128 * q) l.scratch) cleared × (cleared ≡ replicate (length (take (128 * q) l.scratch)) 0) →
        Stated a slots (cleared ++ drop (128 * q) l.scratch)
    unfolding plan_answer plan_slots
    planned_stated {a} {slots} {cleared} x =
        let answers : a ≡ plan_answer l = rw (lent_goes_on l (check_outcome (lent_outcome l)) ok, ← figure) x.0.answers in
        let clears : cleared ++ drop (128 * q) l.scratch ≡ plan_scratch l =
        rw (passed_clears l ok, length-replicate {A = ℕ} (lent_words l) 0, words_are, x.1, ← taken_length (128 * q) (omega arith)) in
        stated a slots (cleared ++ drop (128 * q) l.scratch) answers (rw (← answers) x.0.holds) clears
