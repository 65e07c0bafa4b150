-- The search of `two_color` as one row of turns: a party comes off the stack, or with an empty stack the next party is started
-- from. 2·P turns come to what the definition comes to, which works each start off by itself: each turn passes a party or
-- takes one off, and each party is passed once and comes off at most once. Assumes nothing.
use Prim.Native.Nat.{ℕ, zero, suc, ◌+◌, ◌*◌, ◌-◌, ◌≤◌, ◌<◌}
use mathlib.Core.Path.{◌≡◌, refl, sym, ◌∙◌, ap}
use mathlib.Core.List.{List, [], ◌∷◌}
use mathlib.Core.Logic.{◌⊎◌, inl, inr}
use native.Mathlib.Omega.{arith}
use native.Mathlib.Decide.{ℕ_discrete, dec_lt}
use borrow.Author.Tests.{eq-eqb, ne_eqb, lt-ltb, le-ltb}
use lib.Dec.{eqb, ltb}
use lib.ListN.{length}
use Rattle.words.specs.Basics.{pick, iterate, All}
use Rattle.words.proofs.Runs.{iterate_ends, iterate_keeps, iterate_rest, iterate_suc_out}
use Rattle.appointments.specs.Appointments.{Appt}
use Rattle.appointments.specs.Rounds.{OddRound}
use Rattle.appointments.proofs.Loads.{Listed}
use Rattle.bipartition.specs.TwoColor.{Colouring, coloured, colour_of, Search, going, refused, pop, start, search_below}
use Rattle.bipartition.proofs.Colouring.{colour_le}
use Rattle.bipartition.proofs.Search.{Going, Sound, to_come, pop_sound}
use Rattle.bipartition.proofs.Starts.{start_free, start_had, SettledBelow, Ended, rested, worked_off, started, skipped, none_settled}

-- ── turns ──

-- the search, and the next party to start from
pub record Stage : Type 0 where
  pub search : Search
  pub next : ℕ

abbrev pub stage : Search → ℕ → Stage
stage r k = record { search = r; next = k }

-- a party that is still uncoloured gets 1 and goes on the empty stack
unfoldable pub begun : ℕ → Colouring → Search
begun k so_far = pick (eqb (colour_of k so_far) 2) (going (coloured k 1 ∷ so_far) (k ∷ [])) (going so_far [])

unfoldable pub turn_from : ℕ → List Appt → Search → ℕ → Stage
turn_from P xs refused k = stage refused k
turn_from P xs (going so_far []) k = pick (ltb k P) (stage (begun k so_far) (suc k)) (stage (going so_far []) k)
turn_from P xs (going so_far (v ∷ stack)) k = stage (pop xs (going so_far (v ∷ stack))) k

abbrev pub turn : ℕ → List Appt → Stage → Stage
turn P xs t = turn_from P xs t.search t.next

-- ── the starts that are still to come ──

-- j starts from party k on
unfoldable later : ℕ → List Appt → ℕ → ℕ → Search → Search
later P xs zero k r = r
later P xs (suc j) k r = later P xs j (suc k) (start P xs k r)

module _ (P : ℕ) (xs : List Appt) where
  later_below : (j k : ℕ) → later P xs j k (search_below P xs k) ≡ search_below P xs (k + j)
  unfolding later search_below
  later_below zero k =
      let e : k ≡ k + 0 = omega arith in
      ap (search_below P xs) e
  later_below (suc j) k =
      let e : suc k + j ≡ k + suc j = omega arith in
      later_below j (suc k) ∙ ap (search_below P xs) e

  later_refused : (j k : ℕ) → later P xs j k refused ≡ refused
  unfolding later start
  later_refused zero k = refl
  later_refused (suc j) k = later_refused j (suc k)

  empty_rests : (so_far : Colouring) → iterate P (pop xs) (going so_far []) ≡ going so_far []
  unfolding pop
  empty_rests so_far = iterate_rest P (pop xs) (going so_far []) refl

  refused_rests : iterate P (pop xs) refused ≡ refused
  unfolding pop
  refused_rests = iterate_rest P (pop xs) refused refl

  -- a turn that starts from k comes to what the start comes to
  begun_starts : (k : ℕ) (so_far : Colouring) → iterate P (pop xs) (begun k so_far) ≡ start P xs k (going so_far [])
  unfolding begun
  begun_starts k so_far =
      elim (ℕ_discrete (colour_of k so_far) 2) [
        | yes e ↦ rw (eq-eqb (colour_of k so_far) 2 e) (sym (start_free P xs k so_far e))
        | no n ↦ rw (ne_eqb (colour_of k so_far) 2 n) (empty_rests so_far ∙ sym (start_had P xs k so_far n))
      ]

  -- ── what holds at each turn ──

  -- between starts everything is settled; within the start from s it goes as the laws of the search say
  abbrev Stands : ℕ → Search → Type 0
  Stands k (going so_far []) = SettledBelow P xs k so_far
  Stands k (going so_far (v ∷ stack)) = (s : ℕ) × (k ≡ suc s) × Going P xs s so_far (v ∷ stack)
  Stands k refused = OddRound xs

  record Runs (t : Stage) : Type 0 where
    stands : Stands t.next t.search
    few : to_come P t.search ≤ P
    inside : t.next ≤ P
    -- what the rest of this start and the later starts come to
    whole : (j : ℕ) → t.next + j ≡ P → later P xs j t.next (iterate P (pop xs) t.search) ≡ search_below P xs P

  abbrev Over : Search → ℕ → Type 0
  Over (going so_far []) k = P ≤ k
  Over (going so_far (v ∷ stack)) k = ⊥
  Over refused k = Unit {0}

  module _ (listed : All (Listed P) xs) where
    sound_stands : (s k : ℕ) (r : Search) → k ≡ suc s → Sound P xs s r → Stands k r
    sound_stands s k (going so_far []) e h = rw e (rested P xs listed s so_far h)
    sound_stands s k (going so_far (v ∷ stack)) e h = (s, e, h)
    sound_stands s k refused e h = h

    ended_rests : (k : ℕ) (r : Search) → Ended P xs k r → pop xs r ≡ r
    unfolding pop
    ended_rests k (going so_far []) h = refl
    ended_rests k (going so_far (v ∷ stack)) h = absurd h
    ended_rests k refused h = refl

    -- one party off, then P more: as P
    pop_then : (s : ℕ) (r : Search) → Sound P xs s r → to_come P r ≤ P → iterate P (pop xs) (pop xs r) ≡ iterate P (pop xs) r
    unfolding iterate
    pop_then s r h few = iterate_suc_out P (pop xs) r ∙ ended_rests (suc s) (iterate P (pop xs) r) (worked_off P xs listed s r h few)

    off_runs : (so_far : Colouring) (v : ℕ) (stack : List ℕ) (k : ℕ) → Runs (stage (going so_far (v ∷ stack)) k) → Runs (stage (pop xs (going so_far (v ∷ stack))) k)
    off_runs so_far v stack k i =
        let s : ℕ = i.stands.0 in
        let sound = pop_sound P xs s listed v so_far stack i.stands.2 in
        record {
          stands = sound_stands s k (pop xs (going so_far (v ∷ stack))) i.stands.1 sound.0;
          few = omega (arith, sound.1, i.few);
          inside = i.inside;
          whole = λ j e. ap (later P xs j k) (pop_then s (going so_far (v ∷ stack)) i.stands.2 i.few) ∙ i.whole j e;
        }

    begun_stands : (k : ℕ) (so_far : Colouring) → k < P → SettledBelow P xs k so_far → Stands (suc k) (begun k so_far) × (to_come P (begun k so_far) ≤ P + 0 - length so_far)
    unfolding begun
    begun_stands k so_far below h =
        elim (ℕ_discrete (colour_of k so_far) 2) [
          | yes e ↦ rw (eq-eqb (colour_of k so_far) 2 e) ((k, refl, started P xs listed k so_far below h e), omega arith)
          | no n ↦ rw (ne_eqb (colour_of k so_far) 2 n) (skipped P xs listed k so_far h (omega (arith, colour_le P so_far h.each_once k)), omega arith)
        ]

    begun_runs : (so_far : Colouring) (k : ℕ) → k < P → Runs (stage (going so_far []) k) → Runs (stage (begun k so_far) (suc k))
    unfolding later
    begun_runs so_far k below i =
        let b = begun_stands k so_far below i.stands in
        record {
          stands = b.0;
          few = omega (arith, b.1);
          inside = below;
          whole = λ j e. ap (later P xs j (suc k)) (begun_starts k so_far ∙ ap (start P xs k) (sym (empty_rests so_far))) ∙ i.whole (suc j) (omega arith);
        }

    turn_runs : (r : Search) (k : ℕ) → Runs (stage r k) → Runs (turn_from P xs r k)
    unfolding turn_from
    turn_runs refused k i = i
    turn_runs (going so_far (v ∷ stack)) k i = off_runs so_far v stack k i
    turn_runs (going so_far []) k i =
        elim (dec_lt k P) [
          | yes h ↦ rw (lt-ltb k P h) (begun_runs so_far k h i)
          | no n ↦ rw (le-ltb k P (omega arith)) i
        ]

    left : Stage → ℕ
    left t = to_come P t.search + (P - t.next)

    turn_less : (r : Search) (k : ℕ) → Runs (stage r k) → Over r k ⊎ (left (turn_from P xs r k) < left (stage r k))
    unfolding turn_from left
    turn_less refused k i = inl tt
    turn_less (going so_far (v ∷ stack)) k i = inr (omega (arith, (pop_sound P xs i.stands.0 listed v so_far stack i.stands.2).1))
    turn_less (going so_far []) k i =
        elim (dec_lt k P) [
          | yes h ↦ rw (lt-ltb k P h) (inr (omega (arith, (begun_stands k so_far h i.stands).1)))
          | no n ↦ inl (omega arith)
        ]

    turn_over : (r : Search) (k : ℕ) → Over r k → turn_from P xs r k ≡ stage r k
    unfolding turn_from
    turn_over refused k h = refl
    turn_over (going so_far (v ∷ stack)) k h = absurd h
    turn_over (going so_far []) k h = rw (le-ltb k P h)

    -- ── all turns ──

    first : Stage
    first = stage (going [] []) 0

    first_runs : Runs first
    unfolding first search_below
    first_runs =
        record {
          stands = none_settled P xs listed;
          few = omega arith;
          inside = omega arith;
          whole = λ j e. ap (later P xs j 0) (empty_rests []) ∙ later_below j 0 ∙ ap (search_below P xs) e;
        }

    over_whole : (r : Search) (k : ℕ) → Runs (stage r k) → Over r k → r ≡ search_below P xs P
    unfolding later
    over_whole refused k i h =
        sym (later_refused (P - k) k) ∙ ap (later P xs (P - k) k) (sym refused_rests) ∙ i.whole (P - k) (omega (arith, i.inside))
    over_whole (going so_far []) k i h = sym (empty_rests so_far) ∙ i.whole 0 (omega (arith, i.inside))
    over_whole (going so_far (v ∷ stack)) k i h = absurd h

    -- 2·P turns come to the definition's search.
    pub turns_whole : (iterate (2 * P) (turn P xs) (stage (going [] []) 0)).search ≡ search_below P xs P
    unfolding first left
    turns_whole =
        let last : Stage = iterate (2 * P) (turn P xs) (stage (going [] []) 0) in
        over_whole last.search last.next
        (iterate_keeps {Inv = Runs} (turn P xs) (λ t i. turn_runs t.search t.next i) (2 * P) first first_runs)
        (iterate_ends {Inv = Runs} {Done = λ t. Over t.search t.next} (turn P xs) left
        (λ t i. turn_runs t.search t.next i)
        (λ t i. turn_less t.search t.next i)
        (λ t i d. rw (turn_over t.search t.next d) d)
        (2 * P) first (omega arith) first_runs)
