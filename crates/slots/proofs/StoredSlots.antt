-- Giving slots over words gives the definition's plan. Assumes nothing.
use Prim.Native.Nat.{ℕ, suc, ◌+◌, ◌*◌, ◌<◌}
use mathlib.Core.Path.{◌≡◌, sym, ◌∙◌, ap}
use mathlib.Core.List.{List, [], ◌∷◌}
use native.Mathlib.Omega.{arith}
use native.Mathlib.Nat.{add-zero, zero-add, add_assoc}
use lib.ListN.{length, get_or}
use Rattle.words.specs.Basics.{ran}
use Rattle.words.specs.Words.{word}
use Rattle.words.proofs.Below.{row_end}
use Rattle.appointments.specs.Appointments.{Appt, appt}
use Rattle.multigraph.specs.Multigraph.{Graph}
use Rattle.multigraph.specs.Stored.{matchings_at}
use Rattle.multigraph.proofs.SideBySide.{matchings_length, matchings_positive, matchings_nth}
use Rattle.highest_slot.specs.Slots.{give_slots}
use Rattle.multigraph.specs.Places.{HasEnds}
use Rattle.slots.specs.Stored.{SlotsFit, SlotsStored}
use Rattle.slot_chains.specs.Steps.{all_pushed, given_words, given_slots}
use Rattle.slots.proofs.Chains.{slots_same}
use Rattle.slots.proofs.Pushing.{seen, Pushable, Chained, has, push_all}
use Rattle.slots.proofs.StoredMatchings.{matching_copies}
use Rattle.slots.proofs.Taking.{next_slot, Readable, Ready, Appointed, left, Taken, take_all}

-- a plan has a slot for each appointment
plan_length : (xs : List Appt) (ms : List Graph) (plan : List ℕ) → give_slots xs ms ≡ ran plan → length plan ≡ length xs
unfolding give_slots
plan_length [] ms plan runs = let none : plan ≡ [] = cc in rw none
plan_length (x ∷ xs) ms plan runs =
    let next = next_slot x xs ms plan runs in
    ap length next.whole ∙ ap suc (plan_length xs next.rest next.later next.others)

-- the appointments' pairs, one after the other
appointed_from :
    (first : List ℕ) (ends pairs pair_numbers : ℕ) (xs : List Appt) (i : ℕ) →
    ((k : ℕ) → k < length xs →
    (word first (pair_numbers + (i + k)) < pairs)
    × HasEnds first ends (word first (pair_numbers + (i + k))) (get_or xs k (appt 0 0)).first (get_or xs k (appt 0 0)).second) →
    Appointed first ends pairs pair_numbers i xs
appointed_from first ends pairs pair_numbers [] i h = tt
appointed_from first ends pairs pair_numbers (x ∷ xs) i h =
    let now = rw (add-zero i) at (h 0 (omega arith)) in (
      now.0,
      now.1,
      appointed_from first ends pairs pair_numbers xs (i + 1)
          (λ k l.
          let same : i + 1 + k ≡ i + suc k = omega arith in
          rw same (h (suc k) (omega arith))),
    )

module _
    (ends pairs n d out pair_numbers links : ℕ) (xs : List Appt) (plan s slots : List ℕ)
    (fit : SlotsFit ends pairs n d out pair_numbers links xs plan s slots) where
  abbrev matchings : List Graph
  matchings = matchings_at s ends pairs out n d

  abbrev chained : List ℕ
  chained = all_pushed n out links d s

  -- the numbers in a matching's words are its copies
  copies_are : (e z : ℕ) → e < pairs → z < d → has s n out e z ≡ left s ends e matchings z
  copies_are e z h k =
      rw (matchings_nth s ends pairs out n d z k)
      (sym (matching_copies s ends pairs fit.distinct e (out + n * z) n h
      (λ i l. rw (add_assoc out (n * z) i) (fit.numbers (n * z + i) (omega (arith, row_end n z d k))))))

  -- after the first pass each pair's chain is the slots that the matchings have for it
  ready : Ready ends pairs n d out pair_numbers links s matchings chained
  unfolding seen
  ready =
      let pushable : Pushable pairs n d out links s =
      record { numbers = fit.numbers; after = fit.after_matchings; inside = fit.inside; few = fit.few } in
      let c : Chained pairs n d out links s d 0 chained = push_all pairs n d out links s pushable d (omega arith) in
      record {
        as_many = matchings_length s ends pairs out n d;
        positive = matchings_positive s ends pairs out n d;
        changes = c.changes;
        chains = λ e h.
            rw (← slots_same (has s n out e) (left s ends e matchings) d (λ z k. copies_are e z h k))
            (rw (add-zero (n * d)) at (c.chains e h));
      }

  -- Document 01: each appointment takes the highest slot its pair has left; the first entries hold the plan, later ones stay.
  pub slots_stored :
      SlotsStored pairs n d out links plan s slots (given_words out pair_numbers links 0 (length xs) chained)
      (given_slots out pair_numbers links 0 (length xs) chained slots)
  slots_stored =
      let readable : Readable ends pairs n d out links s =
      record { distinct = fit.distinct; after = fit.after_matchings; inside = fit.inside; few = fit.few } in
      let appointed : Appointed s ends pairs pair_numbers 0 xs =
      appointed_from s ends pairs pair_numbers xs 0 (λ k l. rw (zero-add k) (fit.appointed k l, fit.own k l)) in
      let t : Taken ends pairs n d out pair_numbers links s readable 0 xs plan chained slots =
      take_all ends pairs n d out pair_numbers links s readable xs 0 plan matchings chained slots appointed
      (omega (arith, fit.after_appointed)) (omega (arith, fit.room)) ready fit.runs in
      record {
        held = rw (plan_length xs matchings plan fit.runs) (rw (zero-add (length xs)) at t.held);
        changes = t.changes;
      }
