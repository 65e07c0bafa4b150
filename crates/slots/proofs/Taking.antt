-- The second pass: each appointment takes the first link of its pair's chain, which is the slot that the definition gives it.
-- Assumes nothing.
use Prim.Native.Nat.{ℕ, suc, ◌+◌, ◌*◌, ◌/◌, ◌%◌, ◌<◌, ◌≤◌}
use mathlib.Core.Path.{◌≡◌, refl, sym, ◌∙◌, ap}
use mathlib.Core.List.{List, [], ◌∷◌, ◌++◌, append_assoc}
use native.Mathlib.Omega.{arith}
use native.Mathlib.Decide.{ℕ_discrete}
use native.Mathlib.Nat.{add-zero, zero-add, mul-one, mul-zero, mod-eq_of_lt}
use native.Mathlib.Numerals.{add-one}
use lib.ListN.{length, get_or, set, take, drop, length-set, take-append-drop}
use lib.Seq.{get_or-set_same, take-suc-set, drop-set-lt}
use Rattle.words.specs.Basics.{is, All, Run, ran, failed, and_then}
use Rattle.words.specs.Words.{word, put_word}
use Rattle.words.specs.Frames.{Changes}
use Rattle.words.proofs.Sums.{is_same, is_ne}
use Rattle.words.proofs.Frames.{away}
use Rattle.words.proofs.Ranges.{changes_trans, changes_put}
use Rattle.appointments.specs.Appointments.{Appt}
use Rattle.multigraph.specs.Multigraph.{Graph}
use Rattle.multigraph.specs.Regular.{between, copies_between, Positive}
use Rattle.multigraph.specs.Places.{DistinctEnds, HasEnds}
use Rattle.multigraph.proofs.Ends.{between_symmetric, same_weight}
use Rattle.multigraph.proofs.Weights.{pairs_between_ends, no_pairs_no_copies}
use Rattle.highest_slot.specs.Slots.{Given, given, none_left, give, with_slot, give_slots}
use Rattle.slot_chains.specs.Steps.{link, taken_words, taken_slots, given_words, given_slots}
use Rattle.highest_slot.proofs.GiveSlots.{Gave, give_law}
use Rattle.slots.proofs.Chains.{Chain, chain_keep, chain_cut, link_slot, link_place, slots_left, slots_same, slots_taken}
use Rattle.slots.proofs.StoredMatchings.{between_numbers}

-- ── the definition's next slot ──

-- where all slots are given, the first one is, and those after it from what it leaves
pub record Next (x : Appt) (xs : List Appt) (ms : List Graph) (plan : List ℕ) : Type 0 where
  pub slot : ℕ
  pub rest : List Graph
  pub later : List ℕ
  pub gives : give x.first x.second 0 ms ≡ given slot rest
  pub others : give_slots xs rest ≡ ran later
  pub whole : plan ≡ slot ∷ later

pub next_slot : (x : Appt) (xs : List Appt) (ms : List Graph) (plan : List ℕ) → give_slots (x ∷ xs) ms ≡ ran plan → Next x xs ms plan
unfolding give_slots
next_slot x xs ms plan runs = one (give x.first x.second 0 ms) refl runs
  where
    two :
        (z : ℕ) (rest : List Graph) → give x.first x.second 0 ms ≡ given z rest →
        (r : Run (List ℕ)) → give_slots xs rest ≡ r → and_then r (λ slots. ran (z ∷ slots)) ≡ ran plan → Next x xs ms plan
    two z rest e (ran later) f h =
        record { slot = z; rest = rest; later = later; gives = e; others = f; whole = cc }
    two z rest e failed f h = let w : ◌≡◌ {A = ℕ} 0 1 = cc in absurd (omega arith)

    one :
        (r : Given) → give x.first x.second 0 ms ≡ r →
        with_slot r (λ s rest. and_then (give_slots xs rest) (λ slots. ran (s ∷ slots))) ≡ ran plan → Next x xs ms plan
    one (given z rest) e h = two z rest e (give_slots xs rest) refl h
    one none_left e h = let w : ◌≡◌ {A = ℕ} 0 1 = cc in absurd (omega arith)

-- ── one appointment ──

-- What the second pass reads and never changes.
pub record Readable (ends pairs n d out links : ℕ) (first : List ℕ) : Type 0 where
  pub distinct : DistinctEnds ends pairs first
  pub after : out + n * d ≤ links
  pub inside : links + pairs ≤ length first
  pub few : n * d ≤ 16384

-- how many copies of the pair e a slot's matching has left
abbrev pub left : List ℕ → ℕ → ℕ → List Graph → ℕ → ℕ
left first ends e ms z = copies_between (word first (ends + 2 * e)) (word first (ends + 2 * e + 1)) (get_or ms z [])

-- the numbers of the appointments' pairs, from appointment i on
abbrev pub Appointed : List ℕ → ℕ → ℕ → ℕ → ℕ → List Appt → Type 0
Appointed first ends pairs pair_numbers i [] = Unit {0}
Appointed first ends pairs pair_numbers i (x ∷ xs) =
    (word first (pair_numbers + i) < pairs) × HasEnds first ends (word first (pair_numbers + i)) x.first x.second
    × Appointed first ends pairs pair_numbers (i + 1) xs

module _ (ends pairs n d out pair_numbers links : ℕ) (first : List ℕ) where
  -- The chain of each pair is the slots that it has left in the definition's matchings.
  pub record Ready (ms : List Graph) (s : List ℕ) : Type 0 where
    pub as_many : length ms ≡ d
    pub positive : All Positive ms
    pub changes : Changes out (n * d) links pairs first s
    pub chains :
        (e : ℕ) → e < pairs → Chain (λ t. word s (out + t)) (n * d) (word s (links + e)) (slots_left (left first ends e ms) d)

  module _ (ok : Readable ends pairs n d out links first) where
    module _
        (x : Appt) (q : ℕ) (own : HasEnds first ends q x.first x.second) (below : q < pairs) (ms rest : List Graph) (z : ℕ)
        (g : Gave x.first x.second 0 ms z rest) (s : List ℕ) (h : Ready ms s) where
      -- one copy of the appointment's pair is gone from the slot's matching
      gone : (e t : ℕ) → e < pairs → left first ends e rest t + is t z * is e q ≡ left first ends e ms t
      gone e t k =
          let w : ℕ → ℕ → ℕ = between (word first (ends + 2 * e)) (word first (ends + 2 * e + 1)) in
          let sym_w = between_symmetric (word first (ends + 2 * e)) (word first (ends + 2 * e + 1)) in
          let same : w x.first x.second ≡ is e q =
          sym (same_weight w sym_w x.first x.second _ _ own)
          ∙ between_numbers first ends pairs ok.distinct e q k below in
          rw (zero-add t, same) at (g.taken w sym_w t)

      -- no later matching had one
      highest : (t : ℕ) → z < t → left first ends q ms t ≡ 0
      highest t k =
          no_pairs_no_copies (word first (ends + 2 * q)) (word first (ends + 2 * q + 1)) (get_or ms t [])
          (pairs_between_ends x.first x.second _ _ own (get_or ms t []) ∙ g.highest t (omega arith))

      own_slots : slots_left (left first ends q ms) d ≡ z ∷ slots_left (left first ends q rest) d
      own_slots =
          slots_taken (left first ends q ms) (left first ends q rest) z d (omega (arith, g.below, h.as_many)) (λ t a b. highest t b)
          (λ t a. rw (is_same q, mul-one) at (gone q t below))

      other_slots : (e : ℕ) → e < pairs → (e ≡ q → ⊥) → slots_left (left first ends e ms) d ≡ slots_left (left first ends e rest) d
      other_slots e k differ =
          slots_same (left first ends e ms) (left first ends e rest) d (λ t a. sym (rw (is_ne differ, mul-zero, add-zero) at (gone e t k)))

      -- the first link, taken apart
      module _ (at : ℕ) (there : word s at ≡ q) where
        abbrev after : List ℕ
        after = taken_words out links at s

        first_link : Chain (λ t. word s (out + t)) (n * d) (word s (links + q)) (z ∷ slots_left (left first ends q rest) d)
        first_link = rw own_slots at (h.chains q below)

        abbrev place : ℕ
        place = first_link.0

        small : place < 16384
        small = omega (arith, first_link.3, ok.few)

        pub slot_is : link links at s / 16384 ≡ z
        slot_is = rw (there, first_link.1) (link_slot z place small)

        place_is : link links at s % 16384 ≡ place
        place_is = rw (there, first_link.1) (link_place z place small)

        after_is : after ≡ put_word s (links + q) (word s (out + place))
        unfolding taken_words
        after_is = rw (place_is, there)

        inside : links + q < length s
        inside = omega (arith, below, ok.inside, h.changes.len)

        moved : word after (links + q) ≡ word s (out + place) % 4294967296
        moved = rw after_is (get_or-set_same s (links + q) (word s (out + place) % 4294967296) 0 inside)

        same : (i : ℕ) → (i ≡ links + q → ⊥) → word after i ≡ word s i
        same i k = rw after_is (away s (links + q) i (word s (out + place)) k)

        keep :
            (w : ℕ) (zs : List ℕ) → Chain (λ t. word s (out + t)) (n * d) w zs →
            Chain (λ t. word after (out + t)) (n * d) w zs
        keep w zs =
            chain_keep (λ t. word s (out + t)) (λ t. word after (out + t)) (n * d) (n * d) w zs (omega arith)
            (λ t k. same (out + t) (λ e. omega (arith, ok.after)))

        chains_left :
            (e : ℕ) → e < pairs →
            Chain (λ t. word after (out + t)) (n * d) (word after (links + e)) (slots_left (left first ends e rest) d)
        chains_left e k =
            elim (ℕ_discrete e q) [
              | yes y ↦
                  rw (y, moved)
                  (keep (word s (out + place) % 4294967296) (slots_left (left first ends q rest) d)
                  (chain_cut (λ t. word s (out + t)) (n * d) (word s (out + place)) (slots_left (left first ends q rest) d) ok.few
                  first_link.4))
              | no y ↦
                  rw (same (links + e) (λ u. y (omega arith)), ← other_slots e k y)
                  (keep (word s (links + e)) (slots_left (left first ends e ms) d) (h.chains e k))
            ]

        -- the appointment's slot is taken: the chains are what is left
        pub ready_left : Ready rest after
        ready_left =
            record {
              as_many = g.as_many ∙ h.as_many;
              positive = g.positive;
              changes =
                  changes_trans h.changes
                  (rw after_is (changes_put out (n * d) links pairs s (links + q) (word s (out + place)) ok.after (omega arith) (omega arith)));
              chains = chains_left;
            }

        -- and the slot buffer holds the slot
        pub slot_held : (i : ℕ) (slots : List ℕ) → taken_slots links at i s slots ≡ set slots i z
        unfolding taken_slots
        slot_held i slots =
            let fits : z < 65536 = omega (arith, first_link.2, small) in
            rw (slot_is, mod-eq_of_lt fits)

    -- ── all appointments ──

    -- the buffer's entries from i on hold the plan, those before and after stay
    pub record Taken (i : ℕ) (xs : List Appt) (plan s slots : List ℕ) : Type 0 where
      pub held :
          given_slots out pair_numbers links i (length xs) s slots ≡ take i slots ++ (plan ++ drop (i + length xs) slots)
      pub changes : Changes out (n * d) links pairs first (given_words out pair_numbers links i (length xs) s)

    none_taken :
        (i : ℕ) (plan : List ℕ) (ms : List Graph) (s slots : List ℕ) → Ready ms s → give_slots [] ms ≡ ran plan →
        Taken i [] plan s slots
    unfolding give_slots given_slots given_words
    none_taken i plan ms s slots h runs =
        let none : plan ≡ [] = cc in
        record { held = rw (none, add-zero i) (sym (take-append-drop i slots)); changes = h.changes }

    one_taken :
        (i z : ℕ) (x : Appt) (xs : List Appt) (later s slots : List ℕ) →
        i < length slots → taken_slots links (pair_numbers + i) i s slots ≡ set slots i z →
        Taken (i + 1) xs later (taken_words out links (pair_numbers + i) s) (set slots i z) → Taken i (x ∷ xs) (z ∷ later) s slots
    unfolding given_slots given_words
    one_taken i z x xs later s slots room is_set h =
        record {
          held =
              ap (λ l. given_slots out pair_numbers links (i + 1) (length xs) (taken_words out links (pair_numbers + i) s) l) is_set
              ∙ h.held
              ∙ joined;
          changes = h.changes;
        }
      where
        joined :
            take (i + 1) (set slots i z) ++ (later ++ drop (i + 1 + length xs) (set slots i z))
            ≡ take i slots ++ (z ∷ later ++ drop (i + suc (length xs)) slots)
        joined =
            let same : i + 1 + length xs ≡ i + suc (length xs) = omega arith in
            let past : drop (i + suc (length xs)) (set slots i z) ≡ drop (i + suc (length xs)) slots =
            drop-set-lt (i + suc (length xs)) slots i z (omega arith) in
            rw (same, past, add-one i, take-suc-set slots i z room) (append_assoc (take i slots) (z ∷ []) _)

    -- Each appointment gets the slot that the definition gives it.
    pub take_all :
        (xs : List Appt) (i : ℕ) (plan : List ℕ) (ms : List Graph) (s slots : List ℕ) → Appointed first ends pairs pair_numbers i xs →
        pair_numbers + (i + length xs) ≤ out → i + length xs ≤ length slots → Ready ms s → give_slots xs ms ≡ ran plan →
        Taken i xs plan s slots
    take_all [] i plan ms s slots ap_ok low room h runs = none_taken i plan ms s slots h runs
    take_all (x ∷ xs) i plan ms s slots ap_ok low room h runs =
        let next = next_slot x xs ms plan runs in
        let z : ℕ = next.slot in
        let q : ℕ = word first (pair_numbers + i) in
        let g : Gave x.first x.second 0 ms z next.rest =
        rw next.gives at (give_law x.first x.second 0 ms h.positive) in
        let there : word s (pair_numbers + i) ≡ q = h.changes.under (pair_numbers + i) (omega arith) in
        let here = slot_held x q ap_ok.1 ap_ok.0 ms next.rest z g s h (pair_numbers + i) there i slots in
        let ready = ready_left x q ap_ok.1 ap_ok.0 ms next.rest z g s h (pair_numbers + i) there in
        let more : i + 1 + length xs ≤ length (set slots i z) = omega (arith, length-set slots i z) in
        rw next.whole
        (one_taken i z x xs next.later s slots (omega arith) here
        (take_all xs (i + 1) next.later next.rest (taken_words out links (pair_numbers + i) s) (set slots i z) ap_ok.2
        (omega arith) more ready next.others))
