-- The table by party number: a row changed for each end of an appointment, and the table with one appointment more. Assumes nothing.
use Prim.Native.Nat.{ℕ, ◌+◌, ◌*◌, ◌/◌, ◌≤◌, ◌<◌, min, max}
use mathlib.Core.Path.{◌≡◌, refl, sym, ◌∙◌, ap}
use mathlib.Core.Bool.{Bool, true, false}
use mathlib.Core.List.{List, [], ◌∷◌, ◌++◌, append-nil}
use native.Mathlib.Omega.{arith}
use native.Mathlib.Numerals.{add-one}
use native.Mathlib.Decide.{ℕ_discrete}
use borrow.Author.Tests.{eq-eqb, ne_eqb}
use lib.Dec.{eqb, ltb}
use lib.ListN.{length, replicate, set, take, get_or, length-set, length-take, length-replicate, get_or-replicate}
use lib.Seq.{take-suc, get_or-set_same, get_or-set_other, take_all}
use Rattle.words.specs.Basics.{pick, is, total}
use Rattle.words.specs.Words.{word}
use Rattle.appointments.specs.Appointments.{Appt, appt, appts, names, named, named_at, load}
use Rattle.appointments.proofs.Flat.{appts_count, appt_at}
use Rattle.appointments.proofs.Loads.{load_append, load_most}
use Rattle.asking.specs.PartySlots.{slots_of, lowest, highest}
use Rattle.asking.proofs.PartySlots.{slots_more, slots_none, lowest_more, highest_more}
use Rattle.asking_many.specs.Tables.{Walkable, entered, row_of, row_at, no_slot, past_table, ByParty, Table}
use Rattle.asking_many.specs.declared.Row.{Row}

-- ── an entry changed ──

-- what a party has once the entries of both ends of an appointment are changed
abbrev twice : {A : Type 0} → (A → A) → ℕ → ℕ → ℕ → A → A
twice f a b v x = pick (eqb v b) (f (pick (eqb v a) (f x) x)) (pick (eqb v a) (f x) x)

-- of a table of rows, or of numbers
module _ {A : Type 0} (past : A) (f : A → A) where
  -- what each party then has
  changed :
      (table : List A) (e v : ℕ) → e < length table →
      get_or (set table e (f (get_or table e past))) v past ≡ pick (eqb v e) (f (get_or table v past)) (get_or table v past)
  changed table e v h =
      elim (ℕ_discrete v e) [
        | yes q ↦ rw (eq-eqb v e q, q) (get_or-set_same table e (f (get_or table e past)) past h)
        | no n ↦ rw (ne_eqb v e n) (get_or-set_other table e v (f (get_or table e past)) past n)
      ]

  -- The table with the entries of both ends changed.
  module _ (a b : ℕ) (table : List A) (h : a < length table) (k : b < length table) where
    abbrev one : List A
    one = set table a (f (get_or table a past))

    abbrev two : List A
    two = set one b (f (get_or one b past))

    two_size : length two ≡ length table
    two_size = length-set one b (f (get_or one b past)) ∙ length-set table a (f (get_or table a past))

    two_entry : (v : ℕ) → get_or two v past ≡ twice f a b v (get_or table v past)
    two_entry v =
        changed one b v (omega (arith, length-set table a (f (get_or table a past))))
        ∙ ap (λ (x : A). pick (eqb v b) (f x) x) (changed table a v h)

  -- what each party has in the table, from what each had
  by_party :
      (a b : ℕ) (table : List A) (old new : ℕ → A) → ByParty past old table → a < 1024 → b < 1024 →
      ((v : ℕ) → twice f a b v (old v) ≡ new v) →
      let first : List A = set table a (f (get_or table a past)) in
      ByParty past new (set first b (f (get_or first b past)))
  by_party a b table old new p h k e =
      let first_end : a < length table = omega (arith, p.size) in
      let second_end : b < length table = omega (arith, p.size) in
      record {
        size = two_size a b table first_end second_end ∙ p.size;
        entry = λ v l. two_entry a b table first_end second_end v ∙ ap (twice f a b v) (p.entry v l) ∙ e v;
      }

-- a change that does nothing when it comes again is made once for whom the appointment names, once or twice
twice_once :
    {A : Type 0} (f : A → A) → ((x : A) → f (f x) ≡ f x) → (a b v : ℕ) (x : A) →
    twice f a b v x ≡ pick (named v (appt a b)) (f x) x
unfolding names is
twice_once {A = A} f again a b v x = go (eqb v a) (eqb v b)
  where
    go : (p q : Bool) → pick q (f (pick p (f x) x)) (pick p (f x) x) ≡ pick (ltb 0 (pick p 1 0 + pick q 1 0)) (f x) x
    go true true = again x
    go true false = refl
    go false true = refl
    go false false = refl

-- ── a slot entered ──

-- a row by its three numbers
abbrev row : ℕ → ℕ → ℕ → Row
row n low high = record { load = n; span = record { lowest = low; highest = high } }

-- Entered for both ends: the load is higher by how often the appointment names the party, and its slot comes to the others once, since
-- the same slot again changes neither the lowest nor the highest.
twice_entered :
    (s a b v n low high : ℕ) →
    twice (entered s) a b v (row n low high)
    ≡ row (n + names v (appt a b)) (pick (named v (appt a b)) (min low s) low) (pick (named v (appt a b)) (max high s) high)
unfolding names is
twice_entered s a b v n low high = go (eqb v a) (eqb v b)
  where
    go :
        (p q : Bool) →
        pick q (entered s (pick p (entered s (row n low high)) (row n low high))) (pick p (entered s (row n low high)) (row n low high))
        ≡ (let t : Bool = ltb 0 (pick p 1 0 + pick q 1 0) in
        row (n + (pick p 1 0 + pick q 1 0)) (pick t (min low s) low) (pick t (max high s) high))
    go true true =
        let two : n + 1 + 1 ≡ n + 2 = omega arith in
        let again : min (min low s) s ≡ min low s = omega arith in
        let again_high : max (max high s) s ≡ max high s = omega arith in
        rw (two, again, again_high)
    go true false = refl
    go false true = refl
    go false false = let none : n + 0 ≡ n = omega arith in rw none

-- ── one appointment more ──

module _ (list slots : List ℕ) (i : ℕ) (walk : Walkable list slots) (inside : i < length list / 2) where
  -- its ends and its slot
  abbrev a : ℕ
  a = word list (2 * i)

  abbrev b : ℕ
  b = word list (2 * i + 1)

  abbrev s : ℕ
  s = word slots i

  abbrev so_far : List Appt
  so_far = take i (appts list)

  abbrev with_this : List Appt
  with_this = take (i + 1) (appts list)

  load_more : (v : ℕ) → load v so_far + names v (appt a b) ≡ load v with_this
  unfolding load total
  load_more v =
      let d : Appt = appt 0 0 in
      sym
      (ap (λ (n : ℕ). load v (take n (appts list))) (add-one i)
      ∙ ap (load v) (take-suc (appts list) i d (omega (arith, appts_count list)))
      ∙ load_append v so_far _
      ∙ ap (λ (x : Appt). load v so_far + (names v x + 0)) (appt_at list i d inside)
      ∙ omega arith)

  -- of the slots of a party the lowest, the highest or the like: what a slot more makes of it
  fold_more :
      (fold : List ℕ → ℕ) (f : ℕ → ℕ) → ((mine : List ℕ) → fold (mine ++ (s ∷ [])) ≡ f (fold mine)) → (v : ℕ) →
      pick (named_at v list i) (f (fold (slots_of v so_far slots))) (fold (slots_of v so_far slots)) ≡ fold (slots_of v with_this slots)
  fold_more fold f more v =
      let room : i < length slots = omega (arith, walk.slot_room) in
      sym (ap fold (slots_more v list slots i inside room) ∙ go (named_at v list i) (slots_of v so_far slots))
    where
      go : (t : Bool) (mine : List ℕ) → fold (mine ++ pick t (s ∷ []) []) ≡ pick t (f (fold mine)) (fold mine)
      go true mine = more mine
      go false mine = ap fold (append-nil mine)

  row_more : (v : ℕ) → s ≤ 65535 → twice (entered s) a b v (row_of so_far slots v) ≡ row_of with_this slots v
  row_more v small =
      let counted = load_more v in
      let lowered = fold_more lowest (λ n. min n s) (λ mine. lowest_more mine s small) v in
      let raised = fold_more highest (λ n. max n s) (λ mine. highest_more mine s) v in
      twice_entered s a b v _ _ _ ∙ rw (counted, lowered, raised)

  -- the table, once the slot has been entered for both ends
  pub table_more :
      (rows : List Row) → s ≤ 65535 → Table so_far slots rows →
      let first : List Row = set rows a (entered s (row_at rows a)) in
      Table with_this slots (set first b (entered s (row_at first b)))
  table_more rows small t =
      let ends = walk.ends i inside in
      by_party past_table (entered s) a b rows (row_of so_far slots) (row_of with_this slots) t ends.0 ends.1 (λ v. row_more v small)

  -- loads so far leave room for one more in 16 bits, and for two
  pub load_room : (rows : List Row) (v : ℕ) → Table so_far slots rows → v < 1024 → (row_at rows v).load ≤ 8190
  load_room rows v t h =
      let here : (row_at rows v).load ≡ load v so_far = ap (λ (r : Row). r.load) (t.entry v h) in
      omega (arith, load_most v so_far, length-take i (appts list), walk.few)

  pub load_room_again :
      (rows : List Row) (v : ℕ) → Table so_far slots rows → v < 1024 →
      (row_at (set rows a (entered s (row_at rows a))) v).load ≤ 8191
  load_room_again rows v t h =
      rw (changed past_table (entered s) rows a v (omega (arith, t.size, walk.ends i inside))) (go (eqb v a) (load_room rows v t h))
    where
      go : (p : Bool) → (row_at rows v).load ≤ 8190 → (pick p (entered s (row_at rows v)) (row_at rows v)).load ≤ 8191
      go true r = omega arith
      go false r = omega arith

-- ── no appointment, and all of them ──

pub table_none : (xs : List Appt) (slots : List ℕ) → Table (take 0 xs) slots (replicate 1024 no_slot)
unfolding lowest highest load total
table_none xs slots =
    record {
      size = length-replicate {A = Row} 1024 no_slot;
      entry = λ v h. get_or-replicate 1024 v no_slot _ h ∙ rw (slots_none v xs slots, none v xs);
    }
  where
    none : (v : ℕ) (ys : List Appt) → load v (take 0 ys) ≡ 0
    none v [] = refl
    none v (y ∷ ys) = refl

pub table_all :
    (list slots : List ℕ) (i : ℕ) (rows : List Row) → length list / 2 ≤ i → Table (take i (appts list)) slots rows → Table (appts list) slots rows
table_all list slots i rows h t =
    let all : take i (appts list) ≡ appts list = take_all i (appts list) (omega (arith, appts_count list)) in
    rw all at t
