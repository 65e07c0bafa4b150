-- What the viewer shows of a party holds each of the party's positions once, ascending, with its slot. (That its steps show
-- exactly that, and that it stays at the end, is in ViewerSteps.antt.) Assumes nothing.
use Prim.Native.Nat.{ℕ, zero, suc, ◌+◌, ◌≤◌, ◌<◌}
use mathlib.Core.Path.{◌≡◌, refl, sym, subst}
use mathlib.Core.Bool.{Bool, true, false}
use mathlib.Core.List.{List, [], ◌∷◌}
use native.Mathlib.Omega.{arith}
use borrow.Author.Tests.{ltb-true, lt-ltb}
use lib.ListN.{length, get_or}
use Rattle.words.specs.Basics.{pick, is, total, All}
use Rattle.words.proofs.Sums.{is_eq, is_ne, all_map, total_all_zero}
use Rattle.appointments.specs.Appointments.{Appt, appts, names, named}
use Rattle.viewing.specs.Viewer.{seen, view_from, view, Shows, Ascending, shown_at, Sequence}
use Rattle.viewing.specs.declared.Seen.{Seen}

module _ (party : ℕ) (slots : List ℕ) where
  -- one appointment more: it is shown if it names the party
  pub from_named : (k : ℕ) (x : Appt) (xs : List Appt) → named party x ≡ true → view_from party slots k (x ∷ xs) ≡ seen slots k ∷ view_from party slots (k + 1) xs
  unfolding view_from
  from_named k x xs h = rw h

  pub from_other : (k : ℕ) (x : Appt) (xs : List Appt) → named party x ≡ false → view_from party slots k (x ∷ xs) ≡ view_from party slots (k + 1) xs
  unfolding view_from
  from_other k x xs h = rw h

  -- an entry of what is shown from position k on
  record ShowsFrom (k : ℕ) (xs : List Appt) (s : Seen) : Type 0 where
    place : ℕ
    position : s.position ≡ k + place
    inside : place < length xs
    names_it : (d : Appt) → 0 < names party (get_or xs place d)
    slot_there : s.slot ≡ get_or slots s.position 0

  shows_later : (k : ℕ) (x : Appt) (xs : List Appt) (s : Seen) → ShowsFrom (k + 1) xs s → ShowsFrom k (x ∷ xs) s
  shows_later k x xs s f = record { place = suc f.place; position = omega (arith, f.position); inside = omega (arith, f.inside); names_it = f.names_it; slot_there = f.slot_there }

  shows_here : (k : ℕ) (x : Appt) (xs : List Appt) → named party x ≡ true → ShowsFrom k (x ∷ xs) (seen slots k)
  shows_here k x xs h = record { place = 0; position = omega arith; inside = omega arith; names_it = λ d. ltb-true 0 (names party x) h; slot_there = refl }

  all_shown : (k : ℕ) (xs : List Appt) → All (ShowsFrom k xs) (view_from party slots k xs)
  unfolding view_from
  all_shown k [] = tt
  all_shown k (x ∷ xs) = go (named party x) refl (all_map (shows_later k x xs) (view_from party slots (k + 1) xs) (all_shown (k + 1) xs))
    where
      go : (b : Bool) → named party x ≡ b → All (ShowsFrom k (x ∷ xs)) (view_from party slots (k + 1) xs) → All (ShowsFrom k (x ∷ xs)) (view_from party slots k (x ∷ xs))
      go true h rest = rw (from_named k x xs h) (shows_here k x xs h, rest)
      go false h rest = rw (from_other k x xs h) rest

  shown_past : (k : ℕ) (xs : List Appt) → All (λ s. k ≤ s.position) (view_from party slots k xs)
  shown_past k xs = all_map (λ s (f : ShowsFrom k xs s). omega (arith, f.position)) (view_from party slots k xs) (all_shown k xs)

  ascending_from : (k : ℕ) (xs : List Appt) → Ascending (view_from party slots k xs)
  unfolding view_from
  ascending_from k [] = tt
  ascending_from k (x ∷ xs) = go (named party x) refl (ascending_from (k + 1) xs)
    where
      later : All (λ t. k < t.position) (view_from party slots (k + 1) xs)
      later = all_map (λ s h. omega arith) (view_from party slots (k + 1) xs) (shown_past (k + 1) xs)

      go : (b : Bool) → named party x ≡ b → Ascending (view_from party slots (k + 1) xs) → Ascending (view_from party slots k (x ∷ xs))
      go true h rest = rw (from_named k x xs h) (later, rest)
      go false h rest = rw (from_other k x xs h) rest

  -- a position before all that is shown
  shown_before : (i k : ℕ) (xs : List Appt) → i < k → shown_at i (view_from party slots k xs) ≡ 0
  shown_before i k xs h =
      total_all_zero (λ s. is i s.position) (view_from party slots k xs)
      (all_map (λ s l. is_ne (λ e. omega arith)) (view_from party slots k xs) (shown_past k xs))

  -- each position is shown once if the appointment there names the party, else never
  shown_from : (k i : ℕ) (xs : List Appt) (d : Appt) → i < length xs → shown_at (k + i) (view_from party slots k xs) ≡ pick (named party (get_or xs i d)) 1 0
  unfolding total
  shown_from k i [] d h = absurd (omega arith)
  shown_from k zero (x ∷ xs) d h = go (named party x) refl
    where
      none : shown_at (k + 0) (view_from party slots (k + 1) xs) ≡ 0
      none = shown_before (k + 0) (k + 1) xs (omega arith)

      go : (b : Bool) → named party x ≡ b → shown_at (k + 0) (view_from party slots k (x ∷ xs)) ≡ pick b 1 0
      go true e = rw (from_named k x xs e) (omega (arith, none, is_eq {u = k + 0} {v = k} (omega arith)))
      go false e = rw (from_other k x xs e) none
  shown_from k (suc i) (x ∷ xs) d h = go (named party x) refl (shown_from (k + 1) i xs d (omega arith))
    where
      same : k + suc i ≡ k + 1 + i
      same = omega arith

      go : (b : Bool) → named party x ≡ b → shown_at (k + 1 + i) (view_from party slots (k + 1) xs) ≡ pick (named party (get_or xs i d)) 1 0 → shown_at (k + suc i) (view_from party slots k (x ∷ xs)) ≡ pick (named party (get_or xs i d)) 1 0
      go true e rest =
          subst (λ (z : ℕ). shown_at z (view_from party slots k (x ∷ xs)) ≡ pick (named party (get_or xs i d)) 1 0) (sym same)
          (rw (from_named k x xs e) (omega (arith, rest, is_ne {u = k + 1 + i} {v = k} (λ q. omega arith))))
      go false e rest =
          subst (λ (z : ℕ). shown_at z (view_from party slots k (x ∷ xs)) ≡ pick (named party (get_or xs i d)) 1 0) (sym same)
          (rw (from_other k x xs e) rest)

shows_whole : (party : ℕ) (slots : List ℕ) (xs : List Appt) (s : Seen) → ShowsFrom party slots 0 xs s → Shows party slots xs s
shows_whole party slots xs s f =
    let same : f.place ≡ s.position = omega (arith, f.position) in
    record {
      inside = omega (arith, f.inside);
      names_it = λ d. rw same at (f.names_it d);
      slot_there = f.slot_there;
    }

-- The viewer yields each of the party's positions, ascending, with its slot.
pub view_yields : (party : ℕ) (list slots : List ℕ) → Sequence party list slots (view party list slots)
unfolding view
view_yields party list slots =
    record {
      each = all_map (shows_whole party slots (appts list)) (view_from party slots 0 (appts list)) (all_shown party slots 0 (appts list));
      ascending = ascending_from party slots 0 (appts list);
      once = once;
    }
  where
    once : (i : ℕ) (d : Appt) → i < length (appts list) → 0 < names party (get_or (appts list) i d) → shown_at i (view_from party slots 0 (appts list)) ≡ 1
    once i d h n =
        let zero_first : 0 + i ≡ i = omega arith in
        rw (zero_first, lt-ltb 0 (names party (get_or (appts list) i d)) n) at (shown_from party slots 0 i (appts list) d h)
