-- The viewer's steps: enough of them, the first from position 0, show exactly what the viewer is to show, and at the end it
-- stays. Assumes nothing.
use Prim.Native.Nat.{ℕ, zero, suc, ◌+◌, ◌≤◌, ◌<◌}
use mathlib.Core.Path.{◌≡◌, refl, sym, ◌∙◌, ap}
use mathlib.Core.Bool.{Bool, true, false}
use mathlib.Core.List.{List, [], ◌∷◌}
use native.Mathlib.Omega.{arith}
use Rattle.std.specs.Prelude.{Some, None}
use lib.ListN.{length, drop, length-drop, drop_of_length-le}
use lib.Seq.{drop-drop}
use Rattle.appointments.specs.Appointments.{Appt, appts, named}
use Rattle.appointments.specs.Checks.{First, at, nowhere, first_from}
use Rattle.appointments.proofs.FirstFrom.{at_nowhere}
use Rattle.viewing.specs.Viewer.{seen, view_step, view_next, view_steps, view_from, view, Stays}
use Rattle.viewing.proofs.ViewerLaws.{from_named, from_other}

module _ (party : ℕ) (slots : List ℕ) where
  -- what is shown from position k on, by the first position whose appointment names the party
  record FoundFirst (k : ℕ) (xs : List Appt) (i : ℕ) : Type 0 where
    place : ℕ
    position : i ≡ k + place
    inside : place < length xs
    shown : view_from party slots k xs ≡ seen slots i ∷ view_from party slots (i + 1) (drop (suc place) xs)

  first_found : (k : ℕ) (xs : List Appt) (i : ℕ) → first_from k (named party) xs ≡ at i → FoundFirst k xs i
  unfolding first_from
  first_found k [] i e = at_nowhere nowhere i e refl
  first_found k (x ∷ xs) i e = go (named party x) refl (first_found (k + 1) xs i)
    where
      go : (b : Bool) → named party x ≡ b → (first_from (k + 1) (named party) xs ≡ at i → FoundFirst (k + 1) xs i) → FoundFirst k (x ∷ xs) i
      go true h rest =
          let here : at k ≡ at i = rw h at e in
          let same : k ≡ i = cc in
          record {
            place = 0;
            position = omega arith;
            inside = omega arith;
            shown = rw (from_named party slots k x xs h, same);
          }
      go false h rest =
          let f : FoundFirst (k + 1) xs i = rest (rw h at e) in
          record {
            place = suc f.place;
            position = omega (arith, f.position);
            inside = omega (arith, f.inside);
            shown = from_other party slots k x xs h ∙ f.shown;
          }

  none_found : (k : ℕ) (xs : List Appt) → first_from k (named party) xs ≡ nowhere → view_from party slots k xs ≡ []
  unfolding first_from view_from
  none_found k [] e = refl
  none_found k (x ∷ xs) e = go (named party x) refl (none_found (k + 1) xs)
    where
      go : (b : Bool) → named party x ≡ b → (first_from (k + 1) (named party) xs ≡ nowhere → view_from party slots (k + 1) xs ≡ []) → view_from party slots k (x ∷ xs) ≡ []
      go true h rest = at_nowhere nowhere k (sym (rw h at e)) refl
      go false h rest = from_other party slots k x xs h ∙ rest (rw h at e)

  none_left : (k : ℕ) (xs : List Appt) → length xs ≤ 0 → view_from party slots k xs ≡ []
  unfolding view_from
  none_left k [] h = refl
  none_left k (x ∷ xs) h = absurd (omega arith)

module _ (party : ℕ) (list slots : List ℕ) where
  -- one step, by the first position found, and where the viewer then stands
  pub step_found : (from i : ℕ) → first_from from (named party) (drop from (appts list)) ≡ at i → view_step party list slots from ≡ Some (seen slots i)
  unfolding view_step
  step_found from i e = rw e

  pub step_end : (from : ℕ) → first_from from (named party) (drop from (appts list)) ≡ nowhere → view_step party list slots from ≡ None
  unfolding view_step
  step_end from e = rw e

  pub next_end : (from : ℕ) → view_step party list slots from ≡ None → view_next party list slots from ≡ length (appts list)
  unfolding view_next
  next_end from e = rw e

  -- from A on there is nothing
  nothing_left : (from : ℕ) → length (appts list) ≤ from → drop from (appts list) ≡ []
  nothing_left from h = drop_of_length-le (appts list) h

  pub step_past : (from : ℕ) → length (appts list) ≤ from → view_step party list slots from ≡ None
  unfolding view_step first_from
  step_past from h = rw (nothing_left from h)

  -- that the steps from position m on, if they are enough, show what is to be shown from there on
  abbrev Enough : ℕ → ℕ → Type 0
  Enough n m = length (drop m (appts list)) ≤ n → view_steps n party list slots m ≡ view_from party slots m (drop m (appts list))

  turn_found : (n from i : ℕ) → first_from from (named party) (drop from (appts list)) ≡ at i → ((m : ℕ) → Enough n m) → Enough (suc n) from
  unfolding view_steps
  turn_found n from i e rest h =
      let f : FoundFirst party slots from (drop from (appts list)) i = first_found party slots from (drop from (appts list)) i e in
      let shown : view_step party list slots from ≡ Some (seen slots i) = step_found from i e in
      let behind : from + suc f.place ≡ i + 1 = omega (arith, f.position) in
      let left : drop (suc f.place) (drop from (appts list)) ≡ drop (i + 1) (appts list) =
      drop-drop (suc f.place) from (appts list) ∙ ap (λ (k : ℕ). drop k (appts list)) behind in
      let few : length (drop (i + 1) (appts list)) ≤ n =
      omega (arith, length-drop (i + 1) (appts list), length-drop from (appts list), f.position, f.inside) in
      rw (shown, f.shown, left, rest (i + 1) few)

  turn_end : (n from : ℕ) → first_from from (named party) (drop from (appts list)) ≡ nowhere → ((m : ℕ) → Enough n m) → Enough (suc n) from
  unfolding view_steps view_from
  turn_end n from e rest h =
      let shown : view_step party list slots from ≡ None = step_end from e in
      let none : drop (length (appts list)) (appts list) ≡ [] = nothing_left (length (appts list)) (omega arith) in
      let stays : view_steps n party list slots (length (appts list)) ≡ [] =
      rest (length (appts list)) (rw none (omega arith)) ∙ (rw none) in
      rw (shown, none_found party slots from (drop from (appts list)) e, stays)

  steps_from : (n from : ℕ) → Enough n from
  unfolding view_steps
  steps_from zero from h = sym (none_left party slots from (drop from (appts list)) h)
  steps_from (suc n) from h = go (first_from from (named party) (drop from (appts list))) refl (steps_from n)
    where
      go : (f : First) → first_from from (named party) (drop from (appts list)) ≡ f → ((m : ℕ) → Enough n m) → view_steps (suc n) party list slots from ≡ view_from party slots from (drop from (appts list))
      go (at i) e rest = turn_found n from i e rest h
      go nowhere e rest = turn_end n from e rest h

  -- Stepping from position 0 until the end, and on at will, shows exactly the party's sequence.
  pub steps_show_all : (n : ℕ) → length (appts list) ≤ n → view_steps n party list slots 0 ≡ view party list slots
  unfolding view
  steps_show_all n h = steps_from n 0 h

  -- At the end the viewer stays.
  pub end_stays : (from : ℕ) → view_step party list slots from ≡ None → Stays party list slots from
  end_stays from e =
      let stands : view_next party list slots from ≡ length (appts list) = next_end from e in
      let ended : view_step party list slots (view_next party list slots from) ≡ None = step_past (view_next party list slots from) (omega arith) in
      record { stands = stands; ended = ended; still = next_end (view_next party list slots from) ended ∙ sym stands }
