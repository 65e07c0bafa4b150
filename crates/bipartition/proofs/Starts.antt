-- The starts of `two_color`, in number order. P steps work a start off, and when all is done every party below P has a colour
-- and is settled, or an odd round was found. Assumes nothing.
use Prim.Native.Nat.{ℕ, zero, suc, ◌≤◌, ◌<◌}
use mathlib.Core.Path.{◌≡◌, refl, sym, subst}
use mathlib.Core.List.{List, [], ◌∷◌}
use mathlib.Core.Logic.{◌⊎◌, inl, inr, ⊎_elim}
use native.Mathlib.Omega.{arith}
use native.Mathlib.Decide.{ℕ_discrete}
use borrow.Author.Tests.{eq-eqb, ne_eqb}
use Rattle.words.specs.Basics.{count, iterate, All}
use Rattle.words.proofs.Sums.{is_same}
use Rattle.words.proofs.Runs.{iterate_ends}
use Rattle.appointments.specs.Appointments.{Appt}
use Rattle.appointments.specs.Rounds.{OddRound}
use Rattle.appointments.proofs.Loads.{Listed}
use Rattle.bipartition.specs.TwoColor.{ColouredParty, Colouring, coloured, colour_of, Search, going, refused, pop, start, search_below}
use Rattle.bipartition.proofs.Walks.{reached_start}
use Rattle.bipartition.proofs.Colouring.{colour_new, still_coloured, nobody_coloured, EachOnce, colour_le}
use Rattle.bipartition.proofs.Search.{Settled, known_more, Going, Sound, to_come, pop_sound}

-- what holds below s and at s holds up to s
up_to : (Q : ℕ → Type 0) (s : ℕ) → ((u : ℕ) → u < s → Q u) → Q s → (u : ℕ) → u ≤ s → Q u
up_to Q s under at u h = elim (ℕ_discrete u s) [ yes e ↦ subst Q (sym e) at | no n ↦ under u (omega arith) ]

-- ── the cases of a start ──

module _ (P : ℕ) (xs : List Appt) where
  pub start_free : (k : ℕ) (so_far : Colouring) → colour_of k so_far ≡ 2 → start P xs k (going so_far []) ≡ iterate P (pop xs) (going (coloured k 1 ∷ so_far) (k ∷ []))
  unfolding start
  start_free k so_far e = rw (eq-eqb (colour_of k so_far) 2 e)

  pub start_had : (k : ℕ) (so_far : Colouring) → (colour_of k so_far ≡ 2 → ⊥) → start P xs k (going so_far []) ≡ going so_far []
  unfolding start
  start_had k so_far n = rw (ne_eqb (colour_of k so_far) 2 n)

-- ── between starts ──

-- The parties below k have been started from or were reached before, and every coloured party is settled.
pub record SettledBelow (P : ℕ) (xs : List Appt) (k : ℕ) (so_far : Colouring) : Type 0 where
  pub each_once : EachOnce P so_far
  pub early : (u : ℕ) → u < k → colour_of u so_far ≤ 1
  pub settled : (u : ℕ) → colour_of u so_far ≤ 1 → Settled xs so_far u

-- the stack is worked off, or it refused and there is an odd round
abbrev pub Ended : ℕ → List Appt → ℕ → Search → Type 0
Ended P xs k (going so_far []) = SettledBelow P xs k so_far
Ended P xs k (going so_far (v ∷ stack)) = ⊥
Ended P xs k refused = OddRound xs

module _ (P : ℕ) (xs : List Appt) (listed : All (Listed P) xs) where
  -- nobody waits any more
  pub rested : (s : ℕ) (cs : Colouring) → Going P xs s cs [] → SettledBelow P xs (suc s) cs
  unfolding count
  rested s cs g =
      record {
        each_once = g.each_once;
        early = λ u h. g.early u (omega arith);
        settled = λ u h. ⊎_elim (λ k. absurd (omega (arith, k.listed))) (λ k. k) (g.each u h);
      }

  -- P steps suffice: no more parties come off than there are.
  pub worked_off : (s : ℕ) (r : Search) → Sound P xs s r → to_come P r ≤ P → Ended P xs (suc s) (iterate P (pop xs) r)
  unfolding pop
  worked_off s r h few = iterate_ends {Inv = Sound P xs s} {Done = Ended P xs (suc s)} (pop xs) (to_come P) keep turn stay P r few h
    where
      keep : (a : Search) → Sound P xs s a → Sound P xs s (pop xs a)
      keep refused i = i
      keep (going cs []) i = i
      keep (going cs (v ∷ stack)) i = (pop_sound P xs s listed v cs stack i).0

      turn : (a : Search) → Sound P xs s a → Ended P xs (suc s) a ⊎ (to_come P (pop xs a) < to_come P a)
      turn refused i = inl i
      turn (going cs []) i = inl (rested s cs i)
      turn (going cs (v ∷ stack)) i = inr (pop_sound P xs s listed v cs stack i).1

      stay : (a : Search) → Sound P xs s a → Ended P xs (suc s) a → Ended P xs (suc s) (pop xs a)
      stay refused i d = d
      stay (going cs []) i d = d
      stay (going cs (v ∷ stack)) i d = absurd d

  -- ── one start ──

  -- an uncoloured party gets 1 and goes on the stack
  pub started : (s : ℕ) (cs : Colouring) → s < P → SettledBelow P xs s cs → colour_of s cs ≡ 2 → Going P xs s (coloured s 1 ∷ cs) (s ∷ [])
  unfolding count
  started s cs below h free =
      let m : ColouredParty = coloured s 1 in
      let first_one : colour_of s (m ∷ cs) ≡ 1 = colour_new m cs s refl in
      record {
        each_once = (below, omega arith, free, h.each_once);
        early = up_to (λ u. colour_of u (m ∷ cs) ≤ 1) s (λ u k. still_coloured m cs u free (h.early u k)) (omega arith);
        waiters = (omega arith, tt);
        each = known_more xs s m cs [] (s ∷ []) free (reached_start s) (omega (arith, is_same s)) (λ u. omega arith) (λ u k. inr (h.settled u k));
      }

  -- one that has a colour is passed over
  pub skipped : (s : ℕ) (cs : Colouring) → SettledBelow P xs s cs → colour_of s cs ≤ 1 → SettledBelow P xs (suc s) cs
  skipped s cs h own =
      let early : (u : ℕ) → u ≤ s → colour_of u cs ≤ 1 = up_to (λ u. colour_of u cs ≤ 1) s h.early own in
      record { each_once = h.each_once; early = λ u k. early u (omega arith); settled = h.settled }

  start_ends : (s : ℕ) → s < P → (r : Search) → Ended P xs s r → Ended P xs (suc s) (start P xs s r)
  unfolding start
  start_ends s below refused h = h
  start_ends s below (going cs (v ∷ stack)) h = absurd h
  start_ends s below (going cs []) h = go (ℕ_discrete (colour_of s cs) 2)
    where
      go : Dec (colour_of s cs ≡ 2) → Ended P xs (suc s) (start P xs s (going cs []))
      go (yes e) = rw (start_free P xs s cs e) (worked_off s (going (coloured s 1 ∷ cs) (s ∷ [])) (started s cs below h e) (omega arith))
      go (no n) = rw (start_had P xs s cs n) (skipped s cs h (omega (arith, colour_le P cs h.each_once s)))

  -- ── all starts ──

  pub none_settled : SettledBelow P xs 0 []
  none_settled = record { each_once = tt; early = λ u k. absurd (omega arith); settled = λ u k. absurd (nobody_coloured u k) }

  pub search_ends : (k : ℕ) → k ≤ P → Ended P xs k (search_below P xs k)
  unfolding search_below
  search_ends zero h = none_settled
  search_ends (suc k) h = start_ends k h (search_below P xs k) (search_ends k (omega arith))
