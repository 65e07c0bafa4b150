-- The neighbours that the search looks at are exactly the parties that an appointment joins. Assumes nothing.
use Prim.Native.Nat.{ℕ}
use mathlib.Core.Path.{◌≡◌, refl}
use mathlib.Core.Bool.{Bool, true, false}
use mathlib.Core.List.{List, [], ◌∷◌, reverse, reverse-reverse}
use borrow.Author.Tests.{eq-eqb, eqb-true}
use lib.Dec.{eqb}
use Rattle.words.specs.Basics.{pick, All}
use Rattle.words.proofs.Bools.{never_true}
use Rattle.words.proofs.Sums.{all_append, all_left, all_right, all_reverse, all_map, all_both}
use Rattle.appointments.specs.Appointments.{Appt}
use Rattle.appointments.specs.Rounds.{Joined}
use Rattle.bipartition.specs.TwoColor.{far_ends, second_ends, first_ends, neighbours}
use Rattle.bipartition.proofs.Walks.{all_joined, joined_all}

-- ── a list that keeps an element where a test passes ──

kept_all : (Q : ℕ → Type 0) (t : Bool) (w : ℕ) (rest : List ℕ) → (t ≡ true → Q w) → All Q rest → All Q (pick t (w ∷ rest) rest)
kept_all Q true w rest h k = (h refl, k)
kept_all Q false w rest h k = k

all_kept : (Q : ℕ → Type 0) (t : Bool) (w : ℕ) (rest : List ℕ) → All Q (pick t (w ∷ rest) rest) → (t ≡ true → Q w) × All Q rest
all_kept Q true w rest h = (λ e. h.0, h.1)
all_kept Q false w rest h = (λ e. never_true e, h)

-- ── the other ends of a party's appointments ──

module _ (Q : ℕ → Type 0) (near far : Appt → ℕ) (v : ℕ) where
  all_ends : (xs : List Appt) → All (λ x. v ≡ near x → Q (far x)) xs → All Q (far_ends near far v xs)
  unfolding far_ends
  all_ends [] h = tt
  all_ends (x ∷ xs) h =
      kept_all Q (eqb v (near x)) (far x) (far_ends near far v xs) (λ t. h.0 (eqb-true v (near x) t)) (all_ends xs h.1)

  ends_all : (xs : List Appt) → All Q (far_ends near far v xs) → All (λ x. v ≡ near x → Q (far x)) xs
  unfolding far_ends
  ends_all [] h = tt
  ends_all (x ∷ xs) h =
      let k = all_kept Q (eqb v (near x)) (far x) (far_ends near far v xs) h in
      (λ e. k.0 (eq-eqb v (near x) e), ends_all xs k.1)

-- ── the neighbours ──

module _ (Q : ℕ → Type 0) (v : ℕ) (xs : List Appt) where
  -- what holds of each party joined to v holds of all its neighbours,
  pub all_neighbours : ((w : ℕ) → Joined xs v w → Q w) → All Q (neighbours v xs)
  unfolding neighbours
  all_neighbours h =
      let ways = all_reverse _ xs (joined_all (λ u w. v ≡ u → Q w) xs (λ u w j e. h w (rw (← e) at j))) in
      all_append Q (second_ends v (reverse xs)) (first_ends v (reverse xs))
      (all_ends Q (λ x. x.first) (λ x. x.second) v (reverse xs) (all_map (λ x k. k.0) (reverse xs) ways))
      (all_ends Q (λ x. x.second) (λ x. x.first) v (reverse xs) (all_map (λ x k. k.1) (reverse xs) ways))

  -- and the other way round
  pub neighbours_all : All Q (neighbours v xs) → (w : ℕ) → Joined xs v w → Q w
  unfolding neighbours
  neighbours_all h w j =
      let seconds_hold = ends_all Q (λ x. x.first) (λ x. x.second) v (reverse xs) (all_left Q (second_ends v (reverse xs)) (first_ends v (reverse xs)) h) in
      let firsts_hold = ends_all Q (λ x. x.second) (λ x. x.first) v (reverse xs) (all_right Q (second_ends v (reverse xs)) (first_ends v (reverse xs)) h) in
      let ways = all_reverse _ (reverse xs) (all_both _ _ (reverse xs) seconds_hold firsts_hold) in
      all_joined (λ u z. v ≡ u → Q z) xs (rw (reverse-reverse xs) at ways) v w j refl
