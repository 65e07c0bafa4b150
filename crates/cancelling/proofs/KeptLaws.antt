-- What holds of some of the entries of a list: sums are no larger, what holds of all holds of them, and of appointments every walk is
-- a walk of the whole list. Assumes nothing.
use Prim.Native.Nat.{ℕ, ◌≤◌}
use mathlib.Core.Path.{◌∙◌, ap}
use mathlib.Core.List.{List, [], ◌∷◌, ◌++◌, map, map-append}
use mathlib.Core.Logic.{inl, inr}
use native.Mathlib.Omega.{arith}
use lib.ListN.{length}
use Rattle.words.specs.Basics.{All, total}
use Rattle.words.proofs.Sums.{total_append, all_append, all_left, all_right, all_map, total_const}
use Rattle.appointments.specs.Appointments.{Appt, load, largest_load, names}
use Rattle.appointments.specs.Rounds.{Goes, Joined, Walk, stay, step, OddRound}
use Rattle.appointments.proofs.Loads.{load_le_largest, largest_load_le}
use Rattle.cancelling.specs.Cancelling.{Kept}

-- ── of any entries ──

-- a sum over what is kept is no larger
pub kept_total : {A : Type 0} (f : A → ℕ) (xs ys : List A) → Kept xs ys → total f ys ≤ total f xs
unfolding total
kept_total f xs [] k = omega arith
kept_total f xs (y ∷ ys) (before, after, e, k) =
    omega (
      arith,
      ap (total f) e,
      total_append f before (y ∷ after),
      total_append f before after,
      kept_total f (before ++ after) ys k,
    )

-- no more are kept than there are
pub kept_length : {A : Type 0} (xs ys : List A) → Kept xs ys → length ys ≤ length xs
kept_length xs ys k = omega (arith, kept_total (λ x. 1) xs ys k, total_const 1 xs, total_const 1 ys)

-- what holds of all holds of the kept ones
pub kept_all : {A : Type 0} (Q : A → Type 0) (xs ys : List A) → Kept xs ys → All Q xs → All Q ys
kept_all Q xs [] k h = tt
kept_all Q xs (y ∷ ys) (before, after, e, k) h =
    let whole : All Q (before ++ y ∷ after) = rw e at h in
    let from : All Q (y ∷ after) = all_right Q before (y ∷ after) whole in
    (from.0, kept_all Q (before ++ after) ys k (all_append Q before after (all_left Q before (y ∷ after) whole) from.1))

-- the same entries of mapped lists
pub kept_map : {A B : Type 0} (f : A → B) (xs ys : List A) → Kept xs ys → Kept (map f xs) (map f ys)
kept_map f xs [] k = tt
kept_map f xs (y ∷ ys) (before, after, e, k) = (
  map f before,
  map f after,
  ap (map f) e ∙ map-append f before (y ∷ after),
  rw (← map-append f before after) (kept_map f (before ++ after) ys k),
)

-- ── of appointments ──

-- D is no larger
pub kept_largest : (P : ℕ) (xs ys : List Appt) → Kept xs ys → largest_load P ys ≤ largest_load P xs
unfolding load
kept_largest P xs ys k =
    largest_load_le P ys (largest_load P xs)
    (λ v l. omega (arith, kept_total (names v) xs ys k, load_le_largest P xs v l))

-- each appointment of a list joins what it goes between
all_joined : (u v : ℕ) (xs : List Appt) → All (λ x. Goes x u v → Joined xs u v) xs
all_joined u v [] = tt
all_joined u v (x ∷ xs) = (λ g. inl g, all_map (λ y joined g. inr (joined g)) xs (all_joined u v xs))

-- who is joined is joined by one of the appointments
joined_by : {X : Type 0} (u v : ℕ) (ys : List Appt) → All (λ y. Goes y u v → X) ys → Joined ys u v → X
joined_by u v [] h j = elim j [ ]
joined_by u v (y ∷ ys) h (inl g) = h.0 g
joined_by u v (y ∷ ys) h (inr j) = joined_by u v ys h.1 j

module _ (xs ys : List Appt) (k : Kept xs ys) where
  -- a step of the kept is a step of the whole
  kept_joined : (u v : ℕ) → Joined ys u v → Joined xs u v
  kept_joined u v j = joined_by u v ys (kept_all (λ x. Goes x u v → Joined xs u v) xs ys k (all_joined u v xs)) j

  -- so a walk is one
  kept_walk : {u w n : ℕ} → Walk ys u w n → Walk xs u w n
  kept_walk stay = stay
  kept_walk (step {u} {v} j more) = step (kept_joined u v j) (kept_walk more)

  -- and a closed round of odd length is one
  pub kept_odd : OddRound ys → OddRound xs
  kept_odd o =
      record {
        length = o.length;
        odd = o.odd;
        round = record { party = o.round.party; some_step = o.round.some_step; walk = kept_walk o.round.walk };
      }
