-- Document 01's closed round and its length. Assumes nothing.
use Rattle.std.specs.Prelude.{ℕ, zero, suc, ◌<◌, ◌%◌, ◌≡◌, List, [], ◌∷◌, ◌⊎◌}
use Rattle.appointments.specs.Appointments.{Appt}

-- the appointment goes from u to v, one way round or the other
abbrev pub Goes : Appt → ℕ → ℕ → Type 0
Goes x u v = ((x.first ≡ u) × (x.second ≡ v)) ⊎ ((x.second ≡ u) × (x.first ≡ v))

-- some appointment of the list goes from u to v
abbrev pub Joined : List Appt → ℕ → ℕ → Type 0
Joined [] u v = ⊥
Joined (x ∷ xs) u v = Goes x u v ⊎ Joined xs u v

-- A walk of n steps from u to w: each step begins where the one before it ended and goes from one end of an appointment to
-- its other end. Parties and appointments may come again.
pub data Walk (xs : List Appt) : ℕ → ℕ → ℕ → Type 0 where
  stay : {u : ℕ} → Walk xs u u zero
  step : {u v w n : ℕ} → Joined xs u v → Walk xs v w n → Walk xs u w (suc n)

-- A closed round: one or more steps that end at the party they began at. Its length is the number of steps.
pub record Round (xs : List Appt) (n : ℕ) : Type 0 where
  pub party : ℕ
  pub some_step : 0 < n
  pub walk : Walk xs party party n

-- a closed round of odd length
pub record OddRound (xs : List Appt) : Type 0 where
  pub length : ℕ
  pub odd : length % 2 ≡ 1
  pub round : Round xs length
