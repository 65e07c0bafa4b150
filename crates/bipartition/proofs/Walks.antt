-- Walks over a list of appointments: they can be turned round and put end to end; two walks from one party to the two ends
-- of an appointment, of the same parity, close an odd round; and where each appointment goes from one side to the other no
-- closed round is odd. Assumes nothing.
use Prim.Native.Nat.{ℕ, suc, ◌+◌, ◌%◌}
use mathlib.Core.Path.{◌≡◌, refl, subst₂}
use mathlib.Core.List.{List, [], ◌∷◌}
use mathlib.Core.Logic.{inl, inr}
use native.Mathlib.Omega.{arith}
use native.Mathlib.Nat.{zero-add, suc-add}
use native.Mathlib.Numerals.{add-one}
use Rattle.words.specs.Basics.{All}
use Rattle.appointments.specs.Appointments.{Appt}
use Rattle.appointments.specs.Rounds.{Goes, Joined, Walk, stay, step, OddRound}

-- ── what is joined ──

goes_back : (x : Appt) (u v : ℕ) → Goes x u v → Goes x v u
goes_back x u v (inl g) = inr (g.1, g.0)
goes_back x u v (inr g) = inl (g.1, g.0)

-- an appointment is walked either way round
pub joined_sym : (xs : List Appt) (u v : ℕ) → Joined xs u v → Joined xs v u
joined_sym [] u v j = j
joined_sym (x ∷ xs) u v (inl g) = inl (goes_back x u v g)
joined_sym (x ∷ xs) u v (inr j) = inr (joined_sym xs u v j)

-- What holds of both ways of each appointment holds of what is joined, and the other way round.
abbrev pub BothWays : (ℕ → ℕ → Type 0) → Appt → Type 0
BothWays R x = R x.first x.second × R x.second x.first

pub all_joined : (R : ℕ → ℕ → Type 0) (xs : List Appt) → All (BothWays R) xs → (u v : ℕ) → Joined xs u v → R u v
all_joined R [] h u v x = elim x [ ]
all_joined R (x ∷ xs) h u v (inl (inl g)) = subst₂ R g.0 g.1 h.0.0
all_joined R (x ∷ xs) h u v (inl (inr g)) = subst₂ R g.0 g.1 h.0.1
all_joined R (x ∷ xs) h u v (inr j) = all_joined R xs h.1 u v j

pub joined_all : (R : ℕ → ℕ → Type 0) (xs : List Appt) → ((u v : ℕ) → Joined xs u v → R u v) → All (BothWays R) xs
joined_all R [] h = tt
joined_all R (x ∷ xs) h = (
  (h x.first x.second (inl (inl (refl, refl))), h x.second x.first (inl (inr (refl, refl)))),
  joined_all R xs (λ u v j. h u v (inr j)),
)

-- ── walks end to end and turned round ──

module _ {xs : List Appt} where
  pub walk_then : {u v w m n : ℕ} → Walk xs u v m → Walk xs v w n → Walk xs u w (m + n)
  walk_then stay q = rw zero-add q
  walk_then (step j p) q = rw suc-add (step j (walk_then p q))

  pub walk_back : {u v n : ℕ} → Walk xs u v n → Walk xs v u n
  walk_back stay = stay
  walk_back (step {u} {v} {n} j p) = rw (← add-one n) (walk_then (walk_back p) (step (joined_sym xs u v j) stay))

-- ── odd rounds ──

-- A party v of colour c is reached from s: the start has colour 1 and each step changes the colour.
pub record Reached (xs : List Appt) (s v c : ℕ) : Type 0 where
  pub steps : ℕ
  pub parity : (steps + c) % 2 ≡ 1
  pub walk : Walk xs s v steps

module _ {xs : List Appt} where
  pub reached_start : (s : ℕ) → Reached xs s s 1
  reached_start s = record { steps = 0; parity = refl; walk = stay }

  -- one step on, to the other colour
  pub reached_next : {s v c : ℕ} (w d : ℕ) → c + d ≡ 1 → Joined xs v w → Reached xs s v c → Reached xs s w d
  reached_next w d e j r =
      record { steps = r.steps + 1; parity = omega arith; walk = walk_then r.walk (step j stay) }

  -- Two neighbours of equal colour close an odd round: from the start to the one, over to the other, and back.
  pub equal_neighbours : {s v w c : ℕ} → Joined xs v w → Reached xs s v c → Reached xs s w c → OddRound xs
  equal_neighbours {s} j p q =
      let m : ℕ = p.steps in
      let n : ℕ = q.steps in
      record {
        length = m + suc n;
        odd = omega arith;
        round = record { party = s; some_step = omega arith; walk = walk_then p.walk (step j (walk_back q.walk)) };
      }

  -- Each step of a walk between two sides changes the side.
  pub walk_sides : (side : ℕ → ℕ) → ((u v : ℕ) → Joined xs u v → side u + side v ≡ 1) → {u w n : ℕ} → Walk xs u w n → (side u + n + side w) % 2 ≡ 0
  walk_sides side across (stay {u}) = omega arith
  walk_sides side across (step {u} {v} j p) = omega (arith, across u v j, walk_sides side across p)

  -- so a walk that ends where it began has even length, and no closed round is odd
  pub no_odd_round : (side : ℕ → ℕ) → ((u v : ℕ) → Joined xs u v → side u + side v ≡ 1) → OddRound xs → ⊥
  no_odd_round side across r = omega (arith, r.odd, walk_sides side across r.round.walk)
