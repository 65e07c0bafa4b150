-- Loads: D bounds every party's load and some party attains it, and the loads of all parties add up to the numbers of the
-- list. Assumes nothing.
use Prim.Native.Nat.{ℕ, zero, suc, ◌+◌, ◌*◌, ◌%◌, ◌≤◌, ◌<◌}
use mathlib.Core.Path.{◌≡◌, refl, sym, ◌∙◌, ap}
use mathlib.Core.List.{List, [], ◌∷◌, ◌++◌, reverse}
use native.Mathlib.Omega.{arith}
use native.Mathlib.Decide.{ℕ_discrete, dec_le}
use lib.ListN.{length}
use Rattle.words.specs.Basics.{is, total, All, sum_below}
use Rattle.words.proofs.Sums.{is_le, total_le, total_append, total_reverse, total_cong_all, total_const, sum_below_add, sum_below_is, sum_below_total, all_map}
use Rattle.appointments.specs.Appointments.{Appt, appts, names, load, largest_load}
use Rattle.appointments.specs.Plans.{Busiest}

-- both ends are parties, numbers below P: what check 5 leaves
abbrev pub Listed : ℕ → Appt → Type 0
Listed P x = (x.first < P) × (x.second < P)

-- ── the largest load ──

-- no party's load is above D
pub load_le_largest : (P : ℕ) (xs : List Appt) (v : ℕ) → v < P → load v xs ≤ largest_load P xs
unfolding largest_load
load_le_largest zero xs v h = absurd (omega arith)
load_le_largest (suc P) xs v h =
    elim (ℕ_discrete v P) [
      | yes e ↦ omega (arith, ap (λ (u : ℕ). load u xs) e)
      | no n ↦ omega (arith, load_le_largest P xs v (omega arith))
    ]

-- and D is the least such bound
pub largest_load_le : (P : ℕ) (xs : List Appt) (k : ℕ) → ((v : ℕ) → v < P → load v xs ≤ k) → largest_load P xs ≤ k
unfolding largest_load
largest_load_le zero xs k h = omega arith
largest_load_le (suc P) xs k h = omega (arith, h P (omega arith), largest_load_le P xs k (λ v l. h v (omega arith)))

-- D is 0 for an empty list.
pub largest_load_empty : (P : ℕ) → largest_load P [] ≡ 0
unfolding load total
largest_load_empty P = omega (arith, largest_load_le P [] 0 (λ v h. omega arith))

-- Where there are parties, one of them is a busiest party.
pub some_busiest : (P : ℕ) (xs : List Appt) → 0 < P → (v : ℕ) × Busiest P xs v
unfolding largest_load
some_busiest zero xs h = absurd (omega arith)
some_busiest (suc zero) xs h = (0, record { party = omega arith; busiest = omega arith })
some_busiest (suc (suc P)) xs h = go (some_busiest (suc P) xs (omega arith)) (dec_le (largest_load (suc P) xs) (load (suc P) xs))
  where
    go : (v : ℕ) × Busiest (suc P) xs v → Dec (largest_load (suc P) xs ≤ load (suc P) xs) → (v : ℕ) × Busiest (suc (suc P)) xs v
    go old (yes le) = (suc P, record { party = omega arith; busiest = omega arith })
    go old (no less) = (old.0, record { party = omega arith; busiest = omega arith })

-- ── one load ──

pub load_append : (v : ℕ) (xs ys : List Appt) → load v (xs ++ ys) ≡ load v xs + load v ys
unfolding load
load_append v xs ys = total_append (names v) xs ys

pub load_reverse : (v : ℕ) (xs : List Appt) → load v (reverse xs) ≡ load v xs
unfolding load
load_reverse v xs = total_reverse (names v) xs

-- no load is above twice the appointments
pub load_most : (v : ℕ) (xs : List Appt) → load v xs ≤ 2 * length xs
unfolding load names
load_most v xs =
    omega (arith, total_le {f = names v} {g = λ x. 2} (λ x. omega (arith, is_le v x.first, is_le v x.second)) xs, total_const 2 xs)

-- ── all loads together ──

-- an appointment whose ends are parties names two of them
pub names_sum : (P : ℕ) (x : Appt) → Listed P x → sum_below (λ v. names v x) P ≡ 2
unfolding names
names_sum P x h =
    sum_below_add (λ v. is v x.first) (λ v. is v x.second) P
    ∙ omega (arith, sum_below_is x.first P h.0, sum_below_is x.second P h.1)

-- The loads of all parties add up to twice the appointments.
pub loads_sum : (P : ℕ) (xs : List Appt) → All (Listed P) xs → sum_below (λ v. load v xs) P ≡ 2 * length xs
unfolding load
loads_sum P xs h =
    sum_below_total names P xs
    ∙ total_cong_all (λ x. sum_below (λ v. names v x) P) (λ x. 2) xs (all_map (names_sum P) xs h)
    ∙ total_const 2 xs
    ∙ omega arith

-- a list of even length holds two numbers for each appointment
pub appts_length : (list : List ℕ) → length list % 2 ≡ 0 → length list ≡ 2 * length (appts list)
unfolding appts
appts_length [] h = refl
appts_length (a ∷ []) h = absurd (omega arith)
appts_length (a ∷ b ∷ rest) h = omega (arith, appts_length rest (omega arith))

-- The loads of all parties add up to the list's length.
pub list_loads_sum : (P : ℕ) (list : List ℕ) → length list % 2 ≡ 0 → All (Listed P) (appts list) → sum_below (λ v. load v (appts list)) P ≡ length list
list_loads_sum P list e h = loads_sum P (appts list) h ∙ sym (appts_length list e)

-- ── appointments weighed ──

-- the appointments of a list, each weighed by its ends
unfoldable pub weigh_appts : (ℕ → ℕ → ℕ) → List Appt → ℕ
weigh_appts w xs = total (λ x. w x.first x.second) xs

-- no appointments weigh nothing
pub weigh_appts_none : (w : ℕ → ℕ → ℕ) → weigh_appts w [] ≡ 0
unfolding weigh_appts total
weigh_appts_none w = refl

-- one more adds its weight
pub weigh_appts_cons :
    (w : ℕ → ℕ → ℕ) (x : Appt) (xs : List Appt) → weigh_appts w (x ∷ xs) ≡ w x.first x.second + weigh_appts w xs
unfolding weigh_appts total
weigh_appts_cons w x xs = refl
