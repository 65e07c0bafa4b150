-- Each appointment takes a slot: a slot given to a pair takes one copy of it from that slot's matching, so where the
-- matchings hold all appointments nobody goes without, and a party meets a slot at most as often as the slot's matching
-- names it. Assumes nothing.
use Prim.Native.Nat.{ℕ, zero, suc, ◌+◌, ◌*◌, ◌≤◌, ◌<◌}
use mathlib.Core.Path.{◌≡◌, refl, ap}
use mathlib.Core.Bool.{Bool, true, false}
use mathlib.Core.List.{List, [], ◌∷◌}
use native.Mathlib.Omega.{arith}
use native.Mathlib.Nat.{zero-add, zero-mul, one-mul}
use borrow.Author.Tests.{leb-true, leb-false}
use lib.Dec.{leb}
use lib.ListN.{length, get_or}
use Rattle.words.specs.Basics.{pick, is, total, All, ran, and_then, Ran}
use Rattle.words.proofs.Sums.{is_eq, is_ne, all_map}
use Rattle.words.proofs.Runs.{ran_then}
use Rattle.appointments.specs.Appointments as Appointments
use Rattle.appointments.specs.Appointments.{Appt}
use Rattle.appointments.specs.Plans.{meets}
use Rattle.multigraph.specs.Multigraph.{Graph, remove_edge}
use Rattle.multigraph.specs.Regular.{weigh, names, degree, between, pairs_between, Positive, Symmetric}
use Rattle.multigraph.proofs.Ends.{names_symmetric, between_symmetric, between_self}
use Rattle.multigraph.proofs.Weights.{pairs_between_none, no_pairs_no_copies}
use Rattle.multigraph.proofs.Removing.{weigh_remove_edge, positive_remove_edge}
use Rattle.highest_slot.specs.Slots.{Given, given, none_left, give_here, or_here, give, with_slot, give_slots}
use Rattle.appointments.proofs.Loads.{weigh_appts, weigh_appts_cons}

-- the copies of all matchings, each weighed by its ends
abbrev pub weigh_all : (ℕ → ℕ → ℕ) → List Graph → ℕ
weigh_all w ms = total (λ (m : Graph). weigh w m) ms

-- the matchings hold the pairs of all appointments
abbrev pub Enough : List Appt → List Graph → Type 0
Enough xs ms = (u v : ℕ) → weigh_appts (between u v) xs ≤ weigh_all (between u v) ms

-- no matching has the pair with ends a and b
abbrev pub Lacks : ℕ → ℕ → List Graph → Type 0
Lacks a b ms = (t : ℕ) → pairs_between a b (get_or ms t []) ≡ 0

-- A slot given to the ends a and b, counted from i on, and the matchings that are left: one copy is gone, from that slot's
-- matching, and no later matching had the pair.
pub record Gave (a b i : ℕ) (ms : List Graph) (s : ℕ) (rest : List Graph) : Type 0 where
  pub from : i ≤ s
  pub below : s < i + length ms
  pub as_many : length rest ≡ length ms
  pub positive : All Positive rest
  pub taken :
      (w : ℕ → ℕ → ℕ) → Symmetric w → (t : ℕ) → weigh w (get_or rest t []) + is (i + t) s * w a b ≡ weigh w (get_or ms t [])
  pub copies : (w : ℕ → ℕ → ℕ) → Symmetric w → weigh_all w rest + w a b ≡ weigh_all w ms
  pub highest : (t : ℕ) → s < i + t → pairs_between a b (get_or ms t []) ≡ 0

-- a slot is given, or no matching has the pair
abbrev pub Gives : ℕ → ℕ → ℕ → List Graph → Given → Type 0
Gives a b i ms (given s rest) = Gave a b i ms s rest
Gives a b i ms none_left = Lacks a b ms

-- ── one slot ──

module _ (a b i : ℕ) (m : Graph) (ms : List Graph) (pos : All Positive (m ∷ ms)) where
  -- a later matching gives it
  later : (s : ℕ) (rest : List Graph) → Gave a b (i + 1) ms s rest → Gave a b i (m ∷ ms) s (m ∷ rest)
  unfolding total
  later s rest h =
      record {
        from = omega (arith, h.from);
        below = omega (arith, h.below);
        as_many = omega (arith, h.as_many);
        positive = (pos.0, h.positive);
        taken = taken;
        copies = λ w y. omega (arith, h.copies w y);
        highest = highest;
      }
    where
      taken :
          (w : ℕ → ℕ → ℕ) → Symmetric w → (t : ℕ) →
          weigh w (get_or (m ∷ rest) t []) + is (i + t) s * w a b ≡ weigh w (get_or (m ∷ ms) t [])
      taken w y zero = rw (is_ne {u = i + zero} {v = s} (λ e. omega (arith, h.from)), zero-mul) (omega arith)
      taken w y (suc t) =
          let same : i + suc t ≡ i + 1 + t = omega arith in
          rw same (h.taken w y t)

      highest : (t : ℕ) → s < i + t → pairs_between a b (get_or (m ∷ ms) t []) ≡ 0
      highest zero k = absurd (omega (arith, h.from))
      highest (suc t) k = h.highest t (omega arith)

  module _ (none : Lacks a b ms) where
    -- no later one has the pair, and this one gives it
    here : 0 < pairs_between a b m → Gave a b i (m ∷ ms) i (remove_edge m a b 1 ∷ ms)
    unfolding total
    here some =
        record {
          from = omega arith;
          below = omega arith;
          as_many = refl;
          positive = (positive_remove_edge m a b 1 pos.0, pos.1);
          taken = taken;
          copies = λ w y. omega (arith, weigh_remove_edge w y m a b pos.0 some);
          highest = highest;
        }
      where
        taken :
            (w : ℕ → ℕ → ℕ) → Symmetric w → (t : ℕ) →
            weigh w (get_or (remove_edge m a b 1 ∷ ms) t []) + is (i + t) i * w a b ≡ weigh w (get_or (m ∷ ms) t [])
        taken w y zero =
            rw (is_eq {u = i + zero} {v = i} (omega arith), one-mul) (weigh_remove_edge w y m a b pos.0 some)
        taken w y (suc t) = rw (is_ne {u = i + suc t} {v = i} (λ e. omega arith), zero-mul) (omega arith)

        highest : (t : ℕ) → i < i + t → pairs_between a b (get_or (m ∷ ms) t []) ≡ 0
        highest zero k = absurd (omega arith)
        highest (suc t) k = none t

    here_or_none :
        (t : Bool) → leb 1 (pairs_between a b m) ≡ t →
        Gives a b i (m ∷ ms) (pick t (given i (remove_edge m a b 1 ∷ ms)) none_left)
    here_or_none true e = here (leb-true 1 (pairs_between a b m) e)
    here_or_none false e = lacks
      where
        lacks : Lacks a b (m ∷ ms)
        lacks zero = omega (arith, leb-false 1 (pairs_between a b m) e)
        lacks (suc t) = none t

  here_or_later : (r : Given) → Gives a b (i + 1) ms r → Gives a b i (m ∷ ms) (or_here m r (give_here a b i m ms))
  here_or_later (given s rest) h = later s rest h
  here_or_later none_left h = here_or_none h (leb 1 (pairs_between a b m)) refl

-- The highest slot that the pair has left is given and taken; only where no matching has the pair is none given.
pub give_law : (a b i : ℕ) (ms : List Graph) → All Positive ms → Gives a b i ms (give a b i ms)
unfolding give
give_law a b i [] pos = λ t. pairs_between_none a b
give_law a b i (m ∷ ms) pos =
    here_or_later a b i m ms pos (give a b (i + 1) ms) (give_law a b (i + 1) ms pos.1)

-- ── all slots ──

-- where no matching has the pair, no copy of it is left
lacking : (a b : ℕ) (ms : List Graph) → Lacks a b ms → weigh_all (between a b) ms ≡ 0
unfolding total
lacking a b [] none = refl
lacking a b (m ∷ ms) none =
    omega (arith, no_pairs_no_copies a b m (none 0), lacking a b ms (λ t. none (suc t)))

-- What giving slots from matchings promises: one for each appointment, each the number of a matching, and a party meets a
-- slot at most as often as its matching names the party.
pub record SlotsGiven (xs : List Appt) (ms : List Graph) (plan : List ℕ) : Type 0 where
  pub plan_of : length plan ≡ length xs
  pub below : All (λ (s : ℕ). s < length ms) plan
  pub meets_le : (v s : ℕ) → meets v s xs plan ≤ degree v (get_or ms s [])

module _ (x : Appt) (xs : List Appt) (ms : List Graph) (enough : Enough (x ∷ xs) ms) where
  -- the appointment's own pair is there
  served : Lacks x.first x.second ms → ⊥
  served none =
      let a : ℕ = x.first in
      let b : ℕ = x.second in
      omega (arith, enough a b, weigh_appts_cons (between a b) x xs, between_self a b, lacking a b ms none)

  module _ (s : ℕ) (rest : List Graph) (g : Gave x.first x.second 0 ms s rest) where
    -- what is left is enough for the others
    enough_left : Enough xs rest
    enough_left u v =
        omega (arith, enough u v, weigh_appts_cons (between u v) x xs, g.copies (between u v) (between_symmetric u v))

    -- and their slots with this one are slots of all
    one_more : (plan : List ℕ) → SlotsGiven xs rest plan → SlotsGiven (x ∷ xs) ms (s ∷ plan)
    unfolding meets Appointments.names
    one_more plan h =
        record {
          plan_of = ap suc h.plan_of;
          below = (omega (arith, g.below), all_map (λ t l. omega (arith, g.as_many)) plan h.below);
          meets_le = λ v t. omega (arith, h.meets_le v t, rw zero-add at (g.taken (names v) (names_symmetric v) t));
        }

-- Slots given from matchings that hold all appointments.
pub give_slots_law :
    (xs : List Appt) (ms : List Graph) → All Positive ms → Enough xs ms → Ran (SlotsGiven xs ms) (give_slots xs ms)
unfolding give_slots meets
give_slots_law [] ms pos enough = record { plan_of = refl; below = tt; meets_le = λ v s. omega arith }
give_slots_law (x ∷ xs) ms pos enough =
    go (give x.first x.second 0 ms) (give_law x.first x.second 0 ms pos) (give_slots_law xs)
  where
    go :
        (r : Given) → Gives x.first x.second 0 ms r →
        ((rest : List Graph) → All Positive rest → Enough xs rest → Ran (SlotsGiven xs rest) (give_slots xs rest)) →
        Ran (SlotsGiven (x ∷ xs) ms) (with_slot r (λ s rest. and_then (give_slots xs rest) (λ slots. ran (s ∷ slots))))
    go none_left none later = absurd (served x xs ms enough none)
    go (given s rest) g later =
        ran_then (SlotsGiven xs rest) (SlotsGiven (x ∷ xs) ms) (give_slots xs rest) (λ slots. ran (s ∷ slots))
        (later rest g.positive (enough_left x xs ms enough s rest g))
        (one_more x xs ms enough s rest g)
