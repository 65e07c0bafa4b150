-- The appointments of a flat list from the newest down, and how many neighbours each party has among them. Assumes nothing.
use Prim.Native.Nat.{ℕ, zero, suc, ◌+◌, ◌*◌, ◌/◌}
use mathlib.Core.Path.{◌≡◌, refl, sym, ◌∙◌, ap}
use mathlib.Core.Bool.{Bool, true, false}
use mathlib.Core.List.{List, [], ◌∷◌, ◌++◌, reverse, reverse-cons}
use native.Mathlib.Omega.{arith}
use lib.Dec.{eqb}
use lib.ListN.{length}
use Rattle.words.specs.Basics.{pick, is, total}
use Rattle.words.specs.Words.{word}
use Rattle.appointments.specs.Appointments.{Appt, appt, appts, names, load}
use Rattle.appointments.proofs.Flat.{word_two}
use Rattle.bipartition.specs.TwoColor.{far_ends, second_ends, first_ends}

-- the first n appointments, the last of them first
unfoldable pub backwards : List ℕ → ℕ → List Appt
backwards list zero = []
backwards list (suc i) = appt (word list (2 * i)) (word list (2 * i + 1)) ∷ backwards list i

backwards_two : (a b : ℕ) (rest : List ℕ) (n : ℕ) → backwards (a ∷ b ∷ rest) (suc n) ≡ backwards rest n ++ (appt a b ∷ [])
unfolding backwards
backwards_two a b rest zero = refl
backwards_two a b rest (suc n) =
    rw (
      backwards_two a b rest n,
      word_two a b rest (2 * n) (2 * suc n) (omega arith),
      word_two a b rest (2 * n + 1) (2 * suc n + 1) (omega arith),
    )

pub reverse_appts : (list : List ℕ) → reverse (appts list) ≡ backwards list (length list / 2)
unfolding appts backwards
reverse_appts [] = refl
reverse_appts (a ∷ []) = refl
reverse_appts (a ∷ b ∷ rest) =
    let e : suc (length rest / 2) ≡ length (a ∷ b ∷ rest) / 2 = omega arith in
    reverse-cons (appt a b) (appts rest)
    ∙ ap (λ xs. xs ++ (appt a b ∷ [])) (reverse_appts rest)
    ∙ sym (backwards_two a b rest (length rest / 2))
    ∙ ap (backwards (a ∷ b ∷ rest)) e

-- ── how many neighbours a party has ──

kept_length : (t : Bool) (w : ℕ) (rest : List ℕ) → length (pick t (w ∷ rest) rest) ≡ pick t 1 0 + length rest
kept_length true w rest = omega arith
kept_length false w rest = omega arith

ends_length :
    (near far : Appt → ℕ) (v : ℕ) (x : Appt) (xs : List Appt) →
    length (far_ends near far v (x ∷ xs)) ≡ is v (near x) + length (far_ends near far v xs)
unfolding is far_ends
ends_length near far v x xs = kept_length (eqb v (near x)) (far x) (far_ends near far v xs)

-- A party has as many neighbours as its load.
pub ends_load : (v : ℕ) (xs : List Appt) → length (second_ends v xs) + length (first_ends v xs) ≡ load v xs
unfolding load total names far_ends
ends_load v [] = refl
ends_load v (x ∷ xs) =
    omega (
      arith,
      ends_length (λ x. x.first) (λ x. x.second) v x xs,
      ends_length (λ x. x.second) (λ x. x.first) v x xs,
      ends_load v xs,
    )
