-- The number of a time in a list: where it is there, it stands at its number, and in a list that rises each entry has its own
-- place for its number. Assumes nothing.
use Prim.Native.Nat.{ℕ, zero, suc, ◌+◌, ◌<◌, ◌≤◌}
use mathlib.Core.Path.{◌≡◌, refl, ap, ◌∙◌}
use mathlib.Core.Bool.{Bool, true, false, not, cond}
use mathlib.Core.List.{List, [], ◌∷◌}
use native.Mathlib.Omega.{arith}
use native.Mathlib.Decide.{ℕ_discrete}
use borrow.Author.Tests.{eq-eqb, ne_eqb, eqb-true, eqb-false, ltb-true, ltb-false}
use lib.Dec.{eqb, ltb}
use lib.ListN.{length, get_or}
use Rattle.std.specs.Prelude.{Option, Some, None, MatchOption}
use Rattle.std.specs.List.{position_or_len}
use Rattle.words.specs.Basics.{pick}
use Rattle.calendar.specs.Calendar.{number_in, Rising}

-- ── one entry more ──

pub number_here : (x t : ℕ) (xs : List ℕ) → x ≡ t → number_in (x ∷ xs) t ≡ 0
unfolding number_in
number_here x t xs e = rw (eq-eqb x t e)

pub number_later : (x t : ℕ) (xs : List ℕ) → (x ≡ t → ⊥) → number_in (x ∷ xs) t ≡ suc (number_in xs t)
unfolding number_in
number_later x t xs n = rw (ne_eqb x t n)

-- ── the number tells where it stands ──

-- the time stands at its number
pub number_found : (xs : List ℕ) (t : ℕ) → number_in xs t < length xs → get_or xs (number_in xs t) 0 ≡ t
number_found [] t h = absurd (omega arith)
number_found (x ∷ xs) t h = go (eqb x t) refl (number_found xs t)
  where
    go : (b : Bool) → eqb x t ≡ b → (number_in xs t < length xs → get_or xs (number_in xs t) 0 ≡ t) → get_or (x ∷ xs) (number_in (x ∷ xs) t) 0 ≡ t
    go true e rest = rw (number_here x t xs (eqb-true x t e)) (eqb-true x t e)
    go false e rest =
        let later = number_later x t xs (eqb-false x t e) in
        rw later (rest (omega arith))

-- ── where it stands tells its number ──

-- none of the first k is the time
abbrev pub NoneBefore : List ℕ → ℕ → ℕ → Type 0
NoneBefore xs t k = (i : ℕ) → i < k → get_or xs i 0 ≡ t → ⊥

pub none_more : (xs : List ℕ) (t k : ℕ) → NoneBefore xs t k → (get_or xs k 0 ≡ t → ⊥) → NoneBefore xs t (k + 1)
none_more xs t k none n i l e = elim (ℕ_discrete i k) [ yes q ↦ n (rw q at e) | no q ↦ none i (omega arith) e ]

none_later : (x t k : ℕ) (xs : List ℕ) → NoneBefore (x ∷ xs) t (suc k) → NoneBefore xs t k
none_later x t k xs none i l = none (suc i) (omega arith)

-- at place k, and none before it
pub first_number : (xs : List ℕ) (t k : ℕ) → k < length xs → get_or xs k 0 ≡ t → NoneBefore xs t k → number_in xs t ≡ k
first_number [] t k h e none = absurd (omega arith)
first_number (x ∷ xs) t zero h e none = number_here x t xs e
first_number (x ∷ xs) t (suc k) h e none =
    number_later x t xs (none 0 (omega arith)) ∙ ap suc (first_number xs t k (omega arith) e (none_later x t k xs none))

-- nowhere
pub no_number : (xs : List ℕ) (t : ℕ) → NoneBefore xs t (length xs) → number_in xs t ≡ length xs
unfolding number_in
no_number [] t none = refl
no_number (x ∷ xs) t none =
    number_later x t xs (none 0 (omega arith)) ∙ ap suc (no_number xs t (none_later x t (length xs) xs none))

-- In a list that rises each entry's number is its place.
pub rising_number : (xs : List ℕ) → Rising xs → (k : ℕ) → k < length xs → number_in xs (get_or xs k 0) ≡ k
rising_number xs rises k h = first_number xs (get_or xs k 0) k h refl (λ i l e. omega (arith, rises i k l h))

-- ── the place that the code finds ──

-- the first place that passes the test is the number
place_is_number : (xs : List ℕ) (t : ℕ) → position_or_len (λ x. eqb x t) xs ≡ number_in xs t
unfolding number_in
place_is_number [] t = refl
place_is_number (x ∷ xs) t = go (eqb x t) _ _ (place_is_number xs t)
  where
    go : (b : Bool) (place number : ℕ) → place ≡ number → cond (not b) (1 + place) 0 ≡ pick b 0 (suc number)
    go true place number e = refl
    go false place number e = omega arith

pub place_numbered :
    (xs : List ℕ) (t : ℕ) (r : Option ℕ) → (let n : ℕ = position_or_len (λ x. eqb x t) xs in r ≡ cond (ltb n (length xs)) (Some n) None) →
    MatchOption r (length xs ≤ number_in xs t) (λ k. (k ≡ number_in xs t) × (k < length xs))
place_numbered xs t r e = rw (e, place_is_number xs t) (go (ltb (number_in xs t) (length xs)) refl)
  where
    go :
        (b : Bool) → ltb (number_in xs t) (length xs) ≡ b →
        MatchOption (cond b (Some (number_in xs t)) None) (length xs ≤ number_in xs t) (λ k. (k ≡ number_in xs t) × (k < length xs))
    go true h = (refl, ltb-true (number_in xs t) (length xs) h)
    go false h = ltb-false (number_in xs t) (length xs) h
