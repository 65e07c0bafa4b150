-- Document 01's table of refusals, checks 1 to 8: a number and a place are given exactly where the cause beside them holds
-- and every earlier check passed. Assumes nothing.
use Prim.Native.Nat.{ℕ, ◌*◌, ◌%◌, ◌≤◌, ◌<◌}
use mathlib.Core.Path.{◌≡◌, refl, sym, subst₂}
use mathlib.Core.Bool.{Bool, true, false}
use mathlib.Core.List.{List}
use native.Mathlib.Omega.{arith}
use borrow.Author.Tests.{eq-eqb, lt-ltb, le-ltb, eqb-true, ltb-true, ltb-false}
use lib.Dec.{eqb, ltb}
use lib.ListN.{length}
use Rattle.words.specs.Basics.{All}
use Rattle.words.proofs.Sums.{all_map}
use Rattle.appointments.specs.Appointments.{appts, largest_load, scratch_words}
use Rattle.appointments.specs.Checks.{First, at, nowhere, first_from, FirstAt, has_blank, has_unlisted, Check, passed, refused, bar, bar_at, checks_1_to_5, checks_1_to_6, checks_1_to_8, checks}
use Rattle.appointments.proofs.Loads.{Listed}
use Rattle.appointments.proofs.FirstFrom.{nowhere_all, all_nowhere, found_is_first, first_is_found}
use Rattle.appointments.proofs.ChecksLaws.{Filled, GoodList, filled_test, test_filled, all_listed, even_test, test_even, good_goes_on, refused_passed}

-- The cause of each number and place.
pub data Cause (P : ℕ) (list : List ℕ) (slots scratch : ℕ) : ℕ → ℕ → Type 0 where
  many_parties : 1024 < P → Cause P list slots scratch 1 0
  odd_length : P ≤ 1024 → length list % 2 ≡ 1 → Cause P list slots scratch 2 0
  many_appts : P ≤ 1024 → length list % 2 ≡ 0 → 4096 < length (appts list) → Cause P list slots scratch 3 0
  blank_end : {i : ℕ} → P ≤ 1024 → length list % 2 ≡ 0 → length (appts list) ≤ 4096 → FirstAt has_blank (appts list) i → Cause P list slots scratch 4 i
  unlisted_end : {i : ℕ} → P ≤ 1024 → length list % 2 ≡ 0 → length (appts list) ≤ 4096 → All Filled (appts list) → FirstAt (has_unlisted P) (appts list) i → Cause P list slots scratch 5 i
  large_product : GoodList P list → 8192 < largest_load P (appts list) * P → Cause P list slots scratch 6 0
  few_slots : GoodList P list → largest_load P (appts list) * P ≤ 8192 → slots < length (appts list) → Cause P list slots scratch 7 0
  small_scratch : GoodList P list → largest_load P (appts list) * P ≤ 8192 → length (appts list) ≤ slots → scratch < scratch_words P (largest_load P (appts list)) → Cause P list slots scratch 8 0

-- ── from the cause to the refusal ──

module _ (P : ℕ) (list : List ℕ) (slots scratch : ℕ) where
  -- Each cause gives its number and place, whatever comes after checks 1 to 8.
  pub cause_refused :
      {n i : ℕ} (next : Check) → Cause P list slots scratch n i → checks_1_to_8 P list slots scratch next ≡ refused n i
  unfolding checks_1_to_8 checks_1_to_6 checks_1_to_5
  cause_refused next (many_parties h) = rw (lt-ltb 1024 P h)
  cause_refused next (odd_length p h) = rw (le-ltb 1024 P p, eq-eqb (length list % 2) 1 h)
  cause_refused next (many_appts p e h) =
      rw (le-ltb 1024 P p, even_test (length list) e, lt-ltb 4096 (length (appts list)) h)
  cause_refused next (blank_end {i} p e a h) =
      rw (
        le-ltb 1024 P p,
        even_test (length list) e,
        le-ltb 4096 (length (appts list)) a,
        first_is_found has_blank (appts list) i h,
      )
  cause_refused next (unlisted_end {i} p e a f h) =
      rw (
        le-ltb 1024 P p,
        even_test (length list) e,
        le-ltb 4096 (length (appts list)) a,
        all_nowhere 0 has_blank (appts list) (all_map filled_test (appts list) f),
        first_is_found (has_unlisted P) (appts list) i h,
      )
  cause_refused next (large_product g h) = rw (lt-ltb 8192 (largest_load P (appts list) * P) h) (good_goes_on P list (refused 6 0) g)
  cause_refused next (few_slots g p h) =
      rw (le-ltb 8192 (largest_load P (appts list) * P) p, lt-ltb slots (length (appts list)) h)
      (good_goes_on P list (refused 7 0) g)
  cause_refused next (small_scratch g p r h) =
      rw (
        le-ltb 8192 (largest_load P (appts list) * P) p,
        le-ltb slots (length (appts list)) r,
        lt-ltb scratch (scratch_words P (largest_load P (appts list))) h,
      )
      (good_goes_on P list (refused 8 0) g)

-- ── from the refusal to the cause ──

-- one check: its own cause, or a later one
pub bar_cause : (C : ℕ → ℕ → Type 0) (t : Bool) (k : ℕ) (next : Check) (n i : ℕ) → (t ≡ true → C k 0) → (t ≡ false → next ≡ refused n i → C n i) → bar t k next ≡ refused n i → C n i
bar_cause C true k next n i own later e =
    let number : k ≡ n = cc in
    let place : 0 ≡ i = cc in
    subst₂ C number place (own refl)
bar_cause C false k next n i own later e = later refl e

pub bar_at_cause : (C : ℕ → ℕ → Type 0) (f : First) (k : ℕ) (next : Check) (n i : ℕ) → ((j : ℕ) → f ≡ at j → C k j) → (f ≡ nowhere → next ≡ refused n i → C n i) → bar_at f k next ≡ refused n i → C n i
bar_at_cause C (at j) k next n i own later e =
    let number : k ≡ n = cc in
    let place : j ≡ i = cc in
    subst₂ C number place (own j refl)
bar_at_cause C nowhere k next n i own later e = later refl e

pub never_refused {ℓ} : {X : Type ℓ} (n i : ℕ) → passed ≡ refused n i → X
never_refused n i e = refused_passed n i (sym e)

module _ (P : ℕ) (list : List ℕ) (slots scratch n i : ℕ) where
  -- checks 6 to 8, of a good list
  late_cause : GoodList P list → bar (ltb 8192 (largest_load P (appts list) * P)) 6 (bar (ltb slots (length (appts list))) 7 (bar (ltb scratch (scratch_words P (largest_load P (appts list)))) 8 passed)) ≡ refused n i → Cause P list slots scratch n i
  late_cause g =
      let C : ℕ → ℕ → Type 0 = Cause P list slots scratch in
      let D : ℕ = largest_load P (appts list) in
      let A : ℕ = length (appts list) in
      bar_cause C (ltb 8192 (D * P)) 6 _ n i (λ t. large_product g (ltb-true 8192 (D * P) t)) λ t₆.
      bar_cause C (ltb slots A) 7 _ n i (λ t. few_slots g (ltb-false 8192 (D * P) t₆) (ltb-true slots A t)) λ t₇.
      bar_cause C (ltb scratch (scratch_words P D)) 8 passed n i
      (λ t. small_scratch g (ltb-false 8192 (D * P) t₆) (ltb-false slots A t₇) (ltb-true scratch (scratch_words P D) t)) λ t₈.
      never_refused n i

  -- A refusal has the cause that its number and place name.
  pub refused_cause : checks P list slots scratch ≡ refused n i → Cause P list slots scratch n i
  unfolding checks_1_to_8 checks_1_to_6 checks_1_to_5
  refused_cause =
      let C : ℕ → ℕ → Type 0 = Cause P list slots scratch in
      let A : ℕ = length (appts list) in
      bar_cause C (ltb 1024 P) 1 _ n i (λ t. many_parties (ltb-true 1024 P t)) λ t₁.
      let p : P ≤ 1024 = ltb-false 1024 P t₁ in
      bar_cause C (eqb (length list % 2) 1) 2 _ n i (λ t. odd_length p (eqb-true (length list % 2) 1 t)) λ t₂.
      let e : length list % 2 ≡ 0 = test_even (length list) t₂ in
      bar_cause C (ltb 4096 A) 3 _ n i (λ t. many_appts p e (ltb-true 4096 A t)) λ t₃.
      let a : A ≤ 4096 = ltb-false 4096 A t₃ in
      bar_at_cause C (first_from 0 has_blank (appts list)) 4 _ n i
      (λ j t. blank_end p e a (found_is_first has_blank (appts list) j t)) λ t₄.
      let f : All Filled (appts list) = all_map test_filled (appts list) (nowhere_all 0 has_blank (appts list) t₄) in
      bar_at_cause C (first_from 0 (has_unlisted P) (appts list)) 5 _ n i
      (λ j t. unlisted_end p e a f (found_is_first (has_unlisted P) (appts list) j t)) λ t₅.
      let l : All (Listed P) (appts list) = all_listed P (appts list) f (nowhere_all 0 (has_unlisted P) (appts list) t₅) in
      late_cause (record { parties = p; even = e; few = a; filled = f; listed = l })

-- A refusal of checks 1 to 8 stays, whatever comes after them.
pub refused_stays :
    (P : ℕ) (list : List ℕ) (slots scratch : ℕ) (next : Check) (n i : ℕ) → checks P list slots scratch ≡ refused n i →
    checks_1_to_8 P list slots scratch next ≡ refused n i
refused_stays P list slots scratch next n i e =
    cause_refused P list slots scratch next (refused_cause P list slots scratch n i e)

-- Checks 1 to 8 refuse with their own numbers, and their places are 0 or lie in a list of at most 4,096 appointments.
pub cause_number : {P : ℕ} {list : List ℕ} {slots scratch n i : ℕ} → Cause P list slots scratch n i → (0 < n) × (n ≤ 8) × (i ≤ 4096)
cause_number (many_parties h) = omega arith
cause_number (odd_length p h) = omega arith
cause_number (many_appts p e h) = omega arith
cause_number (blank_end p e a h) = omega (arith, h.inside)
cause_number (unlisted_end p e a f h) = omega (arith, h.inside)
cause_number (large_product g h) = omega arith
cause_number (few_slots g p h) = omega arith
cause_number (small_scratch g p r h) = omega arith
