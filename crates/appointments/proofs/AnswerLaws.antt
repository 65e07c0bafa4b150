-- What an answer tells of its checks, what a lent buffer holds after acceptance, and an answer from the `Result` by which code tells it
-- to its numbers. Assumes nothing.
use Prim.Native.Nat.{ℕ, ◌<◌}
use mathlib.Core.Path.{◌≡◌, refl, sym, ◌∙◌, ap}
use mathlib.Core.List.{List, ◌++◌}
use native.Mathlib.Omega.{arith}
use lib.ListN.{length, drop}
use Rattle.std.specs.Prelude.{Result, Ok, Err, IsErrAnd}
use Rattle.appointments.specs.Checks.{Check}
use Rattle.appointments.specs.Refusals.{refusal_number, refusal_place, told}
use Rattle.appointments.specs.declared.Refusal.{Refusal}
use Rattle.appointments.specs.Answers.{Answer, accepted, refused, answer, number_of, place_of, figures_of, figure_of, after}

module _ {F : Type 0} where
  -- no answer accepts and refuses; figures, number and place are those of the answer
  pub accepted_refused {ℓ} : {X : Type ℓ} (f : F) (n i : ℕ) → accepted f ≡ refused n i → X
  accepted_refused f n i e = let z : ◌≡◌ {A = ℕ} 0 1 = cc in absurd (omega arith)

  pub accepted_same : (f g : F) → accepted f ≡ accepted g → f ≡ g
  accepted_same f g e = cc

  pub refused_number : (n i k j : ℕ) → ◌≡◌ {A = Answer F} (refused n i) (refused k j) → n ≡ k
  refused_number n i k j e = cc

  pub refused_place : (n i k j : ℕ) → ◌≡◌ {A = Answer F} (refused n i) (refused k j) → i ≡ j
  refused_place n i k j e = cc

  -- an accepted answer: the checks passed, and the figures are the call's
  pub accepted_passed : (c : Check) (f g : F) → answer c f ≡ accepted g → (c ≡ Check.passed) × (f ≡ g)
  accepted_passed Check.passed f g e = (refl, (cc))
  accepted_passed (Check.refused number place) f g e =
      let z : ◌≡◌ {A = ℕ} 0 1 = cc in absurd (omega arith)

  -- a refusal is that of the checks
  pub refused_checked : (c : Check) (f : F) (n i : ℕ) → answer c f ≡ refused n i → c ≡ Check.refused n i
  refused_checked Check.passed f n i e = cc
  refused_checked (Check.refused k j) f n i e = cc

  -- a buffer after acceptance
  pub after_accepted : (a : Answer F) (f : F) (new buffer : List ℕ) → a ≡ accepted f → after a new buffer ≡ new ++ drop (length new) buffer
  after_accepted a f new buffer e = rw e

  -- and after a refusal
  pub after_refused : (a : Answer F) (number place : ℕ) (new buffer : List ℕ) → a ≡ refused number place → after a new buffer ≡ buffer
  after_refused a number place new buffer e = rw e

  -- its number and place
  pub passed_says : (a : Answer F) (f : F) → a ≡ accepted f → (0 ≡ number_of a) × (0 ≡ place_of a)
  passed_says a f e = rw e (refl, refl)

  pub barred_says : (a : Answer F) (n i : ℕ) → a ≡ refused n i → (n ≡ number_of a) × (i ≡ place_of a)
  barred_says a n i e = rw e (refl, refl)

  -- What an exported call tells fits 32 bits: p is the place of an answer, and x its figures, where those of a refusal fit too.
  place_below : (a : Answer F) → ((n i : ℕ) → a ≡ refused n i → i < 4294967296) → place_of a < 4294967296
  place_below (accepted f) h = omega arith
  place_below (refused n i) h = h n i refl

  pub place_fits : {a b : Answer F} {p : ℕ} → p ≡ place_of a → a ≡ b → ((n i : ℕ) → b ≡ refused n i → i < 4294967296) → p < 4294967296
  place_fits {a} {b} {p} is e h = rw (is, e) (place_below b h)

  figures_below : (which : F → ℕ) (none : F) (a : Answer F) → which none < 4294967296 → ((f : F) → a ≡ accepted f → which f < 4294967296) → which (figures_of none a) < 4294967296
  figures_below which none (accepted f) z h = h f refl
  figures_below which none (refused n i) z h = z

  pub figure_fits :
      (which : F → ℕ) {none x : F} {a b : Answer F} →
      x ≡ figures_of none a → a ≡ b → which none < 4294967296 → ((f : F) → b ≡ accepted f → which f < 4294967296) → which x < 4294967296
  figure_fits which {none} {x} {a} {b} is e z h = rw (is, e) (figures_below which none b z h)

-- ── an answer of one figure ──

pub accepted_says : (a : Answer ℕ) (n : ℕ) → a ≡ accepted n → (0 ≡ number_of a) × ((0 ≡ place_of a) × (n ≡ figure_of a))
accepted_says a n e = let s = passed_says a n e in (s.0, (s.1, (rw e)))

pub refused_says : (a : Answer ℕ) (n i : ℕ) → a ≡ refused n i → (n ≡ number_of a) × ((i ≡ place_of a) × (0 ≡ figure_of a))
refused_says a n i e = let s = barred_says a n i e in (s.0, (s.1, (rw e)))

-- ── from what was told to the answer ──

pub figures_told : {F : Type 0} (r : Result F Refusal) (a : Answer F) (f : F) → told r ≡ a → r ≡ Ok f → a ≡ accepted f
figures_told r a f e k = sym e ∙ ap told k

pub refusal_told : {F : Type 0} (r : Result F Refusal) (a : Answer F) (d : Refusal) → told r ≡ a → r ≡ Err d → a ≡ refused (refusal_number d) (refusal_place d)
refusal_told r a d e k = sym e ∙ ap told k

-- of one figure
pub one_figure : (r : Result ℕ Refusal) (a : Answer ℕ) (n : ℕ) → told r ≡ a → r ≡ Ok n → a ≡ accepted n
one_figure = figures_told

pub one_refusal : (r : Result ℕ Refusal) (a : Answer ℕ) (d : Refusal) → told r ≡ a → r ≡ Err d → a ≡ refused (refusal_number d) (refusal_place d)
one_refusal = refusal_told

-- and without a figure
pub no_figure : (r : Result Unit Refusal) (a : Answer Unit) → told r ≡ a → r ≡ Ok tt → a ≡ accepted tt
no_figure r a e k = figures_told r a tt e k

-- ── an answer that a `?` hands on ──

-- what the exit of a `?` returns
pub err_is : {T E : Type 0} (r : Result T E) (e : E) → IsErrAnd r (λ d. d ≡ e) → r ≡ Err e
err_is (Ok x) e h = absurd h
err_is (Err d) e h = ap Err h

-- It is told as the refusal that came.
pub handed_on : {F : Type 0} (r : Result F Refusal) (e : Refusal) (a : Answer F) → IsErrAnd r (λ d. d ≡ e) → refused (refusal_number e) (refusal_place e) ≡ a → told r ≡ a
handed_on r e a h k = rw (err_is r e h) k
