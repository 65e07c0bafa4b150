-- The figures of the answers and the places of the refusals fit 32 bits. Assumes nothing.
use Prim.Native.Nat.{ℕ, ◌*◌, ◌%◌, ◌<◌, ◌≤◌}
use mathlib.Core.Path.{◌≡◌}
use mathlib.Core.Bool.{Bool, not, ◌||◌}
use mathlib.Core.List.{List}
use native.Mathlib.Omega.{arith}
use borrow.Author.Tests.{ltb-false}
use lib.Dec.{eqb, ltb, leb}
use lib.ListN.{length}
use Rattle.appointments.specs.Appointments.{appts}
use Rattle.appointments.specs.Checks.{at, Check, first_from, has_blank, has_unlisted, bar, checks_1_to_5, checks_with_slots}
use Rattle.appointments.specs.Needed.{needing, needs_answer}
use Rattle.checking.proofs.Answering.{needs_small, needs_refusal_small}
use Rattle.appointments.proofs.AnswerLaws.{refused_checked, accepted_refused}
use Rattle.appointments.proofs.Causes.{bar_cause, bar_at_cause, never_refused}
use Rattle.appointments.proofs.FirstFrom.{found_is_first}
use Rattle.appointments.specs.Answers.{Answer, accepted, refused}
use Rattle.asking.specs.Waiting.{waiting, waiting_checks, waiting_answer}
use Rattle.asking_many.specs.Many.{many_checks, many_answer}
use Rattle.filing.specs.Filed.{filed_length, writing_checks, writing_answer, header_of, header, reading_checks, reading_answer}
use Rattle.viewing.specs.Viewer.{viewer_checks, viewer_answer}
use Rattle.bimtsure_c.specs.Viewed.{shown}
use Rattle.bimtsure_c.specs.declared.Shown.{Shown}
use Rattle.filing.proofs.FiledLaws.{accepted_writable, accepted_readable}

-- a refusal's place below 2^32, whatever its number is
abbrev pub PlaceFits : ℕ → ℕ → Type 0
PlaceFits n i = i < 4294967296

-- one check with place 0
bar_fits : (t : Bool) (k : ℕ) (next : Check) (n i : ℕ) → (next ≡ Check.refused n i → PlaceFits n i) → bar t k next ≡ Check.refused n i → PlaceFits n i
bar_fits t k next n i later = bar_cause PlaceFits t k next n i (λ q. omega arith) (λ q. later)

-- the first position of a short list
first_fits : {A : Type 0} (test : A → Bool) (xs : List A) (j : ℕ) → length xs ≤ 4096 → first_from 0 test xs ≡ at j → j < 4294967296
first_fits test xs j h e = omega (arith, (found_is_first test xs j e).inside)

-- ── how much scratch a list needs ──

module _ (P : ℕ) (list : List ℕ) where
  pub needs_fit : (D W : ℕ) → needs_answer P list ≡ accepted (needing D W) → (D < 4294967296) × (W < 4294967296)
  needs_fit D W e = omega (arith, needs_small P list D W e)

  pub needs_refusal_fits : (n i : ℕ) → needs_answer P list ≡ refused n i → PlaceFits n i
  needs_refusal_fits n i e = omega (arith, needs_refusal_small P list n i e)

-- ── checks 1 to 5 and 7, then others: waiting, and asking for many parties ──

module _ (P : ℕ) (list slots : List ℕ) where
  checks_fit : (next : Check) (n i : ℕ) → (next ≡ Check.refused n i → PlaceFits n i) → checks_1_to_5 P list next ≡ Check.refused n i → PlaceFits n i
  unfolding checks_1_to_5
  checks_fit next n i later =
      bar_fits (ltb 1024 P) 1 _ n i
      (bar_fits (eqb (length list % 2) 1) 2 _ n i
      (bar_cause PlaceFits (ltb 4096 (length (appts list))) 3 _ n i (λ q. omega arith) λ t.
      let few : length (appts list) ≤ 4096 = ltb-false 4096 (length (appts list)) t in
      bar_at_cause PlaceFits (first_from 0 has_blank (appts list)) 4 _ n i (λ j q. first_fits has_blank (appts list) j few q) λ q.
      bar_at_cause PlaceFits (first_from 0 (has_unlisted P) (appts list)) 5 _ n i (λ j q. first_fits (has_unlisted P) (appts list) j few q) λ q.
      later))

  with_slots_fit : (next : Check) (n i : ℕ) → (next ≡ Check.refused n i → PlaceFits n i) → checks_with_slots P list (length slots) next ≡ Check.refused n i → PlaceFits n i
  unfolding checks_with_slots
  with_slots_fit next n i later = checks_fit _ n i (bar_fits (ltb (length slots) (length (appts list))) 7 next n i later)

  pub waiting_refusal_fits : (party n i : ℕ) → waiting_answer P list slots party ≡ refused n i → PlaceFits n i
  unfolding waiting_answer waiting_checks
  waiting_refusal_fits party n i e =
      with_slots_fit _ n i
      (bar_fits (leb P party) 5 Check.passed n i (never_refused n i))
      (refused_checked (waiting_checks P list (length slots) party) (waiting (appts list) slots party) n i e)

  pub many_refusal_fits : (queries output : List ℕ) (n i : ℕ) → many_answer P list slots queries output ≡ refused n i → PlaceFits n i
  unfolding many_answer many_checks
  many_refusal_fits queries output n i e =
      with_slots_fit _ n i
      (bar_cause PlaceFits (ltb 64 (length queries)) 14 _ n i (λ q. omega arith) λ t.
      let few : length queries ≤ 64 = ltb-false 64 (length queries) t in
      bar_at_cause PlaceFits (first_from 0 (leb P) queries) 15 _ n i (λ j q. first_fits (leb P) queries j (omega arith) q) λ q.
      bar_fits (ltb (length output) (3 * length queries)) 13 Check.passed n i (never_refused n i))
      (refused_checked (many_checks P list (length slots) queries (length output)) tt n i e)

-- ── the filed plan ──

module _ (P : ℕ) (list slots output : List ℕ) where
  pub writing_fits : (n : ℕ) → writing_answer P list slots output ≡ accepted n → n < 4294967296
  writing_fits n e = let w = accepted_writable P list slots output n e in omega (arith, w.0.few, w.1)

  pub writing_refusal_fits : (n i : ℕ) → writing_answer P list slots output ≡ refused n i → PlaceFits n i
  unfolding writing_answer
  writing_refusal_fits n i e =
      bar_fits (ltb 1024 P) 1 _ n i
      (bar_fits (eqb (length list % 2) 1) 2 _ n i
      (bar_fits (ltb 4096 (length (appts list))) 3 _ n i
      (bar_fits (ltb (length slots) (length (appts list))) 7 _ n i
      (bar_fits (ltb (length output) (filed_length (length (appts list)))) 13 _ n i (never_refused n i)))))
      (refused_checked (writing_checks P list slots output) (filed_length (length (appts list))) n i e)

module _ (bytes list slots : List ℕ) where
  pub reading_fits : (P A : ℕ) → reading_answer bytes list slots ≡ accepted (header_of P A) → A < 4294967296
  reading_fits P A e =
      let r = accepted_readable bytes list slots (header_of P A) e in
      let k : (header bytes).appointments ≡ A = cc in
      omega (arith, r.0.few)

  pub reading_refusal_fits : (n i : ℕ) → reading_answer bytes list slots ≡ refused n i → PlaceFits n i
  unfolding reading_answer
  reading_refusal_fits n i e =
      let A : ℕ = (header bytes).appointments in
      bar_fits (ltb (length bytes) 4 || not (eqb (length bytes) (filed_length A))) 12 _ n i
      (bar_fits (ltb 1024 (header bytes).parties) 1 _ n i
      (bar_fits (ltb 4096 A) 3 _ n i
      (bar_fits (ltb (length list) (2 * A) || ltb (length slots) A) 13 _ n i (never_refused n i))))
      (refused_checked (reading_checks bytes list slots) (header bytes) n i e)

-- ── the viewer ──

pub viewer_refusal_fits : (list slots : List ℕ) (n i : ℕ) → viewer_answer list slots ≡ refused n i → PlaceFits n i
unfolding viewer_answer
viewer_refusal_fits list slots n i e =
    bar_fits (eqb (length list % 2) 1) 2 _ n i
    (bar_fits (ltb (length slots) (length (appts list))) 7 _ n i (never_refused n i))
    (refused_checked (viewer_checks list slots) tt n i e)

-- a step is refused as opening is
shown_refused : (a : Answer Unit) (s : Shown) (n i : ℕ) → shown a s ≡ refused n i → a ≡ refused n i
shown_refused (accepted u) s n i e = accepted_refused s n i e
shown_refused (refused k j) s n i e = cc

pub shown_refusal_fits : (list slots : List ℕ) (s : Shown) (n i : ℕ) → shown (viewer_answer list slots) s ≡ refused n i → PlaceFits n i
shown_refusal_fits list slots s n i e = viewer_refusal_fits list slots n i (shown_refused (viewer_answer list slots) s n i e)
