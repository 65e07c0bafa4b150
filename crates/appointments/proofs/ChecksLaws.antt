-- Checks 1 to 8 pass exactly the arguments that have the eight properties of document 01's table. Assumes nothing.
use Prim.Native.Nat.{ℕ, ◌*◌, ◌%◌, ◌<◌, ◌≤◌}
use mathlib.Core.Path.{◌≡◌, refl, sym, ◌∙◌}
use mathlib.Core.Bool.{Bool, true, false, and-true}
use mathlib.Core.List.{List}
use native.Mathlib.Omega.{arith}
use borrow.Author.Tests.{ne_eqb, le-ltb, lt-leb, eqb-false, ltb-false, leb-false}
use lib.Dec.{eqb, ltb, leb}
use lib.ListN.{length}
use Rattle.words.specs.Basics.{All}
use Rattle.words.proofs.Bools.{neither, both_false}
use Rattle.words.proofs.Sums.{all_map, all_both}
use Rattle.appointments.specs.Appointments.{Appt, appts, largest_load, scratch_words}
use Rattle.appointments.specs.Checks.{blank, First, at, nowhere, first_from, has_blank, unlisted, has_unlisted, Check, passed, refused, bar, bar_at, checks_1_to_5, checks_1_to_6, checks_1_to_8, checks}
use Rattle.appointments.proofs.Loads.{Listed, appts_length}
use Rattle.appointments.proofs.FirstFrom.{nowhere_all, all_nowhere}

-- ── what passing means ──

-- no end is blank
abbrev pub Filled : Appt → Type 0
Filled x = (x.first ≡ blank → ⊥) × (x.second ≡ blank → ⊥)

-- A list that passes checks 1 to 5.
pub record GoodList (P : ℕ) (list : List ℕ) : Type 0 where
  pub parties : P ≤ 1024
  pub even : length list % 2 ≡ 0
  pub few : length (appts list) ≤ 4096
  pub filled : All Filled (appts list)
  pub listed : All (Listed P) (appts list)

-- Arguments that pass checks 1 to 8.
pub record Passes (P : ℕ) (list : List ℕ) (slots scratch : ℕ) : Type 0 where
  pub good : GoodList P list
  pub product : largest_load P (appts list) * P ≤ 8192
  pub slot_room : length (appts list) ≤ slots
  pub scratch_room : scratch_words P (largest_load P (appts list)) ≤ scratch

-- a good list holds two numbers for each of its A appointments
pub good_length : {P : ℕ} {list : List ℕ} → GoodList P list → length list ≡ 2 * length (appts list)
good_length {P} {list} g = appts_length list g.even

-- ── the tests of checks 4 and 5 ──

pub filled_test : (x : Appt) → Filled x → has_blank x ≡ false
filled_test x h = both_false (ne_eqb x.first blank h.0) (ne_eqb x.second blank h.1)

pub test_filled : (x : Appt) → has_blank x ≡ false → Filled x
test_filled x e =
    let b = neither (eqb x.first blank) (eqb x.second blank) e in
    (eqb-false x.first blank b.0, eqb-false x.second blank b.1)

-- an end below P is not unlisted, and one that is not blank is unlisted exactly if it is not below P
module _ (P end : ℕ) where
  pub end_listed : end < P → unlisted P end ≡ false
  end_listed h = rw (lt-leb P end h)

  pub end_filled : (end ≡ blank → ⊥) → unlisted P end ≡ leb P end
  end_filled h = rw (ne_eqb end blank h) (and-true (leb P end))

pub listed_test : (P : ℕ) (x : Appt) → Listed P x → has_unlisted P x ≡ false
listed_test P x h = both_false (end_listed P x.first h.0) (end_listed P x.second h.1)

test_listed : (P : ℕ) (x : Appt) → Filled x × (has_unlisted P x ≡ false) → Listed P x
test_listed P x h =
    let b = neither (unlisted P x.first) (unlisted P x.second) h.1 in (
      leb-false P x.first (sym (end_filled P x.first h.0.0) ∙ b.0),
      leb-false P x.second (sym (end_filled P x.second h.0.1) ∙ b.1),
    )

-- where no end is blank and none unlisted, every end is a party
pub all_listed : (P : ℕ) (xs : List Appt) → All Filled xs → All (λ x. has_unlisted P x ≡ false) xs → All (Listed P) xs
all_listed P xs f h = all_map (test_listed P) xs (all_both Filled (λ x. has_unlisted P x ≡ false) xs f h)

-- check 2's test
pub even_test : (n : ℕ) → n % 2 ≡ 0 → eqb (n % 2) 1 ≡ false
even_test n e = ne_eqb (n % 2) 1 (λ o. omega arith)

pub test_even : (n : ℕ) → eqb (n % 2) 1 ≡ false → n % 2 ≡ 0
test_even n e = let n_odd : n % 2 ≡ 1 → ⊥ = eqb-false (n % 2) 1 e in omega arith

-- ── checks 1 to 5 ──

-- a good list passes on to what comes next
pub good_goes_on : (P : ℕ) (list : List ℕ) (next : Check) → GoodList P list → checks_1_to_5 P list next ≡ next
unfolding checks_1_to_5
good_goes_on P list next g =
    rw (
      le-ltb 1024 P g.parties,
      even_test (length list) g.even,
      le-ltb 4096 (length (appts list)) g.few,
      all_nowhere 0 has_blank (appts list) (all_map filled_test (appts list) g.filled),
      all_nowhere 0 (has_unlisted P) (appts list) (all_map (listed_test P) (appts list) g.listed),
    )

-- and so does one with D×P at most 8,192, through check 6
pub sized_goes_on : (P : ℕ) (list : List ℕ) (next : Check) → GoodList P list → largest_load P (appts list) * P ≤ 8192 → checks_1_to_6 P list next ≡ next
unfolding checks_1_to_6
sized_goes_on P list next g h = rw (le-ltb 8192 (largest_load P (appts list) * P) h) (good_goes_on P list next g)

-- Whoever has the eight properties passes on to what comes next,
pub passes_on :
    (P : ℕ) (list : List ℕ) (slots scratch : ℕ) (next : Check) → Passes P list slots scratch →
    checks_1_to_8 P list slots scratch next ≡ next
unfolding checks_1_to_8
passes_on P list slots scratch next p =
    rw (
      le-ltb slots (length (appts list)) p.slot_room,
      le-ltb scratch (scratch_words P (largest_load P (appts list))) p.scratch_room,
    )
    (sized_goes_on P list next p.good p.product)

-- and passes if nothing does.
pub passes_passed : (P : ℕ) (list : List ℕ) (slots scratch : ℕ) → Passes P list slots scratch → checks P list slots scratch ≡ passed
passes_passed P list slots scratch p = passes_on P list slots scratch passed p

-- ── one check ──

pub refused_passed {ℓ} : {X : Type ℓ} (n i : ℕ) → refused n i ≡ passed → X
refused_passed n i e = let z : ◌≡◌ {A = ℕ} 0 1 = cc in absurd (omega arith)

pub bar_passed : (t : Bool) (n : ℕ) (next : Check) → bar t n next ≡ passed → (t ≡ false) × (next ≡ passed)
bar_passed true n next e = refused_passed n 0 e
bar_passed false n next e = (refl, e)

pub bar_at_passed : (f : First) (n : ℕ) (next : Check) → bar_at f n next ≡ passed → (f ≡ nowhere) × (next ≡ passed)
bar_at_passed (at i) n next e = refused_passed n i e
bar_at_passed nowhere n next e = (refl, e)

-- ── what passed says ──

-- what passes checks 1 to 5 is a good list, and what comes next passes too
pub passed_good : (P : ℕ) (list : List ℕ) (next : Check) → checks_1_to_5 P list next ≡ passed → GoodList P list × (next ≡ passed)
unfolding checks_1_to_5
passed_good P list next e =
    let c₁ = bar_passed (ltb 1024 P) 1 _ e in
    let c₂ = bar_passed (eqb (length list % 2) 1) 2 _ c₁.1 in
    let c₃ = bar_passed (ltb 4096 (length (appts list))) 3 _ c₂.1 in
    let c₄ = bar_at_passed (first_from 0 has_blank (appts list)) 4 _ c₃.1 in
    let c₅ = bar_at_passed (first_from 0 (has_unlisted P) (appts list)) 5 next c₄.1 in
    let filled = all_map test_filled (appts list) (nowhere_all 0 has_blank (appts list) c₄.0) in (
      record {
        parties = ltb-false 1024 P c₁.0;
        even = test_even (length list) c₂.0;
        few = ltb-false 4096 (length (appts list)) c₃.0;
        filled = filled;
        listed = all_listed P (appts list) filled (nowhere_all 0 (has_unlisted P) (appts list) c₅.0);
      },
      c₅.1,
    )

-- what passes checks 1 to 6 has D×P at most 8,192 too
pub passed_sized : (P : ℕ) (list : List ℕ) (next : Check) → checks_1_to_6 P list next ≡ passed → GoodList P list × (largest_load P (appts list) * P ≤ 8192) × (next ≡ passed)
unfolding checks_1_to_6
passed_sized P list next e =
    let D : ℕ = largest_load P (appts list) in
    let c₅ = passed_good P list _ e in
    let c₆ = bar_passed (ltb 8192 (D * P)) 6 next c₅.1 in
    (c₅.0, ltb-false 8192 (D * P) c₆.0, c₆.1)

-- Whoever passes, with what comes next, has the eight properties, and what comes next passes too.
pub passed_all :
    (P : ℕ) (list : List ℕ) (slots scratch : ℕ) (next : Check) → checks_1_to_8 P list slots scratch next ≡ passed →
    Passes P list slots scratch × (next ≡ passed)
unfolding checks_1_to_8
passed_all P list slots scratch next e =
    let D : ℕ = largest_load P (appts list) in
    let c₆ = passed_sized P list _ e in
    let c₇ = bar_passed (ltb slots (length (appts list))) 7 _ c₆.2 in
    let c₈ = bar_passed (ltb scratch (scratch_words P D)) 8 next c₇.1 in (
      record {
        good = c₆.0;
        product = c₆.1;
        slot_room = ltb-false slots (length (appts list)) c₇.0;
        scratch_room = ltb-false scratch (scratch_words P D) c₈.0;
      },
      c₈.1,
    )

pub passed_passes : (P : ℕ) (list : List ℕ) (slots scratch : ℕ) → checks P list slots scratch ≡ passed → Passes P list slots scratch
passed_passes P list slots scratch e = (passed_all P list slots scratch passed e).0

-- ── checks that go on ──
--
-- For a call that asks more than checks 1 to 8. Where they refuse, `refused_stays` (Causes.antt) has it.

module _ (P : ℕ) (list : List ℕ) (slots scratch : ℕ) (next : Check) where
  -- where they pass, what comes next decides;
  pub passed_goes_on : checks P list slots scratch ≡ passed → checks_1_to_8 P list slots scratch next ≡ next
  passed_goes_on e = passes_on P list slots scratch next (passed_passes P list slots scratch e)

  -- where all pass, they do and what comes next does.
  pub passed_both : checks_1_to_8 P list slots scratch next ≡ passed → (checks P list slots scratch ≡ passed) × (next ≡ passed)
  passed_both e =
      let p = passed_all P list slots scratch next e in
      (passes_passed P list slots scratch p.0, p.1)
