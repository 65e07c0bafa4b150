-- The walk's laws, one for both tests: what is kept after one more appointment, and after the last. Assumes nothing.
use Prim.Native.Nat.{ℕ, ◌+◌, ◌*◌, ◌/◌, ◌<◌, ◌≤◌}
use mathlib.Core.Path.{◌≡◌, refl, sym, ◌∙◌, ap}
use mathlib.Core.Bool.{Bool, true, false, ◌||◌}
use mathlib.Core.List.{List, []}
use native.Mathlib.Omega.{arith}
use lib.Dec.{eqb}
use lib.ListN.{length, drop}
use Rattle.std.specs.Prelude.{Option, Some, None}
use Rattle.words.specs.Basics.{pick}
use Rattle.words.specs.Words.{word}
use Rattle.appointments.specs.Appointments.{Appt, appts}
use Rattle.appointments.specs.Checks.{blank, First, at, nowhere, first_of, first_from}
use Rattle.appointments.proofs.Flat.{appts_count, rest_cons, rest_none}
use Rattle.bad_ends.specs.Noted.{noted, or_first, Kept}

-- check 4's test of an end
abbrev pub is_blank : ℕ → Bool
is_blank end = eqb end blank

-- an appointment passes where one of its ends does
abbrev pub either_end : (ℕ → Bool) → Appt → Bool
either_end bad x = bad x.first || bad x.second

or_nowhere : (f : First) → or_first f nowhere ≡ f
or_nowhere (at i) = refl
or_nowhere nowhere = refl

-- both ends of position i noted, or else what comes later
noted_position :
    (i : ℕ) (t u : Bool) (kept : Option ℕ) (later : First) →
    or_first (first_of (noted i u (noted i t kept))) later ≡ or_first (first_of kept) (pick (t || u) (at i) later)
noted_position i true true None later = refl
noted_position i true true (Some k) later = refl
noted_position i true false None later = refl
noted_position i true false (Some k) later = refl
noted_position i false true None later = refl
noted_position i false true (Some k) later = refl
noted_position i false false None later = refl
noted_position i false false (Some k) later = refl

module _ (bad : ℕ → Bool) (list : List ℕ) (i : ℕ) where
  -- one appointment more: both of its ends are noted
  pub kept_more :
      (before between after : Option ℕ) → i < length list / 2 →
      between ≡ noted i (bad (word list (2 * i))) before →
      after ≡ noted i (bad (word list (2 * i + 1))) between →
      Kept (either_end bad) (appts list) i before → Kept (either_end bad) (appts list) (i + 1) after
  unfolding first_from
  kept_more before between after inside e f kept =
      let t = bad (word list (2 * i)) in
      let u = bad (word list (2 * i + 1)) in
      let later = first_from (i + 1) (either_end bad) (drop (i + 1) (appts list)) in
      let both : after ≡ noted i u (noted i t before) = f ∙ ap (noted i u) e in
      let rest : first_from i (either_end bad) (drop i (appts list)) ≡ pick (t || u) (at i) later =
      ap (first_from i (either_end bad)) (rest_cons list i inside) in
      ap (λ n. or_first (first_of n) later) both
      ∙ noted_position i t u before later
      ∙ ap (or_first (first_of before)) (sym rest)
      ∙ kept

  -- after the last it is the first of the whole list
  pub kept_all :
      (last : Option ℕ) → length list / 2 ≤ i → Kept (either_end bad) (appts list) i last →
      first_of last ≡ first_from 0 (either_end bad) (appts list)
  unfolding first_from
  kept_all last past kept =
      let rest : drop i (appts list) ≡ [] = rest_none (appts list) i (omega (arith, appts_count list)) in
      let none : first_from i (either_end bad) (drop i (appts list)) ≡ nowhere = ap (first_from i (either_end bad)) rest in
      sym (or_nowhere (first_of last)) ∙ ap (or_first (first_of last)) (sym none) ∙ kept
