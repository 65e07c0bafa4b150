-- What the definition of a first position has in it, and that no caller notices that check 5 passes blank ends over. Assumes nothing.
use Prim.Native.Nat.{ℕ}
use mathlib.Core.Path.{◌≡◌, refl, sym, ◌∙◌}
use mathlib.Core.Bool.{Bool}
use mathlib.Core.List.{List}
use Rattle.words.proofs.Sums.{all_map}
use Rattle.appointments.specs.Appointments.{Appt, appts}
use Rattle.appointments.specs.Checks.{First, at, nowhere, first_from, has_blank, has_unlisted, bar_at}
use Rattle.appointments.specs.BadEnds.{Remembered, has_not_below, Unnoticed}
use Rattle.appointments.proofs.FirstFrom.{nowhere_all, all_nowhere, found_is_first, first_is_found, first_same}
use Rattle.appointments.proofs.ChecksLaws.{Filled, test_filled, end_filled}

-- What the definition gives is what is to be remembered.
pub remembered : (test : Appt → Bool) (xs : List Appt) (f : First) → f ≡ first_from 0 test xs → Remembered test xs f
remembered test xs f e =
    record {
      same = e;
      found = λ i. (λ h. found_is_first test xs i (sym e ∙ h), λ h. e ∙ first_is_found test xs i h);
      none = (λ h. nowhere_all 0 test xs (sym e ∙ h), λ h. e ∙ all_nowhere 0 test xs h);
    }

-- where neither end is blank, both tests agree
same_test : (P : ℕ) (x : Appt) → Filled x → has_unlisted P x ≡ has_not_below P x
same_test P x h = rw (end_filled P x.first h.0, end_filled P x.second h.1)

-- Where an end is blank, 4 has refused; where none is, the first position for 5 is the same.
pub unnoticed : Unnoticed
unnoticed P list next = go (first_from 0 has_blank (appts list)) refl
  where
    go :
        (f : First) → first_from 0 has_blank (appts list) ≡ f →
        bar_at f 4 (bar_at (first_from 0 (has_unlisted P) (appts list)) 5 next)
        ≡ bar_at f 4 (bar_at (first_from 0 (has_not_below P) (appts list)) 5 next)
    go (at i) e = refl
    go nowhere e =
        let filled = all_map test_filled (appts list) (nowhere_all 0 has_blank (appts list) e) in
        rw (first_same 0 (has_unlisted P) (has_not_below P) (appts list) (all_map (same_test P) (appts list) filled))
