-- What the three entries of a party mean. Assumes nothing.
use Prim.Native.Nat.{ℕ, ◌≤◌}
use mathlib.Core.List.{List}
use native.Mathlib.Omega.{arith}
use borrow.Author.Tests.{eq-eqb, ne_eqb}
use Rattle.words.proofs.Sums.{all_both}
use Rattle.appointments.specs.Appointments.{Appt, load}
use Rattle.asking.specs.PartySlots.{slots_of, lowest, highest}
use Rattle.asking.proofs.PartySlots.{slots_some, lowest_under, highest_over, lowest_in, highest_in}
use Rattle.asking_many.specs.Many.{asked_of_one, ToldOf}

pub told_of : (xs : List Appt) (slots : List ℕ) (v : ℕ) → ToldOf xs slots v
unfolding asked_of_one
told_of xs slots v =
    let mine : List ℕ = slots_of v xs slots in
    record {
      without = λ h. rw (eq-eqb (load v xs) 0 h, h);
      with = λ h. rw (ne_eqb (load v xs) 0 (λ e. omega arith));
      own = λ room h. let some = slots_some v xs slots room h in (lowest_in mine some, highest_in mine some);
      between = all_both (λ s. lowest mine ≤ s) (λ s. s ≤ highest mine) mine (lowest_under mine) (highest_over mine);
    }
