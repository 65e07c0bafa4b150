-- Document 02, request 4: what one walk of a list remembers of its bad ends, those that check 4 or 5 refuses, and that no caller notices.
-- Assumes nothing.
use Rattle.std.specs.Prelude.{ℕ, ◌≡◌, ◌↔◌, Bool, false, ◌||◌, List, leb}
use Rattle.words.specs.Basics.{All}
use Rattle.appointments.specs.Appointments.{Appt, appts}
use Rattle.appointments.specs.Checks.{First, at, nowhere, first_from, FirstAt, has_blank, has_unlisted, Check, bar_at, check_ends}

-- What is remembered of a test: its first position in the whole list, and none exactly where there is none. (`found` and `none` follow from `same`; they are the
-- request's own words.)
pub record Remembered (test : Appt → Bool) (xs : List Appt) (f : First) : Type 0 where
  pub same : f ≡ first_from 0 test xs
  pub found : (i : ℕ) → (f ≡ at i) ↔ FirstAt test xs i
  pub none : (f ≡ nowhere) ↔ All (λ x. test x ≡ false) xs

-- What the walk remembers: the first position for 4 and the first for 5.
pub record FirstBadEnds (P : ℕ) (xs : List Appt) (blank unlisted : First) : Type 0 where
  pub for_4 : Remembered has_blank xs blank
  pub for_5 : Remembered (has_unlisted P) xs unlisted

-- an end is not below P, the blank ones among them
abbrev pub has_not_below : ℕ → Appt → Bool
has_not_below P x = leb P x.first || leb P x.second

-- That no caller notices which of the two is looked for: checks 4 and 5 come to the same, whatever comes next, since a blank end is
-- refused by 4.
abbrev pub Unnoticed : Type 0
Unnoticed =
    (P : ℕ) (list : List ℕ) (next : Check) →
    check_ends P list next
    ≡ bar_at (first_from 0 has_blank (appts list)) 4 (bar_at (first_from 0 (has_not_below P) (appts list)) 5 next)
