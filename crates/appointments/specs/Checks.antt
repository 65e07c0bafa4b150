-- Document 01's checks 1 to 8, in order, with the number and the place of each refusal. Assumes nothing.
use Rattle.std.specs.Prelude.{Option, Some, None, ℕ, ◌+◌, ◌*◌, ◌%◌, ◌<◌, ◌≡◌, Bool, true, false, not, ◌&&◌, ◌||◌, List, [], ◌∷◌, eqb, ltb, leb, length, get_or}
use Rattle.words.specs.Basics.{pick}
use Rattle.appointments.specs.Appointments.{Appt, appts, largest_load, scratch_words}

-- The mark of a blank end.
abbrev pub blank : ℕ
blank = 65535

-- a first position, or none
pub data First : Type 0 where
  at : ℕ → First
  nowhere : First

-- the option by which the code tells it
abbrev pub first_of : Option ℕ → First
first_of (Some i) = at i
first_of None = nowhere

-- The first position, counted from i, at which something passes the test: an appointment of a list, or a number.
unfoldable pub first_from : {A : Type 0} → ℕ → (A → Bool) → List A → First
first_from i test [] = nowhere
first_from i test (x ∷ xs) = let later = first_from (i + 1) test xs in pick (test x) (at i) later

-- Position i is the first at which something passes the test.
pub record FirstAt {A : Type 0} (test : A → Bool) (xs : List A) (i : ℕ) : Type 0 where
  pub inside : i < length xs
  pub holds : (d : A) → test (get_or xs i d) ≡ true
  pub before : (j : ℕ) (d : A) → j < i → test (get_or xs j d) ≡ false

-- check 4: an end is blank
abbrev pub has_blank : Appt → Bool
has_blank x = eqb x.first blank || eqb x.second blank

-- another end, one that is not blank, that is not below P
abbrev pub unlisted : ℕ → ℕ → Bool
unlisted P end = leb P end && not (eqb end blank)

-- check 5: an end is unlisted
abbrev pub has_unlisted : ℕ → Appt → Bool
has_unlisted P x = unlisted P x.first || unlisted P x.second

-- What a sequence of checks comes to: all passed, or the first refusal with its number and place.
pub data Check : Type 0 where
  passed : Check
  refused : ℕ → ℕ → Check

-- refuse with a number and place 0 if the test holds, else go on
abbrev pub bar : Bool → ℕ → Check → Check
bar true number next = refused number 0
bar false number next = next

-- refuse with a number at the position found, else go on
abbrev pub bar_at : First → ℕ → Check → Check
bar_at (at i) number next = refused number i
bar_at nowhere number next = next

-- 1: P above 1,024
abbrev pub check_parties : ℕ → Check → Check
check_parties P next = bar (ltb 1024 P) 1 next

-- 2: list length odd
abbrev pub check_even : List ℕ → Check → Check
check_even list next = bar (eqb (length list % 2) 1) 2 next

-- 3: A above 4,096
abbrev pub check_count : ℕ → Check → Check
check_count A next = bar (ltb 4096 A) 3 next

-- 7: slot buffer below A entries
abbrev pub check_slots : ℕ → ℕ → Check → Check
check_slots slots A next = bar (ltb slots A) 7 next

-- Checks 4 and 5, those of the ends. 4 covers the whole list before 5 begins.
abbrev pub check_ends : ℕ → List ℕ → Check → Check
check_ends P list next =
    bar_at (first_from 0 has_blank (appts list)) 4
    (bar_at (first_from 0 (has_unlisted P) (appts list)) 5
    next)

-- Checks 1 to 5, those of the list alone.
unfoldable pub checks_1_to_5 : ℕ → List ℕ → Check → Check
checks_1_to_5 P list next =
    check_parties P
    (check_even list
    (check_count (length (appts list))
    (check_ends P list next)))

-- Checks 1 to 5, then 7: what waiting and asking for many parties begin with.
unfoldable pub checks_with_slots : ℕ → List ℕ → ℕ → Check → Check
checks_with_slots P list slots next = checks_1_to_5 P list (check_slots slots (length (appts list)) next)

-- Checks 1 to 6, those before any buffer is looked at. 6: D×P above 8,192
unfoldable pub checks_1_to_6 : ℕ → List ℕ → Check → Check
checks_1_to_6 P list next = checks_1_to_5 P list (bar (ltb 8192 (largest_load P (appts list) * P)) 6 next)

-- Checks 1 to 8, of P, the list and the lengths of the slot buffer and of scratch. A call that asks more goes on with it.
unfoldable pub checks_1_to_8 : ℕ → List ℕ → ℕ → ℕ → Check → Check
checks_1_to_8 P list slots scratch next =
    checks_1_to_6 P list
    (check_slots slots (length (appts list))
    (bar (ltb scratch (scratch_words P (largest_load P (appts list)))) 8
    next))

-- Checks 1 to 8 and no others.
abbrev pub checks : ℕ → List ℕ → ℕ → ℕ → Check
checks P list slots scratch = checks_1_to_8 P list slots scratch passed
