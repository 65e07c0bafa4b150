-- What main prints: an accepted plan, or one line for a refusal. Assumes nothing.
use Rattle.std.specs.Prelude.{ℕ, zero, suc, ◌+◌, ◌%◌, ◌/◌, List, [], ◌∷◌, ◌++◌, ltb, get_or}
use Rattle.words.specs.Basics.{pick}
use Rattle.appointments.specs.Appointments.{Appt, appts}
use Rattle.asking.specs.Waiting.{waiting}
use Rattle.words.specs.Ascii.{ascii, line_feed, space}

-- The decimal digits of n, without leading zeros. It has no more than n + 1 of them.
unfoldable pub decimal_by : ℕ → ℕ → List ℕ
decimal_by zero n = []
decimal_by (suc fuel) n =
    let front = decimal_by fuel (n / 10) in
    pick (ltb n 10) ((48 + n) ∷ []) (front ++ ((48 + n % 10) ∷ []))

unfoldable pub decimal : ℕ → List ℕ
unfolding decimal_by
decimal n = decimal_by (suc n) n

-- A line: one space parts fields, and a line feed ends it.
unfoldable pub line : List (List ℕ) → List ℕ
line [] = line_feed ∷ []
line (field ∷ []) = field ++ (line_feed ∷ [])
line (field ∷ next ∷ more) = field ++ (space ∷ line (next ∷ more))

-- the line of an appointment: its position, ends and slot
abbrev pub appointment_line : ℕ → Appt → ℕ → List ℕ
appointment_line i x slot = line (decimal i ∷ decimal x.first ∷ decimal x.second ∷ decimal slot ∷ [])

-- the line of a party: its number and its waiting
abbrev pub party_line : List Appt → List ℕ → ℕ → List ℕ
party_line xs slots v = line (ascii "party" ∷ decimal v ∷ decimal (waiting xs slots v) ∷ [])

-- the lines of the appointments, counted from position i
unfoldable pub appointment_lines : ℕ → List Appt → List ℕ → List ℕ
unfolding line decimal
appointment_lines i [] slots = []
appointment_lines i (x ∷ xs) slots = appointment_line i x (get_or slots i 0) ++ appointment_lines (i + 1) xs slots

-- the lines of the k parties from v on
unfoldable pub party_lines : List Appt → List ℕ → ℕ → ℕ → List ℕ
unfolding line decimal ascii waiting
party_lines xs slots v zero = []
party_lines xs slots v (suc k) = party_line xs slots v ++ party_lines xs slots (v + 1) k

-- What there is to print: an accepted plan (P, list, D and slots), or a refusal (number and place).
pub data Report : Type 0 where
  plan : ℕ → List ℕ → ℕ → List ℕ → Report
  refused : ℕ → ℕ → Report

-- First D; then position, ends, slot; then each party and its waiting.
unfoldable pub plan_lines : ℕ → List ℕ → ℕ → List ℕ → List ℕ
unfolding line decimal ascii appointment_lines party_lines
plan_lines P list D slots =
    line (ascii "plan" ∷ decimal D ∷ [])
    ++ (appointment_lines 0 (appts list) slots ++ party_lines (appts list) slots 0 P)

-- the word, number, place
unfoldable pub refusal_line : ℕ → ℕ → List ℕ
unfolding line decimal ascii
refusal_line number place = line (ascii "refused" ∷ decimal number ∷ decimal place ∷ [])

abbrev pub printed : Report → List ℕ
printed (plan P list D slots) = plan_lines P list D slots
printed (refused number place) = refusal_line number place
