-- Document 01's appointment, list, load, D and W. Assumes nothing.
use Rattle.std.specs.Prelude.{ℕ, zero, suc, ◌+◌, ◌*◌, max, Bool, List, [], ◌∷◌, ltb, get_or}
use Rattle.words.specs.Basics.{is, total}

-- An appointment: two parties, its first end and its second end.
pub record Appt : Type 0 where
  pub first : ℕ
  pub second : ℕ

abbrev pub appt : ℕ → ℕ → Appt
appt a b = record { first = a; second = b }

-- The appointments of a list, which holds two numbers for each; A is how many they are. (A last number without a partner
-- is no appointment; check 2 refuses such a list.)
unfoldable pub appts : List ℕ → List Appt
appts [] = []
appts (a ∷ []) = []
appts (a ∷ b ∷ rest) = appt a b ∷ appts rest

-- how often an appointment names a party: twice if both ends are that party
unfoldable pub names : ℕ → Appt → ℕ
names v x = is v x.first + is v x.second

-- The appointment names the party, once or twice.
abbrev pub named : ℕ → Appt → Bool
named v x = ltb 0 (names v x)

-- the appointment at a position of the list, counted from 0, names the party
abbrev pub named_at : ℕ → List ℕ → ℕ → Bool
named_at v list i = named v (appt (get_or list (2 * i) 0) (get_or list (2 * i + 1) 0))

-- A party's load is how often the list names it.
unfoldable pub load : ℕ → List Appt → ℕ
load v xs = total (names v) xs

-- D is the largest load among the parties 0 to P-1, and 0 for an empty list.
unfoldable pub largest_load : ℕ → List Appt → ℕ
largest_load zero xs = 0
largest_load (suc p) xs = max (largest_load p xs) (load p xs)

-- W, the words that scratch needs.
abbrev pub scratch_words : ℕ → ℕ → ℕ
scratch_words P D = 128 * P * (D + 1)
