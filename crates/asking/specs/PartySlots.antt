-- The slots of one party's appointments, the lowest and the highest of them: what requests 1 and 2 of document 02 ask of a list and its slots.
-- Assumes nothing.
use Rattle.std.specs.Prelude.{ℕ, min, max, List, [], ◌∷◌}
use Rattle.words.specs.Basics.{pick}
use Rattle.appointments.specs.Appointments.{Appt, named}

-- The slots of a party's appointments, in list order. An appointment of the party with itself gives its slot once, and what a slot
-- buffer holds behind the list's last appointment is no slot.
unfoldable pub slots_of : ℕ → List Appt → List ℕ → List ℕ
slots_of party [] slots = []
slots_of party (x ∷ xs) [] = []
slots_of party (x ∷ xs) (s ∷ slots) = let later = slots_of party xs slots in pick (named party x) (s ∷ later) later

-- The lowest of some slots; 65,535 for none.
unfoldable pub lowest : List ℕ → ℕ
lowest [] = 65535
lowest (s ∷ []) = s
lowest (s ∷ t ∷ more) = min s (lowest (t ∷ more))

-- The highest of some slots; 0 for none.
unfoldable pub highest : List ℕ → ℕ
highest [] = 0
highest (s ∷ more) = max s (highest more)
