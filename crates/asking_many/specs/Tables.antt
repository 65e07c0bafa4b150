-- The table that the walk fills, by party number, and what it asks of a list. Assumes nothing.
use Rattle.std.specs.Prelude.{ℕ, ◌+◌, ◌*◌, ◌/◌, ◌<◌, ◌≤◌, ◌≡◌, List, length, get_or, set}
use Rattle.words.specs.Words.{word}
use Rattle.appointments.specs.Appointments.{Appt, load}
use Rattle.asking.specs.PartySlots.{slots_of, lowest, highest}
use Rattle.asking.specs.Spans.{no_span, included}
use Rattle.asking_many.specs.Many.{or_none}
use Rattle.asking_many.specs.declared.Row.{Row}

-- What a walk of the list goes by, once its checks have passed: its numbers are below 1,024 and few, and each appointment has a slot.
pub record Walkable (list slots : List ℕ) : Type 0 where
  pub few : length list ≤ 8192
  pub ends : (i : ℕ) → i < length list / 2 → (word list (2 * i) < 1024) × (word list (2 * i + 1) < 1024)
  pub slot_room : length list / 2 ≤ length slots

-- a row with a slot more, for one end of its appointment
abbrev pub entered : ℕ → Row → Row
entered s row = record { load = row.load + 1; span = included s row.span }

-- the row of a party: load, lowest slot and highest slot
abbrev pub row_of : List Appt → List ℕ → ℕ → Row
row_of xs slots v =
    record { load = load v xs; span = record { lowest = lowest (slots_of v xs slots); highest = highest (slots_of v xs slots) } }

-- the row of a party without an appointment
abbrev pub no_slot : Row
no_slot = record { load = 0; span = no_span }

-- what is read past the table: zeroes
abbrev pub past_table : Row
past_table = record { load = 0; span = record { lowest = 0; highest = 0 } }

-- the row at a place
abbrev pub row_at : List Row → ℕ → Row
row_at rows v = get_or rows v past_table

-- a table of 1,024 entries, of rows or of numbers, that has for each party its own
pub record ByParty {A : Type 0} (past : A) (has : ℕ → A) (table : List A) : Type 0 where
  pub size : length table ≡ 1024
  pub entry : (v : ℕ) → v < 1024 → get_or table v past ≡ has v

-- The table of some appointments: each row that of its party.
abbrev pub Table : List Appt → List ℕ → List Row → Type 0
Table xs slots rows = ByParty past_table (row_of xs slots) rows

-- the three entries of query j, put from the row of the party that it asks for
abbrev pub put_three : List ℕ → ℕ → Row → List ℕ
put_three output j row =
    set
    (set (set output (3 * j) row.load) (3 * j + 1) (or_none row.load row.span.lowest))
    (3 * j + 2)
    (or_none row.load row.span.highest)
