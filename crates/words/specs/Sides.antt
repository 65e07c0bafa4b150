-- The two sides of an appointment or a pair. Assumes nothing.
use Rattle.std.specs.Prelude.{ℕ, ◌+◌, ◌-◌, ◌*◌, ◌/◌, ◌%◌}
use Rattle.words.specs.declared.side.Side.{Side}
use Rattle.words.specs.declared.side.Side.TheVariants.{First, Second}

-- how far from the first end, in a list or a table of ends, the one on this side stands
abbrev pub offset_of : Side → ℕ
offset_of First = 0
offset_of Second = 1

-- the half-edge at the other end of half-edge h
abbrev pub mate : ℕ → ℕ
mate h = 2 * (h / 2) + (1 - h % 2)
