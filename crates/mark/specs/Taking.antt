-- What taking and giving back do to the scratch mark. Assumes nothing.
use Rattle.std.specs.Prelude.{ℕ, ◌+◌}
use Rattle.mark.specs.declared.Mark.{Mark}

-- n words more are taken
abbrev pub taken_more : ℕ → Mark → Mark
taken_more n m = record { taken = m.taken + n }

-- the words from a place on are free again
abbrev pub given_back : ℕ → Mark → Mark
given_back to m = record { taken = to }
