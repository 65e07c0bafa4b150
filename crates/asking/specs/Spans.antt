-- The lowest and the highest of some slots, as code keeps them. Assumes nothing.
use Rattle.std.specs.Prelude.{ℕ, min, max}
use Rattle.asking.specs.declared.Span.{Span}

-- of no slots
abbrev pub no_span : Span
no_span = record { lowest = 65535; highest = 0 }

-- with one slot more
abbrev pub included : ℕ → Span → Span
included s span = record { lowest = min span.lowest s; highest = max span.highest s }
