-- `read_matching` meets its contract. Invariant: the first i numbers are written. Assumes nothing.
use Rattle.std.proofs.Common.{ℕ}
use Rattle.matching.specs.Searched.{CanRead}
use Rattle.matching.proofs.Reading.{Reading}
use Rattle.matching.proofs.read_matching.Given as goal

abbrev pub invariant-loop-i : goal.invariant-loop-i
invariant-loop-i l = (ends rows : ℕ) → CanRead ends rows l.h l.numbers.n l.numbers.at l.fn.s → Reading l.h l.numbers.at l.i l.fn.s l.s
