-- `digits_in` meets its contract: the value of the digits passed, which those left continue. Assumes nothing.
use native.Mathlib.Omega.{arith}
use Rattle.reading.proofs.ParsingSteps.{digits_more, digits_other, digits_all}
use Rattle.reading.proofs.digits_in.Goals as goal

pub returns-then-not-is_ascii_digit : goal.returns-then-not-is_ascii_digit
returns-then-not-is_ascii_digit c = digits_other c.loop-byte.invariant (omega arith) (grind arith)

pub loop-byte-preserved : goal.loop-byte-preserved
loop-byte-preserved c = rw c.from.ensures (digits_more c.loop-byte.invariant (omega arith) (grind arith) (grind arith))

pub returns : goal.returns
returns c = digits_all c.loop-byte.invariant (omega arith)
