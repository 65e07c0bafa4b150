-- `digits_in` meets its contract: the value of the digits passed, which those left continue. Assumes nothing.
use Rattle.reading.proofs.ParsingSteps.{DigitsSoFar}
use Rattle.reading.proofs.digits_in.Given as goal

abbrev pub invariant-loop-byte : goal.invariant-loop-byte
invariant-loop-byte l = DigitsSoFar l.bytes l.v l.byte-index
