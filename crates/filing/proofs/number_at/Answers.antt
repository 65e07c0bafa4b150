-- `number_at` meets its contract: two bytes, low byte first. Assumes nothing.
use native.Mathlib.Omega.{arith}
use Rattle.filing.proofs.ByIndex.{word_at}
use Rattle.filing.proofs.number_at.Goals as goal

pub returns : goal.returns
returns c = omega (arith, word_at c.args.bytes.now c.args.k c.requires)
