-- `read_full` meets its contract: what one more read gave stands behind what had come. Assumes nothing.
use borrow.Author.Rules.{rules}
use Rattle.reading.proofs.Coming.{more_came}
use Rattle.reading.proofs.read_full.Goals as goal

pub loop-count-preserved-in-Some : goal.loop-count-preserved-in-Some
loop-count-preserved-in-Some g c =
    let read = c.in-Some.ensures in
    (search rules, search rules, more_came _ _ _ _ _ _ _ read.front c.loop-count.invariant.2 read.bytes)
