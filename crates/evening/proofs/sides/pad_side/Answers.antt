-- `evening::pad_side` meets its contract: the new parties passed are appended. Assumes nothing.
use Rattle.std.proofs.Common.{arith}
use Rattle.evening.proofs.PaddingWords.{padding_none, padding_more}
use Rattle.evening.proofs.sides.pad_side.Goals as goal

pub loop-i-init : goal.loop-i-init
loop-i-init c =
    let a = c.args in
    padding_none a.at a.k a.n a.p a.s.now c.requires

pub loop-i-preserved : goal.loop-i-preserved
loop-i-preserved c =
    let a = c.args in
    let lp = c.loop-i in
    padding_more a.at a.k a.n a.p a.s.now c.requires lp.i lp.s c.put.new.s (omega arith) (omega arith) lp.invariant c.put.ensures
