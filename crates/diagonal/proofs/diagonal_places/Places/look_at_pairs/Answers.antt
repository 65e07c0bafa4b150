-- `look_at_pairs` meets its contract: the pairs passed are looked at. Assumes nothing.
use Rattle.std.proofs.Common.{arith}
use Rattle.diagonal.proofs.LookLaws.{looked_more}
use Rattle.diagonal.proofs.diagonal_places.Places.look_at_pairs.Goals as goal

pub loop-e-preserved : goal.loop-e-preserved
loop-e-preserved c =
    let p = c.args.self in
    let lp = c.loop-e in
    looked_more p.n p.at p.diag p.b p.m c.args.s.now c.requires lp.e lp.s c.look_at.new.s (omega arith) lp.invariant c.look_at.ensures
