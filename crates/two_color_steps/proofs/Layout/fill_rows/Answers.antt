-- `fill_rows` meets its contract: the last of the ends that are left go into their row, until none are left. Assumes nothing.
use Rattle.std.proofs.Common.{◌<◌, arith}
use Rattle.words.specs.declared.side.Side.{Side}
use Rattle.words.specs.declared.side.Side.TheVariants.{First, Second}
use Rattle.words.specs.Sides.{offset_of}
use Rattle.two_color_steps.proofs.Backwards.{push_last, push_none}
use Rattle.two_color_steps.proofs.Layout.fill_rows.Goals as goal

offset_small : (near : Side) → offset_of near < 2
offset_small First = omega arith
offset_small Second = omega arith

pub push_end-requires : goal.push_end-requires
push_end-requires c =
    let small = offset_small c.args.near in
    let last = push_last (omega (arith, c.offset-own.ensures)) (omega arith) c.in-Some.ensures.steps c.loop-ends.invariant in
    rw (c.new-v.ensures, c.from.ensures) last.can_push

pub loop-ends-preserved : goal.loop-ends-preserved
loop-ends-preserved c =
    let small = offset_small c.args.near in
    let last = push_last (omega (arith, c.offset-own.ensures)) (omega arith) c.in-Some.ensures.steps c.loop-ends.invariant in
    rw (c.push_end.ensures, c.new-v.ensures, c.from.ensures, c.from-in-loop-ends.ensures) last.more

pub returns : goal.returns
returns c = rw (← c.offset-own.ensures) (push_none c.in-None.ensures.steps.0 c.loop-ends.invariant)
