-- `RowBases::fill_rows` meets its contract: the half-edges passed are in their rows. Assumes nothing.
use Rattle.std.proofs.Common.{◌∙◌, arith}
use Rattle.list_pairs.proofs.RowsLaws.{filled_none, has_place, filled_on}
use Rattle.list_pairs.proofs.rows.RowBases.fill_rows.Goals as goal

pub push_row-requires : goal.push_row-requires
push_row-requires c =
    let a = c.args in
    let lp = c.loop-h in
    has_place a.list.now a.self a.s.now c.requires lp.h lp.s (omega arith) lp.invariant c.new.result.0 (c.new.ensures ∙ c.from.ensures)

pub loop-h-init : goal.loop-h-init
loop-h-init c = filled_none c.args.list.now c.args.self c.args.s.now c.requires c.clear.new.s c.clear.ensures

pub loop-h-preserved : goal.loop-h-preserved
loop-h-preserved c =
    let a = c.args in
    let lp = c.loop-h in
    filled_on a.list.now a.self a.s.now c.requires lp.h lp.s (omega arith) lp.invariant c.new.result.0 (c.new.ensures ∙ c.from.ensures) c.push_row.new.s c.push_row.ensures
