-- `evening::even_at` meets its contract: the rows' words are cleared, the rows filled, and so many steps are taken. Assumes nothing.
use Rattle.std.proofs.Common.{◌≡◌, ◌+◌, ◌*◌, arith}
use Rattle.list_pairs.proofs.RowsLaws.{fit_cleared, filled_cleared}
use Rattle.evening.proofs.EveningWords.{rows_fit_even, at_none, at_place, at_more, evened_out}
use Rattle.evening.proofs.filling.even_at.Goals as goal

pub fill_rows-requires : goal.fill_rows-requires
fill_rows-requires c =
    let a = c.args in
    fit_cleared c.clear.ensures (rows_fit_even a.list.now a.d a.n a.at a.u a.s.now c.requires)

pub loop-init : goal.loop-init
loop-init c =
    let a = c.args in
    λ h x. at_none a.list.now a.d a.n a.at a.u a.s.now h c.fill_rows.new.s x

pub even_step-passed-requires : goal.even_step-passed-requires
even_step-passed-requires c =
    let a = c.args in
    let h = c.requires in
    let lp = c.loop in
    let x = filled_cleared (omega arith) c.clear.ensures c.fill_rows.ensures in
    λ below. at_place a.list.now a.d a.n a.at a.u a.s.now h c.fill_rows.new.s x lp.counter lp.passed.l lp.passed.r lp.s (lp.invariant h x) (omega arith)

pub loop-preserved : goal.loop-preserved
loop-preserved c =
    let a = c.args in
    let lp = c.loop in
    λ h x. at_more a.list.now a.d a.n a.at a.u a.s.now h c.fill_rows.new.s x lp.counter lp.passed.l lp.passed.r c.even_step-passed.result.l c.even_step-passed.result.r lp.s c.even_step-passed.new.s (lp.invariant h x) c.even_step-passed.ensures

pub returns : goal.returns
returns c =
    let a = c.args in
    let h = c.requires in
    let lp = c.loop in
    let x = filled_cleared (omega arith) c.clear.ensures c.fill_rows.ensures in
    let e : lp.counter ≡ 2 * (a.n + a.n) = omega arith in
    evened_out a.list.now a.d a.n a.at a.u a.s.now h c.fill_rows.new.s x lp.passed.l lp.passed.r lp.s (rw e at (lp.invariant h x))
