-- `Reps::rep_rows` meets its contract: the rows passed are done. Assumes nothing.
use Rattle.std.proofs.Common.{arith}
use Rattle.list_pairs.proofs.RepsLaws.{reps_more, reps_fit_kept}
use Rattle.list_pairs.proofs.representatives.Reps.rep_rows.Goals as goal

pub rep_row-requires-clause-reps_fit : goal.rep_row-requires-clause-reps_fit
rep_row-requires-clause-reps_fit c =
    let a = c.args in
    reps_fit_kept a.list.now a.self.rows a.self.map a.self.apair a.s.now c.requires c.loop-v.s c.loop-v.invariant.changes

pub loop-v-preserved : goal.loop-v-preserved
loop-v-preserved c =
    let a = c.args in
    let lp = c.loop-v in
    reps_more a.list.now a.self.rows a.self.map a.self.apair a.s.now c.requires lp.v lp.s c.rep_row.new.s (omega arith) lp.invariant (rw c.new.ensures at c.rep_row.ensures)
