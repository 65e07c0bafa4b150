-- `Reps::rep_row` meets its contract: the half-edges passed have their representatives. Assumes nothing.
use Rattle.std.proofs.Common.{◌≡◌, arith}
use Rattle.list_pairs.specs.Rows.{counter}
use Rattle.list_pairs.proofs.RepsLaws.{going_on, row_done}
use Rattle.list_pairs.proofs.representatives.Reps.rep_row.Goals as goal

pub loop-t-preserved : goal.loop-t-preserved
loop-t-preserved c =
    let r = c.args.self in
    let lp = c.loop-t in
    let len : c.word_at-n.result ≡ counter c.args.s.now r.rows c.args.w.0 = rw c.index-v.ensures at c.word_at-n.ensures.0 in
    going_on c.args.list.now r.rows r.map r.apair c.args.s.now c.requires.reps_fit c.args.w.0 c.requires.w_lt_parties lp.t lp.s (omega (arith, len)) lp.invariant
    c.word_at-h.result (rw c.index-v.ensures at c.word_at-h.ensures.0) c.find_rep.new.s c.find_rep.ensures

pub returns : goal.returns
returns c =
    let r = c.args.self in
    let lp = c.loop-t in
    let e : lp.t ≡ counter c.args.s.now r.rows c.args.w.0 = omega (arith, rw c.index-v.ensures at c.word_at-n.ensures.0) in
    row_done c.args.list.now r.rows r.map r.apair c.args.s.now c.requires.reps_fit c.args.w.0 c.requires.w_lt_parties lp.s (rw e at lp.invariant)
