-- `answer_all` meets its contract: the output holds the answers to the first queries, one more with each turn. Assumes nothing.
use Prim.Native.Nat.{◌<◌}
use mathlib.Core.Path.{◌∙◌}
use native.Mathlib.Omega.{arith}
use lib.ListN.{length}
use Rattle.appointments.specs.Appointments.{appts}
use Rattle.asking_many.proofs.Answers.{answered_more, answered_all}
use borrow.Author.Rules.{rules}
use Rattle.asking_many.proofs.answer_all.Goals as goal

pub loop-j-preserved : goal.loop-j-preserved
loop-j-preserved c =
    let a = c.args in
    let j = c.loop-j.j in
    let inside : j < length a.queries.now = omega arith in (
      search rules,
      c.answer_query.ensures
          ∙ answered_more (appts a.list.now) a.slots.now a.queries.now a.output.now c.requires.queries_in_bounds j _ _ inside
          (rw c.from.ensures (c.enter_all-rows.ensures.entry _ (c.requires.by_index j inside))) c.loop-j.invariant.1,
    )

pub returns : goal.returns
returns c =
    let a = c.args in
    c.loop-j.invariant.1
    ∙ answered_all (appts a.list.now) a.slots.now a.queries.now a.output.now c.requires.queries_in_bounds c.loop-j.j (omega arith)
