-- `rep_rows` meets its contract: the rows passed are done. Assumes nothing.
use Rattle.list_pairs.specs.Representatives.{RepsDone}
use Rattle.list_pairs.proofs.representatives.Reps.rep_rows.Given as goal

abbrev pub invariant-loop-v : goal.invariant-loop-v
invariant-loop-v l = RepsDone l.list l.self.rows.parties l.self.map l.self.apair l.v l.fn.s l.s
