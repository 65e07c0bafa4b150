-- `rep_row` meets its contract: the half-edges passed have their representatives. Assumes nothing.
use Rattle.list_pairs.proofs.RepsLaws.{Going}
use Rattle.list_pairs.proofs.representatives.Reps.rep_row.Given as goal

abbrev pub invariant-loop-t : goal.invariant-loop-t
invariant-loop-t l = Going l.list l.self.rows l.self.map l.self.apair l.fn.w.0 l.t l.fn.s l.s
