-- `find_pair` meets its contract: no half-edge passed joins the two. Assumes nothing.
use Rattle.evening.proofs.FillingWords.{Missed}
use Rattle.evening.proofs.filling.Filling.find_pair.Given as goal

abbrev pub invariant-loop-t : goal.invariant-loop-t
invariant-loop-t l = Missed l.list l.self.at l.self.rows l.v l.w l.s l.t
