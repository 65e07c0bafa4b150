-- `look_at_pairs` meets its contract: the pairs passed are looked at. Assumes nothing.
use Rattle.diagonal.specs.DiagonalPlaces.{Looked}
use Rattle.diagonal.proofs.diagonal_places.Places.look_at_pairs.Given as goal

abbrev pub invariant-loop-e : goal.invariant-loop-e
invariant-loop-e l = Looked l.self.n l.self.at l.self.diag l.self.m l.e l.fn.s l.s
