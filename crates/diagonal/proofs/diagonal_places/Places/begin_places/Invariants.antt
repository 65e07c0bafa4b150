-- `begin_places` meets its contract: the places passed have begun. Assumes nothing.
use Rattle.diagonal.specs.DiagonalPlaces.{Begun}
use Rattle.diagonal.proofs.diagonal_places.Places.begin_places.Given as goal

abbrev pub invariant-loop-i : goal.invariant-loop-i
invariant-loop-i l = Begun l.self.n l.self.at l.self.diag l.self.b l.self.m l.i l.fn.s l.s
