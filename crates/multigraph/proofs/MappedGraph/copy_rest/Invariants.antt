-- i entries are copied, to at most as many places.
use Rattle.std.proofs.Common.{◌≤◌}
use Rattle.multigraph.specs.Steps.{CopiesRest}
use Rattle.multigraph.proofs.MappedGraph.copy_rest.Given as goal

abbrev pub invariant-loop-i : goal.invariant-loop-i
invariant-loop-i l = (l.at ≤ l.i) × CopiesRest l.self.places l.self.g l.to l.i l.at l.initial.s l.s
