-- The circuits of the parties passed are gone.
use Rattle.std.proofs.Common.{◌≡◌}
use Rattle.circuits.specs.Model.{two_walk_m}
use Rattle.circuits.proofs.Two.two_walk.Given as goal

abbrev pub invariant-loop-v : goal.invariant-loop-v
invariant-loop-v l = record { words = l.s; number = l.n } ≡ two_walk_m l.self l.self.graph.m l.v (record { words = l.initial.s; number = l.even })
