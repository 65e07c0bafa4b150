-- The parties passed have no half-edge.
use Rattle.std.proofs.Common.{◌≡◌}
use Rattle.circuits.specs.Model.{two_start_m}
use Rattle.circuits.proofs.Two.two_start.Given as goal

abbrev pub invariant-loop-v : goal.invariant-loop-v
invariant-loop-v l = l.s ≡ two_start_m l.self l.v l.initial.s
