-- The rest of the circuit is the same from each turn on.
use Rattle.std.proofs.Common.{◌≡◌, ◌-◌, ◌<◌}
use Rattle.circuits.specs.Model.{two_circuit_m}
use Rattle.circuits.specs.Bounds.{TwoCircuits}
use Rattle.circuits.proofs.Two.two_circuit.Given as goal

abbrev pub invariant-loop-n : goal.invariant-loop-n
invariant-loop-n l = record {
  is_word : l.y < 4294967296;
  can_go : TwoCircuits l.self l.y0 (l.end - l.n) l.s l.n l.y;
  rest : two_circuit_m l.self l.y0 (l.end - l.n) l.s l.n l.y ≡ two_circuit_m l.self l.y0 l.self.graph.m l.initial.s l.at l.y0;
}
