-- The circuit ends back at its first half-edge, or after as many turns as entries.
use Rattle.std.proofs.Common.{◌≡◌, suc, ◌+◌, ◌-◌, sym, ◌∙◌, arith}
use Rattle.circuits.specs.Model.{Told, two_pair_m}
use Rattle.circuits.proofs.ModelLaws.{two_pair_so, two_circuit_back, two_circuit_on, two_circuits_on}
use Rattle.circuits.proofs.Two.two_circuit.Goals as goal

pub returns-then-y-y0 : goal.returns-then-y-y0
returns-then-y-y0 c =
    let w = c.loop-n in
    let a = c.args in
    let q : Told = record { words = c.two_step-y.new.s; number = c.two_step-y.result } in
    let e : q ≡ two_pair_m a.self w.s w.n w.y = two_pair_so a.self w.s w.n w.y c.two_step-x.ensures.0 c.two_step-y.ensures.0 in
    sym (two_circuit_back a.self a.y0 (a.at + a.self.graph.m - w.n) (a.at + a.self.graph.m - (w.n + 1)) w.s w.n w.y q (omega arith) e c.if-y-y0.true) ∙ w.invariant.rest

pub loop-n-preserved : goal.loop-n-preserved
loop-n-preserved c =
    let w = c.loop-n in
    let a = c.args in
    let q : Told = record { words = c.two_step-y.new.s; number = c.two_step-y.result } in
    let e : q ≡ two_pair_m a.self w.s w.n w.y = two_pair_so a.self w.s w.n w.y c.two_step-x.ensures.0 c.two_step-y.ensures.0 in
    let more : a.at + a.self.graph.m - w.n ≡ suc (a.at + a.self.graph.m - (w.n + 1)) = omega arith in record {
      is_word = c.two_step-y.ensures.1;
      can_go = two_circuits_on a.self a.y0 _ (a.at + a.self.graph.m - (w.n + 1)) w.s w.n w.y q more e c.if-y-y0.false w.invariant.can_go;
      rest = sym (two_circuit_on a.self a.y0 _ (a.at + a.self.graph.m - (w.n + 1)) w.s w.n w.y q more e c.if-y-y0.false) ∙ w.invariant.rest;
    }
