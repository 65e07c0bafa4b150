-- One entry more is written.
use Rattle.std.proofs.Common.{◌≡◌, ℕ, ◌+◌, ◌*◌, arith}
use Rattle.multigraph.proofs.Mapping.{writing_more}
use Rattle.multigraph.proofs.MappedGraph.write_places.Goals as goal

pub loop-i-preserved : goal.loop-i-preserved
loop-i-preserved c =
    let a = c.args in
    writing_more (λ (j : ℕ). a.self.g + 2 + 2 * j) (λ (j : ℕ). j + 1) c.get-m.result c.loop-i.i a.self.places a.s.now c.loop-i.s c.write_place.new.s (omega arith) c.write_place.ensures c.loop-i.invariant

pub returns : goal.returns
returns c =
    let e : c.loop-i.i ≡ c.get-m.result = omega arith in
    rw (e, c.get-m.ensures.0) at c.loop-i.invariant
