-- One entry more is copied.
use Rattle.std.proofs.Common.{◌≡◌, ◌<◌, arith}
use Rattle.multigraph.specs.Places.{size}
use Rattle.multigraph.proofs.RestWords.{copied_none, copies_more, next_le}
use Rattle.multigraph.proofs.MappedGraph.copy_rest.Goals as goal

pub loop-i-init : goal.loop-i-init
loop-i-init c =
    let a = c.args in
    (omega arith, λ ends pairs most h. copied_none ends pairs most a.self.places a.self.g a.to a.s.now)

pub loop-i-preserved : goal.loop-i-preserved
loop-i-preserved c =
    let l = c.loop-i in
    let a = c.args in
    let done = c.rest_step-at.ensures in
    let inside : l.i < size a.s.now a.self.g = omega (arith, c.get-m.ensures.0) in (
      omega (arith, done.1, l.invariant.0, next_le a.self.places a.self.g l.at l.i l.s),
      copies_more a.self.places a.self.g a.to l.i l.at c.rest_step-at.result a.s.now l.s c.rest_step-at.new.s inside done.0 done.1 l.invariant.1,
    )

pub returns : goal.returns
returns c =
    let e : c.loop-i.i ≡ c.get-m.result = omega arith in
    rw (e, c.get-m.ensures.0) at c.loop-i.invariant.1
