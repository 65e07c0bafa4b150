-- The map is ready before the first number, and one number more is added.
use Rattle.std.proofs.Common.{arith}
use Rattle.multigraph.proofs.MatchingWords.{adding_none, adding_more, adding_done}
use Rattle.multigraph.proofs.MappedGraph.add_matching.Goals as goal

pub loop-i-init : goal.loop-i-init
loop-i-init c =
    let a = c.args in
    λ ends pairs most h. adding_none ends pairs most a.self.places a.self.g a.m.at a.m.n a.s.now h c.map_places.new.s c.map_places.ensures

pub loop-i-preserved : goal.loop-i-preserved
loop-i-preserved c =
    let l = c.loop-i in
    let a = c.args in
    λ ends pairs most h.
    adding_more ends pairs most a.self.places a.self.g a.m.at a.m.n a.s.now h l.i l.s c.add_number.new.s (omega arith) (l.invariant ends pairs most h) c.add_number.ensures

pub returns : goal.returns
returns c =
    let l = c.loop-i in
    let a = c.args in
    λ ends pairs most h. adding_done ends pairs most a.self.places a.self.g a.m.at a.m.n a.s.now h l.i l.s (omega arith) (l.invariant ends pairs most h)
