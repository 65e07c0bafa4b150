-- `MappedGraph::remove_matching` meets its contract: both passes over the map, the copy, then the head. Assumes nothing.
use Rattle.multigraph.proofs.RemovingWords.{matching_removed}
use Rattle.multigraph.proofs.MappedGraph.remove_matching.Goals as goal

pub returns : goal.returns
returns c =
    let a = c.args in
    λ ends pairs most h.
    rw c.head.ensures
    (matching_removed ends pairs most a.self.places a.self.g a.to a.m.at a.m.n c.copy_rest-k.result a.s.now c.write_places.new.s c.write_absent.new.s c.copy_rest-k.new.s h c.write_places.ensures c.write_absent.ensures c.copy_rest-k.ensures)
