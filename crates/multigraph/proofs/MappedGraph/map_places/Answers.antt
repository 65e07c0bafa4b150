-- `MappedGraph::map_places` meets its contract: two passes, and the law of both together. Assumes nothing.
use Rattle.multigraph.proofs.Mapping.{places_mapped}
use Rattle.multigraph.proofs.MappedGraph.map_places.Goals as goal

pub returns : goal.returns
returns c =
    let a = c.args in
    λ ends rows most room h.
    places_mapped ends rows most room a.self.places a.self.g a.keys.at a.keys.n a.s.now c.write_absent.new.s c.write_places.new.s h c.write_absent.ensures c.write_places.ensures
