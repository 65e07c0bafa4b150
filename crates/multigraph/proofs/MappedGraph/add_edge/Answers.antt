-- `MappedGraph::add_edge` meets its contract: an entry that the map has gets the copies, or a new one comes last. Assumes nothing.
use Rattle.std.proofs.Common.{◌≡◌, arith}
use Rattle.multigraph.specs.Places.{size}
use Rattle.multigraph.proofs.AddingWords.{pushed_words, adds_there, adds_new}
use Rattle.multigraph.proofs.MappedGraph.add_edge.Goals as goal

pub returns-in-Some : goal.returns-in-Some
returns-in-Some c =
    let a = c.args in
    adds_there a.self.places a.self.g a.key.0 a.number.0 a.copies c.in-Some.i a.s.now c.add_to.new.s (rw c.in-Some.is at c.place_of.ensures) c.add_to.ensures

pub returns : goal.returns
returns c =
    let a = c.args in
    let words : c.put.new.s ≡ pushed_words a.self.places a.self.g a.key.0 a.number.0 a.copies (size a.s.now a.self.g) a.s.now = rw (c.push_entry.ensures, c.get-m.ensures.0, c.index.ensures) at c.put.ensures in
    adds_new a.self.places a.self.g a.key.0 a.number.0 a.copies a.s.now c.put.new.s (rw c.in_default.is at c.place_of.ensures) (omega arith) words
