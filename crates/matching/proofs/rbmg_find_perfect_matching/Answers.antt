-- `rbmg_find_perfect_matching` meets its contract: what the searches left at the mark is read as a matching. Assumes nothing.
use Rattle.matching.proofs.FindWords.{matching_found}
use Rattle.matching.proofs.rbmg_find_perfect_matching.Goals as goal

pub returns : goal.returns
returns c =
    let a = c.args in
    let found = c.searches.ensures in (
      matching_found a.t a.graph.g a.graph.n a.graph.d a.out a.m.now.taken c.searches.new.m.taken a.s.now c.searches.new.s c.requires found.0 c.read_matching.new.s c.read_matching.ensures,
      found.1,
    )
