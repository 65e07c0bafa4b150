-- `searches` meets its contract: the second search begins where the first did, with the mark where it stood. Assumes nothing.
use Rattle.std.proofs.Common.{◌∙◌}
use Rattle.matching.proofs.FindWords.{one_search, can_search_again, two_searches}
use Rattle.matching.proofs.searches.Goals as goal

pub returns-then-flagged-eq0 : goal.returns-then-flagged-eq0
returns-then-flagged-eq0 c =
    let a = c.args in
    let first = c.search-flagged.ensures in
    (one_search a.t a.graph.g a.graph.n a.graph.d a.m.now.taken c.search-flagged.new.m.taken c.search-flagged.result a.s.now c.search-flagged.new.s first.0 c.if-flagged-eq0.true, first.1)

pub search-requires : goal.search-requires
search-requires c =
    let a = c.args in
    let first = c.search-flagged.ensures in
    rw first.1 (can_search_again a.t a.graph.g a.graph.n a.graph.d a.m.now.taken a.s.now c.search-flagged.new.s c.requires first.0.stays)

pub returns : goal.returns
returns c =
    let a = c.args in
    let first = c.search-flagged.ensures in
    let second = c.search.ensures in (
      two_searches a.t a.graph.g a.graph.n a.graph.d a.m.now.taken c.search-flagged.new.m.taken c.search.new.m.taken c.search-flagged.result c.search.result a.s.now
          c.search-flagged.new.s c.search.new.s c.requires first.0 c.if-flagged-eq0.false second.0,
      second.1 ∙ first.1,
    )
