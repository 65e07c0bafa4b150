-- `set_aside` meets its contract: for an even degree the graph itself, and else the graph less the matching that was found, in words taken for it. Assumes
-- nothing.
use Rattle.edge_color.proofs.AsideWords.{aside_none, aside_one}
use Rattle.edge_color.proofs.set_aside.Goals as goal

pub returns-then-d-eq0 : goal.returns-then-d-eq0
returns-then-d-eq0 c =
    let a = c.args in
    aside_none a.t a.s.now a.m.now.taken a.graph.g a.graph.n a.graph.d a.out c.requires.0 c.if-d-eq0.true

pub returns : goal.returns
returns c =
    let a = c.args in
    let found = c.rbmg_find_perfect_matching in
    let removed = rw c.take-u.ensures.0 at c.remove_matching.ensures in
    rw (c.take-u.ensures.1, c.take-u.ensures.0)
    (aside_one a.t a.s.now a.m.now.taken a.graph.g a.graph.n a.graph.d a.out c.requires.0 c.requires.1 c.if-d-eq0.false found.new.s found.new.m.taken found.ensures.0 c.remove_matching.new.s removed)
