-- `search` meets its contract: the graph with the diagonal's pairs lies in words taken for it, is halved there, and its flagged pairs are counted once
-- the words are given back. Assumes nothing.
use Rattle.std.proofs.Common.{◌≡◌, ap, ◌∙◌}
use Rattle.mark.specs.declared.Mark.{Mark}
use Rattle.mark.specs.Taking.{given_back}
use Rattle.matching.proofs.SearchWords.{copy_inside, can_halve_all, search_done}
use Rattle.matching.proofs.search.Goals as goal

pub build-requires : goal.build-requires
build-requires c =
    let a = c.args in
    rw c.take-h.ensures.0 (copy_inside a.t a.graph.g a.graph.n a.graph.d a.m.now.taken a.s.now c.requires)

pub halve_all-requires : goal.halve_all-requires
halve_all-requires c =
    let a = c.args in
    let degree = c.next_power_of_two-degree in
    let built = rw c.take-h.ensures.0 at c.build.ensures in
    rw (c.take-h.ensures.1, c.take-h.ensures.0)
    (can_halve_all a.t a.graph.g a.graph.n a.graph.d a.m.now.taken a.s.now c.requires degree.result degree.ensures c.build.new.s built)

pub returns : goal.returns
returns c =
    let a = c.args in
    let degree = c.next_power_of_two-degree in
    let built = rw c.take-h.ensures.0 at c.build.ensures in
    let halved = rw (c.take-h.ensures.1, c.take-h.ensures.0) at c.halve_all.ensures in
    let back : c.give_back.new.self ≡ a.m.now = c.give_back.ensures ∙ rw c.take-h.ensures.0 (ap (given_back a.m.now.taken) halved.1) in (
      search_done a.t a.graph.g a.graph.n a.graph.d a.m.now.taken a.s.now c.requires degree.result degree.ensures c.build.new.s built
          a.count c.give_back.new.self.taken c.flagged_in.result c.halve_all.new.m.taken c.halve_all.new.s halved.0
          (rw c.take-h.ensures.0 at c.flagged_in.ensures) (ap (λ (m : Mark). m.taken) back),
      back,
    )
