-- `SearchGraph::halve_all` meets its contract: one halving, and then those of half the degree, each where the mark stands. Assumes nothing.
use Rattle.std.proofs.Common.{◌≡◌, refl, ap, ◌∙◌, arith}
use Rattle.mark.specs.declared.Mark.{Mark}
use Rattle.matching.proofs.HalvingWords.{halving_stops, halving_first, halving_rest, halving_ends}
use Rattle.matching.proofs.SearchGraph.+halve_all.Goals as goal

pub returns-then-degree-lt2 : goal.returns-then-degree-lt2
returns-then-degree-lt2 t c =
    let a = c.args in
    let x = a.self in
    (halving_stops x.t x.graph.g x.graph.n x.graph.d a.degree a.m.now.taken x.count a.s.now c.requires (omega arith), refl)

pub halve_once-requires : goal.halve_once-requires
halve_once-requires t c =
    let a = c.args in
    let x = a.self in
    halving_first x.t x.graph.g x.graph.n x.graph.d a.degree a.m.now.taken x.count a.s.now c.requires (omega arith)

pub halve_all-requires : goal.halve_all-requires
halve_all-requires t c =
    let a = c.args in
    let x = a.self in
    let first = c.halve_once.ensures in (
      omega (arith, c.decreases),
      rw first.1
          (halving_rest x.t x.graph.g x.graph.n x.graph.d a.degree a.m.now.taken x.count a.s.now c.requires (omega arith) c.halve_once.new.m.taken c.halve_once.new.s first.0),
    )

pub returns : goal.returns
returns t c =
    let a = c.args in
    let x = a.self in
    let first = c.halve_once.ensures in
    let rest = c.halve_all.ensures in
    let back : c.halve_all.new.m ≡ a.m.now = rest.1 ∙ first.1 in (
      halving_ends x.t x.graph.g x.graph.n x.graph.d a.degree a.m.now.taken x.count a.s.now c.requires (omega arith) c.halve_once.new.m.taken c.halve_once.new.s first.0
          c.halve_once.new.m.taken c.halve_all.new.m.taken c.halve_all.new.s (ap (λ (m : Mark). m.taken) back) rest.0,
      back,
    )
