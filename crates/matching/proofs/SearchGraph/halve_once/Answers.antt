-- `SearchGraph::halve_once` meets its contract: the mark stands where it stood while the split and the choice go on. Assumes nothing.
use Rattle.std.proofs.Common.{◌≡◌, ◌+◌, ap, ◌∙◌, arith}
use native.Mathlib.Nat.{mul-le-mul_right}
use Rattle.mark.specs.declared.Mark.{Mark}
use Rattle.mark.specs.Taking.{given_back}
use Rattle.matching.proofs.HalvingWords.{splits, side_by_side, halved}
use Rattle.matching.proofs.SearchGraph.halve_once.Goals as goal

pub rbmg_split_into_two-requires : goal.rbmg_split_into_two-requires
rbmg_split_into_two-requires c =
    let a = c.args in
    let x = a.self in
    splits x.t x.graph.g x.graph.n x.graph.d a.m.now.taken a.s.now c.requires

pub go_on-requires : goal.go_on-requires
go_on-requires c =
    let a = c.args in
    let x = a.self in
    let ok = c.requires in (
      omega (arith, mul-le-mul_right (x.graph.d + 1) ok.laid.some, ok.laid.behind, ok.laid.room, ok.laid.short),
      side_by_side x.t x.graph.g x.graph.n x.graph.d a.m.now.taken a.s.now ok c.rbmg_split_into_two.new.s c.rbmg_split_into_two.new.m.taken c.rbmg_split_into_two.ensures.0,
    )

pub returns : goal.returns
returns c =
    let a = c.args in
    let x = a.self in
    let split = c.rbmg_split_into_two.ensures in
    let chosen = c.go_on.ensures in
    let back : c.give_back.new.self ≡ a.m.now = c.give_back.ensures ∙ ap (given_back a.m.now.taken) split.1 in (
      halved x.t x.graph.g x.graph.n x.graph.d a.m.now.taken a.s.now c.requires x.count c.rbmg_split_into_two.new.s c.go_on.new.s c.rbmg_split_into_two.new.m.taken chosen.from c.give_back.new.self.taken split.0 chosen.chosen chosen.copied (ap (λ (m : Mark). m.taken) back),
      back,
    )
