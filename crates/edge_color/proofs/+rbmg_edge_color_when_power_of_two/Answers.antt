-- `rbmg_edge_color_when_power_of_two` meets its contract: a split above the mark, each half coloured, the second behind the first. Assumes nothing.
use Rattle.std.proofs.Common.{◌≡◌, refl, ap, ◌∙◌, arith}
use Rattle.mark.specs.Taking.{given_back}
use Rattle.edge_color.proofs.PowerWords.{power_splits, power_first, power_second, power_joined, power_falls}
use Rattle.edge_color.proofs.SingleWords.{power_read}
use Rattle.edge_color.proofs.+rbmg_edge_color_when_power_of_two.Goals as goal

pub returns-then-d-eq1 : goal.returns-then-d-eq1
returns-then-d-eq1 t c =
    let a = c.args in
    (power_read a.s.now c.read_matching.new.s a.m.now.taken a.ends a.graph.g a.graph.n a.graph.d a.out c.requires c.if-d-eq1.true c.read_matching.ensures, refl)

pub rbmg_split_into_two-requires : goal.rbmg_split_into_two-requires
rbmg_split_into_two-requires t c =
    let a = c.args in
    power_splits a.s.now a.m.now.taken a.ends a.graph.g a.graph.n a.graph.d a.out c.requires c.if-d-eq1.false

pub rbmg_edge_color_when_power_of_two-requires : goal.rbmg_edge_color_when_power_of_two-requires
rbmg_edge_color_when_power_of_two-requires t c =
    let a = c.args in
    let ok = c.requires in
    let half = c.rbmg_split_into_two in (
      power_falls a.s.now a.m.now.taken a.ends a.graph.g a.graph.n a.graph.d a.out t ok (omega (arith, c.decreases)),
      power_first a.s.now a.m.now.taken a.ends a.graph.g a.graph.n a.graph.d a.out ok c.if-d-eq1.false half.new.s half.new.m.taken half.ensures.0,
    )

pub rbmg_edge_color_when_power_of_two-requires-2 : goal.rbmg_edge_color_when_power_of_two-requires-2
rbmg_edge_color_when_power_of_two-requires-2 t c =
    let a = c.args in
    let ok = c.requires in
    let half = c.rbmg_split_into_two in
    let first = c.rbmg_edge_color_when_power_of_two in (
      power_falls a.s.now a.m.now.taken a.ends a.graph.g a.graph.n a.graph.d a.out t ok (omega (arith, c.decreases)),
      power_second a.s.now a.m.now.taken a.ends a.graph.g a.graph.n a.graph.d a.out ok c.if-d-eq1.false half.new.s half.new.m.taken half.ensures.0 first.new.s first.new.m.taken first.ensures.0,
    )

pub returns : goal.returns
returns t c =
    let a = c.args in
    let half = c.rbmg_split_into_two in
    let first = c.rbmg_edge_color_when_power_of_two in
    let second = c.rbmg_edge_color_when_power_of_two-2 in
    let back : c.give_back.new.self ≡ a.m.now = c.give_back.ensures ∙ ap (given_back a.m.now.taken) (second.ensures.1 ∙ first.ensures.1 ∙ half.ensures.1) in
    rw back (
      power_joined a.s.now a.m.now.taken a.ends a.graph.g a.graph.n a.graph.d a.out c.requires c.if-d-eq1.false half.new.s half.new.m.taken half.ensures.0
          first.new.s first.new.m.taken first.ensures.0 second.new.s second.new.m.taken second.ensures.0,
      refl,
    )
