-- `rbmg_edge_color` meets its contract: one matching set aside for an odd degree, a split of the rest, the first half coloured, its earliest matchings moved
-- to the second half, which has then a power of two. Assumes nothing.
use Rattle.std.proofs.Common.{◌≡◌, ◌/◌, ◌^◌, refl, arith}
use Rattle.words.specs.PowersOfTwo.{log_up}
use Rattle.edge_color.proofs.AsideWords.{small}
use Rattle.edge_color.proofs.ColorWords.{color_splits, color_first, color_power, color_joined}
use Rattle.edge_color.proofs.CutSizes.{sums, color_falls}
use Rattle.edge_color.proofs.SingleWords.{color_none, color_read}
use Rattle.edge_color.proofs.+rbmg_edge_color.Goals as goal

pub returns-then-d-eq0 : goal.returns-then-d-eq0
returns-then-d-eq0 t c =
    let a = c.args in
    (color_none a.t a.s.now a.m.now.taken a.graph.g a.graph.n a.graph.d a.out c.requires c.if-d-eq0.true, refl)

pub returns-then-d-eq1 : goal.returns-then-d-eq1
returns-then-d-eq1 t c =
    let a = c.args in
    (color_read a.t a.s.now c.read_matching.new.s a.m.now.taken a.graph.g a.graph.n a.graph.d a.out c.requires c.if-d-eq1.true c.read_matching.ensures, refl)

pub rbmg_split_into_two-requires : goal.rbmg_split_into_two-requires
rbmg_split_into_two-requires t c =
    let a = c.args in
    let aside = c.set_aside-rest in
    color_splits a.t a.s.now a.m.now.taken a.graph.g a.graph.n a.graph.d a.out (2 ^ log_up (a.graph.d / 2)) c.requires (omega arith) refl aside.new.s aside.new.m.taken aside.result aside.ensures

pub rbmg_edge_color-requires : goal.rbmg_edge_color-requires
rbmg_edge_color-requires t c =
    let a = c.args in
    let aside = c.set_aside-rest in
    let half = c.rbmg_split_into_two in (
      color_falls a.graph.d t (omega arith) (omega (arith, c.decreases)),
      color_first a.t a.s.now a.m.now.taken a.graph.g a.graph.n a.graph.d a.out (2 ^ log_up (a.graph.d / 2)) c.requires (omega arith) refl aside.new.s aside.new.m.taken aside.result aside.ensures
          half.new.s half.new.m.taken half.ensures.0,
    )

pub move_earliest-r-requires : goal.move_earliest-r-requires
move_earliest-r-requires t c =
    let a = c.args in
    let ok = c.requires in
    let aside = c.set_aside-rest in
    let sum = sums a.t a.s.now a.m.now.taken a.graph.g a.graph.n a.graph.d a.out (2 ^ log_up (a.graph.d / 2)) ok (omega arith) refl aside.new.m.taken aside.ensures.to in
    (omega (arith, small a.t a.s.now a.m.now.taken a.graph.g a.graph.n a.graph.d a.out ok), sum.moved, sum.into)

pub rbmg_edge_color_when_power_of_two-requires : goal.rbmg_edge_color_when_power_of_two-requires
rbmg_edge_color_when_power_of_two-requires t c =
    let a = c.args in
    let aside = c.set_aside-rest in
    let half = c.rbmg_split_into_two in
    let first = c.rbmg_edge_color in
    let moved = c.move_earliest-r in
    color_power a.t a.s.now a.m.now.taken a.graph.g a.graph.n a.graph.d a.out moved.result c.requires (omega arith) moved.ensures.0 aside.new.s aside.new.m.taken aside.result aside.ensures
    half.new.s half.new.m.taken half.ensures.0 first.new.s first.new.m.taken first.ensures.0 moved.new.s moved.ensures.1

pub returns : goal.returns
returns t c =
    let a = c.args in
    let aside = c.set_aside-rest in
    let half = c.rbmg_split_into_two in
    let first = c.rbmg_edge_color in
    let moved = c.move_earliest-r in
    let power = c.rbmg_edge_color_when_power_of_two in
    let back : c.give_back.new.self ≡ a.m.now = c.give_back.ensures in
    rw back (
      color_joined a.t a.s.now a.m.now.taken a.graph.g a.graph.n a.graph.d a.out moved.result c.requires (omega arith) moved.ensures.0 aside.new.s aside.new.m.taken aside.result aside.ensures
          half.new.s half.new.m.taken half.ensures.0 first.new.s first.new.m.taken first.ensures.0 moved.new.s moved.ensures.1
          power.new.s power.new.m.taken power.ensures.0,
      refl,
    )
