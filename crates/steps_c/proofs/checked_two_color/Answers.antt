-- `steps_c::checked_two_color` meets its contract: the checks, then the two sides. Assumes nothing.
use mathlib.Core.Path.{refl}
use lib.ListN.{length}
use Rattle.appointments.specs.Refusals.{told}
use Rattle.appointments.proofs.AnswerLaws.{handed_on}
use Rattle.checking.proofs.Answering.{answered_passed, answered_figure, answered_number}
use Rattle.steps_c.proofs.Answering.{barred_says, passed_says}
use Rattle.two_color.proofs.Passing.{passed_can_color}
use Rattle.steps_c.proofs.checked_two_color.Goals as goal

pub two_sides-requires : goal.two_sides-requires
two_sides-requires c =
    let a = c.args in
    passed_can_color (length a.list.now) (answered_figure _ _ _ c.in_ok-d.ensures) (answered_passed _ _ _ c.in_ok-d.ensures)

pub returns-in_err-d : goal.returns-in_err-d
returns-in_err-d c =
    let a = c.args in
    let barred = answered_number _ _ _ _ c.in_err-d.ensures in
    let says = barred_says c.from-parties.result a.list.now a.scratch.now (told c.from_residual.result) _ _ (handed_on _ _ _ c.from_residual.ensures.1 refl) barred in
    rw (← c.from-parties.ensures) (record { colored = says.0; small = says.1 })

pub returns : goal.returns
returns c =
    let a = c.args in
    let passed = answered_passed _ _ _ c.in_ok-d.ensures in
    let says = passed_says c.from-parties.result a.list.now a.scratch.now c.two_sides.new.s passed c.two_sides.result c.two_sides.ensures.answers in
    rw (c.ok_or.ensures.value, ← c.from-parties.ensures) (record { colored = says.0; small = says.1 })
