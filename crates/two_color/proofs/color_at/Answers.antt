-- `two_color::color_at` meets its contract: the words' sides are the definition's. Assumes nothing.
use native.Mathlib.Omega.{arith}
use Rattle.two_color.proofs.Beginning.{prepared_fits}
use Rattle.two_color.proofs.Finishing.{none_colored, all_fit, refused_colored, found_colored}
use Rattle.two_color.proofs.color_at.Goals as goal

pub returns-then-at-eq0 : goal.returns-then-at-eq0
returns-then-at-eq0 c =
    let a = c.args in
    none_colored a.at.u a.list.now a.s.now a.at.p c.if-at-eq0.true

pub prepare-requires : goal.prepare-requires
prepare-requires c =
    let a = c.args in
    prepared_fits a.at.u a.at.p a.at.d a.list.now a.s.now c.requires (omega arith)

pub all_steps-requires : goal.all_steps-requires
all_steps-requires c =
    let a = c.args in
    all_fit a.at.u a.at.p a.at.d a.list.now a.s.now c.requires (omega arith) c.prepare.new.s c.prepare.ensures

pub returns-then-refused-ne0 : goal.returns-then-refused-ne0
returns-then-refused-ne0 c =
    let a = c.args in
    refused_colored a.at.u a.at.p a.at.d a.list.now a.s.now c.requires (omega arith) _ _ c.prepare.ensures c.all_steps.ensures _
    (rw c.refused_place.ensures at c.get-refused.ensures.0) c.if-refused-ne0.true

pub returns : goal.returns
returns c =
    let a = c.args in
    found_colored a.at.u a.at.p a.at.d a.list.now a.s.now c.requires (omega arith) _ _ c.prepare.ensures c.all_steps.ensures _
    (rw c.refused_place.ensures at c.get-refused.ensures.0) _ (omega arith) (rw c.left_count.ensures at c.get-left.ensures.0)
