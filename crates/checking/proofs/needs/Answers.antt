-- `checking::needs` meets its contract: a refusal is that of checks 1 to 6, and W is computed from D. Assumes nothing.
use Rattle.appointments.proofs.AnswerLaws.{handed_on}
use Rattle.checking.proofs.Answering.{answered_number, needs_refused, needs_words, sized}
use Rattle.checking.proofs.needs.Goals as goal

pub returns-in_err-d : goal.returns-in_err-d
returns-in_err-d c =
    let a = c.args in
    handed_on c.from_residual.result _ _ c.from_residual.ensures.1
    (needs_refused a.p a.list.now _ _ (answered_number _ _ _ _ c.in_err-d.ensures))

pub scratch_words-requires : goal.scratch_words-requires
scratch_words-requires c =
    let a = c.args in
    (sized a.p a.list.now _ c.in_ok-d.ensures).room

pub returns : goal.returns
returns c =
    let a = c.args in
    let k = sized a.p a.list.now _ c.in_ok-d.ensures in
    rw c.scratch_words.ensures (needs_words a.p a.list.now _ k.figure k.ok)
