-- `slots::give_slots` meets its contract: its two passes give the definition's plan. Assumes nothing.
use Rattle.slots.proofs.StoredSlots.{slots_stored}
use Rattle.slots.proofs.give_slots.Goals as goal

pub returns : goal.returns
returns c =
    let a = c.args in
    λ ends pairs xs plan e fit.
    let x = c.take_all.ensures in
    rw (x.0, x.1, c.push_all.ensures, ← e)
    (slots_stored ends pairs a.chains.n a.chains.d a.chains.out a.numbers.at a.chains.links xs plan a.s.now a.slots.now fit)
