-- `slots::take_all` meets its contract. Invariant: what the appointments from i on make of the words and slots is what all of them
-- make of those at entry. Assumes nothing.
use Rattle.std.proofs.Common.{◌≤◌, sym, ◌∙◌, arith}
use Rattle.slot_chains.proofs.StepLaws.{given_words_turn, given_slots_turn, given_words_stop, given_slots_stop}
use Rattle.slots.proofs.take_all.Goals as goal

pub loop-i-preserved : goal.loop-i-preserved
loop-i-preserved c =
    let lp = c.loop-i in
    let a = c.args in
    let x = c.take_slot.ensures in
    let h = c.loop-i-test.true in (
      c.take_slot.auto.s ∙ lp.invariant.0,
      c.take_slot.auto.slots ∙ lp.invariant.1,
      rw x.0
          (sym (given_words_turn a.chains.out a.numbers.at a.chains.links a.numbers.n lp.i h lp.s) ∙ lp.invariant.2),
      rw (x.0, x.1)
          (sym (given_slots_turn a.chains.out a.numbers.at a.chains.links a.numbers.n lp.i h lp.s lp.slots) ∙ lp.invariant.3),
    )

pub returns : goal.returns
returns c =
    let lp = c.loop-i in
    let a = c.args in
    let h : a.numbers.n ≤ lp.i = omega arith in (
      sym (given_words_stop a.chains.out a.numbers.at a.chains.links a.numbers.n lp.i h lp.s) ∙ lp.invariant.2,
      sym (given_slots_stop a.chains.out a.numbers.at a.chains.links a.numbers.n lp.i h lp.s lp.slots) ∙ lp.invariant.3,
    )
