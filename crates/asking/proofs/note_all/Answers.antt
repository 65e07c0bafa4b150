-- `note_all` meets its contract: with each turn what was noted are the party's slots of one appointment more. Assumes nothing.
use Prim.Native.Nat.{◌<◌, ◌≤◌, ◌/◌, min}
use mathlib.Core.Path.{sym, ◌∙◌, ap}
use native.Mathlib.Omega.{arith}
use lib.ListN.{length}
use Rattle.words.specs.Words.{word}
use Rattle.appointments.specs.Appointments.{appts}
use Rattle.appointments.proofs.Flat.{appts_count}
use Rattle.asking.proofs.PartySlots.{slots_none, slots_named, slots_other, slots_all}
use Rattle.asking.proofs.Noting.{noted_none, noted_more, noted_few}
use Rattle.asking.proofs.note_all.Goals as goal
use Rattle.asking.proofs.note_all.Goals.{then-named, else-named}

pub loop-i-init : goal.loop-i-init
loop-i-init c =
    let a = c.args in
    rw (slots_none a.party (appts a.list.now) a.slots.now, c.requires, c.none.ensures) noted_none

pub note-requires : goal.note-requires
note-requires c =
    let a = c.args in
    omega (arith, noted_few a.party c.loop-i.i (appts a.list.now) a.slots.now c.loop-i.invariant)

pub loop-i-preserved : goal.loop-i-preserved
loop-i-preserved c =
    let a = c.args in
    let list = a.list.now in
    let slots = a.slots.now in
    let i = c.loop-i.i in
    let inside : i < length list / 2 = omega (arith, c.loop-i-test.true, c.min-count.ensures) in
    let held : i < length slots = omega (arith, c.loop-i-test.true, c.min-count.ensures) in
    elim c.if-named.branch [
      | then-named w ↦
          rw (w.flags-is, w.kept-is, slots_named a.party list slots i inside held (sym w.if-named.true ∙ c.named.ensures), w.note.ensures.flags)
          (noted_more (word slots i) w.note.new.self.span.lowest w.note.new.self.span.highest w.note.new.self.different (omega (arith, c.type_inv.slots i)) c.loop-i.invariant (ap (λ s. s.lowest) w.note.ensures.span) (ap (λ s. s.highest) w.note.ensures.span) w.note.ensures.different)
      | else-named w ↦
          rw (w.flags-is, w.kept-is, slots_other a.party list slots i inside held (sym w.if-named.false ∙ c.named.ensures)) c.loop-i.invariant
    ]

pub returns : goal.returns
returns c =
    let a = c.args in
    let past : min (length (appts a.list.now)) (length a.slots.now) ≤ c.loop-i.i = omega (arith, c.loop-i-test.false, c.min-count.ensures, appts_count a.list.now) in
    rw (slots_all a.party (appts a.list.now) a.slots.now c.loop-i.i past) at c.loop-i.invariant
