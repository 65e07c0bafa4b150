-- `put_parties` meets its contract: a line more with each turn. Assumes nothing.
use mathlib.Core.Path.{ap}
use Prim.Native.Nat.{ℕ}
use native.Mathlib.Omega.{arith}
use Rattle.appointments.specs.Appointments.{appts}
use Rattle.printing.specs.Printing.{party_lines}
use Rattle.printing.proofs.PlacingSteps.{underway_start, underway_room, underway_more, underway_all, party_next, party_last}
use Rattle.printing.proofs.put_parties.Goals as goal

pub put_party-requires : goal.put_party-requires
put_party-requires g c =
    let a = c.args in
    let next = party_next a.p (appts a.list.now) a.slots.now c.loop-party.party (omega arith) in
    underway_room c.loop-party.invariant _ _ next c.requires

pub loop-party-preserved : goal.loop-party-preserved
loop-party-preserved g c =
    let a = c.args in
    let next = party_next a.p (appts a.list.now) a.slots.now c.loop-party.party (omega arith) in
    underway_more c.loop-party.invariant _ _ next c.put_party.ensures

pub returns : goal.returns
returns g c =
    let a = c.args in
    underway_all c.loop-party.invariant (party_last a.p (appts a.list.now) a.slots.now c.loop-party.party (omega arith))

pub loop-party-init : goal.loop-party-init
loop-party-init g c =
    let a = c.args in
    underway_start _ (ap (λ (k : ℕ). party_lines (appts a.list.now) a.slots.now 0 k) (omega arith))
