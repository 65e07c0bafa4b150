-- `enter_all` meets its contract: a slot is entered for the first end and for the second. Assumes nothing.
use mathlib.Core.List.{[], ◌∷◌}
use native.Mathlib.Omega.{arith}
use lib.ListN.{length, length-append}
use Rattle.appointments.specs.Appointments.{appts}
use Rattle.appointments.proofs.ChunkWalks.{chunk_start, chunk_turn, chunks_end}
use Rattle.asking_many.proofs.ByParty.{table_none, table_more, table_all, load_room, load_room_again}
use Rattle.asking_many.proofs.enter_all.Goals as goal

pub loop-first-init : goal.loop-first-init
loop-first-init c = rw c.none.ensures (table_none (appts c.args.list.now) c.args.slots.now)

pub bounds-rows-from : goal.bounds-rows-from
bounds-rows-from c =
    let walk = chunk_start c.as_chunks.ensures.front c.iter.ensures.rest c.zip-first-items.ensures.first c.zip-first-items.ensures.second.0 c.into_iter-first-iterator.ensures.into_iter_gives in
    let turn = chunk_turn walk c.loop-first.yielded _ c.next.new.self _ c.loop-first.yielded_by c.next.ensures.steps _ c.in-Some.is in
    let i = length c.loop-first.yielded in
    let parties = c.requires.ends i turn.inside in
    rw (c.from.ensures, turn.ends) (omega (arith, parties.0))

pub enter-requires : goal.enter-requires
enter-requires c =
    let a = c.args in
    let walk = chunk_start c.as_chunks.ensures.front c.iter.ensures.rest c.zip-first-items.ensures.first c.zip-first-items.ensures.second.0 c.into_iter-first-iterator.ensures.into_iter_gives in
    let turn = chunk_turn walk c.loop-first.yielded _ c.next.new.self _ c.loop-first.yielded_by c.next.ensures.steps _ c.in-Some.is in
    let i = length c.loop-first.yielded in
    let parties = c.requires.ends i turn.inside in
    let room = load_room a.list.now a.slots.now i c.requires turn.inside c.loop-first.rows _ c.loop-first.invariant parties.0 in
    rw (c.from.ensures, turn.ends) (omega (arith, room))

pub bounds-rows-from-in-loop-first : goal.bounds-rows-from-in-loop-first
bounds-rows-from-in-loop-first c =
    let walk = chunk_start c.as_chunks.ensures.front c.iter.ensures.rest c.zip-first-items.ensures.first c.zip-first-items.ensures.second.0 c.into_iter-first-iterator.ensures.into_iter_gives in
    let turn = chunk_turn walk c.loop-first.yielded _ c.next.new.self _ c.loop-first.yielded_by c.next.ensures.steps _ c.in-Some.is in
    let i = length c.loop-first.yielded in
    let parties = c.requires.ends i turn.inside in
    rw (c.from-in-loop-first.ensures, turn.ends) (omega (arith, parties.1))

pub enter-requires-in-loop-first : goal.enter-requires-in-loop-first
enter-requires-in-loop-first c =
    let a = c.args in
    let walk = chunk_start c.as_chunks.ensures.front c.iter.ensures.rest c.zip-first-items.ensures.first c.zip-first-items.ensures.second.0 c.into_iter-first-iterator.ensures.into_iter_gives in
    let turn = chunk_turn walk c.loop-first.yielded _ c.next.new.self _ c.loop-first.yielded_by c.next.ensures.steps _ c.in-Some.is in
    let i = length c.loop-first.yielded in
    let parties = c.requires.ends i turn.inside in
    let room = load_room_again a.list.now a.slots.now i c.requires turn.inside c.loop-first.rows _ c.loop-first.invariant parties.1 in
    rw (c.enter.ensures, c.from-in-loop-first.ensures, c.from.ensures, turn.ends, turn.slot) (omega (arith, room))

pub loop-first-preserved : goal.loop-first-preserved
loop-first-preserved c =
    let a = c.args in
    let walk = chunk_start c.as_chunks.ensures.front c.iter.ensures.rest c.zip-first-items.ensures.first c.zip-first-items.ensures.second.0 c.into_iter-first-iterator.ensures.into_iter_gives in
    let turn = chunk_turn walk c.loop-first.yielded _ c.next.new.self _ c.loop-first.yielded_by c.next.ensures.steps _ c.in-Some.is in
    let i = length c.loop-first.yielded in
    rw (length-append c.loop-first.yielded (_ ∷ []), c.enter-in-loop-first.ensures, c.from-in-loop-first.ensures, c.enter.ensures, c.from.ensures, turn.ends, turn.slot)
    (table_more a.list.now a.slots.now i c.requires turn.inside c.loop-first.rows (omega (arith, c.type_inv.slots i)) c.loop-first.invariant)

pub returns : goal.returns
returns c =
    let a = c.args in
    let walk = chunk_start c.as_chunks.ensures.front c.iter.ensures.rest c.zip-first-items.ensures.first c.zip-first-items.ensures.second.0 c.into_iter-first-iterator.ensures.into_iter_gives in
    let past = chunks_end walk c.loop-first.yielded _ c.next.new.self _ c.loop-first.yielded_by c.next.ensures.steps c.in-None.is in
    table_all a.list.now a.slots.now (length c.loop-first.yielded) c.loop-first.rows (omega (arith, past, c.requires.slot_room)) c.loop-first.invariant
