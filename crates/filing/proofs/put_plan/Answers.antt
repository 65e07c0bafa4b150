-- `put_plan` meets its contract: the output holds the first bytes of the plan, six more with each turn. Assumes nothing.
use Rattle.filing.proofs.WritingSteps.{header_put, row_put}
use mathlib.Core.List.{List, [], ◌∷◌}
use Rattle.filing.specs.Buffers.{put_row}
use mathlib.Core.Path.{◌≡◌, refl, ◌∙◌, ap}
use Prim.Native.Nat.{ℕ, ◌/◌}
use native.Mathlib.Omega.{arith}
use lib.ListN.{length, length-append}
use borrow.Author.Rules.{rules}
use Rattle.appointments.proofs.ChunkWalks.{numbered_start, numbered_turn, numbered_end}
use Rattle.filing.proofs.put_plan.Goals as goal

pub loop-i-init : goal.loop-i-init
loop-i-init c =
    let a = c.args in
    let header_left = header_put a.p a.list.now a.slots.now a.output.now _ _ (omega arith) (omega arith) c.put_bytes.ensures c.put_bytes-2.ensures in
    (refl, header_left)

pub put_appointment-requires : goal.put_appointment-requires
put_appointment-requires c =
    let a = c.args in
    let walk =
    numbered_start c.as_chunks.ensures.front c.iter.ensures.rest c.zip.ensures.first c.zip.ensures.second.0 c.enumerate-i-items.ensures.source c.enumerate-i-items.ensures.count c.into_iter-i-iterator.ensures.into_iter_gives
    in
    let numbered = numbered_turn walk c.loop-i.yielded _ c.next.new.self _ c.loop-i.yielded_by c.next.ensures.steps _ c.in-Some.is in
    rw numbered.number (omega (arith, numbered.turn.inside))

pub loop-i-preserved : goal.loop-i-preserved
loop-i-preserved c =
    let a = c.args in
    let walk =
    numbered_start c.as_chunks.ensures.front c.iter.ensures.rest c.zip.ensures.first c.zip.ensures.second.0 c.enumerate-i-items.ensures.source c.enumerate-i-items.ensures.count c.into_iter-i-iterator.ensures.into_iter_gives
    in
    let numbered = numbered_turn walk c.loop-i.yielded _ c.next.new.self _ c.loop-i.yielded_by c.next.ensures.steps _ c.in-Some.is in
    let turn = numbered.turn in
    let i = length c.loop-i.yielded in
    let put : c.put_appointment.new.output ≡ put_row a.list.now a.slots.now i c.loop-i.output = rw (numbered.number, turn.ends, turn.slot) at c.put_appointment.ensures in
    rw (length-append c.loop-i.yielded (_ ∷ [])) (
      search rules,
      put
          ∙ ap (λ (l : List ℕ). put_row a.list.now a.slots.now i l) c.loop-i.invariant.1
          ∙ row_put a.p a.list.now a.slots.now i a.output.now (omega arith) (omega arith) (omega arith),
    )

pub returns : goal.returns
returns c =
    let a = c.args in
    let walk =
    numbered_start c.as_chunks.ensures.front c.iter.ensures.rest c.zip.ensures.first c.zip.ensures.second.0 c.enumerate-i-items.ensures.source c.enumerate-i-items.ensures.count c.into_iter-i-iterator.ensures.into_iter_gives
    in
    let past = numbered_end walk c.loop-i.yielded _ c.next.new.self _ c.loop-i.yielded_by c.next.ensures.steps c.in-None.is in
    let all : length c.loop-i.yielded ≡ length a.list.now / 2 = omega (arith, past) in
    rw all at c.loop-i.invariant.1
