-- `Bases::add_appointments` meets its contract: a turn is one copy more of the appointment's pair, whose number is kept. Assumes nothing.
use Rattle.std.proofs.Common.{◌≡◌, ◌/◌, length, arith, refl}
use Rattle.appointments.proofs.Chunks.{chunk_seen}
use Rattle.list_pairs.specs.Contract.{first_of, second_of}
use Rattle.list_pairs.specs.Adding.{PairAdded}
use Rattle.list_pairs.specs.FromList.{pair_of}
use Rattle.list_pairs.proofs.BuildingLaws.{fits, built, built_more}
use Rattle.list_pairs.proofs.Bases.add_appointments.Goals as goal

pub loop-i-preserved : goal.loop-i-preserved
loop-i-preserved c =
    let list = c.args.list.now in
    let at = c.args.self in
    let turn = c.loop-i in
    let h = turn.invariant.building in
    let chunk = chunk_seen _ list turn.i c.as_chunks.ensures.front (omega arith) in
    let ee : c.pair_of-e.result.0 ≡ pair_of at.g at.apair turn.i turn.s = c.pair_of-e.ensures in
    let el : c.new-l.result.0 ≡ first_of list turn.i = rw (c.new-l.ensures, c.from.ensures, chunk.ends) refl in
    let er : c.new-r.result.0 ≡ second_of list turn.i = rw (c.new-r.ensures, c.from-in-loop-i.ensures, chunk.ends) refl in
    let fit = fits list at turn.i turn.s h (omega arith) (omega (arith, el)) (omega (arith, er)) in
    let add : PairAdded at.ends at.g (pair_of at.g at.apair turn.i turn.s) (first_of list turn.i) (second_of list turn.i) 1 turn.s c.add_pair.new.s = (rw (ee, el, er) at c.add_pair.ensures) fit in
    let one_more = built list at turn.i turn.s h (omega arith) fit c.add_pair.new.s c.set_word.new.s add (rw (c.index.ensures, ee) at c.set_word.ensures) in
    built_more list at turn.i c.args.s.now turn.s c.set_word.new.s turn.invariant one_more

pub returns : goal.returns
returns c =
    let e : c.loop-i.i ≡ length c.args.list.now / 2 = omega arith in
    rw e at c.loop-i.invariant
