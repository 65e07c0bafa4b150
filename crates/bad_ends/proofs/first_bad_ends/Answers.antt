-- `bad_ends::first_bad_ends` meets its contract: what is kept, or else what is found from here on, is the first of the whole list, for each of the two tests.
-- Assumes nothing.
use native.Mathlib.Omega.{arith}
use Rattle.appointments.specs.Appointments.{appts}
use Rattle.appointments.specs.Checks.{unlisted, has_blank, has_unlisted}
use Rattle.appointments.proofs.BadEnds.{remembered}
use Rattle.appointments.proofs.Chunks.{chunk_seen}
use Rattle.bad_ends.proofs.Noting.{is_blank, kept_more, kept_all}
use Rattle.bad_ends.proofs.first_bad_ends.Goals as goal

pub loop-i-preserved : goal.loop-i-preserved
loop-i-preserved c =
    let args = c.args in
    let in-loop = c.loop-i in
    let first = c.note.new.self in
    let second = c.note-in-loop-i.new.self in
    let chunk = chunk_seen _ args.list.now in-loop.i c.as_chunks.ensures.front (omega arith) in
    record {
      for_4 = kept_more is_blank args.list.now in-loop.i in-loop.seen.blank first.blank second.blank chunk.inside (rw chunk.ends at c.note.ensures.blank) (rw chunk.ends at c.note-in-loop-i.ensures.blank) in-loop.invariant.for_4;
      for_5 = kept_more (unlisted args.p) args.list.now in-loop.i in-loop.seen.unlisted first.unlisted second.unlisted chunk.inside (rw chunk.ends at c.note.ensures.unlisted) (rw chunk.ends at c.note-in-loop-i.ensures.unlisted) in-loop.invariant.for_5;
    }

pub returns : goal.returns
returns c =
    let args = c.args in
    let in-loop = c.loop-i in
    record {
      for_4 = remembered has_blank (appts args.list.now) _ (kept_all is_blank args.list.now in-loop.i in-loop.seen.blank (omega arith) in-loop.invariant.for_4);
      for_5 = remembered (has_unlisted args.p) (appts args.list.now) _ (kept_all (unlisted args.p) args.list.now in-loop.i in-loop.seen.unlisted (omega arith) in-loop.invariant.for_5);
    }
