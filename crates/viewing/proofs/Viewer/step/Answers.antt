-- `Viewer::step` meets its contract: what the search finds from where it started is what it finds from where it is. Assumes nothing.
use mathlib.Core.Path.{◌≡◌, sym, ◌∙◌}
use native.Mathlib.Omega.{arith}
use lib.ListN.{length, get_or}
use Prim.Native.Nat.{◌/◌}
use Rattle.std.proofs.lemmas.Grind.{common_steps}
use Rattle.appointments.specs.Appointments.{named_at}
use Rattle.appointments.specs.Checks.{at}
use Rattle.appointments.proofs.Chunks.{chunk_seen}
use Rattle.viewing.proofs.Searching.{seek_named, named_here, named_on, named_past, shows_found, shows_end}
use Rattle.viewing.proofs.Viewer.step.Goals as goal

pub returns-then-named : goal.returns-then-named
returns-then-named c =
    let v = c.args.self.now in
    let i = c.loop-i.i in
    let chunk = chunk_seen _ v.list.now i c.as_chunks.ensures.front (omega arith) in
    let names : c.named.result ≡ named_at c.args.party v.list.now i = rw chunk.ends at c.named.ensures in
    let here : seek_named c.args.party v.list.now v.at ≡ at i =
    c.loop-i.invariant.same ∙ named_here c.args.party v.list.now i chunk.inside (sym names ∙ c.if-named.true) in
    let shows = shows_found c.args.party v.list.now v.slots.now v.at i here in
    let slot : c.unwrap_or.result ≡ get_or c.loop-i.self.slots.now i 0 = grind (arith, common_steps) in
    let its_slot : c.unwrap_or.result ≡ get_or v.slots.now i 0 = rw c.loop-i.invariant.unmoved at slot in
    record { seen = rw its_slot shows.0; stands = rw (c.loop-i.invariant.unmoved, shows.1) }

pub loop-i-preserved : goal.loop-i-preserved
loop-i-preserved c =
    let v = c.args.self.now in
    let i = c.loop-i.i in
    let chunk = chunk_seen _ v.list.now i c.as_chunks.ensures.front (omega arith) in
    let names : c.named.result ≡ named_at c.args.party v.list.now i = rw chunk.ends at c.named.ensures in
    record {
      unmoved = c.loop-i.invariant.unmoved;
      same = c.loop-i.invariant.same ∙ named_on c.args.party v.list.now i chunk.inside (sym names ∙ c.if-named.false);
    }

pub returns : goal.returns
returns c =
    let v = c.args.self.now in
    let shows = shows_end c.args.party v.list.now v.slots.now v.at (c.loop-i.invariant.same ∙ named_past c.args.party v.list.now c.loop-i.i (omega (arith, c.as_chunks.ensures.front_len))) in
    let half : length c.as_chunks.result.0.now ≡ length v.list.now / 2 = omega (arith, c.as_chunks.ensures.front_len) in
    record { seen = shows.0; stands = rw (c.loop-i.invariant.unmoved, half, shows.1) }
