-- `given_partition::bipartite_edge_color_given_partition` meets its contract: what `prepare` leaves can be coloured, and the matchings
-- are what the slots are given from. Assumes nothing.
use Rattle.std.proofs.Common.{arith, length}
use Rattle.given_partition.proofs.Giving.{few, inside, appointed, slots_planned}
use Rattle.given_partition.proofs.bipartite_edge_color_given_partition.Goals as goal

pub invariant_of-chains : goal.invariant_of-chains
invariant_of-chains c =
    let small = few c.requires.sided c.prepare-n.ensures.0 _ (omega arith) in
    record { out_small = small.out; links_small = small.links; d_small = small.matchings; numbers_small = small.numbers }

pub invariant_of-numbers : goal.invariant_of-numbers
invariant_of-numbers c =
    let sum = appointed c.requires.sided c.prepare-n.ensures.0 (length c.args.list.now) (omega arith) in
    record { at_small = omega (arith, sum); n_small = omega (arith, sum) }

pub give_slots-requires : goal.give_slots-requires
give_slots-requires c =
    inside c.requires.sided c.prepare-n.ensures.0 _ (omega arith) c.color.new.s c.color.ensures.spares.len

pub returns : goal.returns
returns c =
    let prepared = c.prepare-n.ensures in
    slots_planned c.requires.sided prepared.0 (rw c.get-pairs.ensures.0 at c.color.ensures) c.args.slots.now c.requires.list_in_bounds
    c.give_slots.ensures prepared.1
