-- `prepare` meets its contract: each step finds what the one before left, with the mark where it stood. Assumes nothing.
use Rattle.given_partition.proofs.Preparing.{graph_low, ends_low, can_pad, can_pair, can_even, can_diagonal, prepared, prepared_length}
use Rattle.given_partition.proofs.prepare.Goals as goal

pub pad_sides-n-requires : goal.pad_sides-n-requires
pad_sides-n-requires c = can_pad c.requires

pub invariant_of-at : goal.invariant_of-at
invariant_of-at c = record { ends_small = ends_low c.requires; g_small = graph_low c.requires }

pub pairs_from_list-requires : goal.pairs_from_list-requires
pairs_from_list-requires c = can_pair c.requires _ _ c.pad_sides-n.ensures

pub even_out-requires : goal.even_out-requires
even_out-requires c = can_even c.requires _ _ c.pad_sides-n.ensures c.pairs_from_list.ensures.0

pub diagonal-requires : goal.diagonal-requires
diagonal-requires c = can_diagonal c.requires _ _ c.pad_sides-n.ensures c.pairs_from_list.ensures.0 c.even_out.ensures.0

pub returns : goal.returns
returns c =
    let padded = c.pad_sides-n.ensures in
    let pairs = c.pairs_from_list.ensures in
    let evened = c.even_out.ensures in
    let placed = c.diagonal.ensures in
    (prepared c.requires _ _ padded pairs.0 evened.0 placed.0, prepared_length c.requires _ _ padded pairs.0 evened.0 placed.0)
