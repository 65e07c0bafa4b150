-- `Halves::go_on` meets its contract: the choice, then the copy of the half chosen. Assumes nothing.
use Rattle.matching.proofs.Counts.{chosen_inside}
use Rattle.matching.proofs.Halves.go_on.Goals as goal

pub copy-requires : goal.copy-requires
copy-requires c =
    let x = c.args.self in
    chosen_inside x.first x.room x.pairs c.args.h x.count c.args.s.now c.chosen-from.result c.requires.1 c.chosen-from.ensures.0
