-- `matching::flagged_in` meets its contract: the count over the graph's own words. Assumes nothing.
use mathlib.Core.Path.{◌∙◌}
use Rattle.matching.specs.declared.Count.TheVariants.{FlaggedPairs}
use native.Mathlib.Nat.{add-sub_cancel_left}
use Rattle.matching.proofs.Counts.{part_flagged}
use Rattle.matching.proofs.flagged_in.Goals as goal

pub returns : goal.returns
returns c =
    let a = c.args in
    λ ends. (rw add-sub_cancel_left at (c.flagged.ensures ends)) ∙ part_flagged FlaggedPairs a.s.now ends a.pairs a.h a.room c.requires.1
