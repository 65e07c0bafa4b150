-- Taking no words leaves the mark where it was: a step that wants to know where the mark stands takes none. Assumes nothing.
use Rattle.std.specs.Prelude.{◌≡◌}
use Rattle.std.proofs.Common.{add-zero, arith}
use Rattle.mark.specs.declared.Mark.{Mark}
use Rattle.mark.specs.Taking.{taken_more}

pub taken_none : (m : Mark) → taken_more 0 m ≡ m
taken_none m = grind (arith, add-zero)
