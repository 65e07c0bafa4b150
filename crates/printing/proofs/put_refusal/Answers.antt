-- `put_refusal` meets its contract: what was put stands at the slice's start, and its later bytes stay. Assumes nothing.
use borrow.Author.Rules.{rules}
use Rattle.printing.proofs.PlacingSteps.{printed}
use Rattle.printing.proofs.put_refusal.Goals as goal

pub returns : goal.returns
returns c =
    let same = c.put_refusal_line.ensures.same in
    printed c.put_refusal_line.ensures (search rules) (search rules)
