-- `put_plan` meets its contract: what was put stands at the slice's start, and its later bytes stay. Assumes nothing.
use borrow.Author.Rules.{rules}
use Rattle.printing.proofs.PlacingSteps.{printed}
use Rattle.printing.proofs.put_plan.Goals as goal

pub returns : goal.returns
returns c =
    let same = c.put_plan_lines.ensures.same in
    printed c.put_plan_lines.ensures (search rules) (search rules)
