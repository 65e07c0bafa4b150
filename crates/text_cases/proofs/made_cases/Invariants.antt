-- `made_cases` counts each case that it has tried, and at most as many right ones. Assumes nothing.
use Rattle.std.proofs.Common.{◌≡◌, ◌≤◌}
use Rattle.text_cases.proofs.made_cases.Given as goal

abbrev pub invariant-loop-name : goal.invariant-loop-name
invariant-loop-name g l = (l.tally.right ≤ l.tally.cases) × (l.tally.cases ≡ l.name-index)
