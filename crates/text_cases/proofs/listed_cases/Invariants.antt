-- `listed_cases` is safe and ends: what is left of the table gets shorter with each case. Assumes nothing.
use Rattle.std.proofs.Common.{length, ◌+◌, ◌≤◌}
use Rattle.text_cases.proofs.listed_cases.Given as goal

abbrev pub invariant-loop-case : goal.invariant-loop-case
invariant-loop-case g l = (l.tally.right ≤ l.tally.cases) × (l.tally.cases + length l.rest ≤ length l.table)

abbrev pub decreases-loop-case : goal.decreases-loop-case
decreases-loop-case g l = length l.rest
