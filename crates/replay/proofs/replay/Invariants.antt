-- `replay::replay` counts no more lines than bytes came by. Assumes nothing.
use Rattle.std.proofs.Common.{length, ◌+◌, ◌≤◌}
use Rattle.std.specs.Slice.Iter.{split_inclusive_rest}
use Rattle.replay.proofs.replay.Given as goal

abbrev pub invariant-loop-line : goal.invariant-loop-line
invariant-loop-line l = l.counts.equal + l.counts.different + length (split_inclusive_rest l.line-iterator) ≤ length l.input
