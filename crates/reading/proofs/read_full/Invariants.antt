-- `read_full` is safe and ends: a turn brings bytes, for which the buffer has room, or is a failed read, for which there is a try
-- left. What came stands at the start of the buffer, which keeps its length. Assumes nothing.
use Rattle.std.proofs.Common.{length, take, ◌-◌, ◌+◌, ◌≤◌, ◌≡◌}
use Rattle.std.specs.Io.KnownBytes.{Consumes}
use Rattle.reading.proofs.read_full.Given as goal

abbrev pub invariant-loop-count : goal.invariant-loop-count
invariant-loop-count g l =
    (length l.buffer ≡ length l.initial.buffer)
    × (l.count ≤ length l.buffer)
    × Consumes (g.R.Read.remaining l.initial.reader) (g.R.Read.remaining l.reader) (take l.count l.buffer)

abbrev pub decreases-loop-count : goal.decreases-loop-count
decreases-loop-count g l = length l.initial.buffer - l.count + l.tries_left
