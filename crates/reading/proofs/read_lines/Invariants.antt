-- `read_lines` reads piece by piece. Assumes nothing.
use lib.ListN.{length}
use Rattle.reading.proofs.Pieces.{Stored}
use Rattle.reading.proofs.read_lines.Given as goal

abbrev pub invariant-loop-line : goal.invariant-loop-line
invariant-loop-line l = Stored l.parties l.bytes l.initial.list l.count l.list (length l.yielded)
