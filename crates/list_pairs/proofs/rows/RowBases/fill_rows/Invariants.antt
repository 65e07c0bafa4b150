-- `fill_rows` meets its contract: the half-edges passed are in their rows. Assumes nothing.
use Rattle.list_pairs.specs.Rows.{RowsFilled}
use Rattle.list_pairs.proofs.rows.RowBases.fill_rows.Given as goal

abbrev pub invariant-loop-h : goal.invariant-loop-h
invariant-loop-h l = RowsFilled l.list l.self l.h l.fn.s l.s
