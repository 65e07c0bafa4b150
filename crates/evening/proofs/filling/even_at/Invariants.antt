-- `even_at` meets its contract: the rows' words are cleared, the rows filled, and so many steps are taken. Assumes nothing.
use Rattle.std.proofs.Common.{◌+◌, length}
use Rattle.evening.specs.Contract.{CanEven}
use Rattle.list_pairs.specs.Rows.{rows_from, RowsFilled}
use Rattle.evening.proofs.EveningWords.{At}
use Rattle.evening.proofs.filling.even_at.Given as goal

abbrev pub invariant-loop : goal.invariant-loop
invariant-loop l =
    (h : CanEven l.list l.d l.n l.fn.at l.u l.fn.s) (x : RowsFilled l.list (rows_from (l.n + l.n) l.d l.u) (length l.list) l.fn.s l.initial.s) →
    At l.list l.d l.n l.fn.at l.u l.fn.s h l.initial.s x l.counter l.passed.l l.passed.r l.s
