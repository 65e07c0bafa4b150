-- `take_plan` meets its contract: the list and the slots hold the first ends and slots of the plan, one appointment more with each turn. Assumes nothing.
use Rattle.words.specs.Words.{filled}
use Rattle.filing.specs.Filed.{filed_rows, rows_list, rows_slots}
use mathlib.Core.Path.{◌≡◌}
use Prim.Native.Nat.{◌*◌}
use Rattle.filing.proofs.take_plan.Given as goal

abbrev pub invariant-loop-i : goal.invariant-loop-i
invariant-loop-i l = (l.list ≡ filled (rows_list (filed_rows l.bytes)) (2 * l.i) l.initial.list) × (l.slots ≡ filled (rows_slots (filed_rows l.bytes)) l.i l.initial.slots)
