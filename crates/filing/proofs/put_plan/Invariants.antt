-- `put_plan` meets its contract: the output holds the first bytes of the plan, six more with each turn. Assumes nothing.
use Rattle.words.specs.Words.{filled}
use Rattle.filing.specs.Filed.{filed_bytes}
use lib.ListN.{length}
use mathlib.Core.Path.{◌≡◌}
use Prim.Native.Nat.{◌+◌, ◌*◌}
use Rattle.filing.proofs.put_plan.Given as goal

abbrev pub invariant-loop-i : goal.invariant-loop-i
invariant-loop-i l = (length l.output ≡ length l.initial.output) × (l.output ≡ filled (filed_bytes l.p l.list l.slots) (6 * length l.yielded + 4) l.fn.output)
