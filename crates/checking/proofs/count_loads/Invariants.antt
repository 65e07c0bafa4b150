-- `checking::count_loads` meets its contract: the counters hold how often the part of the list that was passed names each
-- party. Assumes nothing.
use mathlib.Core.Path.{◌≡◌}
use lib.ListN.{length}
use Rattle.appointments.proofs.Flat.{Counted}
use Rattle.checking.proofs.count_loads.Given as goal

abbrev pub invariant-loop-v : goal.invariant-loop-v
invariant-loop-v l = (length l.loads ≡ length l.initial.loads) × Counted (length l.initial.loads) l.loads l.list l.v-index
