-- `edge_color::move_earliest` meets its contract: the power of two above the degree, and as many matchings added. Assumes nothing.
use native.Mathlib.Omega.{arith}
use Rattle.words.proofs.PowersOfTwo.{log_up_law}
use Rattle.edge_color.proofs.move_earliest.Goals as goal

pub overflow_sub-earliest : goal.overflow_sub-earliest
overflow_sub-earliest c = omega (arith, c.next_power_of_two-r.ensures, (log_up_law c.args.h).reaches)
