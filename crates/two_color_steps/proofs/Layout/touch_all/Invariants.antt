-- The neighbours passed are touched.
use Rattle.std.proofs.Common.{◌≡◌}
use Rattle.two_color_steps.specs.Model.{looks_m}
use Rattle.two_color_steps.proofs.Layout.touch_all.Given as goal

abbrev pub invariant-loop-t : goal.invariant-loop-t
invariant-loop-t l = l.s ≡ looks_m l.self.u l.self.p l.other l.row l.t l.initial.s
