-- As many steps are taken as are counted.
use Rattle.std.proofs.Common.{◌≡◌}
use Rattle.two_color_steps.specs.Model.{steps_m}
use Rattle.two_color_steps.proofs.Layout.all_steps.Given as goal

abbrev pub invariant-loop : goal.invariant-loop
invariant-loop l = l.s ≡ steps_m l.self.u l.self.p l.counter l.initial.s
