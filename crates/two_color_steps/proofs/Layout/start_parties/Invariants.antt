-- The parties passed are started.
use Rattle.std.proofs.Common.{◌≡◌}
use Rattle.two_color_steps.specs.Model.{start_parties_m}
use Rattle.two_color_steps.proofs.Layout.start_parties.Given as goal

abbrev pub invariant-loop-v : goal.invariant-loop-v
invariant-loop-v l = l.s ≡ start_parties_m l.self.u l.self.p l.self.d l.v l.initial.s
