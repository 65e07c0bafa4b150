-- The rings of the parties passed are started.
use Rattle.std.proofs.Common.{◌≡◌}
use Rattle.rings.specs.Model.{start_m}
use Rattle.rings.proofs.Rings.start_rings.Given as goal

abbrev pub invariant-loop-v : goal.invariant-loop-v
invariant-loop-v l = l.s ≡ start_m l.self l.v l.initial.s
