-- `push_matching` meets its contract. Invariant: the first j pairs of the matching have their link. Assumes nothing.
use Rattle.std.proofs.Common.{◌≡◌, length}
use Rattle.slot_chains.specs.Steps.{matching_pushed}
use Rattle.slot_chains.proofs.Chains.push_matching.Given as goal

abbrev pub invariant-loop-j : goal.invariant-loop-j
invariant-loop-j l =
    (length l.s ≡ length l.initial.s) × (l.s ≡ matching_pushed l.self.n l.self.out l.self.links l.slot l.j l.initial.s)
