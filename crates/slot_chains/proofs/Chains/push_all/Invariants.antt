-- `push_all` meets its contract. Invariant: the matchings of the slots below `slot` are linked. Assumes nothing.
use Rattle.std.proofs.Common.{◌≡◌, length}
use Rattle.slot_chains.specs.Steps.{all_pushed}
use Rattle.slot_chains.proofs.Chains.push_all.Given as goal

abbrev pub invariant-loop-slot : goal.invariant-loop-slot
invariant-loop-slot l =
    (length l.s ≡ length l.initial.s) × (l.s ≡ all_pushed l.self.n l.self.out l.self.links l.slot l.initial.s)
