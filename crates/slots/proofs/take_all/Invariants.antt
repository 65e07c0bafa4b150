-- `take_all` meets its contract. Invariant: what the appointments from i on make of the words and slots is what all of them
-- make of those at entry. Assumes nothing.
use Prim.Native.Nat.{◌-◌}
use mathlib.Core.Path.{◌≡◌}
use lib.ListN.{length}
use Rattle.slot_chains.specs.Steps.{given_words, given_slots}
use Rattle.slots.proofs.take_all.Given as goal

abbrev pub invariant-loop-i : goal.invariant-loop-i
invariant-loop-i l = (length l.s ≡ length l.initial.s) × (length l.slots ≡ length l.initial.slots)
    × (given_words l.chains.out l.numbers.at l.chains.links l.i (l.numbers.n - l.i) l.s ≡ given_words l.chains.out l.numbers.at l.chains.links 0 l.numbers.n l.initial.s)
    × (given_slots l.chains.out l.numbers.at l.chains.links l.i (l.numbers.n - l.i) l.s l.slots ≡ given_slots l.chains.out l.numbers.at l.chains.links 0 l.numbers.n l.initial.s l.initial.slots)
