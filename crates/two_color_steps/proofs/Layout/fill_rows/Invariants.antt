-- The appointments passed, from the newest down, are in their rows.
use Rattle.std.specs.Iterator.Adapters.{rev_source}
use Rattle.std.specs.Slice.Iter.{iter_rest}
use Rattle.two_color_steps.proofs.Backwards.{Filling}
use Rattle.two_color_steps.proofs.Layout.fill_rows.Given as goal

abbrev pub invariant-loop-ends : goal.invariant-loop-ends
invariant-loop-ends l = Filling l.self.u l.self.p l.own l.other l.list l.initial.s (iter_rest (rev_source l.ends-iterator)) l.s
