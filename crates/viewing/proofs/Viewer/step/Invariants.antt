-- `Viewer::step` meets its contract: what the search finds from where it started is what it finds from where it is. Assumes nothing.
use mathlib.Core.Path.{◌≡◌}
use Rattle.viewing.proofs.Searching.{seek_named}
use Rattle.viewing.proofs.Viewer.step.Given as goal

abbrev pub invariant-loop-i : goal.invariant-loop-i
invariant-loop-i l =
    record {
      unmoved : l.self ≡ l.initial.self;
      same : seek_named l.party l.initial.self.list.now l.initial.self.at ≡ seek_named l.party l.initial.self.list.now l.i;
    }
