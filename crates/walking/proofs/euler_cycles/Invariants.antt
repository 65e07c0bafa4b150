-- A step more each turn, with the numbers small.
use Rattle.std.proofs.Common.{ℕ, ◌≡◌, ◌<◌}
use Rattle.words.specs.Words.{word}
use Rattle.walking.specs.Model.{Small, walk_m, begun}
use Rattle.walking.proofs.euler_cycles.Given as goal

abbrev pub invariant-loop : goal.invariant-loop
invariant-loop l = record {
  words : (i : ℕ) → word l.s i < 4294967296;
  small : Small l.counter l.w;
  walked : record { words = l.s; walk = l.w } ≡ walk_m l.l l.l.graph.parties l.counter (begun l.initial.s);
}
