-- What the routines over words ask can be met: one pair, at number 0 with ends 0 and 1, two copies of it in a graph at 4, a
-- matching of it at 3, the map at 2, and room for a second graph at 8. Assumes nothing.
use Prim.Native.Nat.{ℕ, ◌+◌, ◌*◌, ◌≤◌, ◌<◌}
use mathlib.Core.Path.{◌≡◌, refl}
use mathlib.Core.List.{List, [], ◌∷◌}
use native.Mathlib.Omega.{arith}
use Rattle.words.specs.Words.{word}
use Rattle.words.proofs.Below.{only}
use Rattle.multigraph.specs.Computing.{computing}
use Rattle.multigraph.specs.Multigraph.{pair, add_matching, remove_matching}
use Rattle.multigraph.specs.Regular.{Apart, Positive}
use Rattle.multigraph.specs.Stored.{graph_at, matching_at}
use Rattle.multigraph.specs.Places.{DistinctEnds, Stored, MatchingFits, Removable}

abbrev small : List ℕ
small = 0 ∷ 1 ∷ 9 ∷ 0 ∷ 4 ∷ 1 ∷ 0 ∷ 2 ∷ 0 ∷ 0 ∷ 0 ∷ 0 ∷ []

small_distinct : DistinctEnds 0 1 small
small_distinct = record { distinct = λ e f a b x. omega arith }

small_stored : (room : ℕ) → room ≤ 1 → Stored 1 2 room small 4
small_stored room h =
    record {
      header = refl;
      numbers = only (λ i. word small (4 + 2 + 2 * i) < 1) (omega arith);
      copies = only (λ i. word small (4 + 3 + 2 * i) ≤ 2) (omega arith);
      inside = omega arith;
      small = omega arith;
      light = omega arith;
    }

small_apart : Apart (graph_at small 0 1 4)
unfolding computing
small_apart = (refl, tt)

small_positive : Positive (graph_at small 0 1 4)
unfolding computing
small_positive = (omega arith, tt)

pub fits_met : MatchingFits 0 1 2 2 4 3 1 small
fits_met =
    record {
      distinct = small_distinct;
      apart = small_apart;
      after_ends = omega arith;
      after_places = omega arith;
      before_graph = omega arith;
      stored = small_stored 1 (omega arith);
      below = only (λ i. word small (3 + i) < 1) (omega arith);
      fits = omega arith;
    }

pub removable_met : Removable 0 1 2 2 4 8 3 1 small
removable_met =
    record {
      distinct = small_distinct;
      apart = small_apart;
      positive = small_positive;
      laid = record { after_ends = omega arith; after_places = omega arith };
      stored = small_stored 0 (omega arith);
      graph_below = omega arith;
      after_places = omega arith;
      matching_below = omega arith;
      inside = omega arith;
      small = omega arith;
      once = λ i j a b e. omega arith;
      present = only (λ i. (j : ℕ) × (j < 1) × (word small (4 + 2 + 2 * j) ≡ word small (3 + i))) (0, omega arith, refl);
    }

-- what is added and removed there, computed
pub added_there : add_matching (graph_at small 0 1 4) (matching_at small 0 1 3 1) ≡ pair 0 1 3 0 ∷ []
unfolding computing
added_there = refl

pub removed_there : remove_matching (graph_at small 0 1 4) (matching_at small 0 1 3 1) ≡ pair 0 1 1 0 ∷ []
unfolding computing
removed_there = refl
