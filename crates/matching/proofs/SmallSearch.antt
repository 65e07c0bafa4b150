-- What `rbmg_find_perfect_matching` asks can be met: one pair, at number 0 with ends 0 and 1, two copies of it in a graph at 8;
-- the diagonal's number at 0, the table of ends at 1, the map at 5, and the matching goes to 7. Assumes nothing.
use Prim.Native.Nat.{ℕ, ◌*◌, ◌<◌}
use mathlib.Core.Path.{◌≡◌, refl}
use mathlib.Core.List.{List, [], ◌∷◌}
use mathlib.Core.Logic.{inl}
use native.Mathlib.Omega.{arith}
use lib.ListN.{replicate}
use Rattle.words.specs.Basics.{ran}
use Rattle.words.proofs.Below.{only, both}
use Rattle.multigraph.specs.Multigraph.{pair}
use Rattle.multigraph.specs.Regular.{degree, Regular, Positive, Partition}
use Rattle.multigraph.specs.Stored.{graph_at}
use Rattle.multigraph.specs.Places.{number}
use Rattle.matching.specs.Computing.{computing}
use Rattle.perfect_matching.specs.Matching.{rbmg_find_perfect_matching}
use Rattle.matching.specs.Searched.{lefts, rights, Tabled, CanSearch, CanFind}
use Rattle.matching.specs.declared.Table.{Table}

abbrev table : Table
table = record { ends = 1; places = 5; diag = 0; pairs = 1 }

abbrev small : List ℕ
small = 0 ∷ 0 ∷ 1 ∷ 0 ∷ 1 ∷ 9 ∷ 9 ∷ 9 ∷ 8 ∷ 1 ∷ 0 ∷ 2 ∷ replicate 72 0

small_regular : Regular (2 * 1) (λ v. v) 2 (graph_at small 1 1 8)
unfolding computing
small_regular =
    record {
      even = both (λ v. degree v (graph_at small 1 1 8) ≡ 2) refl refl;
      across = (record { first_below = omega arith; second_below = omega arith; sides = refl }, tt);
      apart = (refl, tt);
    }

small_partition : Partition (2 * 1) (λ v. v) (lefts table 1 small) (rights table 1 small)
unfolding computing
small_partition =
    record {
      once = both _ refl refl;
      left_side = ((omega arith, refl), tt);
      right_side = ((omega arith, refl), tt);
      same_length = refl;
      whole = refl;
    }

small_tabled : Tabled table 1 small
small_tabled =
    record {
      distinct = record { distinct = λ e f a b x. omega arith };
      diagonal = only _ (inl (omega arith, inl (refl, refl)));
      after_diag = omega arith;
      after_ends = omega arith;
    }

small_positive : Positive (graph_at small 1 1 8)
unfolding computing
small_positive = (omega arith, tt)

small_search : CanSearch table 8 1 2 12 small
small_search =
    record {
      side = λ v. v;
      regular = small_regular;
      positive = small_positive;
      partition = small_partition;
      several = omega arith;
      some = omega arith;
      few = omega arith;
      most = omega arith;
      numbers = only (λ i. number small 8 i < 1) (omega arith);
      tabled = small_tabled;
      after_places = omega arith;
      below = omega arith;
      room = omega arith;
      short = omega arith;
    }

pub find_met : CanFind table 8 1 2 7 12 small
find_met = record { search = small_search; after_places = omega arith; below = omega arith }

-- what is found there, computed
pub found_there :
    rbmg_find_perfect_matching 2 (lefts table 1 small) (rights table 1 small) 2 (graph_at small 1 1 8)
    ≡ ran (pair 0 1 1 0 ∷ [])
unfolding computing
found_there = refl
