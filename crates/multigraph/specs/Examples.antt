-- Small graphs worked out by hand from the Rust's `add_edge` and `remove_edge`, each in which a wrong turn shows.
-- Assumes nothing.
use Rattle.std.specs.Prelude.{ℕ, ◌≡◌, refl, List, [], ◌∷◌}
use Rattle.multigraph.specs.Multigraph.{pair, add_edge, add_matching, remove_matching}
use Rattle.multigraph.specs.Regular.{degree, copies_between}
use Rattle.multigraph.specs.Computing.{computing}

-- the pair keeps its first orientation and flag
adds_copies : add_edge (pair 5 2 3 1 ∷ pair 4 2 1 0 ∷ []) 2 5 4 0 ≡ pair 5 2 7 1 ∷ pair 4 2 1 0 ∷ []
unfolding computing
adds_copies = refl

-- a new pair comes last, with the ends as they are given
adds_last : add_edge (pair 5 2 3 1 ∷ []) 2 6 1 1 ≡ pair 5 2 3 1 ∷ pair 2 6 1 1 ∷ []
unfolding computing
adds_last = refl

-- zero copies added are a pair with zero copies
adds_none : add_edge [] 0 1 0 1 ≡ pair 0 1 0 1 ∷ []
unfolding computing
adds_none = refl

-- a pair whose copies reach 0 goes, another loses a copy
removes : remove_matching (pair 5 2 1 0 ∷ pair 4 3 2 0 ∷ []) (pair 2 5 1 0 ∷ pair 3 4 1 0 ∷ []) ≡ pair 4 3 1 0 ∷ []
unfolding computing
removes = refl

-- a matching brings one copy of each of its pairs, unflagged
adds_matching : add_matching (pair 5 2 1 0 ∷ []) (pair 2 5 1 1 ∷ pair 3 4 1 1 ∷ []) ≡ pair 5 2 2 0 ∷ pair 3 4 1 0 ∷ []
unfolding computing
adds_matching = refl

-- degrees count copies, copies between two parties count both ways round
counts : ◌≡◌ {A = List ℕ}
    (degree 2 (pair 5 2 3 1 ∷ pair 4 2 1 0 ∷ []) ∷ copies_between 2 5 (pair 5 2 3 1 ∷ pair 4 2 1 0 ∷ []) ∷ []) (4 ∷ 3 ∷ [])
unfolding computing
counts = refl
