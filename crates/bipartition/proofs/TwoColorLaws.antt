-- The two theorems of `two_color`, for every list whose ends are below P. Where it gives sides, they are proper: the two ends
-- of each appointment are on different sides, and no closed round is odd. Where it refuses, there is a closed round of odd
-- length. One of the two always holds: the steps suffice. Assumes nothing.
use Prim.Native.Nat.{ℕ, ◌+◌, ◌<◌}
use mathlib.Core.Path.{◌≡◌, refl, ◌∙◌}
use mathlib.Core.List.{List, [], ◌∷◌}
use mathlib.Core.Logic.{◌⊎◌, inl, inr, ⊎_elim}
use native.Mathlib.Omega.{arith}
use native.Mathlib.Nat.{le_refl}
use Rattle.words.specs.Basics.{All}
use Rattle.words.proofs.Sums.{all_map, all_both}
use Rattle.appointments.specs.Appointments.{Appt}
use Rattle.appointments.specs.Rounds.{OddRound}
use Rattle.appointments.proofs.Loads.{Listed}
use Rattle.bipartition.specs.TwoColor.{Colouring, colour_of, Search, going, refused, search_below, side, Sides, sides, not_bipartite, unfinished, sides_of, two_color}
use Rattle.appointments.specs.TwoSides.{TwoSides}
use Rattle.bipartition.specs.TwoSides.{Says, FoundSides, RefusedList}
use Rattle.bipartition.proofs.Walks.{BothWays, joined_all, all_joined, no_odd_round}
use Rattle.bipartition.proofs.Colouring.{coloured_stands, side_members, sides_length, coloured_all}
use Rattle.bipartition.proofs.Starts.{SettledBelow, Ended, search_ends}

-- ── proper sides ──

-- Proper sides leave no odd round: each step changes the side, so a closed round has even length.
pub proper_no_odd : {P : ℕ} {xs : List Appt} {side : ℕ → ℕ} {left right : List ℕ} → TwoSides P xs side left right → OddRound xs → ⊥
proper_no_odd {P} {xs} {side} t =
    no_odd_round side (all_joined (λ u v. side u + side v ≡ 1) xs (all_map (λ x e. (e, omega arith)) xs t.across))

module _ (P : ℕ) (xs : List Appt) (listed : All (Listed P) xs) where
  module _ (cs : Colouring) (h : SettledBelow P xs P cs) where
    settled_across : All (λ x. colour_of x.first cs + colour_of x.second cs ≡ 1) xs
    settled_across =
        let R : ℕ → ℕ → Type 0 = λ u v. u < P → colour_of u cs + colour_of v cs ≡ 1 in
        let ways = joined_all R xs (λ u v j k. h.settled u (h.early u k) v j) in
        all_map (λ x k. k.1.0 k.0.0) xs (all_both (Listed P) (BothWays R) xs listed ways)

    -- all starts done: the colours are two sides of the parties
    settled_sides : TwoSides P xs (λ v. colour_of v cs) (side 0 cs) (side 1 cs)
    settled_sides =
        record {
          across = settled_across;
          one_of_two = h.early;
          once = λ v k. coloured_stands P cs h.each_once v (h.early v k);
          lefts = side_members P 0 (omega arith) cs h.each_once;
          rights = side_members P 1 (omega arith) cs h.each_once;
          all_parties = sides_length P cs h.each_once ∙ coloured_all P cs h.each_once h.early;
        }

  -- ── the answer ──

  ended_says : (r : Search) → Ended P xs P r → Says P xs (sides_of r)
  ended_says (going cs []) h = (λ v. colour_of v cs, settled_sides cs h)
  ended_says (going cs (v ∷ stack)) h = h
  ended_says refused h = h

  -- What `two_color` answers is so.
  pub two_color_says : Says P xs (two_color P xs)
  unfolding two_color
  two_color_says = ended_says (search_below P xs P) (search_ends P xs listed P (le_refl P))

  -- The steps suffice: each party comes off at most once.
  pub two_color_finishes : two_color P xs ≡ unfinished → ⊥
  two_color_finishes e = rw e at two_color_says

  -- Refused (`GraphNotBipartite`): some closed round has odd length.
  pub refused_odd : two_color P xs ≡ not_bipartite → OddRound xs
  refused_odd e = rw e at two_color_says

  -- Sides given: they are two sides of the parties, and the ends of each appointment are on different ones.
  pub sides_proper : {left right : List ℕ} → two_color P xs ≡ sides left right → (side : ℕ → ℕ) × TwoSides P xs side left right
  sides_proper e = rw e at two_color_says

  -- One or the other, and never both: proper sides and no closed round of odd length, or a refusal and one.
  pub two_color_decides : FoundSides P xs ⊎ RefusedList P xs
  two_color_decides = go (two_color P xs) refl
    where
      go : (a : Sides) → two_color P xs ≡ a → FoundSides P xs ⊎ RefusedList P xs
      go (sides left right) e =
          let p = sides_proper e in
          inl
          (record { left = left; right = right; side = p.0; answer = e; two_sides = p.1; none_odd = proper_no_odd p.1 })
      go not_bipartite e = inr (record { answer = e; odd = refused_odd e })
      go unfinished e = absurd (two_color_finishes e)

  -- So it refuses exactly the lists that have a closed round of odd length.
  pub odd_refused : OddRound xs → two_color P xs ≡ not_bipartite
  odd_refused o = ⊎_elim (λ f. absurd (f.none_odd o)) (λ r. r.answer) two_color_decides
