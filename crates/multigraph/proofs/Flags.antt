-- Which numbers count as flagged changes no weight, and nothing of `Regular`. Assumes nothing.
use Prim.Native.Nat.{ℕ, zero, suc, ◌+◌}
use mathlib.Core.Path.{◌≡◌, refl, ◌∙◌}
use mathlib.Core.List.{List}
use native.Mathlib.Omega.{arith}
use Rattle.words.specs.Basics.{total, All}
use Rattle.multigraph.specs.Multigraph.{Pair, pair}
use Rattle.multigraph.specs.Regular.{weigh, pairs_between, Apart, Across, Regular}
use Rattle.multigraph.specs.Stored.{entry, entries, graph_at}
use Rattle.multigraph.specs.Places.{size}
use Rattle.multigraph.proofs.Matchings.{weigh_ends}

total_reflag :
    (f : Pair → ℕ) (s : List ℕ) (ends x y g i k : ℕ) → ((a b c u v : ℕ) → f (pair a b c u) ≡ f (pair a b c v)) →
    total f (entries s ends x g i k) ≡ total f (entries s ends y g i k)
unfolding entries total
total_reflag f s ends x y g i zero h = refl
total_reflag f s ends x y g i (suc k) h =
    let e : f (entry s ends x g i) ≡ f (entry s ends y g i) = h _ _ _ _ _ in
    omega (arith, total_reflag f s ends x y g (i + 1) k h)

pub narrow_reflag :
    (w : ℕ → ℕ → ℕ) (s : List ℕ) (ends x y g : ℕ) →
    weigh_ends w (graph_at s ends x g) ≡ weigh_ends w (graph_at s ends y g)
unfolding graph_at
narrow_reflag w s ends x y g = total_reflag (λ p. w p.first p.second) s ends x y g 0 (size s g) (λ a b c u v. refl)

across_reflag :
    (N : ℕ) (side : ℕ → ℕ) (s : List ℕ) (ends x y g i k : ℕ) → All (Across N side) (entries s ends x g i k) →
    All (Across N side) (entries s ends y g i k)
unfolding entries
across_reflag N side s ends x y g i zero h = tt
across_reflag N side s ends x y g i (suc k) h = (
  record { first_below = h.0.first_below; second_below = h.0.second_below; sides = h.0.sides },
  across_reflag N side s ends x y g (i + 1) k h.1,
)

apart_reflag :
    (s : List ℕ) (ends x y g i k : ℕ) → Apart (entries s ends x g i k) → Apart (entries s ends y g i k)
unfolding entries pairs_between
apart_reflag s ends x y g i zero h = tt
apart_reflag s ends x y g i (suc k) h =
    (total_reflag _ s ends y x g (i + 1) k (λ a b c u v. refl) ∙ h.0, apart_reflag s ends x y g (i + 1) k h.1)

pub regular_reflag :
    (N : ℕ) (side : ℕ → ℕ) (d : ℕ) (s : List ℕ) (ends x y g : ℕ) → Regular N side d (graph_at s ends x g) →
    Regular N side d (graph_at s ends y g)
unfolding graph_at weigh
regular_reflag N side d s ends x y g r =
    record {
      even = λ v h. total_reflag _ s ends y x g 0 (size s g) (λ a b c u w. refl) ∙ r.even v h;
      across = across_reflag N side s ends x y g 0 (size s g) r.across;
      apart = apart_reflag s ends x y g 0 (size s g) r.apart;
    }
