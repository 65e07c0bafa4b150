-- Odd degree: one matching is set aside, and the graph without it has even degree. Assumes nothing.
use Prim.Native.Nat.{ℕ, ◌+◌, ◌*◌, ◌/◌, ◌%◌, ◌<◌}
use mathlib.Core.Path.{◌≡◌, refl, sym, subst}
use mathlib.Core.Bool.{Bool, true, false}
use mathlib.Core.List.{List, [], ◌∷◌}
use native.Mathlib.Omega.{arith}
use borrow.Author.Tests.{eqb-true, eqb-false}
use lib.Dec.{eqb}
use lib.ListN.{length}
use Rattle.words.specs.Basics.{pick, total, All, Ran, ran, and_then}
use Rattle.words.proofs.Runs.{ran_then}
use Rattle.multigraph.specs.Multigraph.{Graph, remove_matching}
use Rattle.multigraph.specs.Regular.{weigh, names, Partition, Symmetric}
use Rattle.multigraph.proofs.Ends.{names_symmetric}
use Rattle.multigraph.proofs.Matchings.{Removed, remove_matching_law}
use Rattle.perfect_matching.specs.Matching.{rbmg_find_perfect_matching}
use Rattle.perfect_matching.specs.Perfect.{Full, Perfect, MatchingOf}
use Rattle.perfect_matching.proofs.MatchingLaws.{perfect_weigh, perfect_single, matching_law}
use Rattle.coloring.specs.EdgeColor.{SetAside, set_aside}
use Rattle.coloring.proofs.Moving.{full_sound, sound_full}

-- What is set aside, and the graph of even degree that is left: copies add up.
pub record AsideOf (N : ℕ) (side : ℕ → ℕ) (d : ℕ) (g : Graph) (s : SetAside) : Type 0 where
  pub full : Full N side (2 * (d / 2)) s.graph
  pub as_many : length s.aside ≡ d % 2
  pub perfect : All (Perfect N side) s.aside
  pub copies : (w : ℕ → ℕ → ℕ) → Symmetric w → weigh w s.graph + total (λ (m : Graph). weigh w m) s.aside ≡ weigh w g

-- a matching of the graph's own, removed from it
own_removed :
    (N : ℕ) (side : ℕ → ℕ) (d : ℕ) (g m : Graph) → Full N side d g → MatchingOf N side g m → Removed N side g m
own_removed N side d g m f k =
    remove_matching_law N side g m (full_sound N side d g f)
    (λ u v. omega (arith, k.own u v, perfect_single N side m k.perfect u v))

-- the copies of a graph without a matching of its own
without_copies :
    (N : ℕ) (side : ℕ → ℕ) (d : ℕ) (g m : Graph) → Full N side d g → MatchingOf N side g m →
    (w : ℕ → ℕ → ℕ) → Symmetric w → weigh w (remove_matching g m) + weigh w m ≡ weigh w g
without_copies N side d g m f k w s =
    omega (arith, (own_removed N side d g m f k).copies w s, perfect_weigh w N side m k.perfect)

-- its degree is one less
without_full :
    (N : ℕ) (side : ℕ → ℕ) (d : ℕ) (g m : Graph) → Full N side (d + 1) g → MatchingOf N side g m →
    Full N side d (remove_matching g m)
without_full N side d g m f k =
    sound_full
    (λ v below.
    omega (
      arith,
      without_copies N side (d + 1) g m f k (names v) (names_symmetric v),
      f.regular.even v below,
      k.perfect.regular.even v below,
    ))
    (own_removed N side (d + 1) g m f k).sound

-- one matching is set aside where the degree is odd, none where it is even
pub set_aside_law :
    (N : ℕ) (side : ℕ → ℕ) (left right : List ℕ) (d : ℕ) (g : Graph) → Full N side d g →
    Partition N side left right → 1 < d → 0 < N → Ran (AsideOf N side d g) (set_aside N left right d g)
unfolding set_aside total
set_aside_law N side left right d g f part more some = go (eqb (d % 2) 1) refl
  where
    one : (m : Graph) → d % 2 ≡ 1 → MatchingOf N side g m →
        AsideOf N side d g (record { aside = m ∷ []; graph = remove_matching g m })
    one m e k =
        let odd : d ≡ 2 * (d / 2) + 1 = omega arith in
        let f' : Full N side (2 * (d / 2) + 1) g = subst (λ (n : ℕ). Full N side n g) odd f in
        record {
          full = without_full N side (2 * (d / 2)) g m f' k;
          as_many = sym e;
          perfect = (k.perfect, tt);
          copies = λ w s. omega (arith, without_copies N side d g m f k w s);
        }

    go : (t : Bool) → eqb (d % 2) 1 ≡ t →
        Ran (AsideOf N side d g)
        (pick t
        (and_then (rbmg_find_perfect_matching N left right d g)
        (λ m. ran (record { aside = m ∷ []; graph = remove_matching g m })))
        (ran (record { aside = []; graph = g })))
    go true e =
        ran_then _ _ (rbmg_find_perfect_matching N left right d g) _
        (matching_law N side left right d g f.regular f.positive part more some)
        (λ m k. one m (eqb-true _ _ e) k)
    go false e =
        let odd : d % 2 ≡ 1 → ⊥ = eqb-false _ _ e in
        let even : d ≡ 2 * (d / 2) = omega arith in
        record {
          full = subst (λ (n : ℕ). Full N side n g) even f;
          as_many = omega arith;
          perfect = tt;
          copies = λ w s. omega arith;
        }
