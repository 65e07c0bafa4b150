-- `rbmg_edge_color_when_power_of_two` colours a regular graph of degree 2^e. Assumes nothing.
use Prim.Native.Nat.{ℕ, zero, suc, ◌+◌, ◌^◌}
use mathlib.Core.Path.{◌≡◌, refl}
use mathlib.Core.List.{List, [], ◌∷◌, ◌++◌}
use native.Mathlib.Omega.{arith}
use lib.ListN.{length-append}
use Rattle.words.specs.Basics.{total, Ran}
use Rattle.words.proofs.Sums.{all_append, total_append}
use Rattle.words.proofs.Runs.{ran_then}
use Rattle.words.proofs.PowersOfTwo.{two_pow}
use Rattle.multigraph.specs.Multigraph.{Graph}
use Rattle.multigraph.specs.Regular.{weigh, Symmetric}
use Rattle.euler.specs.Split.{Halves, rbmg_split_into_two}
use Rattle.euler.specs.Halved.{SplitOf}
use Rattle.perfect_matching.specs.Perfect.{Full, Perfect}
use Rattle.perfect_matching.proofs.Halving.{split_power}
use Rattle.coloring.specs.EdgeColor.{rbmg_edge_color_when_power_of_two}
use Rattle.coloring.specs.Coloring.{Coloring}
use Rattle.coloring.proofs.Moving.{full}

-- a graph of degree 1 is its own colouring
pub coloring_one : (N : ℕ) (side : ℕ → ℕ) (g : Graph) → Perfect N side g → Coloring N side 1 g (g ∷ [])
unfolding total
coloring_one N side g h = record { as_many = refl; perfect = (h, tt); copies = λ w s. omega arith }

-- the colourings of two graphs whose copies add up, one after the other
pub coloring_append :
    (N : ℕ) (side : ℕ → ℕ) (c d : ℕ) (f g h : Graph) (cs ds : List Graph) → Coloring N side c f cs → Coloring N side d g ds →
    ((w : ℕ → ℕ → ℕ) → Symmetric w → weigh w f + weigh w g ≡ weigh w h) → Coloring N side (c + d) h (cs ++ ds)
coloring_append N side c d f g h cs ds a b sum =
    record {
      as_many = omega (arith, length-append cs ds, a.as_many, b.as_many);
      perfect = all_append _ cs ds a.perfect b.perfect;
      copies =
          λ w s. omega (arith, total_append (λ (m : Graph). weigh w m) cs ds, a.copies w s, b.copies w s, sum w s);
    }

-- Module 6 of document 01: 2^e matchings, whose copies add up to the graph's.
pub power_law :
    (N : ℕ) (side : ℕ → ℕ) (e : ℕ) (g : Graph) → Full N side (2 ^ e) g →
    Ran (Coloring N side (2 ^ e) g) (rbmg_edge_color_when_power_of_two N e g)
unfolding rbmg_edge_color_when_power_of_two
power_law N side zero g f = coloring_one N side g f
power_law N side (suc e) g f =
    ran_then _ _ (rbmg_split_into_two N g) _ (split_power N side e g f.regular)
    (λ h s.
    ran_then _ _ (rbmg_edge_color_when_power_of_two N e h.first_half) _
    (power_law N side e h.first_half (full s.first_regular s.first_positive))
    (λ cs a.
    ran_then _ _ (rbmg_edge_color_when_power_of_two N e h.second_half) _
    (power_law N side e h.second_half (full s.second_regular s.second_positive))
    (λ ds b. join h s cs ds a b)))
  where
    join : (h : Halves) → SplitOf N side (2 ^ e) g h → (cs ds : List Graph) → Coloring N side (2 ^ e) h.first_half cs →
        Coloring N side (2 ^ e) h.second_half ds → Coloring N side (2 ^ suc e) g (cs ++ ds)
    join h s cs ds a b =
        let twice : 2 ^ suc e ≡ 2 ^ e + 2 ^ e = omega (arith, two_pow e) in
        rw twice
        (coloring_append N side (2 ^ e) (2 ^ e) h.first_half h.second_half g cs ds a b (λ w k. s.copies w k))
