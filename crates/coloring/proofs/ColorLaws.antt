-- `rbmg_edge_color` colours every regular graph: as many matchings as the degree, whose copies add up to the graph's. Fuel of
-- the degree suffices. Assumes nothing.
use Prim.Native.Nat.{ℕ, zero, suc, ◌+◌, ◌-◌, ◌/◌, ◌%◌, ◌^◌, ◌≤◌, ◌<◌}
use mathlib.Core.Path.{◌≡◌, refl, sym, ◌∙◌, ap, subst}
use mathlib.Core.List.{List, [], ◌∷◌, ◌++◌}
use native.Mathlib.Omega.{arith}
use native.Mathlib.Nat.{mul-le-mul_left, mul-one}
use lib.ListN.{length, take, drop, length-append, length-drop, take-append-drop}
use lib.Seq.{length-take-le}
use Rattle.words.specs.Basics.{total, All, Ran, ran, and_then}
use Rattle.words.proofs.Sums.{is_same, all_append, all_left, all_right, total_append}
use Rattle.words.proofs.Runs.{ran_then}
use Rattle.multigraph.specs.Multigraph.{Graph}
use Rattle.multigraph.specs.Regular.{weigh, names, degree, Regular, Positive, Partition, Symmetric}
use Rattle.multigraph.proofs.Weights.{weigh_none, weigh_cons}
use Rattle.euler.specs.Split.{Halves, rbmg_split_into_two}
use Rattle.euler.specs.Halved.{SplitOf}
use Rattle.euler.proofs.SplitLaws.{split_law}
use Rattle.words.specs.PowersOfTwo.{log_up}
use Rattle.perfect_matching.specs.Perfect.{Full, Perfect}
use Rattle.words.proofs.PowersOfTwo.{log_up_law, log_up_under}
use Rattle.coloring.specs.EdgeColor.{SetAside, set_aside, add_matchings, rbmg_edge_color_when_power_of_two, rbmg_edge_color}
use Rattle.coloring.specs.Coloring.{Coloring}
use Rattle.coloring.proofs.Moving.{full, weigh_add_matchings, add_matchings_law}
use Rattle.coloring.proofs.PowerOfTwo.{coloring_one, power_law}
use Rattle.coloring.proofs.SettingAside.{AsideOf, set_aside_law}

-- a graph of degree 0 has no pair
no_pairs : (N : ℕ) (side : ℕ → ℕ) (g : Graph) → Full N side 0 g → g ≡ []
no_pairs N side [] f = refl
no_pairs N side (p ∷ g) f =
    let none : degree p.first (p ∷ g) ≡ 0 = f.regular.even p.first f.regular.across.0.first_below in
    let once : 1 ≤ names p.first p.first p.second = omega (arith, is_same p.first) in
    absurd
    (omega
    (arith, weigh_cons (names p.first) p g, mul-le-mul_left p.copies once, mul-one p.copies, f.positive.0))

coloring_none : (N : ℕ) (side : ℕ → ℕ) (g : Graph) → Full N side 0 g → Coloring N side 0 g []
unfolding total
coloring_none N side g f =
    record { as_many = refl; perfect = tt; copies = λ w s. rw (no_pairs N side g f) (sym (weigh_none w)) }

-- the first j matchings of a colouring and the others
pub record Cut (N : ℕ) (side : ℕ → ℕ) (j k : ℕ) (g : Graph) (cs : List Graph) : Type 0 where
  pub moved : length (take j cs) ≡ j
  pub kept : length (drop j cs) ≡ k - j
  pub perfect_moved : All (Perfect N side) (take j cs)
  pub perfect_kept : All (Perfect N side) (drop j cs)
  pub copies : (w : ℕ → ℕ → ℕ) → Symmetric w →
      total (λ (m : Graph). weigh w m) (take j cs) + total (λ (m : Graph). weigh w m) (drop j cs) ≡ weigh w g

pub cut_law :
    (N : ℕ) (side : ℕ → ℕ) (j k : ℕ) (g : Graph) (cs : List Graph) → j ≤ k → Coloring N side k g cs →
    Cut N side j k g cs
cut_law N side j k g cs le c =
    let whole : All (Perfect N side) (take j cs ++ drop j cs) = rw (take-append-drop j cs) c.perfect in
    record {
      moved = length-take-le j cs (omega (arith, c.as_many));
      kept = omega (arith, length-drop j cs, c.as_many);
      perfect_moved = all_left _ (take j cs) (drop j cs) whole;
      perfect_kept = all_right _ (take j cs) (drop j cs) whole;
      copies =
          λ w s.
          sym (total_append (λ (m : Graph). weigh w m) (take j cs) (drop j cs))
          ∙ ap (total (λ (m : Graph). weigh w m)) (take-append-drop j cs)
          ∙ c.copies w s;
    }

-- The degree of the second half is raised from h to the power of two r, with h ≤ r < 2h: r − h matchings are moved.
record Moves (d h r : ℕ) : Type 0 where
  enough : r - h ≤ h
  raised : h + (r - h) ≡ r
  sum : r + (h - (r - h)) + d % 2 ≡ d

moves : (d : ℕ) → 1 < d → Moves d (d / 2) (2 ^ log_up (d / 2))
moves d more =
    let above = (log_up_law (d / 2)).reaches in
    let under = log_up_under (d / 2) (omega arith) in
    record { enough = omega arith; raised = omega arith; sum = omega arith }

-- The parts of one round, joined: the second half's matchings, what is left of the first's, the one set aside.
module _ {N : ℕ} {side : ℕ → ℕ} {d k j r : ℕ} {g : Graph} {s : SetAside} {h : Halves} {cs ds : List Graph} where
  parts_copies :
      AsideOf N side d g s → SplitOf N side k s.graph h → Cut N side j k h.first_half cs →
      Coloring N side r (add_matchings h.second_half (take j cs)) ds → (w : ℕ → ℕ → ℕ) → Symmetric w →
      total (λ (m : Graph). weigh w m) (ds ++ drop j cs ++ s.aside) ≡ weigh w g
  parts_copies a sp c b w y =
      let f : Graph → ℕ = λ (m : Graph). weigh w m in
      omega (
        arith,
        total_append f (ds ++ drop j cs) s.aside,
        total_append f ds (drop j cs),
        a.copies w y,
        sp.copies w y,
        c.copies w y,
        b.copies w y,
        weigh_add_matchings w y N side h.second_half (take j cs) c.perfect_moved,
      )

  parts_joined :
      AsideOf N side d g s → SplitOf N side k s.graph h → Cut N side j k h.first_half cs →
      Coloring N side r (add_matchings h.second_half (take j cs)) ds → r + (k - j) + d % 2 ≡ d →
      Coloring N side d g (ds ++ drop j cs ++ s.aside)
  parts_joined a sp c b sum =
      record {
        as_many =
            omega
            (arith, length-append (ds ++ drop j cs) s.aside, length-append ds (drop j cs), b.as_many, c.kept, a.as_many);
        perfect =
            all_append _ (ds ++ drop j cs) s.aside (all_append _ ds (drop j cs) b.perfect c.perfect_kept)
            a.perfect;
        copies = parts_copies a sp c b;
      }

-- the last part of a round: the second half, with the matchings moved to it, is coloured
last_part :
    (N : ℕ) (side : ℕ → ℕ) (d : ℕ) (g : Graph) (s : SetAside) (h : Halves) (cs : List Graph) → 1 < d →
    AsideOf N side d g s → SplitOf N side (d / 2) s.graph h → Coloring N side (d / 2) h.first_half cs →
    let e : ℕ = log_up (d / 2) in
    let j : ℕ = 2 ^ e - d / 2 in
    Ran (Coloring N side d g)
    (and_then (rbmg_edge_color_when_power_of_two N e (add_matchings h.second_half (take j cs)))
    (λ ds. ran (ds ++ drop j cs ++ s.aside)))
last_part N side d g s h cs more a sp c =
    let k : ℕ = d / 2 in
    let e : ℕ = log_up k in
    let j : ℕ = 2 ^ e - k in
    let move : Moves d k (2 ^ e) = moves d more in
    let cut : Cut N side j k h.first_half cs = cut_law N side j k h.first_half cs move.enough c in
    let second : Graph = add_matchings h.second_half (take j cs) in
    let degrees : k + length (take j cs) ≡ 2 ^ e = omega (arith, cut.moved, move.raised) in
    let half : Full N side k h.second_half = full sp.second_regular sp.second_positive in
    let raised = add_matchings_law N side k h.second_half (take j cs) half cut.perfect_moved in
    ran_then _ _ (rbmg_edge_color_when_power_of_two N e second) _
    (power_law N side e second (subst (λ (n : ℕ). Full N side n second) degrees raised))
    (λ ds b. parts_joined a sp cut b move.sum)

-- Module 7 of document 01: as many matchings as the degree, whose copies add up to the graph's.
pub color_law :
    (fuel N : ℕ) (side : ℕ → ℕ) (left right : List ℕ) (d : ℕ) (g : Graph) → Regular N side d g → Positive g →
    Partition N side left right → 0 < N → d ≤ fuel → Ran (Coloring N side d g) (rbmg_edge_color fuel N left right d g)
unfolding rbmg_edge_color
color_law zero N side left right zero g r pos part some le = coloring_none N side g (full r pos)
color_law zero N side left right (suc d) g r pos part some le = absurd (omega arith)
color_law (suc fuel) N side left right zero g r pos part some le = coloring_none N side g (full r pos)
color_law (suc fuel) N side left right (suc zero) g r pos part some le = coloring_one N side g (full r pos)
color_law (suc fuel) N side left right (suc (suc d)) g r pos part some le =
    let k : ℕ = suc (suc d) / 2 in
    let more : 1 < suc (suc d) = omega arith in
    ran_then _ _ (set_aside N left right (suc (suc d)) g) _
    (set_aside_law N side left right (suc (suc d)) g (full r pos) part more some)
    (λ s a.
    ran_then _ _ (rbmg_split_into_two N s.graph) _ (split_law N side k s.graph a.full.regular)
    (λ h sp.
    ran_then _ _ (rbmg_edge_color fuel N left right k h.first_half) _
    (color_law fuel N side left right k h.first_half sp.first_regular sp.first_positive part some
    (omega arith))
    (λ cs c. last_part N side (suc (suc d)) g s h cs more a sp c)))
