-- The law of `rbmg_split_into_two`: of a regular graph of degree 2k it makes two of degree k, whose copies add up to the
-- graph's, and pairs take their flags along. Assumes nothing.
use Prim.Native.Nat.{ℕ, ◌+◌, ◌*◌, ◌-◌, ◌%◌, ◌<◌}
use mathlib.Core.Path.{◌≡◌, refl, ◌∙◌}
use mathlib.Core.List.{List, []}
use native.Mathlib.Omega.{arith}
use Rattle.words.specs.Basics.{total, All, Ran, ran}
use Rattle.words.proofs.Sums.{total_all_zero, total_zero_all, all_map}
use Rattle.words.proofs.Runs.{ran_then}
use Rattle.multigraph.specs.Multigraph.{Pair, Graph, with_copies}
use Rattle.multigraph.specs.Regular.{weigh, names, degree, Across, Regular, Symmetric, Agrees}
use Rattle.multigraph.proofs.Ends.{names_symmetric}
use Rattle.multigraph.proofs.Weights.{weigh_none}
use Rattle.multigraph.proofs.Adding.{across_add_edge, positive_add_edge, agrees_add_edge, apart_add_edge}
use Rattle.multigraph.proofs.Matchings.{Sound}
use Rattle.euler.specs.Euler.{euler_cycles}
use Rattle.euler.specs.Split.{Halves, add_halves, rest, deal, rbmg_split_into_two}
use Rattle.euler.specs.Halved.{CyclesOf, SplitOf}
use Rattle.euler.proofs.Taken.{ends}
use Rattle.euler.proofs.EulerLaws.{astray, astray_across, none_astray, euler_law}
use Rattle.euler.proofs.Dealing.{rest_zero, weigh_parts, weigh_add_halves, weigh_deal, cycles_parts, cycles_balanced, Kept, Both, add_halves_keeps, deal_keeps}

-- both halves before the rest is dealt
abbrev undealt : Graph → Halves
undealt g = record { first_half = add_halves [] g; second_half = add_halves [] g }

-- the halves of a graph whose rest has the cycles cs
abbrev halves : Graph → List (List Pair) → Halves
halves g cs = deal (undealt g) cs

-- A property of graphs that is kept when copies of a pair p with f p ≡ 0 are added holds of both halves.
both_keep :
    (Q : Graph → Type 0) (f : Pair → ℕ) → Kept Q f → ((m : ℕ) (p : Pair) → f (with_copies m p) ≡ f p) → Q [] →
    (g : Graph) → total f g ≡ 0 → (cs : List (List Pair)) → CyclesOf (rest g) cs → Both Q (halves g cs)
both_keep Q f kept same none g z cs c =
    let half : Q (add_halves [] g) = add_halves_keeps Q f kept [] g z none in
    deal_keeps Q f kept (undealt g) cs (c.whole f ∙ rest_zero f same g z) (half, half)

-- ── between the two sides, apart, with a copy each ──

sound_kept : (N : ℕ) (side : ℕ → ℕ) → Kept (Sound N side) (astray N side)
sound_kept N side h p m z pos s =
    record {
      across = across_add_edge N side h p.first p.second m p.bad s.across (omega arith);
      apart = apart_add_edge h p.first p.second m p.bad s.apart;
      positive = positive_add_edge h p.first p.second m p.bad s.positive pos;
    }

both_sound :
    (N : ℕ) (side : ℕ → ℕ) (g : Graph) → All (Across N side) g → (cs : List (List Pair)) → CyclesOf (rest g) cs →
    Both (Sound N side) (halves g cs)
both_sound N side g h =
    both_keep (Sound N side) (astray N side) (sound_kept N side) (λ m p. refl)
    (record { across = tt; apart = tt; positive = tt }) g (none_astray N side g h)

-- ── flags ──

-- how far a pair's flag is from what its ends say
abbrev misflagged : (ℕ → ℕ → ℕ) → Pair → ℕ
misflagged flag p = (p.bad - flag p.first p.second) + (flag p.first p.second - p.bad)

both_agree :
    (flag : ℕ → ℕ → ℕ) (g : Graph) → Agrees flag g → (cs : List (List Pair)) → CyclesOf (rest g) cs →
    Both (Agrees flag) (halves g cs)
both_agree flag g a =
    both_keep (Agrees flag) (misflagged flag)
    (λ h p m z pos q. agrees_add_edge flag h p.first p.second m p.bad q (λ new. omega arith)) (λ m p. refl) tt g
    (total_all_zero (misflagged flag) g (all_map (λ p e. omega arith) g a))

-- ── copies and degrees ──

-- every weight's share of both halves, before the rest is dealt and after
both_copies :
    (w : ℕ → ℕ → ℕ) → Symmetric w → (g : Graph) (cs : List (List Pair)) → CyclesOf (rest g) cs →
    weigh w (halves g cs).first_half + weigh w (halves g cs).second_half ≡ weigh w g
both_copies w s g cs c =
    let at : Pair → ℕ = λ p. w p.first p.second in
    omega (
      arith,
      weigh_deal w s (undealt g) cs,
      weigh_add_halves w s [] g,
      weigh_none w,
      cycles_parts at cs,
      c.whole at,
      weigh_parts w g,
    )

-- every party has the same degree in both halves
same_degree :
    (v : ℕ) (g : Graph) (cs : List (List Pair)) → CyclesOf (rest g) cs →
    degree v (halves g cs).first_half ≡ degree v (halves g cs).second_half
same_degree v g cs c =
    omega (arith, weigh_deal (names v) (names_symmetric v) (undealt g) cs, cycles_balanced (ends v) cs (c.balanced v))

-- so each half has half the degree
both_half :
    (v k : ℕ) (g : Graph) (cs : List (List Pair)) → CyclesOf (rest g) cs → degree v g ≡ 2 * k →
    Both (λ h. degree v h ≡ k) (halves g cs)
both_half v k g cs c d = omega (arith, same_degree v g cs c, both_copies (names v) (names_symmetric v) g cs c)

-- the rest of a graph of even degrees has even degrees
pub rest_even : (v k : ℕ) (g : Graph) → degree v g ≡ 2 * k → total (ends v) (rest g) % 2 ≡ 0
rest_even v k g h = omega (arith, weigh_parts (names v) g)

-- ── the split ──

halves_law :
    (N : ℕ) (side : ℕ → ℕ) (k : ℕ) (g : Graph) → Regular N side (2 * k) g → (cs : List (List Pair)) →
    CyclesOf (rest g) cs → SplitOf N side k g (halves g cs)
halves_law N side k g r cs c =
    let sound : Both (Sound N side) (halves g cs) = both_sound N side g r.across cs c in
    let half : (v : ℕ) → v < N → Both (λ h. degree v h ≡ k) (halves g cs) = λ v l. both_half v k g cs c (r.even v l) in
    record {
      first_regular = record { even = λ v l. (half v l).0; across = sound.0.across; apart = sound.0.apart };
      second_regular = record { even = λ v l. (half v l).1; across = sound.1.across; apart = sound.1.apart };
      first_positive = sound.0.positive;
      second_positive = sound.1.positive;
      copies = λ w s. both_copies w s g cs c;
      first_flags = λ flag s h. (both_agree flag g h cs c).0;
      second_flags = λ flag s h. (both_agree flag g h cs c).1;
    }

-- Module 4 of document 01. A regular graph of degree 2k is split into two of degree k whose copies add up to its copies;
-- pairs take their flags along, and a pair with no copy is in neither half.
pub split_law :
    (N : ℕ) (side : ℕ → ℕ) (k : ℕ) (g : Graph) → Regular N side (2 * k) g →
    Ran (SplitOf N side k g) (rbmg_split_into_two N g)
unfolding rbmg_split_into_two
split_law N side k g r =
    ran_then (CyclesOf (rest g)) (SplitOf N side k g) (euler_cycles N (rest g)) (λ cs. ran (halves g cs))
    (euler_law N side (rest g) across (λ v l. rest_even v k g (r.even v l))) (halves_law N side k g r)
  where
    across : All (Across N side) (rest g)
    across =
        all_map (astray_across N side) (rest g)
        (total_zero_all (astray N side) (rest g)
        (rest_zero (astray N side) (λ m p. refl) g (none_astray N side g r.across)))
