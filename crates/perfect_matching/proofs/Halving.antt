-- Split after split, down to degree 1: what is left is a regular graph of degree 1 with copies of the graph's, whichever half
-- goes on; and going on with the half that has fewer flagged copies halves these at least. Assumes nothing.
use Prim.Native.Nat.{ℕ, zero, suc, ◌*◌, ◌^◌, ◌≤◌, ◌<◌}
use mathlib.Core.Path.{◌≡◌, refl}
use mathlib.Core.Bool.{Bool, true, false}
use mathlib.Core.Logic.{◌⊎◌, inr, ⊎_elim}
use native.Mathlib.Omega.{arith}
use native.Mathlib.Nat.{mul_comm, mul_assoc}
use borrow.Author.Tests.{leb-true, leb-false}
use lib.Dec.{leb}
use Rattle.words.specs.Basics.{pick, Ran}
use Rattle.words.proofs.Sums.{all_map, total_cong_all}
use Rattle.words.proofs.Runs.{ran_then, ran_map}
use Rattle.words.proofs.PowersOfTwo.{two_pow}
use Rattle.multigraph.specs.Multigraph.{Graph}
use Rattle.multigraph.specs.Regular.{weigh, Regular, Positive, Symmetric, Agrees}
use Rattle.euler.specs.Split.{Halves, rbmg_split_into_two}
use Rattle.euler.specs.Halved.{SplitOf}
use Rattle.euler.proofs.SplitLaws.{split_law}
use Rattle.perfect_matching.specs.Matching.{flagged_copies, fewer_flagged, halve}

-- one of the two halves of a graph
pub record HalfOf (N : ℕ) (side : ℕ → ℕ) (k : ℕ) (g c : Graph) : Type 0 where
  pub regular : Regular N side k c
  pub positive : Positive c
  pub copies : (w : ℕ → ℕ → ℕ) → Symmetric w → weigh w c ≤ weigh w g
  pub flags : (flag : ℕ → ℕ → ℕ) → Symmetric flag → Agrees flag g → Agrees flag c

-- what both halves have, the one that goes on has
fewer_flagged_is :
    (Q : Graph → Type 0) (flagged : Graph → ℕ) (hs : Halves) → Q hs.first_half → Q hs.second_half →
    Q (fewer_flagged flagged hs)
unfolding fewer_flagged
fewer_flagged_is Q flagged hs a b = go (leb (flagged hs.first_half) (flagged hs.second_half))
  where
    go : (t : Bool) → Q (pick t hs.first_half hs.second_half)
    go true = a
    go false = b

pub half_of :
    (N : ℕ) (side : ℕ → ℕ) (k : ℕ) (g : Graph) (flagged : Graph → ℕ) (hs : Halves) → SplitOf N side k g hs →
    HalfOf N side k g (fewer_flagged flagged hs)
half_of N side k g flagged hs s =
    fewer_flagged_is (HalfOf N side k g) flagged hs
    (record {
      regular = s.first_regular;
      positive = s.first_positive;
      copies = λ w sym_w. omega (arith, s.copies w sym_w);
      flags = s.first_flags;
    })
    (record {
      regular = s.second_regular;
      positive = s.second_positive;
      copies = λ w sym_w. omega (arith, s.copies w sym_w);
      flags = s.second_flags;
    })

-- What e splits leave of a graph of degree 2^e. (A pair without copies goes by the first split.)
pub record LeftOf (N : ℕ) (side : ℕ → ℕ) (e : ℕ) (h m : Graph) : Type 0 where
  pub regular : Regular N side 1 m
  pub positive : (0 < e) ⊎ Positive h → Positive m
  pub copies : (w : ℕ → ℕ → ℕ) → Symmetric w → weigh w m ≤ weigh w h
  pub flags : (flag : ℕ → ℕ → ℕ) → Symmetric flag → Agrees flag h → Agrees flag m

-- the halves of a graph of degree 2^(e+1) have degree 2^e
pub split_power :
    (N : ℕ) (side : ℕ → ℕ) (e : ℕ) (h : Graph) → Regular N side (2 ^ suc e) h →
    Ran (SplitOf N side (2 ^ e) h) (rbmg_split_into_two N h)
split_power N side e h r = split_law N side (2 ^ e) h (rw two_pow at r)

-- whichever count decides
pub halve_law :
    (N : ℕ) (side : ℕ → ℕ) (flagged : Graph → ℕ) (e : ℕ) (h : Graph) → Regular N side (2 ^ e) h →
    Ran (LeftOf N side e h) (halve N flagged e h)
unfolding halve
halve_law N side flagged zero h r =
    record {
      regular = r;
      positive = λ d. ⊎_elim (λ n. absurd (omega arith)) (λ p. p) d;
      copies = λ w s. omega arith;
      flags = λ flag s a. a;
    }
halve_law N side flagged (suc e) h r =
    ran_then _ _ (rbmg_split_into_two N h) _ (split_power N side e h r)
    (λ hs s.
    let c : Graph = fewer_flagged flagged hs in
    let half : HalfOf N side (2 ^ e) h c = half_of N side (2 ^ e) h flagged hs s in
    ran_map (down c half) (halve N flagged e c) (halve_law N side flagged e c half.regular))
  where
    down : (c : Graph) → HalfOf N side (2 ^ e) h c → (m : Graph) → LeftOf N side e c m → LeftOf N side (suc e) h m
    down c half m l =
        record {
          regular = l.regular;
          positive = λ d. l.positive (inr half.positive);
          copies = λ w s. omega (arith, l.copies w s, half.copies w s);
          flags = λ flag s a. l.flags flag s (half.flags flag s a);
        }

-- where flags go by ends, flagged copies are a weight
pub flagged_weigh : (flag : ℕ → ℕ → ℕ) (g : Graph) → Agrees flag g → flagged_copies g ≡ weigh flag g
unfolding flagged_copies weigh
flagged_weigh flag g a =
    total_cong_all _ _ g (all_map (λ p e. rw e (mul_comm (flag p.first p.second) p.copies)) g a)

-- the half that goes on has at most half of the flagged copies
fewer_copies :
    (flag : ℕ → ℕ → ℕ) → Symmetric flag → (N : ℕ) (side : ℕ → ℕ) (k : ℕ) (g : Graph) (hs : Halves) → Agrees flag g →
    SplitOf N side k g hs → 2 * weigh flag (fewer_flagged flagged_copies hs) ≤ weigh flag g
unfolding fewer_flagged
fewer_copies flag s N side k g hs a sp = go (leb (flagged_copies hs.first_half) (flagged_copies hs.second_half)) refl
  where
    one : flagged_copies hs.first_half ≡ weigh flag hs.first_half
    one = flagged_weigh flag hs.first_half (sp.first_flags flag s a)

    two : flagged_copies hs.second_half ≡ weigh flag hs.second_half
    two = flagged_weigh flag hs.second_half (sp.second_flags flag s a)

    go : (t : Bool) → leb (flagged_copies hs.first_half) (flagged_copies hs.second_half) ≡ t →
        2 * weigh flag (pick t hs.first_half hs.second_half) ≤ weigh flag g
    go true e =
        let le : flagged_copies hs.first_half ≤ flagged_copies hs.second_half = leb-true _ _ e in
        omega (arith, one, two, sp.copies flag s)
    go false e =
        let lt : flagged_copies hs.second_half < flagged_copies hs.first_half = leb-false _ _ e in
        omega (arith, one, two, sp.copies flag s)

-- Alon's halving argument (Noga Alon, 'A simple algorithm for edge-coloring bipartite multigraphs', 2003): each split halves
-- the flagged copies at least, where the half that has fewer of them goes on.
pub alon_halving :
    (flag : ℕ → ℕ → ℕ) → Symmetric flag → (N : ℕ) (side : ℕ → ℕ) (e : ℕ) (h : Graph) → Regular N side (2 ^ e) h →
    Agrees flag h → Ran (λ (m : Graph). 2 ^ e * weigh flag m ≤ weigh flag h) (halve N flagged_copies e h)
unfolding halve
alon_halving flag s N side zero h r a = omega arith
alon_halving flag s N side (suc e) h r a =
    ran_then _ _ (rbmg_split_into_two N h) _ (split_power N side e h r)
    (λ hs sp.
    let c : Graph = fewer_flagged flagged_copies hs in
    let half : HalfOf N side (2 ^ e) h c = half_of N side (2 ^ e) h flagged_copies hs sp in
    ran_map (down c (fewer_copies flag s N side (2 ^ e) h hs a sp)) (halve N flagged_copies e c)
    (alon_halving flag s N side e c half.regular (half.flags flag s a)))
  where
    down : (c : Graph) → 2 * weigh flag c ≤ weigh flag h → (m : Graph) → 2 ^ e * weigh flag m ≤ weigh flag c →
        2 ^ suc e * weigh flag m ≤ weigh flag h
    down c half m l = rw (two_pow e, mul_assoc) (omega arith)
