-- `rbmg_find_perfect_matching` always gives a perfect matching of the graph's own pairs, whichever search found it; and the
-- second search never leaves a flagged pair. Assumes nothing.
use Prim.Native.Nat.{ℕ, zero, suc, ◌*◌, ◌^◌, ◌≤◌, ◌<◌}
use mathlib.Core.Path.{◌≡◌, refl}
use mathlib.Core.Bool.{Bool, true, false}
use mathlib.Core.List.{List}
use mathlib.Core.Logic.{inl, ⊎_elim}
use native.Mathlib.Omega.{arith}
use native.Mathlib.Nat.{mul-zero, mul-one, mul-suc, mul-le-mul_left, mul-le-mul_right}
use borrow.Author.Tests.{eqb-true}
use lib.Dec.{eqb}
use lib.ListN.{length}
use Rattle.words.specs.Basics.{pick, ran, Ran}
use Rattle.words.proofs.Sums.{is_cases, all_map, all_both, total_zero_all, total_all_zero}
use Rattle.words.proofs.Runs.{ran_then, ran_map, ran_both}
use Rattle.multigraph.specs.Multigraph.{Pair, Graph}
use Rattle.multigraph.specs.Regular.{weigh, between, copies_between, pairs_between, Regular, Positive, Partition, Agrees}
use Rattle.multigraph.proofs.Weights.{apart_le, copies_in_weight}
use Rattle.multigraph.proofs.Matchings.{weigh_ends, single_copies, single_weigh}
use Rattle.perfect_matching.specs.Matching.{flagged_pairs, flagged_copies, halve, search_graph, rbmg_find_perfect_matching}
use Rattle.words.specs.PowersOfTwo.{log_up}
use Rattle.perfect_matching.specs.Perfect.{Perfect, MatchingOf}
use Rattle.words.proofs.PowersOfTwo.{log_up_law}
use Rattle.perfect_matching.proofs.Searching.{lacks, lacks_symmetric, SearchOf, search_law}
use Rattle.perfect_matching.proofs.Halving.{LeftOf, halve_law, alon_halving}

-- a perfect matching weighs what its pairs weigh, each once
pub perfect_weigh :
    (w : ℕ → ℕ → ℕ) (N : ℕ) (side : ℕ → ℕ) (m : Graph) → Perfect N side m → weigh w m ≡ weigh_ends w m
perfect_weigh w N side m h = single_weigh w m (single_copies N side m h.regular h.positive)

-- so it has as many copies between two parties as pairs
pub perfect_single :
    (N : ℕ) (side : ℕ → ℕ) (m : Graph) → Perfect N side m → (u v : ℕ) → copies_between u v m ≡ pairs_between u v m
unfolding pairs_between
perfect_single N side m h u v = perfect_weigh (between u v) N side m h

-- a matching that weighs nothing where the graph has no copy is the graph's own
own_pairs :
    (N : ℕ) (side : ℕ → ℕ) (g m : Graph) → Perfect N side m → weigh (lacks g) m ≡ 0 → (u v : ℕ) →
    copies_between u v m ≤ copies_between u v g
own_pairs N side g m h z u v =
    let one : pairs_between u v m ≤ 1 = apart_le u v m h.regular.apart in
    let none : copies_between u v m * lacks g u v ≤ 0 = rw z at (copies_in_weight (lacks g) (lacks_symmetric g) u v m) in
    ⊎_elim
    (λ k. omega (arith, rw (k.1, mul-one) at none))
    (λ k. omega (arith, k.0, one, perfect_single N side m h u v)) (is_cases (copies_between u v g) 0)

-- no flagged copy is left exactly where no flagged pair is
unflagged_weigh : (flag : ℕ → ℕ → ℕ) (m : Graph) → Agrees flag m → flagged_pairs m ≡ 0 → weigh flag m ≡ 0
unfolding flagged_pairs weigh
unflagged_weigh flag m a z =
    total_all_zero _ m (all_map (λ p e. rw (← e.0, e.1, mul-zero)) m (all_both _ _ m a (total_zero_all _ m z)))

weigh_unflagged : (flag : ℕ → ℕ → ℕ) (m : Graph) → Agrees flag m → Positive m → weigh flag m ≡ 0 → flagged_pairs m ≡ 0
unfolding flagged_pairs weigh
weigh_unflagged flag m a pos z =
    total_all_zero _ m (all_map one m (all_both _ _ m a (all_both _ _ m pos (total_zero_all _ m z))))
  where
    one : (p : Pair) →
        (p.bad ≡ flag p.first p.second) × ((0 < p.copies) × (p.copies * flag p.first p.second ≡ 0)) →
        p.bad ≡ 0
    one p h = omega (arith, h.0, h.1.0, h.1.1, mul-le-mul_right (flag p.first p.second) h.1.0)

-- what a search leaves, where no flagged pair is among it
left_matching :
    (N : ℕ) (side : ℕ → ℕ) (e : ℕ) (g h m : Graph) → 0 < e → SearchOf N side e g h → LeftOf N side e h m →
    flagged_pairs m ≡ 0 → MatchingOf N side g m
left_matching N side e g h m some s l z =
    let perfect : Perfect N side m = record { regular = l.regular; positive = l.positive (inl some) } in
    let agrees : Agrees (lacks g) m = l.flags (lacks g) (lacks_symmetric g) s.flags in
    record {
      perfect = perfect;
      unflagged = z;
      own = own_pairs N side g m perfect (unflagged_weigh (lacks g) m agrees z);
    }

-- The second search always succeeds: it begins with fewer than 2^e flagged copies, and each of its e splits halves them.
pub second_search_law :
    (N : ℕ) (side : ℕ → ℕ) (e : ℕ) (g h : Graph) → 0 < e → SearchOf N side e g h →
    Ran (MatchingOf N side g) (halve N flagged_copies e h)
second_search_law N side e g h some s =
    ran_map done (halve N flagged_copies e h)
    (ran_both _ _ (halve N flagged_copies e h)
    (halve_law N side flagged_copies e h s.regular)
    (alon_halving (lacks g) (lacks_symmetric g) N side e h s.regular s.flags))
  where
    none : (x : ℕ) → 2 ^ e * x < 2 ^ e → x ≡ 0
    none zero k = refl
    none (suc x) k = absurd (omega (arith, mul-suc (2 ^ e) x))

    done : (m : Graph) → LeftOf N side e h m × (2 ^ e * weigh (lacks g) m ≤ weigh (lacks g) h) → MatchingOf N side g m
    done m l =
        let z : weigh (lacks g) m ≡ 0 = none (weigh (lacks g) m) (omega (arith, l.1, s.few)) in
        left_matching N side e g h m some s l.0
        (weigh_unflagged (lacks g) m (l.0.flags (lacks g) (lacks_symmetric g) s.flags) (l.0.positive (inl some)) z)

-- a search of degree above 1 splits at least once
some_split :
    (N : ℕ) (side : ℕ → ℕ) (left right : List ℕ) (k : ℕ) → Partition N side left right → 1 < k → 0 < N →
    0 < log_up (k * length left)
some_split N side left right k part more some =
    go (log_up (k * length left)) (log_up_law (k * length left)).reaches
  where
    go : (e : ℕ) → k * length left ≤ 2 ^ e → 0 < e
    go zero h =
        let n : 0 < length left = omega (arith, part.whole, part.same_length) in
        absurd (omega (arith, mul-le-mul_left k n, mul-one k))
    go (suc e) h = omega arith

-- Module 5 of document 01: of a regular graph of degree above 1 the search gives a perfect matching of the graph's own pairs,
-- whichever search found it.
pub matching_law :
    (N : ℕ) (side : ℕ → ℕ) (left right : List ℕ) (k : ℕ) (g : Graph) → Regular N side k g → Positive g →
    Partition N side left right → 1 < k → 0 < N →
    Ran (MatchingOf N side g) (rbmg_find_perfect_matching N left right k g)
unfolding rbmg_find_perfect_matching
matching_law N side left right k g reg pos part more some =
    ran_then _ _ (halve N flagged_pairs e h) _ (halve_law N side flagged_pairs e h search.regular)
    (λ m l. pairs m l (eqb (flagged_pairs m) 0) refl)
  where
    e : ℕ
    e = log_up (k * length left)

    h : Graph
    h = search_graph left right k g

    search : SearchOf N side e g h
    search = search_law N side left right k g reg pos part (omega arith) some

    splits : 0 < e
    splits = some_split N side left right k part more some

    pairs : (m : Graph) → LeftOf N side e h m → (t : Bool) → eqb (flagged_pairs m) 0 ≡ t →
        Ran (MatchingOf N side g) (pick t (ran m) (halve N flagged_copies e h))
    pairs m l true z = left_matching N side e g h m splits search l (eqb-true _ _ z)
    pairs m l false z = second_search_law N side e g h splits search
