-- Module 5 of document 01, `rbmg_find_perfect_matching`, with the second search that document 01 adds. Assumes nothing.
use Rattle.std.specs.Prelude.{ℕ, zero, suc, ◌*◌, ◌-◌, ◌/◌, ◌^◌, List, [], ◌∷◌, eqb, leb, length}
use Rattle.words.specs.Basics.{pick, total, Run, ran, and_then}
use Rattle.words.specs.PowersOfTwo.{log_up}
use Rattle.multigraph.specs.Multigraph.{Graph, add_edge}
use Rattle.euler.specs.Split.{Halves, rbmg_split_into_two}

-- how many pairs are flagged, however many copies they have
unfoldable pub flagged_pairs : Graph → ℕ
flagged_pairs g = total (λ p. p.bad) g

-- how many copies belong to flagged pairs
unfoldable pub flagged_copies : Graph → ℕ
flagged_copies g = total (λ p. p.bad * p.copies) g

-- The half that goes on: the one with fewer flagged, the first if equal.
unfoldable pub fewer_flagged : (Graph → ℕ) → Halves → Graph
fewer_flagged flagged h =
    pick (leb (flagged h.first_half) (flagged h.second_half)) h.first_half h.second_half

-- Split so many times, each time going on with the half that has fewer flagged.
unfoldable pub halve : ℕ → (Graph → ℕ) → ℕ → Graph → Run Graph
halve N flagged zero h = ran h
halve N flagged (suc e) h = and_then (rbmg_split_into_two N h) (λ hs. halve N flagged e (fewer_flagged flagged hs))

-- every pair with its copies times α, unflagged
unfoldable pub add_times : ℕ → Graph → Graph → Graph
add_times α h [] = h
add_times α h (p ∷ g) = add_times α (add_edge h p.first p.second (α * p.copies) 0) g

-- β copies of left i with right i, flagged if new
unfoldable pub add_diagonal : ℕ → Graph → List ℕ → List ℕ → Graph
add_diagonal β h [] right = h
add_diagonal β h (l ∷ left) [] = h
add_diagonal β h (l ∷ left) (r ∷ right) = add_diagonal β (add_edge h l r β 1) left right

-- What a matching search splits: for degree k and n parties a side, t = 2^e is the least power of two not below k×n, α is t÷k
-- rounded down and β is t−k×α.
unfoldable pub search_graph : List ℕ → List ℕ → ℕ → Graph → Graph
search_graph left right k g =
    let t : ℕ = 2 ^ log_up (k * length left) in
    add_diagonal (t - k * (t / k)) (add_times (t / k) [] g) left right

-- The perfect matching: search counting flagged pairs; if a flagged pair survives, search again counting flagged copies. The
-- pairs left, in number order, are the matching.
unfoldable pub rbmg_find_perfect_matching : ℕ → List ℕ → List ℕ → ℕ → Graph → Run Graph
rbmg_find_perfect_matching N left right k g =
    let e : ℕ = log_up (k * length left) in
    let h : Graph = search_graph left right k g in
    let again : Run Graph = halve N flagged_copies e h in
    and_then (halve N flagged_pairs e h) (λ m. pick (eqb (flagged_pairs m) 0) (ran m) again)
