-- What the two halves of a split weigh, and what holds of every pair dealt to them. Assumes nothing.
use Prim.Native.Nat.{ℕ, ◌+◌, ◌*◌, ◌/◌, ◌%◌, ◌<◌}
use mathlib.Core.Path.{◌≡◌, refl, ◌∙◌, ap}
use mathlib.Core.Bool.{Bool, true, false}
use mathlib.Core.List.{List, [], ◌∷◌, ◌++◌}
use native.Mathlib.Omega.{arith}
use borrow.Author.Tests.{leb-true, leb-false, eqb-true, eqb-false}
use lib.Dec.{eqb, leb}
use Rattle.words.specs.Basics.{pick, total, All}
use Rattle.multigraph.specs.Multigraph.{Pair, Graph, add_edge, with_copies}
use Rattle.multigraph.specs.Regular.{weigh, Symmetric}
use Rattle.multigraph.proofs.Adding.{weigh_add_edge}
use Rattle.multigraph.proofs.Matchings.{weigh_ends}
use Rattle.euler.specs.Split.{Halves, add_halves, rest, every_other, evens, odds, add_pairs, deal}

-- ── the rest ──

-- what the rest gets from a pair: it, with one copy, or nothing
rest_cons :
    (f : Pair → ℕ) (p : Pair) (g : Graph) →
    total f (rest (p ∷ g)) ≡ p.copies % 2 * f (with_copies 1 p) + total f (rest g)
unfolding rest total
rest_cons f p g = go (eqb (p.copies % 2) 1) refl
  where
    go :
        (b : Bool) → eqb (p.copies % 2) 1 ≡ b →
        total f (pick b (with_copies 1 p ∷ rest g) (rest g)) ≡ p.copies % 2 * f (with_copies 1 p) + total f (rest g)
    go true e = rw (eqb-true (p.copies % 2) 1 e) (omega arith)
    go false e =
        let z : p.copies % 2 ≡ 0 = omega (arith, eqb-false (p.copies % 2) 1 e) in
        rw z (omega arith)

-- a number that is 0 at every pair of the graph, and doesn't ask for copies, is 0 at every pair of the rest
pub rest_zero :
    (f : Pair → ℕ) → ((m : ℕ) (p : Pair) → f (with_copies m p) ≡ f p) → (g : Graph) → total f g ≡ 0 → total f (rest g) ≡ 0
unfolding rest total
rest_zero f same [] z = refl
rest_zero f same (p ∷ g) z =
    let none : f (with_copies 1 p) ≡ 0 = same 1 p ∙ omega arith in
    rest_cons f p g ∙ rw none (omega (arith, rest_zero f same g (omega arith)))

-- the rest of one pair more, at the end
pub rest_append : (x : Graph) (p : Pair) → rest (x ++ (p ∷ [])) ≡ rest x ++ rest (p ∷ [])
unfolding rest
rest_append [] p = refl
rest_append (q ∷ x) p = go (eqb (q.copies % 2) 1) (rest_append x p)
  where
    go :
        (b : Bool) → rest (x ++ (p ∷ [])) ≡ rest x ++ rest (p ∷ []) →
        pick b (with_copies 1 q ∷ rest (x ++ (p ∷ []))) (rest (x ++ (p ∷ [])))
        ≡ pick b (with_copies 1 q ∷ rest x) (rest x) ++ rest (p ∷ [])
    go true h = ap (λ (y : Graph). with_copies 1 q ∷ y) h
    go false h = h

-- ── half of each pair ──

-- half of one pair more, at the end
pub halves_append : (h g : Graph) (p : Pair) → add_halves h (g ++ (p ∷ [])) ≡ pick (leb 2 p.copies) (add_edge (add_halves h g) p.first p.second (p.copies / 2) p.bad) (add_halves h g)
unfolding add_halves
halves_append h [] p = refl
halves_append h (q ∷ g) p =
    halves_append (pick (leb 2 q.copies) (add_edge h q.first q.second (q.copies / 2) q.bad) h) g p

-- ── weights ──

-- half the copies, rounded down, weighed by their ends
unfoldable pub weigh_halves : (ℕ → ℕ → ℕ) → Graph → ℕ
weigh_halves w g = total (λ (p : Pair). p.copies / 2 * w p.first p.second) g

-- twice the halves and the rest are the graph
pub weigh_parts : (w : ℕ → ℕ → ℕ) (g : Graph) → weigh w g ≡ 2 * weigh_halves w g + weigh_ends w (rest g)
unfolding weigh weigh_halves rest total
weigh_parts w [] = refl
weigh_parts w (p ∷ g) =
    let x : ℕ = w p.first p.second in
    let c : p.copies * x ≡ (2 * (p.copies / 2) + p.copies % 2) * x = ap (λ (n : ℕ). n * x) (omega arith) in
    omega (arith, c, rest_cons (λ q. w q.first q.second) p g, weigh_parts w g)

-- a half after its share of the pair p
abbrev add_half : Graph → Pair → Graph
add_half h p = pick (leb 2 p.copies) (add_edge h p.first p.second (p.copies / 2) p.bad) h

weigh_add_half :
    (w : ℕ → ℕ → ℕ) → Symmetric w → (h : Graph) (p : Pair) →
    weigh w (add_half h p) ≡ weigh w h + p.copies / 2 * w p.first p.second
weigh_add_half w s h p = go (leb 2 p.copies) refl
  where
    more : Graph
    more = add_edge h p.first p.second (p.copies / 2) p.bad

    go :
        (b : Bool) → leb 2 p.copies ≡ b →
        weigh w (pick b more h) ≡ weigh w h + p.copies / 2 * w p.first p.second
    go true e = weigh_add_edge w s h p.first p.second (p.copies / 2) p.bad
    go false e =
        let z : p.copies / 2 ≡ 0 = omega (arith, leb-false 2 p.copies e) in
        rw z (omega arith)

-- what half of each pair adds
pub weigh_add_halves :
    (w : ℕ → ℕ → ℕ) → Symmetric w → (h g : Graph) → weigh w (add_halves h g) ≡ weigh w h + weigh_halves w g
unfolding add_halves weigh_halves total
weigh_add_halves w s h [] = omega arith
weigh_add_halves w s h (p ∷ g) = omega (arith, weigh_add_half w s h p, weigh_add_halves w s (add_half h p) g)

-- what one copy of each adds
pub weigh_add_pairs :
    (w : ℕ → ℕ → ℕ) → Symmetric w → (h : Graph) (ps : List Pair) → weigh w (add_pairs h ps) ≡ weigh w h + weigh_ends w ps
unfolding add_pairs total
weigh_add_pairs w s h [] = omega arith
weigh_add_pairs w s h (p ∷ ps) =
    omega (
      arith,
      weigh_add_pairs w s (add_edge h p.first p.second 1 p.bad) ps,
      weigh_add_edge w s h p.first p.second 1 p.bad,
    )

-- ── dealing ──

-- the halves after one cycle
abbrev dealt : Halves → List Pair → Halves
dealt h c = record { first_half = add_pairs h.first_half (evens c); second_half = add_pairs h.second_half (odds c) }

-- what the cycles give to the first half, and to the second
abbrev pub all_evens : (Pair → ℕ) → List (List Pair) → ℕ
all_evens f cs = total (λ (c : List Pair). total f (evens c)) cs

abbrev pub all_odds : (Pair → ℕ) → List (List Pair) → ℕ
all_odds f cs = total (λ (c : List Pair). total f (odds c)) cs

-- what the cycles add to each half
pub record Dealt (w : ℕ → ℕ → ℕ) (h : Halves) (cs : List (List Pair)) : Type 0 where
  pub to_first :
      weigh w (deal h cs).first_half ≡ weigh w h.first_half + all_evens (λ (p : Pair). w p.first p.second) cs
  pub to_second :
      weigh w (deal h cs).second_half ≡ weigh w h.second_half + all_odds (λ (p : Pair). w p.first p.second) cs

pub weigh_deal : (w : ℕ → ℕ → ℕ) → Symmetric w → (h : Halves) (cs : List (List Pair)) → Dealt w h cs
unfolding deal total
weigh_deal w s h [] = omega arith
weigh_deal w s h (c ∷ cs) =
    omega (
      arith,
      weigh_deal w s (dealt h c) cs,
      weigh_add_pairs w s h.first_half (evens c),
      weigh_add_pairs w s h.second_half (odds c),
    )

-- every other pair and the pairs between are all of them
every_other_parts : (f : Pair → ℕ) (c : List Pair) → total f (evens c) + total f (odds c) ≡ total f c
unfolding every_other total
every_other_parts f [] = refl
every_other_parts f (p ∷ c) = omega (arith, every_other_parts f c)

pub cycles_parts :
    (f : Pair → ℕ) (cs : List (List Pair)) →
    all_evens f cs + all_odds f cs ≡ total (λ (c : List Pair). total f c) cs
unfolding total
cycles_parts f [] = refl
cycles_parts f (c ∷ cs) = omega (arith, every_other_parts f c, cycles_parts f cs)

-- where each cycle is balanced, so are all together
pub cycles_balanced :
    (f : Pair → ℕ) (cs : List (List Pair)) → All (λ (c : List Pair). total f (evens c) ≡ total f (odds c)) cs →
    all_evens f cs ≡ all_odds f cs
unfolding total
cycles_balanced f [] h = refl
cycles_balanced f (c ∷ cs) h = omega (arith, cycles_balanced f cs h.1)

-- ── what every added pair keeps ──

-- Q is a property of a graph that is kept when copies of a pair p with f p ≡ 0 are added.
abbrev pub Kept : (Graph → Type 0) → (Pair → ℕ) → Type 0
Kept Q f =
    (h : Graph) (p : Pair) (m : ℕ) → f p ≡ 0 → 0 < m → Q h → Q (add_edge h p.first p.second m p.bad)

-- a property of both halves
abbrev pub Both : (Graph → Type 0) → Halves → Type 0
Both Q h = Q h.first_half × Q h.second_half

module _ (Q : Graph → Type 0) (f : Pair → ℕ) (kept : Kept Q f) where
  add_half_keeps : (h : Graph) (p : Pair) → f p ≡ 0 → Q h → Q (add_half h p)
  add_half_keeps h p z q = go (leb 2 p.copies) refl
    where
      go :
          (b : Bool) → leb 2 p.copies ≡ b →
          Q (pick b (add_edge h p.first p.second (p.copies / 2) p.bad) h)
      go true e = kept h p (p.copies / 2) z (omega (arith, leb-true 2 p.copies e)) q
      go false e = q

  -- half of each pair keeps it
  pub add_halves_keeps : (h g : Graph) → total f g ≡ 0 → Q h → Q (add_halves h g)
  unfolding add_halves total
  add_halves_keeps h [] z q = q
  add_halves_keeps h (p ∷ g) z q = add_halves_keeps (add_half h p) g (omega arith) (add_half_keeps h p (omega arith) q)

  add_pairs_keeps : (h : Graph) (ps : List Pair) → total f ps ≡ 0 → Q h → Q (add_pairs h ps)
  unfolding add_pairs total
  add_pairs_keeps h [] z q = q
  add_pairs_keeps h (p ∷ ps) z q = add_pairs_keeps (add_edge h p.first p.second 1 p.bad) ps (omega arith) (kept h p 1 (omega arith) (omega arith) q)

  -- and so does dealing
  pub deal_keeps :
      (h : Halves) (cs : List (List Pair)) → total (λ (c : List Pair). total f c) cs ≡ 0 → Both Q h → Both Q (deal h cs)
  unfolding deal total
  deal_keeps h [] z q = q
  deal_keeps h (c ∷ cs) z q =
      deal_keeps (dealt h c) cs (omega arith) (
        add_pairs_keeps h.first_half (evens c) (omega (arith, every_other_parts f c)) q.0,
        add_pairs_keeps h.second_half (odds c) (omega (arith, every_other_parts f c)) q.1,
      )
