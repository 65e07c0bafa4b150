-- The places written, by the parity of where they stand: what each half is dealt, and what the marks say of it. Assumes nothing.
use Prim.Native.Nat.{ℕ, zero, suc, ◌+◌, ◌*◌, ◌-◌, ◌/◌, ◌%◌, ◌≤◌, ◌<◌}
use mathlib.Core.Path.{◌≡◌, refl, sym, ◌∙◌, ap}
use mathlib.Core.Bool.{Bool, true, false}
use mathlib.Core.List.{List, [], ◌∷◌, ◌++◌, map, map-append, reverse, reverse-cons}
use native.Mathlib.Omega.{arith}
use native.Mathlib.Decide.{ℕ_discrete}
use borrow.Author.Tests.{eq-eqb, ne_eqb}
use lib.Dec.{eqb}
use lib.ListN.{length, length-map, length-reverse}
use Rattle.words.specs.Basics.{pick, is, count, All}
use Rattle.words.specs.Words.{word}
use Rattle.words.proofs.Sums.{is_eq, is_ne, count_append, all_append}
use Rattle.multigraph.specs.Multigraph.{Pair}
use Rattle.rings.specs.declared.Rings.{Rings}
use Rattle.splitting.specs.Model.{more_m}
use Rattle.euler.specs.Split.{every_other}
use Rattle.rings.proofs.Columns.{column, column_length, mark_of}

-- of the places ws, written last first, those at places of this parity, in the order of writing
unfoldable pub dealt : ℕ → List ℕ → List ℕ
dealt parity [] = []
dealt parity (x ∷ ws) =
    let before = dealt parity ws in pick (eqb (length ws % 2) parity) (before ++ (x ∷ [])) before

-- the last place, of this parity or not
pub dealt_yes : (parity x : ℕ) (ws : List ℕ) → length ws % 2 ≡ parity → dealt parity (x ∷ ws) ≡ dealt parity ws ++ (x ∷ [])
unfolding dealt
dealt_yes parity x ws e = rw (eq-eqb (length ws % 2) parity e)

pub dealt_no : (parity x : ℕ) (ws : List ℕ) → (length ws % 2 ≡ parity → ⊥) → dealt parity (x ∷ ws) ≡ dealt parity ws
unfolding dealt
dealt_no parity x ws n = rw (ne_eqb (length ws % 2) parity n)

-- what all are, those dealt are
pub dealt_all : (R : ℕ → Type 0) (parity : ℕ) (ws : List ℕ) → All R ws → All R (dealt parity ws)
unfolding dealt
dealt_all R parity [] h = tt
dealt_all R parity (x ∷ ws) h = go (eqb (length ws % 2) parity) (dealt_all R parity ws h.1)
  where
    go : (b : Bool) → All R (dealt parity ws) → All R (pick b (dealt parity ws ++ (x ∷ [])) (dealt parity ws))
    go true k = all_append R (dealt parity ws) (x ∷ []) k (h.0, tt)
    go false k = k

-- none more often
pub dealt_count : (i parity : ℕ) (ws : List ℕ) → count i (dealt parity ws) ≤ count i ws
unfolding dealt count
dealt_count i parity [] = omega arith
dealt_count i parity (x ∷ ws) = go (eqb (length ws % 2) parity) (dealt_count i parity ws)
  where
    go :
        (b : Bool) → count i (dealt parity ws) ≤ count i ws →
        count i (pick b (dealt parity ws ++ (x ∷ [])) (dealt parity ws)) ≤ is i x + count i ws
    go true k = omega (arith, count_append i (dealt parity ws) (x ∷ []))
    go false k = omega arith

-- ── the marks ──

mark_none : (i : ℕ) (ws : List ℕ) → count i ws ≡ 0 → mark_of i ws ≡ 0
unfolding mark_of count
mark_none i [] z = refl
mark_none i (x ∷ ws) z = rw (ne_eqb i x (λ e. omega (arith, is_eq e))) (mark_none i ws (omega arith))

-- An entry's mark says whether it is dealt to this half.
pub more_dealt :
    (i parity : ℕ) (ws : List ℕ) → parity < 2 → count i ws ≤ 1 → more_m (mark_of i ws) parity ≡ count i (dealt parity ws)
unfolding mark_of count dealt
more_dealt i parity [] b once = rw (ne_eqb 0 (2 + parity) (λ e. omega arith))
more_dealt i parity (x ∷ ws) b once =
    elim (ℕ_discrete i x) [
      | yes e ↦
          let z : count i (dealt parity ws) ≡ 0 = omega (arith, dealt_count i parity ws, is_eq e) in
          elim (ℕ_discrete (length ws % 2) parity) [
            | yes q ↦
                rw (eq-eqb i x e, eq-eqb (2 + length ws % 2) (2 + parity) (omega arith), eq-eqb (length ws % 2) parity q)
                (omega (arith, count_append i (dealt parity ws) (x ∷ []), is_eq e))
            | no q ↦
                rw (eq-eqb i x e, ne_eqb (2 + length ws % 2) (2 + parity) (λ y. q (omega arith)), ne_eqb (length ws % 2) parity q)
                (sym z)
          ]
      | no n ↦
          rw (ne_eqb i x n)
          (more_dealt i parity ws b (omega arith)
          ∙ elim (ℕ_discrete (length ws % 2) parity) [
            | yes q ↦
                rw (eq-eqb (length ws % 2) parity q)
                (omega (arith, count_append i (dealt parity ws) (x ∷ []), is_ne {u = i} {v = x} n))
            | no q ↦ rw (ne_eqb (length ws % 2) parity q)
          ])
    ]

-- ── every other of the written pairs ──

-- 0 for the places from the first on, 1 for those from the second on
abbrev pub parity_of : Bool → ℕ
parity_of b = pick b 0 1

eo_yes : (b : Bool) (xs : List Pair) (y : Pair) → length xs % 2 ≡ parity_of b → every_other b (xs ++ (y ∷ [])) ≡ every_other b xs ++ (y ∷ [])
unfolding every_other
eo_yes true [] y e = refl
eo_yes false [] y e = absurd (omega arith)
eo_yes true (x ∷ xs) y e = ap (λ (l : List Pair). x ∷ l) (eo_yes false xs y (omega arith))
eo_yes false (x ∷ xs) y e = eo_yes true xs y (omega arith)

eo_no : (b : Bool) (xs : List Pair) (y : Pair) → (length xs % 2 ≡ parity_of b → ⊥) → every_other b (xs ++ (y ∷ [])) ≡ every_other b xs
unfolding every_other
eo_no true [] y n = absurd (n refl)
eo_no false [] y n = refl
eo_no true (x ∷ xs) y n = ap (λ (l : List Pair). x ∷ l) (eo_no false xs y (λ e. n (omega arith)))
eo_no false (x ∷ xs) y n = eo_no true xs y (λ e. n (omega arith))

-- Every other of the written pairs, in the order of writing, are the pairs of the places dealt.
pub every_other_dealt :
    (f : ℕ → Pair) (b : Bool) (ws : List ℕ) → every_other b (reverse (map f ws)) ≡ map f (dealt (parity_of b) ws)
unfolding every_other dealt
every_other_dealt f true [] = refl
every_other_dealt f false [] = refl
every_other_dealt f b (x ∷ ws) =
    let len : length (reverse (map f ws)) ≡ length ws = length-reverse (map f ws) ∙ length-map ws f in
    ap (every_other b) (reverse-cons (f x) (map f ws))
    ∙ elim (ℕ_discrete (length ws % 2) (parity_of b)) [
      | yes e ↦
          eo_yes b (reverse (map f ws)) (f x) (ap (λ (n : ℕ). n % 2) len ∙ e)
          ∙ ap (λ (l : List Pair). l ++ (f x ∷ [])) (every_other_dealt f b ws)
          ∙ sym (map-append f (dealt (parity_of b) ws) (x ∷ []))
          ∙ ap (map f) (sym (dealt_yes (parity_of b) x ws e))
      | no n ↦
          eo_no b (reverse (map f ws)) (f x) (λ e. n (ap (λ (k : ℕ). k % 2) (sym len) ∙ e))
          ∙ every_other_dealt f b ws
          ∙ ap (map f) (sym (dealt_no (parity_of b) x ws n))
    ]

-- ── the places of one parity, read from the words ──

-- every other place written, from `parity` on
unfoldable pub picks : Rings → List ℕ → ℕ → ℕ → List ℕ
picks l s parity zero = []
picks l s parity (suc k) = picks l s parity k ++ (word s (l.col + 2 * (parity + 2 * k) + 1) ∷ [])

-- reading them gives those dealt
pub picks_dealt :
    (l : Rings) (s : List ℕ) (parity n : ℕ) → parity < 2 →
    picks l s parity ((n + 1 - parity) / 2) ≡ dealt parity (column l false s n)
unfolding picks column dealt
picks_dealt l s parity zero b = let e : (0 + 1 - parity) / 2 ≡ 0 = omega arith in rw e
picks_dealt l s parity (suc n) b =
    let len : length (column l false s n) ≡ n = column_length l false s n in
    elim (ℕ_discrete (n % 2) parity) [
      | yes q ↦
          let k : ℕ = (n + 1 - parity) / 2 in
          let e : (suc n + 1 - parity) / 2 ≡ suc k = omega arith in
          let at : parity + 2 * k ≡ n = omega arith in
          ap (picks l s parity) e
          ∙ ap (λ (j : ℕ). picks l s parity k ++ (word s (l.col + 2 * j + 1) ∷ [])) at
          ∙ ap (λ (xs : List ℕ). xs ++ (word s (l.col + 2 * n + 1) ∷ [])) (picks_dealt l s parity n b)
          ∙ sym (dealt_yes parity (word s (l.col + 2 * n + 1)) (column l false s n) (ap (λ (k : ℕ). k % 2) len ∙ q))
      | no q ↦
          let e : (suc n + 1 - parity) / 2 ≡ (n + 1 - parity) / 2 = omega arith in
          ap (picks l s parity) e
          ∙ picks_dealt l s parity n b
          ∙ sym (dealt_no parity (word s (l.col + 2 * n + 1)) (column l false s n) (λ z. q (ap (λ (k : ℕ). k % 2) (sym len) ∙ z)))
    ]
