-- The pairs are looked at over words: the place whose parties are a pair's ends learns its number. Assumes nothing.
use Prim.Native.Nat.{ℕ, ◌+◌, ◌*◌, ◌≤◌, ◌<◌}
use mathlib.Core.Path.{◌≡◌, sym, ◌∙◌, ap}
use mathlib.Core.List.{List}
use mathlib.Core.Logic.{◌⊎◌, inl, inr, ⊎_elim}
use native.Mathlib.Omega.{arith}
use native.Mathlib.Decide.{ℕ_discrete}
use lib.ListN.{length}
use Rattle.words.specs.Words.{word, put_word}
use Rattle.diagonal.specs.DiagonalPlaces.{place_of, AtPlace, OnDiagonal, Looks, LookedAt, DiagReady, Looked}
use Rattle.list_pairs.specs.declared.Bases.{Bases}
use Rattle.multigraph.proofs.TableLaws.{TableSame, first_same, has_ends_old, has_ends_new}
use Rattle.words.proofs.Puts.{Put, put_is}

-- ── where the table and the sides are the same ──

module _ (n k : ℕ) (at : Bases) (s t : List ℕ) (table : TableSame at.ends k s t)
    (lefts : (i : ℕ) → i < n → word t (at.left + i) ≡ word s (at.left + i))
    (rights : (i : ℕ) → i < n → word t (at.right + i) ≡ word s (at.right + i)) where
  -- a place whose parties are the ends of pair e was one before
  pub at_place_old : (e i : ℕ) → e < k → i < n → AtPlace at t e i → AtPlace at s e i
  at_place_old e i a b x =
      rw (lefts i b, rights i b) at (has_ends_old at.ends k s t table e (word t (at.left + i)) (word t (at.right + i)) a x)

  -- and a place that was one is one
  pub at_place_new : (e i : ℕ) → e < k → i < n → AtPlace at s e i → AtPlace at t e i
  at_place_new e i a b x =
      rw (lefts i b, rights i b) (has_ends_new at.ends k s t table e (word s (at.left + i)) (word s (at.right + i)) a x)

-- ── one pair ──

module _ (n : ℕ) (at : Bases) (diag b m : ℕ) (s : List ℕ) (h : DiagReady n at diag b m s) where
  -- the next pair can be looked at
  pub looks : (k : ℕ) (t : List ℕ) → k < m → length t ≡ length s → Looks n at diag k t
  looks k t inside len =
      let low : diag + n ≤ length t = omega (arith, h.lies.after_diag, h.lies.after_ends, h.lies.room) in
      record {
        row = omega (arith, h.lies.after_ends, h.lies.room);
        lefts = omega (arith, h.lies.after_left);
        rights = omega (arith, h.lies.after_right);
        numbers = low;
      }

  module _ (k : ℕ) (t v : List ℕ) (inside : k < m) (x : Looked n at diag m k s t) (w : LookedAt n at diag b k t v) where
    abbrev first : ℕ
    first = word s (at.ends + 2 * k)

    table : TableSame at.ends m s t
    table i a b = x.over i (omega (arith, h.lies.after_diag))

    high : (i : ℕ) → b ≤ i → word t i ≡ word s i
    high i a = x.over i (omega (arith, h.lies.after_diag, h.lies.after_ends))

    left_same : (i : ℕ) → i < n → word t (at.left + i) ≡ word s (at.left + i)
    left_same i a = x.under (at.left + i) (omega (arith, h.lies.after_left))

    right_same : (i : ℕ) → i < n → word t (at.right + i) ≡ word s (at.right + i)
    right_same i a = x.under (at.right + i) (omega (arith, h.lies.after_right))

    place_same : place_of at.ends b k t ≡ word s (b + first)
    place_same = ap (λ z. word t (b + z)) (first_same at.ends m s t table k inside) ∙ high (b + first) (omega arith)

    -- the place whose parties are the ends of pair k is the one that was looked up
    place_found :
        (i : ℕ) → i < n → AtPlace at s k i → place_of at.ends b k t ≡ i
    place_found i a q =
        place_same
        ∙ ⊎_elim (λ z. ap (λ c. word s (b + c)) z.0 ∙ h.left_place i a) (λ z. ap (λ c. word s (b + c)) z.0 ∙ h.right_place i a) q

    on_place : (i : ℕ) → i < n → AtPlace at s k i → OnDiagonal n at b k t
    on_place i a q =
        let e : place_of at.ends b k t ≡ i = place_found i a q in
        (omega (arith, e), rw e (at_place_new n m at s t table left_same right_same k i inside a q))

    abbrev Numbered : ℕ → ℕ → Type 0
    Numbered c i =
        ((c < k + 1) × AtPlace at s c i)
        ⊎ ((c ≡ m + i) × ((e : ℕ) → e < k + 1 → AtPlace at s e i → ⊥))

    -- a place whose parties are not the ends of pair k
    number_kept :
        (i : ℕ) → i < n → (AtPlace at s k i → ⊥) → Numbered (word t (diag + i)) i
    number_kept i a none =
        ⊎_elim
        (λ y. inl (omega (arith, y.0), y.1))
        (λ y. inr (y.0, λ e c q. elim (ℕ_discrete e k) [ yes z ↦ none (rw z at q) | no z ↦ y.1 e (omega arith) q ]))
        (x.numbers i a)

    looked_hit : OnDiagonal n at b k t → v ≡ put_word t (diag + place_of at.ends b k t) k → Looked n at diag m (k + 1) s v
    looked_hit on e =
        record {
          numbers = numbers';
          len = put.len ∙ x.len;
          under = λ i a. put.else i (λ q. omega arith) ∙ x.under i a;
          over = λ i a. put.else i (λ q. omega (arith, on.0)) ∙ x.over i a;
        }
      where
        p : ℕ
        p = place_of at.ends b k t

        put : Put (diag + p) k t v
        put =
            put_is (diag + p) k t v e (omega (arith, on.0, h.lies.after_diag, h.lies.after_ends, h.lies.room, x.len))
            (omega (arith, h.lies.after_diag, h.lies.after_ends, h.lies.low))

        numbers' : (i : ℕ) → i < n → Numbered (word v (diag + i)) i
        numbers' i a =
            elim (ℕ_discrete i p) [
              | yes q ↦ rw (q, put.new) (inl (omega arith, at_place_old n m at s t table left_same right_same k p inside on.0 on.1))
              | no q ↦ rw (put.else (diag + i) (λ z. q (omega arith))) (number_kept i a (λ z. q (sym (place_found i a z))))
            ]

    looked_miss : (OnDiagonal n at b k t → ⊥) → v ≡ t → Looked n at diag m (k + 1) s v
    looked_miss none e =
        rw e
        (record {
          numbers = λ i a. number_kept i a (λ q. none (on_place i a q));
          len = x.len;
          under = x.under;
          over = x.over;
        })

    -- one pair more has been looked at
    pub looked_more : Looked n at diag m (k + 1) s v
    looked_more = ⊎_elim (λ z. looked_hit z.0 z.1) (λ z. looked_miss z.0 z.1) w
