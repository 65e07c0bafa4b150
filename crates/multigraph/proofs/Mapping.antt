-- Writing into the map, one key after the other, and what the map is then. Assumes nothing.
use Prim.Native.Nat.{ℕ, ◌+◌, ◌*◌, ◌-◌, ◌≤◌, ◌<◌}
use mathlib.Core.Path.{◌≡◌, refl, sym, ◌∙◌, ap}
use mathlib.Core.List.{List}
use mathlib.Core.Logic.{◌⊎◌, inl, inr, ⊎_elim}
use native.Mathlib.Omega.{arith}
use native.Mathlib.Decide.{ℕ_discrete, dec_lt, dec_le}
use lib.ListN.{length}
use Rattle.words.specs.Words.{word, put_word}
use Rattle.words.specs.Frames.{Changes}
use Rattle.words.proofs.Frames.{here, away, length_put}
use Rattle.words.proofs.Ranges.{changes_trans}
use Rattle.multigraph.specs.Places.{size, number, Alike, Mappable, PlacesMapped}
use Rattle.multigraph.specs.Steps.{Written, Writable, Writes}
use Rattle.multigraph.proofs.Kept.{EndsKept, ends_kept, alike_back}

-- one more key
pub written_more :
    (key value : ℕ → ℕ) (i rows places : ℕ) (s t : List ℕ) → Written key value i rows places s t → key i < rows →
    places + rows ≤ length s → value i < 4294967296 →
    Written key value (i + 1) rows places s (put_word t (places + key i) (value i))
written_more key value i rows places s t w below room small =
    record {
      len = length_put t (places + key i) (value i) ∙ w.len;
      under = λ j h. away t (places + key i) j (value i) (λ e. omega arith) ∙ w.under j h;
      over = λ j h. away t (places + key i) j (value i) (λ e. omega arith) ∙ w.over j h;
      at = λ e h. at e h;
    }
  where
    u : List ℕ
    u = put_word t (places + key i) (value i)

    last : (e : ℕ) → key i ≡ e → word u (places + e) ≡ value i
    last e k = rw (← k) (here t (places + key i) (value i) (omega (arith, w.len)) small)

    other : (e : ℕ) → (key i ≡ e → ⊥) → word u (places + e) ≡ word t (places + e)
    other e k = away t (places + key i) (places + e) (value i) (λ x. k (omega arith))

    not_now : (e j : ℕ) → (key i ≡ e → ⊥) → ((j : ℕ) → j < i → key j ≡ e → ⊥) → j < i + 1 → key j ≡ e → ⊥
    not_now e j n before h x =
        elim (ℕ_discrete j i) [
          | yes y ↦ n (rw y at x)
          | no y ↦ before j (omega arith) x
        ]

    at : (e : ℕ) → e < rows →
        ((j : ℕ) × (j < i + 1) × (key j ≡ e) × (word u (places + e) ≡ value j))
        ⊎ (((j : ℕ) → j < i + 1 → key j ≡ e → ⊥) × (word u (places + e) ≡ word s (places + e)))
    at e h =
        elim (ℕ_discrete (key i) e) [
          | yes k ↦ inl (i, omega arith, k, last e k)
          | no k ↦
              ⊎_elim (λ x. inl (x.0, omega arith, x.2, other e k ∙ x.3))
              (λ x. inr (λ j. not_now e j k x.0, other e k ∙ x.1)) (w.at e h)
        ]

-- only the map changes
pub written_changes :
    (key value : ℕ → ℕ) (n rows places g : ℕ) (s t : List ℕ) → Written key value n rows places s t → places + rows ≤ g →
    Changes places rows g 0 s t
written_changes key value n rows places g s t w h =
    record {
      len = w.len;
      under = λ i p. w.under i p;
      between = λ i p q. w.over i p;
      over = λ i p. w.over i (omega arith);
    }

-- ── the keys absent, then the graph's places ──

module _ (ends rows most room places g keys n : ℕ) (s u t : List ℕ)
    (h : Mappable ends rows most room places g keys n s)
    (absent : Writes (λ i. keys + i) (λ i. 0) n places s u)
    (placed : Writes (λ i. g + 2 + 2 * i) (λ i. i + 1) (size u g) places u t) where
  w1 : Written (λ i. word s (keys + i)) (λ i. 0) n rows places s u
  w1 =
      absent rows
      (record {
        outside = h.outside;
        below = h.below;
        inside = omega (arith, h.laid.after_places, h.stored.inside);
        fits = λ i k. omega arith;
      })

  c1 : Changes places rows g 0 s u
  c1 = written_changes _ _ _ _ _ _ _ _ w1 h.laid.after_places

  size_u : size u g ≡ size s g
  size_u = c1.over (g + 1) (omega arith)

  number_u : (i : ℕ) → number u g i ≡ number s g i
  number_u i = c1.over (g + 2 + 2 * i) (omega arith)

  w2 : Written (λ i. number u g i) (λ i. i + 1) (size u g) rows places u t
  w2 =
      placed rows
      (record {
        outside = λ i e a b x. omega (arith, h.laid.after_places);
        below = λ i a. rw (number_u i) (h.stored.numbers i (omega (arith, size_u)));
        inside = omega (arith, h.laid.after_places, h.stored.inside, c1.len);
        fits = λ i a. omega (arith, h.stored.small, size_u);
      })

  pub map_changes : Changes places rows g 0 s t
  map_changes = changes_trans c1 (written_changes _ _ _ _ _ _ _ _ w2 h.laid.after_places)

  size_t : size t g ≡ size s g
  size_t = map_changes.over (g + 1) (omega arith)

  number_t : (i : ℕ) → number t g i ≡ number s g i
  number_t i = map_changes.over (g + 2 + 2 * i) (omega arith)

  kept : EndsKept ends rows s t
  kept = ends_kept ends rows h.laid.after_ends map_changes

  -- the words of a key's number: the place of the last entry with this number, or as the first pass left it
  entry_of : (j : ℕ) → j < n →
      ((i : ℕ) × (i < size s g) × (number s g i ≡ word s (keys + j)) × (word t (places + word s (keys + j)) ≡ i + 1))
      ⊎ (((i : ℕ) → i < size s g → number s g i ≡ word s (keys + j) → ⊥) × (word t (places + word s (keys + j)) ≡ 0))
  entry_of j a =
      ⊎_elim (λ x. inl (x.0, omega (arith, x.1, size_u), sym (number_u x.0) ∙ x.2, x.3))
      (λ x. inr (λ i k y. x.0 i (omega (arith, size_u)) (number_u i ∙ y), x.1 ∙ zero_u))
      (w2.at (word s (keys + j)) (h.below j a))
    where
      zero_u : word u (places + word s (keys + j)) ≡ 0
      zero_u = ⊎_elim (λ x. x.3) (λ x. absurd (x.0 j a refl)) (w1.at (word s (keys + j)) (h.below j a))

  there : (j i : ℕ) → j < n → word t (places + word s (keys + j)) ≡ i + 1 →
      (i < size t g) × Alike t ends (word s (keys + j)) (number t g i)
  there j i a e =
      ⊎_elim (λ x. good x.0 x.1 x.2 (omega (arith, x.3))) (λ x. absurd (omega (arith, x.1))) (entry_of j a)
    where
      good : (l : ℕ) → l < size s g → number s g l ≡ word s (keys + j) → l ≡ i →
          (i < size t g) × Alike t ends (word s (keys + j)) (number t g i)
      good l b x y =
          let own : number t g i ≡ word s (keys + j) = rw (← y) (number_t l ∙ x) in
          (omega (arith, size_t), rw own (inl (refl, refl)))

  found : (j i : ℕ) → j < n → i < size t g → Alike t ends (word s (keys + j)) (number t g i) →
      word t (places + word s (keys + j)) ≡ i + 1
  found j i a b x =
      ⊎_elim (λ y. y.3 ∙ ap (λ l. l + 1) (h.once y.0 i y.1 inside (y.2 ∙ own))) (λ y. absurd (y.0 i inside (sym own)))
      (entry_of j a)
    where
      inside : i < size s g
      inside = omega (arith, size_t)

      own : word s (keys + j) ≡ number s g i
      own =
          h.unlike_numbers j i a inside
          (alike_back kept (word s (keys + j)) (number s g i) (h.below j a) (h.stored.numbers i inside)
          (rw (number_t i) at x))

  -- The map is ready.
  pub places_mapped : PlacesMapped ends rows places g keys n s t
  places_mapped =
      record {
        mapped =
            record {
              unlike = λ i j a b x. h.unlike_keys i j a b (alike_back kept _ _ (h.below i a) (h.below j b) x);
              there = there;
              found = found;
            };
        changes = map_changes;
      }

-- ── the loops ──

-- i of n keys are written
abbrev pub Writing : (ℕ → ℕ) → (ℕ → ℕ) → ℕ → ℕ → ℕ → List ℕ → List ℕ → Type 0
Writing at value n i places s t =
    (rows : ℕ) → Writable at value n rows places s → Written (λ j. word s (at j)) value i rows places s t

-- the keys' own words are not changed
writing_key :
    (at value : ℕ → ℕ) (n i rows places : ℕ) (s t : List ℕ) → Writable at value n rows places s →
    Written (λ j. word s (at j)) value i rows places s t → (j : ℕ) → j < n → word t (at j) ≡ word s (at j)
writing_key at value n i rows places s t w d j a =
    elim (dec_lt (at j) places) [
      | yes x ↦ d.under (at j) x
      | no x ↦
          elim (dec_le (places + rows) (at j)) [
            | yes y ↦ d.over (at j) y
            | no y ↦ absurd (w.outside j (at j - places) a (omega arith) (omega arith))
          ]
    ]

pub writing_more :
    (at value : ℕ → ℕ) (n i places : ℕ) (s t u : List ℕ) → i < n →
    u ≡ put_word t (places + word t (at i)) (value i) → Writing at value n i places s t → Writing at value n (i + 1) places s u
writing_more at value n i places s t u a e before rows w =
    let d = before rows w in
    let key : word t (at i) ≡ word s (at i) = writing_key at value n i rows places s t w d i a in
    rw (e, key)
    (written_more (λ j. word s (at j)) value i rows places s t d (w.below i a) w.inside (w.fits i a))
