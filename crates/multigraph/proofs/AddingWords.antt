-- `add_edge` over words is `add_edge`: an entry that the map has for the key gets the copies, or a new entry comes last; and the
-- map stays what it is. Assumes nothing.
use Prim.Native.Nat.{ℕ, ◌+◌, ◌*◌, ◌≤◌, ◌<◌}
use mathlib.Core.Path.{◌≡◌, sym, ◌∙◌}
use mathlib.Core.Bool.{true, false}
use mathlib.Core.List.{List}
use native.Mathlib.Omega.{arith}
use native.Mathlib.Decide.{ℕ_discrete}
use lib.Dec.{leb}
use lib.ListN.{length}
use Rattle.words.specs.Basics.{pick}
use Rattle.words.specs.Words.{word, put_word}
use Rattle.words.specs.Frames.{Changes}
use Rattle.words.proofs.Frames.{here, away, length_put}
use Rattle.multigraph.specs.Multigraph.{joins, add_edge}
use Rattle.multigraph.specs.Stored.{numbered, entry, graph_at}
use Rattle.multigraph.specs.Places.{size, number, copies_of, Alike, Stored, Mapped, EdgeFits, EdgeAdded, AddsEdge}
use Rattle.multigraph.specs.Steps.{span}
use Rattle.multigraph.proofs.Ends.{true_joins, same_ends_sym, same_ends_trans}
use Rattle.multigraph.proofs.Spans.{graph_span, span_same, span_snoc, not_joins, add_last, add_there}
use Rattle.multigraph.proofs.Kept.{EndsKept, ends_kept, alike_back, alike_kept, entry_is}

-- ── what is written ──

-- the copies of entry p grow
pub record Bumped (g p copies : ℕ) (s t : List ℕ) : Type 0 where
  pub len : length t ≡ length s
  pub new : copies_of t g p ≡ copies_of s g p + copies
  pub elsewhere : (i : ℕ) → (i ≡ g + 3 + 2 * p → ⊥) → word t i ≡ word s i

pub bumped :
    (g p copies : ℕ) (s : List ℕ) → g + 3 + 2 * p < length s → copies_of s g p + copies < 4294967296 →
    Bumped g p copies s (put_word s (g + 3 + 2 * p) (copies_of s g p + copies))
bumped g p copies s h k =
    record {
      len = length_put s (g + 3 + 2 * p) (copies_of s g p + copies);
      new = here s (g + 3 + 2 * p) (copies_of s g p + copies) h k;
      elsewhere = λ i x. away s (g + 3 + 2 * p) i (copies_of s g p + copies) x;
    }

-- a new last entry, and its place in the map
pub record Pushed (places g key e copies : ℕ) (s t : List ℕ) : Type 0 where
  pub len : length t ≡ length s
  pub its_number : number t g (size s g) ≡ e
  pub its_copies : copies_of t g (size s g) ≡ copies
  pub new_size : size t g ≡ size s g + 1
  pub its_place : word t (places + key) ≡ size s g + 1
  pub elsewhere :
      (i : ℕ) → (i ≡ places + key → ⊥) → (i ≡ g + 1 → ⊥) → (i ≡ g + 2 + 2 * size s g → ⊥) → (i ≡ g + 3 + 2 * size s g → ⊥) →
      word t i ≡ word s i

abbrev pub pushed_words : ℕ → ℕ → ℕ → ℕ → ℕ → ℕ → List ℕ → List ℕ
pushed_words places g key e copies m s =
    put_word (put_word (put_word (put_word s (g + 2 + 2 * m) e) (g + 3 + 2 * m) copies) (g + 1) (m + 1)) (places + key) (m + 1)

pub pushed :
    (places g key e copies : ℕ) (s : List ℕ) → places + key < g → g + 4 + 2 * size s g ≤ length s →
    size s g + 1 < 4294967296 → e < 4294967296 → copies < 4294967296 →
    Pushed places g key e copies s (pushed_words places g key e copies (size s g) s)
pushed places g key e copies s low inside small small_e small_c =
    record {
      len = len4;
      its_number =
          away u3 p4 (g + 2 + 2 * m) (m + 1) (λ x. omega arith) ∙ away u2 (g + 1) (g + 2 + 2 * m) (m + 1) (λ x. omega arith)
          ∙ away u1 (g + 3 + 2 * m) (g + 2 + 2 * m) copies (λ x. omega arith)
          ∙ here s (g + 2 + 2 * m) e (omega arith) small_e;
      its_copies =
          away u3 p4 (g + 3 + 2 * m) (m + 1) (λ x. omega arith) ∙ away u2 (g + 1) (g + 3 + 2 * m) (m + 1) (λ x. omega arith)
          ∙ here u1 (g + 3 + 2 * m) copies (omega (arith, len1)) small_c;
      new_size =
          away u3 p4 (g + 1) (m + 1) (λ x. omega arith) ∙ here u2 (g + 1) (m + 1) (omega (arith, len2)) small;
      its_place = here u3 p4 (m + 1) (omega (arith, len3)) small;
      elsewhere =
          λ i a b c d.
          away u3 p4 i (m + 1) a ∙ away u2 (g + 1) i (m + 1) b ∙ away u1 (g + 3 + 2 * m) i copies d
          ∙ away s (g + 2 + 2 * m) i e c;
    }
  where
    m : ℕ
    m = size s g

    p4 : ℕ
    p4 = places + key

    u1 : List ℕ
    u1 = put_word s (g + 2 + 2 * m) e

    u2 : List ℕ
    u2 = put_word u1 (g + 3 + 2 * m) copies

    u3 : List ℕ
    u3 = put_word u2 (g + 1) (m + 1)

    len1 : length u1 ≡ length s
    len1 = length_put s (g + 2 + 2 * m) e

    len2 : length u2 ≡ length s
    len2 = length_put u1 (g + 3 + 2 * m) copies ∙ len1

    len3 : length u3 ≡ length s
    len3 = length_put u2 (g + 1) (m + 1) ∙ len2

    len4 : length (put_word u3 p4 (m + 1)) ≡ length s
    len4 = length_put u3 p4 (m + 1) ∙ len3

-- ── what it is for the graph ──

module _ (ends pairs rows most room : ℕ) (keys : ℕ → ℕ) (n places g key e copies : ℕ) (s : List ℕ)
    (h : EdgeFits ends rows most room keys n places g key e copies s) where
  key_below : key < rows
  key_below = rw (← h.asked.2) (h.below h.asked.0 h.asked.1)

  key_there : (i : ℕ) → word s (places + key) ≡ i + 1 → (i < size s g) × Alike s ends key (number s g i)
  key_there i x = rw h.asked.2 at (h.mapped.there h.asked.0 i h.asked.1 (rw h.asked.2 x))

  key_found : (i : ℕ) → i < size s g → Alike s ends key (number s g i) → word s (places + key) ≡ i + 1
  key_found i a x = rw h.asked.2 at (h.mapped.found h.asked.0 i h.asked.1 a (rw h.asked.2 x))

  -- an entry has the new pair's ends exactly if it has the key's
  joined : (i : ℕ) → Alike s ends key (number s g i) →
      joins (word s (ends + 2 * e)) (word s (ends + 2 * e + 1)) (entry s ends pairs g i) ≡ true
  joined i x = true_joins _ _ (entry s ends pairs g i) (same_ends_trans (same_ends_sym h.same) x)

  not_joined : (i : ℕ) → (Alike s ends key (number s g i) → ⊥) →
      joins (word s (ends + 2 * e)) (word s (ends + 2 * e + 1)) (entry s ends pairs g i) ≡ false
  not_joined i x = not_joins _ _ (entry s ends pairs g i) (λ y. x (same_ends_trans h.same y))

  -- ── the map has entry p for the key ──

  module _ (p : ℕ) (has : word s (places + key) ≡ p + 1) (t : List ℕ) (b : Bumped g p copies s t) where
    p_inside : p < size s g
    p_inside = (key_there p has).0

    bump_changes : Changes places rows g (2 + 2 * (size s g + 1)) s t
    bump_changes =
        record {
          len = b.len;
          under = λ i k. b.elsewhere i (λ x. omega (arith, h.laid.after_places));
          between = λ i k l. b.elsewhere i (λ x. omega arith);
          over = λ i k. b.elsewhere i (λ x. omega (arith, p_inside));
        }

    bump_kept : EndsKept ends rows s t
    bump_kept = ends_kept ends rows h.laid.after_ends bump_changes

    bump_size : size t g ≡ size s g
    bump_size = b.elsewhere (g + 1) (λ x. omega arith)

    bump_number : (i : ℕ) → number t g i ≡ number s g i
    bump_number i = b.elsewhere (g + 2 + 2 * i) (λ x. omega arith)

    bump_copies : (i : ℕ) → (i ≡ p → ⊥) → copies_of t g i ≡ copies_of s g i
    bump_copies i x = b.elsewhere (g + 3 + 2 * i) (λ y. x (omega arith))

    bump_place : (j : ℕ) → j < n → word t (places + keys j) ≡ word s (places + keys j)
    bump_place j a = b.elsewhere (places + keys j) (λ x. omega (arith, h.below j a, h.laid.after_places))

    bump_graph :
        graph_at t ends pairs g
        ≡ add_edge (graph_at s ends pairs g) (word s (ends + 2 * e)) (word s (ends + 2 * e + 1)) copies (pick (leb pairs e) 1 0)
    bump_graph =
        rw (graph_span t ends pairs g, graph_span s ends pairs g, bump_size)
        (sym
        (add_there (word s (ends + 2 * e)) (word s (ends + 2 * e + 1)) copies (pick (leb pairs e) 1 0) p
        (entry s ends pairs g) (entry t ends pairs g) 0 (size s g) (omega arith) (omega (arith, p_inside))
        (joined p (key_there p has).1)
        (λ j a k. not_joined j (λ x. omega (arith, has, key_found j (omega (arith, p_inside)) x)))
        (entry_is bump_kept pairs g p (number s g p) (copies_of s g p + copies) (bump_number p) b.new
        (h.stored.numbers p p_inside))
        (λ j a k x.
        entry_is bump_kept pairs g j (number s g j) (copies_of s g j) (bump_number j) (bump_copies j x)
        (h.stored.numbers j (omega arith)))))

    bump_mapped : Mapped keys n ends places g t
    bump_mapped =
        record {
          unlike = λ i j a c x. h.mapped.unlike i j a c (alike_back bump_kept _ _ (h.below i a) (h.below j c) x);
          there = λ j i a x. there j i a (h.mapped.there j i a (sym (bump_place j a) ∙ x));
          found = λ j i a c x. bump_place j a ∙ h.mapped.found j i a (omega (arith, bump_size)) (back j i a (omega (arith, bump_size)) x);
        }
      where
        there : (j i : ℕ) → j < n → (i < size s g) × Alike s ends (keys j) (number s g i) →
            (i < size t g) × Alike t ends (keys j) (number t g i)
        there j i a x = (
          omega (arith, bump_size, x.0),
          rw (bump_number i) (alike_kept bump_kept (keys j) (number s g i) (h.below j a) (h.stored.numbers i x.0) x.1),
        )

        back : (j i : ℕ) → j < n → i < size s g → Alike t ends (keys j) (number t g i) → Alike s ends (keys j) (number s g i)
        back j i a c x =
            alike_back bump_kept (keys j) (number s g i) (h.below j a) (h.stored.numbers i c) (rw (bump_number i) at x)

    bump_stored : Stored rows (most + copies) room t g
    bump_stored =
        record {
          header = b.elsewhere g (λ x. omega arith) ∙ h.stored.header;
          numbers = λ i a. rw (bump_number i) (h.stored.numbers i (omega (arith, bump_size)));
          copies = λ i a. copies' i (omega (arith, bump_size));
          inside = omega (arith, bump_size, h.stored.inside, b.len);
          small = omega (arith, bump_size, h.stored.small);
          light = h.fits;
        }
      where
        copies' : (i : ℕ) → i < size s g → copies_of t g i ≤ most + copies
        copies' i a =
            elim (ℕ_discrete i p) [
              | yes x ↦ rw x (omega (arith, b.new, h.stored.copies p p_inside))
              | no x ↦ omega (arith, bump_copies i x, h.stored.copies i a)
            ]

    pub edge_bumped : EdgeAdded ends pairs rows most room keys n places g e copies s t
    edge_bumped =
        record {
          graph = bump_graph;
          stored = bump_stored;
          mapped = bump_mapped;
          grown = omega (arith, bump_size);
          changes = bump_changes;
        }

  -- ── the map has no entry for the key ──

  module _ (none : word s (places + key) ≡ 0) (t : List ℕ) (b : Pushed places g key e copies s t) where
    push_changes : Changes places rows g (2 + 2 * (size s g + 1)) s t
    push_changes =
        record {
          len = b.len;
          under =
              λ i k. b.elsewhere i (λ x. omega arith) (λ x. omega (arith, low)) (λ x. omega (arith, low)) (λ x. omega (arith, low));
          between =
              λ i k l. b.elsewhere i (λ x. omega (arith, key_below)) (λ x. omega arith) (λ x. omega arith) (λ x. omega arith);
          over =
              λ i k. b.elsewhere i (λ x. omega (arith, key_below, low)) (λ x. omega arith) (λ x. omega arith) (λ x. omega arith);
        }
      where
        low : places + rows ≤ g
        low = h.laid.after_places

    push_kept : EndsKept ends rows s t
    push_kept = ends_kept ends rows h.laid.after_ends push_changes

    -- a word of the graph that is not written
    push_own : (i : ℕ) → g ≤ i → (i ≡ g + 1 → ⊥) → (i ≡ g + 2 + 2 * size s g → ⊥) → (i ≡ g + 3 + 2 * size s g → ⊥) →
        word t i ≡ word s i
    push_own i k x y z = b.elsewhere i (λ w. omega (arith, key_below, h.laid.after_places)) x y z

    push_number : (i : ℕ) → i < size s g → number t g i ≡ number s g i
    push_number i k = push_own (g + 2 + 2 * i) (omega arith) (λ x. omega arith) (λ x. omega arith) (λ x. omega arith)

    push_copies : (i : ℕ) → i < size s g → copies_of t g i ≡ copies_of s g i
    push_copies i k = push_own (g + 3 + 2 * i) (omega arith) (λ x. omega arith) (λ x. omega arith) (λ x. omega arith)

    push_place : (j : ℕ) → j < n → (keys j ≡ key → ⊥) → word t (places + keys j) ≡ word s (places + keys j)
    push_place j a x =
        b.elsewhere (places + keys j) (λ y. x (omega arith)) (λ y. omega (arith, h.below j a, h.laid.after_places))
        (λ y. omega (arith, h.below j a, h.laid.after_places)) (λ y. omega (arith, h.below j a, h.laid.after_places))

    not_there : (i : ℕ) → i < size s g → Alike s ends key (number s g i) → ⊥
    not_there i a x = omega (arith, none, key_found i a x)

    push_graph :
        graph_at t ends pairs g
        ≡ add_edge (graph_at s ends pairs g) (word s (ends + 2 * e)) (word s (ends + 2 * e + 1)) copies (pick (leb pairs e) 1 0)
    push_graph =
        let old : span (entry t ends pairs g) 0 (size s g) ≡ span (entry s ends pairs g) 0 (size s g) =
        span_same (entry s ends pairs g) (entry t ends pairs g) 0 (size s g)
        (λ j a k.
        entry_is push_kept pairs g j (number s g j) (copies_of s g j) (push_number j (omega arith))
        (push_copies j (omega arith)) (h.stored.numbers j (omega arith))) in
        let new : entry t ends pairs g (size s g) ≡ numbered s ends pairs e copies =
        entry_is push_kept pairs g (size s g) e copies b.its_number b.its_copies h.number_below in
        rw (graph_span t ends pairs g, graph_span s ends pairs g, b.new_size, span_snoc (entry t ends pairs g) (size s g), old, new)
        (sym
        (add_last (word s (ends + 2 * e)) (word s (ends + 2 * e + 1)) copies (pick (leb pairs e) 1 0) (entry s ends pairs g) 0
        (size s g) (λ j a k. not_joined j (not_there j (omega arith)))))

    push_there : (j i : ℕ) → j < n → word t (places + keys j) ≡ i + 1 → (i < size t g) × Alike t ends (keys j) (number t g i)
    push_there j i a x = elim (ℕ_discrete (keys j) key) [ yes k ↦ own k | no k ↦ old (h.mapped.there j i a (sym (push_place j a k) ∙ x)) ]
      where
        old : (i < size s g) × Alike s ends (keys j) (number s g i) → (i < size t g) × Alike t ends (keys j) (number t g i)
        old y = (
          omega (arith, b.new_size, y.0),
          rw (push_number i y.0)
              (alike_kept push_kept (keys j) (number s g i) (h.below j a) (h.stored.numbers i y.0) y.1),
        )

        own : keys j ≡ key → (i < size t g) × Alike t ends (keys j) (number t g i)
        own k =
            let last : i ≡ size s g = omega (arith, rw k at x, b.its_place) in
            let its : number t g i ≡ e = rw last b.its_number in
            let same : Alike t ends key e = alike_kept push_kept key e key_below h.number_below h.same in
            (omega (arith, b.new_size), rw (its, k) same)

    push_found : (j i : ℕ) → j < n → i < size t g → Alike t ends (keys j) (number t g i) → word t (places + keys j) ≡ i + 1
    push_found j i a c x =
        elim (ℕ_discrete i (size s g)) [ yes l ↦ last l | no l ↦ old (omega (arith, b.new_size)) ]
      where
        -- the new entry: only the key has its ends
        last : i ≡ size s g → word t (places + keys j) ≡ i + 1
        last l =
            let its : number t g i ≡ e = rw l b.its_number in
            let y : Alike s ends (keys j) e = alike_back push_kept (keys j) e (h.below j a) h.number_below (rw its at x) in
            let z : Alike s ends (keys j) key = same_ends_trans y (same_ends_sym h.same) in
            let k : keys j ≡ key =
            h.mapped.unlike j h.asked.0 a h.asked.1 (rw h.asked.2 z) ∙ h.asked.2 in
            rw (k, l) b.its_place

        old : i < size s g → word t (places + keys j) ≡ i + 1
        old d = elim (ℕ_discrete (keys j) key) [ yes k ↦ absurd (not_there i d (rw k at y)) | no k ↦ push_place j a k ∙ h.mapped.found j i a d y ]
          where
            y : Alike s ends (keys j) (number s g i)
            y =
                alike_back push_kept (keys j) (number s g i) (h.below j a) (h.stored.numbers i d)
                (rw (push_number i d) at x)

    push_stored : Stored rows (most + copies) room t g
    push_stored =
        record {
          header = push_own g (omega arith) (λ x. omega arith) (λ x. omega arith) (λ x. omega arith) ∙ h.stored.header;
          numbers = numbers';
          copies = copies';
          inside = omega (arith, b.new_size, h.stored.inside, b.len);
          small = omega (arith, b.new_size, h.stored.small);
          light = h.fits;
        }
      where
        numbers' : (i : ℕ) → i < size t g → number t g i < rows
        numbers' i a =
            elim (ℕ_discrete i (size s g)) [
              | yes l ↦ rw (l, b.its_number) h.number_below
              | no l ↦
                  let d : i < size s g = omega (arith, b.new_size) in
                  rw (push_number i d) (h.stored.numbers i d)
            ]

        copies' : (i : ℕ) → i < size t g → copies_of t g i ≤ most + copies
        copies' i a =
            elim (ℕ_discrete i (size s g)) [
              | yes l ↦ rw (l, b.its_copies) (omega arith)
              | no l ↦
                  let d : i < size s g = omega (arith, b.new_size) in
                  omega (arith, push_copies i d, h.stored.copies i d)
            ]

    pub edge_pushed : EdgeAdded ends pairs rows most room keys n places g e copies s t
    edge_pushed =
        record {
          graph = push_graph;
          stored = push_stored;
          mapped =
              record {
                unlike = λ i j a c x. h.mapped.unlike i j a c (alike_back push_kept _ _ (h.below i a) (h.below j c) x);
                there = push_there;
                found = push_found;
              };
          grown = omega (arith, b.new_size);
          changes = push_changes;
        }

-- ── what the code writes ──

-- a place was found
pub adds_there :
    (places g key e copies p : ℕ) (s t : List ℕ) → word s (places + key) ≡ p + 1 →
    t ≡ put_word s (g + 3 + 2 * p) (copies_of s g p + copies) → AddsEdge places g key e copies s t
adds_there places g key e copies p s t has words ends pairs rows most room keys n h =
    edge_bumped ends pairs rows most room keys n places g key e copies s h p has t (rw words bump)
  where
    inside : p < size s g
    inside = (key_there ends pairs rows most room keys n places g key e copies s h p has).0

    bump : Bumped g p copies s (put_word s (g + 3 + 2 * p) (copies_of s g p + copies))
    bump =
        bumped g p copies s (omega (arith, h.stored.inside, inside)) (omega (arith, h.stored.copies p inside, h.fits))

-- no place was found
pub adds_new :
    (places g key e copies : ℕ) (s t : List ℕ) → word s (places + key) ≡ 0 → e < 4294967296 →
    t ≡ pushed_words places g key e copies (size s g) s → AddsEdge places g key e copies s t
adds_new places g key e copies s t none small words ends pairs rows most room keys n h =
    edge_pushed ends pairs rows most room keys n places g key e copies s h none t
    (rw words
    (pushed places g key e copies s
    (omega (arith, key_below ends pairs rows most room keys n places g key e copies s h, h.laid.after_places))
    (omega (arith, h.stored.inside)) (omega (arith, h.stored.small)) small (omega (arith, h.fits))))
