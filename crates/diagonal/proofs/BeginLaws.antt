-- The diagonal's places begin over words: each party learns its place, and each place the number of its own row. Assumes nothing.
use Prim.Native.Nat.{ℕ, ◌+◌, ◌*◌, ◌≤◌, ◌<◌}
use mathlib.Core.Path.{◌≡◌, refl, sym, ◌∙◌}
use mathlib.Core.List.{List}
use native.Mathlib.Omega.{arith}
use native.Mathlib.Decide.{ℕ_discrete}
use lib.ListN.{length}
use Rattle.words.specs.Words.{word, put_word}
use Rattle.words.proofs.Ranges.{three_trans, three_within}
use Rattle.diagonal.specs.DiagonalPlaces.{begun, Begins, DiagRoom, DiagFit, Begun, DiagReady}
use Rattle.words.proofs.Puts.{Put, put_is}
use Rattle.list_pairs.specs.declared.Bases.{Bases}

-- the words after one place
record OneBegun (ends diag b m i l r : ℕ) (s t : List ℕ) : Type 0 where
  len : length t ≡ length s
  left_place : word t (b + l) ≡ i
  right_place : word t (b + r) ≡ i
  number : word t (diag + i) ≡ m + i
  first : word t (ends + 2 * (m + i)) ≡ l
  second : word t (ends + 2 * (m + i) + 1) ≡ r
  elsewhere :
      (k : ℕ) → (k ≡ b + l → ⊥) → (k ≡ b + r → ⊥) → (k ≡ diag + i → ⊥) → (k ≡ ends + 2 * (m + i) → ⊥) →
      (k ≡ ends + 2 * (m + i) + 1 → ⊥) → word t k ≡ word s k

module _ (ends diag b m i l r : ℕ) (s : List ℕ) where
  v1 : List ℕ
  v1 = put_word s (b + l) i

  v2 : List ℕ
  v2 = put_word v1 (b + r) i

  v3 : List ℕ
  v3 = put_word v2 (diag + i) (m + i)

  v4 : List ℕ
  v4 = put_word v3 (ends + 2 * (m + i)) l

  v5 : List ℕ
  v5 = put_word v4 (ends + 2 * (m + i) + 1) r

  one_begun :
      (l ≡ r → ⊥) → diag + i < ends → ends + 2 * (m + i) + 1 < b → b + l < length s → b + r < length s → b + l < 4294967296 →
      b + r < 4294967296 → OneBegun ends diag b m i l r s (begun ends diag b m i l r s)
  unfolding v1 v2 v3 v4 v5
  one_begun apart low high il ir sl sr =
      let p1 : Put (b + l) i s v1 = put_is (b + l) i s v1 refl il (omega arith) in
      let p2 : Put (b + r) i v1 v2 = put_is (b + r) i v1 v2 refl (omega (arith, p1.len)) (omega arith) in
      let len2 : length v2 ≡ length s = p2.len ∙ p1.len in
      let p3 : Put (diag + i) (m + i) v2 v3 = put_is (diag + i) (m + i) v2 v3 refl (omega (arith, len2)) (omega arith) in
      let len3 : length v3 ≡ length s = p3.len ∙ len2 in
      let p4 : Put (ends + 2 * (m + i)) l v3 v4 = put_is (ends + 2 * (m + i)) l v3 v4 refl (omega (arith, len3)) (omega arith) in
      let len4 : length v4 ≡ length s = p4.len ∙ len3 in
      let p5 : Put (ends + 2 * (m + i) + 1) r v4 v5 =
      put_is (ends + 2 * (m + i) + 1) r v4 v5 refl (omega (arith, len4)) (omega arith) in
      record {
        len = p5.len ∙ len4;
        left_place =
            p5.else (b + l) (omega arith) ∙ p4.else (b + l) (omega arith) ∙ p3.else (b + l) (omega arith)
            ∙ p2.else (b + l) (λ q. apart (omega arith)) ∙ p1.new;
        right_place = p5.else (b + r) (omega arith) ∙ p4.else (b + r) (omega arith) ∙ p3.else (b + r) (omega arith) ∙ p2.new;
        number = p5.else (diag + i) (omega arith) ∙ p4.else (diag + i) (omega arith) ∙ p3.new;
        first = p5.else (ends + 2 * (m + i)) (omega arith) ∙ p4.new;
        second = p5.new;
        elsewhere = λ k a c d e f. p5.else k f ∙ p4.else k e ∙ p3.else k d ∙ p2.else k c ∙ p1.else k a;
      }

module _ (n : ℕ) (at : Bases) (diag b m : ℕ) (s : List ℕ) (h : DiagFit n at diag b m s) where
  lies : DiagRoom n at diag b m s
  lies = h.lies

  -- a party of either side, which stand at `base`, stays
  party_same :
      (k : ℕ) (t : List ℕ) → Begun n at diag b m k s t → (base : ℕ) → base + n ≤ diag → (i : ℕ) → i < n →
      word t (base + i) ≡ word s (base + i)
  party_same k t x base low i a = (x.changes (base + i + 1)).under (base + i) (omega arith) (omega arith)

  -- the parties of the left side stay
  pub left_same : (k : ℕ) (t : List ℕ) → Begun n at diag b m k s t → (i : ℕ) → i < n → word t (at.left + i) ≡ word s (at.left + i)
  left_same k t x = party_same k t x at.left lies.after_left

  -- and those of the right side
  pub right_same : (k : ℕ) (t : List ℕ) → Begun n at diag b m k s t → (i : ℕ) → i < n → word t (at.right + i) ≡ word s (at.right + i)
  right_same k t x = party_same k t x at.right lies.after_right

  -- the next place can begin
  pub begins : (k : ℕ) (t : List ℕ) → k < n → Begun n at diag b m k s t → Begins at diag b m k t
  begins k t inside x =
      let len : length t ≡ length s = (x.changes 0).len in
      let low : diag + n ≤ length t = omega (arith, lies.after_diag, lies.after_ends, lies.room) in
      record {
        left_party = omega (arith, lies.after_left);
        right_party = omega (arith, lies.after_right);
        left_place = omega (arith, left_same k t x k inside, h.left_below k inside, lies.room);
        right_place = omega (arith, right_same k t x k inside, h.right_below k inside, lies.room);
        number = omega arith;
        row = omega (arith, lies.after_ends, lies.room);
      }

  module _ (k : ℕ) (t v : List ℕ) (inside : k < n) (x : Begun n at diag b m k s t)
      (e : v ≡ begun at.ends diag b m k (word t (at.left + k)) (word t (at.right + k)) t) where
    abbrev l : ℕ
    l = word s (at.left + k)

    abbrev r : ℕ
    r = word s (at.right + k)

    l_is : word t (at.left + k) ≡ l
    l_is = left_same k t x k inside

    r_is : word t (at.right + k) ≡ r
    r_is = right_same k t x k inside

    t_len : length t ≡ length s
    t_len = (x.changes 0).len

    o : OneBegun at.ends diag b m k l r t v
    o =
        rw (e, l_is, r_is)
        (one_begun at.ends diag b m k l r t (h.apart k k inside inside) (omega (arith, lies.after_diag))
        (omega (arith, lies.after_ends))
        (omega (arith, h.left_below k inside, lies.room, t_len)) (omega (arith, h.right_below k inside, lies.room, t_len))
        (omega (arith, h.left_below k inside, lies.low)) (omega (arith, h.right_below k inside, lies.low)))

    -- the place of a party that is neither
    place_kept : (w : ℕ) → (w ≡ l → ⊥) → (w ≡ r → ⊥) → word v (b + w) ≡ word t (b + w)
    place_kept w a c =
        o.elsewhere (b + w) (λ q. a (omega arith)) (λ q. c (omega arith)) (λ q. omega (arith, lies.after_diag, lies.after_ends))
        (λ q. omega (arith, lies.after_ends)) (λ q. omega (arith, lies.after_ends))

    -- a word below the places
    low_kept :
        (w : ℕ) → w < b → (w ≡ diag + k → ⊥) → (w ≡ at.ends + 2 * (m + k) → ⊥) → (w ≡ at.ends + 2 * (m + k) + 1 → ⊥) →
        word v w ≡ word t w
    low_kept w a c d f = o.elsewhere w (λ q. omega arith) (λ q. omega arith) c d f

    -- what holds of the first k places and of place k holds of one place more
    one_more :
        (at_of is : ℕ → ℕ) → word v (at_of k) ≡ is k → ((i : ℕ) → i < k → word v (at_of i) ≡ word t (at_of i)) →
        ((i : ℕ) → i < k → word t (at_of i) ≡ is i) → (i : ℕ) → i < k + 1 → word v (at_of i) ≡ is i
    one_more at_of is new kept old i a =
        elim (ℕ_discrete i k) [ yes q ↦ rw q new | no q ↦ kept i (omega arith) ∙ old i (omega arith) ]

    -- the two words of a row of the table that is not the new one
    row_kept :
        (i w : ℕ) → i < k → at.ends + 2 * (m + i) ≤ w → w < at.ends + 2 * (m + i) + 2 → word v w ≡ word t w
    row_kept i w a low high =
        low_kept w (omega (arith, lies.after_ends)) (λ p. omega (arith, lies.after_diag)) (λ p. omega arith) (λ p. omega arith)

    -- one place more has begun
    pub begun_more : Begun n at diag b m (k + 1) s v
    begun_more =
        record {
          left_place =
              one_more (λ i. b + word s (at.left + i)) (λ i. i) o.left_place
              (λ i a. place_kept (word s (at.left + i)) (λ p. omega (arith, h.left_once i k (omega arith) inside p))
              (h.apart i k (omega arith) inside))
              x.left_place;
          right_place =
              one_more (λ i. b + word s (at.right + i)) (λ i. i) o.right_place
              (λ i a.
              place_kept (word s (at.right + i)) (λ p. h.apart k i inside (omega arith) (sym p))
              (λ p. omega (arith, h.right_once i k (omega arith) inside p)))
              x.right_place;
          numbers =
              one_more (λ i. diag + i) (λ i. m + i) o.number
              (λ i a.
              low_kept (diag + i) (omega (arith, lies.after_diag, lies.after_ends)) (λ p. omega arith)
              (λ p. omega (arith, lies.after_diag))
              (λ p. omega (arith, lies.after_diag)))
              x.numbers;
          firsts = one_more (λ i. at.ends + 2 * (m + i)) (λ i. word s (at.left + i)) o.first
              (λ i a. row_kept i (at.ends + 2 * (m + i)) a (omega arith) (omega arith)) x.firsts;
          seconds = one_more (λ i. at.ends + 2 * (m + i) + 1) (λ i. word s (at.right + i)) o.second
              (λ i a. row_kept i (at.ends + 2 * (m + i) + 1) a (omega arith) (omega arith)) x.seconds;
          changes =
              λ mark.
              three_trans (x.changes mark)
              (three_within diag n (at.ends + 2 * m) (2 * n) b (n + n) mark t v (omega (arith, lies.after_diag))
              (omega (arith, lies.after_ends)) o.len
              (λ w a c d f.
              o.elsewhere w (λ q. f (omega arith) (omega (arith, h.left_below k inside)))
              (λ q. f (omega arith) (omega (arith, h.right_below k inside))) (λ q. c (omega arith) (omega arith))
              (λ q. d (omega arith) (omega arith)) (λ q. d (omega arith) (omega arith))));
        }

  -- with all places begun the pairs can be looked at
  pub diag_ready : (t : List ℕ) → Begun n at diag b m n s t → DiagReady n at diag b m t
  diag_ready t x =
      record {
        left_place = λ i a. rw (left_same n t x i a) (x.left_place i a);
        right_place = λ i a. rw (right_same n t x i a) (x.right_place i a);
        numbers = x.numbers;
        lies =
            record {
              after_left = lies.after_left;
              after_right = lies.after_right;
              after_diag = lies.after_diag;
              after_ends = lies.after_ends;
              room = omega (arith, lies.room, (x.changes 0).len);
              low = lies.low;
            };
      }
