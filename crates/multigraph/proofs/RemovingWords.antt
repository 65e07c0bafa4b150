-- `remove_matching` over words is `remove_matching`: the graph's places are written into the map, the matching's numbers made
-- absent, and each entry copied with what is left of it (RestWords). Assumes nothing.
use Prim.Native.Nat.{ℕ, ◌+◌, ◌*◌, ◌≤◌, ◌<◌}
use mathlib.Core.Path.{◌≡◌, refl, sym, ◌∙◌}
use mathlib.Core.List.{List}
use mathlib.Core.Logic.{inl, ⊎_elim}
use native.Mathlib.Omega.{arith}
use borrow.Author.Tests.{lt-ltb}
use lib.ListN.{length}
use Rattle.words.specs.Words.{word, put_word}
use Rattle.words.specs.Frames.{Changes}
use Rattle.words.proofs.Frames.{here, away, length_put}
use Rattle.multigraph.specs.Multigraph.{remove_matching}
use Rattle.multigraph.specs.Regular.{Positive}
use Rattle.multigraph.specs.Stored.{entry, graph_at, matching_at}
use Rattle.multigraph.specs.Places.{size, number, copies_of, Stored, Removable, MatchingRemoved}
use Rattle.multigraph.specs.Steps.{Written, Writes, span, left_of, without, loses, Copyable, Copied, CopiesRest}
use Rattle.multigraph.proofs.Ends.{true_joins}
use Rattle.multigraph.proofs.Spans.{graph_span, matching_span, matched, span_same, all_span, not_joins}
use Rattle.multigraph.proofs.Kept.{EndsKept, ends_below, entry_is}
use Rattle.multigraph.proofs.Numbers.{numbers_once}
use Rattle.multigraph.proofs.Without.{without_same, hit, hit_none, hit_some, Holds, removed}

module _ (ends pairs most places g to m n k : ℕ) (s s1 s2 s3 : List ℕ) (h : Removable ends pairs most places g to m n s)
    (placed : Writes (λ i. g + 2 + 2 * i) (λ i. i + 1) (size s g) places s s1)
    (absent : Writes (λ i. m + i) (λ i. 0) n places s1 s2)
    (copies : CopiesRest places g to (size s2 g) k s2 s3) where
  w1 : Written (λ i. number s g i) (λ i. i + 1) (size s g) pairs places s s1
  w1 =
      placed pairs
      (record {
        outside = λ i e a b x. omega (arith, h.laid.after_places);
        below = h.stored.numbers;
        inside = omega (arith, h.laid.after_places, h.stored.inside);
        fits = λ i a. omega (arith, h.stored.small);
      })

  matching_below : (i : ℕ) → i < n → word s (m + i) < pairs
  matching_below i a =
      let p = h.present i a in
      rw p.2 at (h.stored.numbers p.0 p.1)

  w2 : Written (λ i. word s1 (m + i)) (λ i. 0) n pairs places s1 s2
  w2 =
      absent pairs
      (record {
        outside = λ i e a b x. omega (arith, h.after_places);
        below = λ i a. rw (w1.over (m + i) (omega (arith, h.after_places))) (matching_below i a);
        inside = omega (arith, h.laid.after_places, h.stored.inside, w1.len);
        fits = λ i a. omega arith;
      })

  above : (i : ℕ) → places + pairs ≤ i → word s2 i ≡ word s i
  above i a = w2.over i a ∙ w1.over i a

  number_2 : (i : ℕ) → number s2 g i ≡ number s g i
  number_2 i = above (g + 2 + 2 * i) (omega (arith, h.laid.after_places))

  copies_2 : (i : ℕ) → copies_of s2 g i ≡ copies_of s g i
  copies_2 i = above (g + 3 + 2 * i) (omega (arith, h.laid.after_places))

  size_2 : size s2 g ≡ size s g
  size_2 = above (g + 1) (omega (arith, h.laid.after_places))

  kept_2 : EndsKept ends pairs s s2
  kept_2 = ends_below ends pairs places h.laid.after_ends (λ i a. w2.under i a ∙ w1.under i a)

  -- an entry loses a copy exactly if the matching has its number
  loses_are : (j : ℕ) → j < size s g → loses places g s2 j ≡ hit (λ i. word s (m + i)) n (number s g j)
  loses_are j a =
      rw (number_2 j)
      (⊎_elim
      (λ x.
      rw (x.3, hit_some (λ i. word s (m + i)) n (number s g j) x.0 x.1 (sym (kept x.0) ∙ x.2)))
      (λ x.
      rw (
        x.1,
        lt-ltb 0 (word s1 (places + number s g j)) some,
        hit_none (λ i. word s (m + i)) n (number s g j) (λ i b y. x.0 i b (kept i ∙ y)),
      ))
      (w2.at (number s g j) (h.stored.numbers j a)))
    where
      kept : (i : ℕ) → word s1 (m + i) ≡ word s (m + i)
      kept i = w1.over (m + i) (omega (arith, h.after_places))

      some : 0 < word s1 (places + number s g j)
      some =
          ⊎_elim (λ x. omega (arith, x.3)) (λ x. absurd (x.0 j a refl)) (w1.at (number s g j) (h.stored.numbers j a))

  copyable : Copyable ends pairs most places g to s2
  copyable =
      record {
        laid = h.laid;
        stored =
            record {
              header = above g h.laid.after_places ∙ h.stored.header;
              numbers = λ i a. rw (number_2 i) (h.stored.numbers i (omega (arith, size_2)));
              copies = λ i a. rw (copies_2 i) (h.stored.copies i (omega (arith, size_2)));
              inside = omega (arith, size_2, w1.len, w2.len, h.stored.inside);
              small = omega (arith, size_2, h.stored.small);
              light = h.stored.light;
            };
        graph_below = omega (arith, size_2, h.graph_below);
        inside = omega (arith, size_2, w1.len, w2.len, h.inside);
      }

  done : Copied ends pairs most places g to (size s2 g) k s2 s3
  done = copies ends pairs most copyable

  holds :
      Holds (entry s ends pairs g) (λ j. number s g j) (size s g) (matched s ends pairs m) (λ i. word s (m + i)) n
  holds =
      record {
        positive = λ j a. all_span (λ p. 0 < p.copies) (entry s ends pairs g) 0 (size s g) positive j (omega arith) (omega arith);
        own_once = numbers_once ends pairs g s h.apart;
        once = h.once;
        present = h.present;
        same = λ i j a b x. true_joins _ _ (entry s ends pairs g j) (rw x (inl (refl, refl)));
        other =
            λ i j a b x.
            not_joins _ _ (entry s ends pairs g j)
            (λ y. x (sym (h.distinct.distinct _ _ (matching_below i a) (h.stored.numbers j b) y)));
      }
    where
      positive : Positive (span (entry s ends pairs g) 0 (size s g))
      positive = rw (graph_span s ends pairs g) at h.positive

  -- what is copied is the graph without the matching
  rest_3 :
      span (entry s3 ends pairs to) 0 k ≡ remove_matching (graph_at s ends pairs g) (matching_at s ends pairs m n)
  rest_3 =
      let copied : span (entry s3 ends pairs to) 0 k ≡ without (entry s2 ends pairs g) (loses places g s2) 0 (size s g) =
      rw size_2 at done.rest in
      let whole = removed (entry s ends pairs g) (λ j. number s g j) (size s g) (matched s ends pairs m) (λ i. word s (m + i)) n holds n (omega arith) in
      rw (copied, graph_span s ends pairs g, matching_span s ends pairs m n)
      (without_same (entry s ends pairs g) (entry s2 ends pairs g) (λ j. hit (λ i. word s (m + i)) n (number s g j))
      (loses places g s2) 0 (size s g) each
      ∙ sym whole)
    where
      each : (j : ℕ) → 0 ≤ j → j < 0 + size s g →
          left_of (entry s2 ends pairs g j) (loses places g s2 j)
          ≡ left_of (entry s ends pairs g j) (hit (λ i. word s (m + i)) n (number s g j))
      each j a b =
          let e : entry s2 ends pairs g j ≡ entry s ends pairs g j =
          entry_is kept_2 pairs g j (number s g j) (copies_of s g j) (number_2 j) (copies_2 j)
          (h.stored.numbers j (omega arith)) in
          rw (loses_are j (omega arith), e)

  -- ── header and count ──

  t : List ℕ
  t = put_word (put_word s3 to to) (to + 1) k

  k_le : k ≤ size s g
  k_le = omega (arith, done.at_le, size_2)

  len_3 : length s3 ≡ length s
  len_3 = done.len ∙ w2.len ∙ w1.len

  size_t : size t to ≡ k
  unfolding t
  size_t =
      here (put_word s3 to to) (to + 1) k (omega (arith, length_put s3 to to, len_3, h.inside))
      (omega (arith, k_le, h.small))

  header_t : word t to ≡ to
  unfolding t
  header_t =
      away (put_word s3 to to) (to + 1) to k (λ x. omega arith)
      ∙ here s3 to to (omega (arith, len_3, h.inside)) (omega (arith, h.small))

  away_t : (i : ℕ) → (i ≡ to → ⊥) → (i ≡ to + 1 → ⊥) → word t i ≡ word s3 i
  unfolding t
  away_t i x y = away (put_word s3 to to) (to + 1) i k y ∙ away s3 to i to x

  number_t : (j : ℕ) → number t to j ≡ number s3 to j
  number_t j = away_t (to + 2 + 2 * j) (λ x. omega arith) (λ x. omega arith)

  copies_t : (j : ℕ) → copies_of t to j ≡ copies_of s3 to j
  copies_t j = away_t (to + 3 + 2 * j) (λ x. omega arith) (λ x. omega arith)

  kept_t : EndsKept ends pairs s3 t
  kept_t =
      ends_below ends pairs to (omega (arith, h.laid.after_ends, h.laid.after_places, h.graph_below))
      (λ i a. away_t i (λ x. omega arith) (λ x. omega arith))

  graph_t : graph_at t ends pairs to ≡ remove_matching (graph_at s ends pairs g) (matching_at s ends pairs m n)
  graph_t =
      rw (graph_span t ends pairs to, size_t)
      (span_same (entry s3 ends pairs to) (entry t ends pairs to) 0 k
      (λ j a b.
      entry_is kept_t pairs to j (number s3 to j) (copies_of s3 to j) (number_t j) (copies_t j) (done.numbers j (omega arith)))
      ∙ rest_3)

  stored_t : Stored pairs most 0 t to
  unfolding t
  stored_t =
      record {
        header = header_t;
        numbers = λ j a. rw (number_t j) (done.numbers j (omega (arith, size_t)));
        copies = λ j a. rw (copies_t j) (done.copies j (omega (arith, size_t)));
        inside =
            omega (arith, size_t, k_le, h.inside, length_put (put_word s3 to to) (to + 1) k, length_put s3 to to, len_3);
        small = omega (arith, size_t, k_le, h.small);
        light = h.stored.light;
      }

  changes_t : Changes places pairs to (2 + 2 * size s g) s t
  unfolding t
  changes_t =
      record {
        len = length_put (put_word s3 to to) (to + 1) k ∙ length_put s3 to to ∙ len_3;
        under = λ i a. low i (omega (arith, h.laid.after_places, h.graph_below)) ∙ w2.under i a ∙ w1.under i a;
        between = λ i a b. low i b ∙ above i a;
        over =
            λ i a.
            away_t i (λ x. omega arith) (λ x. omega arith) ∙ done.over i (omega (arith, size_2))
            ∙ above i (omega (arith, h.laid.after_places, h.graph_below));
      }
    where
      low : (i : ℕ) → i < to → word t i ≡ word s2 i
      low i a = away_t i (λ x. omega arith) (λ x. omega arith) ∙ done.under i (omega arith)

  pub matching_removed :
      MatchingRemoved ends pairs most places g to m n s (put_word (put_word s3 to to) (to + 1) k)
  unfolding t
  matching_removed =
      record { graph = graph_t; stored = stored_t; shorter = omega (arith, size_t, k_le); changes = changes_t }
