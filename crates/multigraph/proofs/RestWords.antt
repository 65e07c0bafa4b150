-- The entries of a graph copied one after the other, each with what is left of it: what stands there is the list without the
-- copies that the map takes away. Assumes nothing.
use Prim.Native.Nat.{ℕ, ◌+◌, ◌*◌, ◌≤◌, ◌<◌}
use mathlib.Core.Path.{◌≡◌, refl, sym, ◌∙◌}
use mathlib.Core.Bool.{Bool, true, false}
use mathlib.Core.List.{List, append-nil}
use native.Mathlib.Omega.{arith}
use native.Mathlib.Decide.{ℕ_discrete}
use borrow.Author.Tests.{lt-ltb, le-ltb}
use lib.Dec.{ltb}
use lib.ListN.{length}
use Rattle.words.specs.Basics.{pick}
use Rattle.words.specs.Words.{word, put_word}
use Rattle.words.proofs.Frames.{here, away, length_put}
use Rattle.multigraph.specs.Stored.{numbered, entry}
use Rattle.multigraph.specs.Places.{size, number, copies_of}
use Rattle.multigraph.specs.Steps.{span, without, loses, rest_left, rest_words, rest_next, Copyable, Copied, CopiesRest}
use Rattle.multigraph.proofs.Spans.{span_same, span_snoc}
use Rattle.multigraph.proofs.Kept.{EndsKept, ends_below, entry_is}
use Rattle.multigraph.proofs.Without.{left_some, left_none, without_snoc}

pub copied_none :
    (ends pairs most places g to : ℕ) (s : List ℕ) → Copied ends pairs most places g to 0 0 s s
unfolding span without
copied_none ends pairs most places g to s =
    record {
      at_le = omega arith;
      rest = refl;
      numbers = λ j a. absurd (omega arith);
      copies = λ j a. absurd (omega arith);
      len = refl;
      under = λ j a. refl;
      over = λ j a. refl;
    }

module _ (ends pairs most places g to : ℕ) (s : List ℕ) (h : Copyable ends pairs most places g to s)
    (i at : ℕ) (t : List ℕ) (inside : i < size s g) (c : Copied ends pairs most places g to i at s t) where
  left : ℕ
  left = rest_left places g i s

  number_i : number t g i ≡ number s g i
  number_i = c.under (g + 2 + 2 * i) (omega (arith, h.graph_below))

  number_below : number s g i < pairs
  number_below = h.stored.numbers i inside

  left_i : rest_left places g i t ≡ left
  unfolding left
  left_i =
      let e : copies_of t g i ≡ copies_of s g i = c.under (g + 3 + 2 * i) (omega (arith, h.graph_below)) in
      let p : word t (places + number s g i) ≡ word s (places + number s g i) =
      c.under (places + number s g i) (omega (arith, number_below, h.laid.after_places, h.graph_below)) in
      rw (number_i, e, p)

  left_le : left ≤ most
  unfolding left
  left_le = omega (arith, h.stored.copies i inside)

  u : List ℕ
  u = put_word (put_word t (to + 2 + 2 * at) (number s g i)) (to + 3 + 2 * at) left

  words_are : rest_words places g to at i t ≡ u
  unfolding u
  words_are = rw (left_i, number_i)

  len_u : length u ≡ length s
  unfolding u
  len_u =
      length_put (put_word t (to + 2 + 2 * at) (number s g i)) (to + 3 + 2 * at) left
      ∙ length_put t (to + 2 + 2 * at) (number s g i) ∙ c.len

  away_u : (j : ℕ) → (j ≡ to + 2 + 2 * at → ⊥) → (j ≡ to + 3 + 2 * at → ⊥) → word u j ≡ word t j
  unfolding u
  away_u j x y =
      away (put_word t (to + 2 + 2 * at) (number s g i)) (to + 3 + 2 * at) j left y
      ∙ away t (to + 2 + 2 * at) j (number s g i) x

  number_u : number u to at ≡ number s g i
  unfolding u
  number_u =
      away (put_word t (to + 2 + 2 * at) (number s g i)) (to + 3 + 2 * at) (to + 2 + 2 * at) left (λ x. omega arith)
      ∙ here t (to + 2 + 2 * at) (number s g i) (omega (arith, c.len, c.at_le, h.inside))
      (omega (arith, number_below, h.laid.after_places, h.stored.small))

  copies_u : copies_of u to at ≡ left
  unfolding u
  copies_u =
      here (put_word t (to + 2 + 2 * at) (number s g i)) (to + 3 + 2 * at) left
      (omega (arith, length_put t (to + 2 + 2 * at) (number s g i), c.len, c.at_le, h.inside))
      (omega (arith, left_le, h.stored.light))

  old_number : (j : ℕ) → j < at → number u to j ≡ number t to j
  old_number j a = away_u (to + 2 + 2 * j) (λ x. omega arith) (λ x. omega arith)

  old_copies : (j : ℕ) → j < at → copies_of u to j ≡ copies_of t to j
  old_copies j a = away_u (to + 3 + 2 * j) (λ x. omega arith) (λ x. omega arith)

  under_u : (j : ℕ) → j < to + 2 → word u j ≡ word s j
  under_u j a = away_u j (λ x. omega arith) (λ x. omega arith) ∙ c.under j a

  over_u : (j : ℕ) → to + 2 + 2 * size s g ≤ j → word u j ≡ word s j
  over_u j a = away_u j (λ x. omega (arith, c.at_le)) (λ x. omega (arith, c.at_le)) ∙ c.over j a

  table_low : ends + 2 * pairs ≤ to
  table_low = omega (arith, h.laid.after_ends, h.laid.after_places, h.graph_below)

  kept_u : EndsKept ends pairs t u
  kept_u = ends_below ends pairs to table_low (λ j a. away_u j (λ x. omega arith) (λ x. omega arith))

  kept_s : EndsKept ends pairs s u
  kept_s = ends_below ends pairs to table_low (λ j a. under_u j (omega arith))

  -- the places before stay
  span_u : span (entry u ends pairs to) 0 at ≡ without (entry s ends pairs g) (loses places g s) 0 i
  span_u =
      span_same (entry t ends pairs to) (entry u ends pairs to) 0 at
      (λ j a b.
      entry_is kept_u pairs to j (number t to j) (copies_of t to j) (old_number j (omega arith)) (old_copies j (omega arith))
      (c.numbers j (omega arith)))
      ∙ c.rest

  -- nothing is left: the next entry goes to the same place
  copied_gone : left ≡ 0 → Copied ends pairs most places g to (i + 1) at s u
  unfolding left
  copied_gone e =
      record {
        at_le = omega (arith, c.at_le);
        rest =
            span_u
            ∙ sym (without_snoc (entry s ends pairs g) (loses places g s) i
            ∙ rw (left_none (entry s ends pairs g i) (loses places g s i) e) (append-nil _));
        numbers = λ j a. rw (old_number j a) (c.numbers j a);
        copies = λ j a. rw (old_copies j a) (c.copies j a);
        len = len_u;
        under = under_u;
        over = over_u;
      }

  -- something is left
  copied_left : 0 < left → Copied ends pairs most places g to (i + 1) (at + 1) s u
  unfolding left
  copied_left e =
      record {
        at_le = omega (arith, c.at_le);
        rest =
            span_snoc (entry u ends pairs to) at
            ∙ rw (span_u, last, without_snoc (entry s ends pairs g) (loses places g s) i, left_some (entry s ends pairs g i) (loses places g s i) e);
        numbers = numbers';
        copies = copies';
        len = len_u;
        under = under_u;
        over = over_u;
      }
    where
      last : entry u ends pairs to at ≡ numbered s ends pairs (number s g i) (rest_left places g i s)
      last = entry_is kept_s pairs to at (number s g i) (rest_left places g i s) number_u copies_u number_below

      numbers' : (j : ℕ) → j < at + 1 → number u to j < pairs
      numbers' j a =
          elim (ℕ_discrete j at) [
            | yes x ↦ rw (x, number_u) number_below
            | no x ↦
                let b : j < at = omega arith in
                rw (old_number j b) (c.numbers j b)
          ]

      copies' : (j : ℕ) → j < at + 1 → copies_of u to j ≤ most
      copies' j a =
          elim (ℕ_discrete j at) [
            | yes x ↦ rw (x, copies_u) left_le
            | no x ↦
                let b : j < at = omega arith in
                rw (old_copies j b) (c.copies j b)
          ]

  pub copied_more :
      Copied ends pairs most places g to (i + 1) (rest_next places g at i t) s (rest_words places g to at i t)
  copied_more =
      rw (words_are, left_i)
      (elim (ℕ_discrete left 0) [
        | yes e ↦ rw (le-ltb 0 left (omega arith)) (copied_gone e)
        | no e ↦ rw (lt-ltb 0 left (omega arith)) (copied_left (omega arith))
      ])

-- ── for the code ──

pub next_le : (places g at i : ℕ) (s : List ℕ) → rest_next places g at i s ≤ at + 1
next_le places g at i s = go (ltb 0 (rest_left places g i s))
  where
    go : (b : Bool) → pick b (at + 1) at ≤ at + 1
    go true = omega arith
    go false = omega arith

pub copies_more :
    (places g to i at r : ℕ) (s t u : List ℕ) → i < size s g → u ≡ rest_words places g to at i t →
    r ≡ rest_next places g at i t → CopiesRest places g to i at s t → CopiesRest places g to (i + 1) r s u
copies_more places g to i at r s t u a e f before ends pairs most h =
    rw (e, f) (copied_more ends pairs most places g to s h i at t a (before ends pairs most h))
