-- The numbers of a perfect matching written out side by side, and when that can be done. Assumes nothing.
use Prim.Native.Nat.{ℕ, ◌+◌, ◌*◌, ◌≤◌, ◌<◌}
use mathlib.Core.Path.{◌≡◌, ◌∙◌}
use mathlib.Core.List.{List}
use native.Mathlib.Omega.{arith}
use native.Mathlib.Decide.{ℕ_discrete}
use lib.ListN.{length}
use Rattle.words.specs.Words.{word, put_word}
use Rattle.words.proofs.Frames.{here, away, length_put}
use Rattle.multigraph.specs.Regular.{Regular, Positive}
use Rattle.multigraph.specs.Stored.{entry, graph_at}
use Rattle.multigraph.specs.Places.{size, number}
use Rattle.multigraph.proofs.Sizes.{entries_one, entries_single}
use Rattle.multigraph.proofs.Spans.{graph_span, matching_span, matched, span_same}
use Rattle.multigraph.proofs.Kept.{EndsKept, ends_below, numbered_kept}
use Rattle.matching.specs.Searched.{CanRead, MatchingRead}

-- a perfect matching that lies as a graph above the table and the place for its numbers can be read
pub can_read :
    (side : ℕ → ℕ) (s : List ℕ) (ends pairs rows g out n : ℕ) → Regular (2 * n) side 1 (graph_at s ends pairs g) →
    Positive (graph_at s ends pairs g) → ((i : ℕ) → i < size s g → number s g i < rows) → ends + 2 * rows ≤ out →
    out + n ≤ g → g + 2 + 2 * n ≤ length s → length s ≤ 4294967296 → CanRead ends rows g n out s
can_read side s ends pairs rows g out n r pos below table above inside short =
    let count : size s g ≡ n = entries_one s ends pairs g n side r pos in
    record {
      sized = count;
      single = λ i h. entries_single s ends pairs g n side r pos i (omega arith);
      numbers = λ i h. below i (omega arith);
      after_ends = table;
      before_graph = above;
      inside = inside;
      short = short;
    }

-- i numbers are written
pub record Reading (h out i : ℕ) (s u : List ℕ) : Type 0 where
  pub len : length u ≡ length s
  pub numbers : (j : ℕ) → j < i → word u (out + j) ≡ number s h j
  pub under : (j : ℕ) → j < out → word u j ≡ word s j
  pub over : (j : ℕ) → out + i ≤ j → word u j ≡ word s j

pub reading_more :
    (ends rows h n out i : ℕ) (s u v : List ℕ) → CanRead ends rows h n out s → i < n → Reading h out i s u →
    v ≡ put_word u (out + i) (word u (h + 2 + 2 * i)) → Reading h out (i + 1) s v
reading_more ends rows h n out i s u v can a r e =
    rw e
    (record {
      len = length_put u (out + i) x ∙ r.len;
      numbers = λ j b. elim (ℕ_discrete j i) [ yes k ↦ rw k new | no k ↦ away u (out + i) (out + j) x (λ y. omega arith) ∙ r.numbers j (omega arith) ];
      under = λ j b. away u (out + i) j x (λ y. omega arith) ∙ r.under j b;
      over = λ j b. away u (out + i) j x (λ y. omega arith) ∙ r.over j (omega arith);
    })
  where
    x : ℕ
    x = word u (h + 2 + 2 * i)

    its : x ≡ number s h i
    its = r.over (h + 2 + 2 * i) (omega (arith, can.before_graph))

    new : word (put_word u (out + i) x) (out + i) ≡ number s h i
    new =
        here u (out + i) x (omega (arith, r.len, can.before_graph, can.inside))
        (omega (arith, its, can.numbers i a, can.after_ends, can.before_graph, can.inside, can.short))
        ∙ its

pub reading_done :
    (ends pairs rows h n out : ℕ) (s u : List ℕ) → CanRead ends rows h n out s → Reading h out n s u →
    MatchingRead ends pairs h n out s u
reading_done ends pairs rows h n out s u can r =
    record {
      matching =
          rw (matching_span u ends pairs out n, graph_span s ends pairs h, can.sized)
          (span_same (entry s ends pairs h) (matched u ends pairs out) 0 n (λ j a b. same j (omega arith)));
      numbers = r.numbers;
      changes =
          record { len = r.len; under = r.under; between = λ i a b. r.over i a; over = λ i a. r.over i (omega (arith, can.before_graph)) };
    }
  where
    kept : EndsKept ends rows s u
    kept = ends_below ends rows out can.after_ends r.under

    same : (j : ℕ) → j < n → matched u ends pairs out j ≡ entry s ends pairs h j
    same j a = rw (r.numbers j a, can.single j a) (numbered_kept kept pairs (number s h j) 1 (can.numbers j a))
