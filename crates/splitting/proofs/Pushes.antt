-- A half while it is written: an entry at its next place, counted or not. Assumes nothing.
use Prim.Native.Nat.{ℕ, ◌+◌, ◌*◌, ◌≤◌, ◌<◌}
use mathlib.Core.Path.{◌≡◌, refl, sym, ◌∙◌, ap}
use mathlib.Core.Bool.{false}
use mathlib.Core.List.{List, [], ◌∷◌, ◌++◌}
use native.Mathlib.Omega.{arith}
use native.Mathlib.Decide.{ℕ_discrete}
use lib.ListN.{length}
use Rattle.words.specs.Basics.{count, All}
use Rattle.words.specs.Words.{word, put_word}
use Rattle.words.specs.Frames.{Keeps}
use Rattle.words.proofs.Frames.{here, away, length_put}
use Rattle.multigraph.specs.Multigraph.{Pair, Graph}
use Rattle.multigraph.specs.Stored.{entry, entries}
use Rattle.rings.specs.declared.Rings.{Rings}
use Rattle.rings.specs.Model.{Counted, copies_m}
use Rattle.euler.specs.Entries.{push_m}
use Rattle.euler.proofs.Puts.{away2}
use Rattle.rings.proofs.Columns.{column, mark_of}
use Rattle.euler.proofs.StoredGraphs.{Only, only_refl, only_put, SameEntry, entries_same, entries_snoc, entries_length}
use Rattle.euler.proofs.HalfLaws.{held}

-- What is known where a half begins: the graph and the table as they were, below u; the marks and the places written; room for
-- the half, k·2 words from h on, below the columns.
pub record Ready (l : Rings) (m k u h n : ℕ) (s₀ s : List ℕ) (ws : List ℕ) : Type 0 where
  pub graph : l.graph.g + 3 + 2 * m ≤ u
  pub table : (i : ℕ) → i < m → l.graph.ends + 2 * word s₀ (l.graph.g + 2 + 2 * i) + 1 < u
  pub fits : (i : ℕ) → i < m → copies_m l s₀ i < 4294967296
  pub keeps : Keeps u s₀ s
  pub marks : (i : ℕ) → i < m → word s (l.b + 8 * i + 2) ≡ mark_of i ws
  pub written : column l false s n ≡ ws
  pub places : All (λ (i : ℕ). i < m) ws
  pub once : (i : ℕ) → count i ws ≤ 1
  pub less : m + 2 ≤ k
  pub above : u ≤ h
  pub under : h + 2 * k ≤ l.b
  pub behind : l.b ≤ l.col
  pub inside : l.b ≤ length s
  pub marks_inside : l.b + 8 * m ≤ length s
  pub column_inside : l.col + 2 * n ≤ length s
  pub small : length s ≤ 4294967296

module _ {l : Rings} {m k u h n : ℕ} (pairs : ℕ) {s₀ s ws : List ℕ} (g : Ready l m k u h n s₀ s ws) where
  -- the graph's entries
  abbrev A : ℕ → Pair
  A i = entry s₀ l.graph.ends pairs l.graph.g i

  -- what a half holds after some pushes
  pub record SoFar (t : Counted) (x : Graph) : Type 0 where
    pub only : Only h (2 * k) s t.words
    pub is_held : entries t.words l.graph.ends pairs h 0 t.count ≡ x
    pub numbers :
        (j : ℕ) → j < t.count →
        (i : ℕ) × (i < m) × (word t.words (h + 2 + 2 * j) ≡ word s₀ (l.graph.g + 2 + 2 * i))

  -- at the beginning
  pub nothing_yet : SoFar (record { words = s; count = 0 }) []
  unfolding entries
  nothing_yet = record { only = only_refl h (2 * k) s; is_held = refl; numbers = λ j c. absurd (omega arith) }

  -- the ends of its pairs lie in the table
  pub known : (t : Counted) (x : Graph) → SoFar t x → (j : ℕ) → j < t.count → l.graph.ends + 2 * word t.words (h + 2 + 2 * j) + 1 < u
  known t x f j b =
      let p : (i : ℕ) × (i < m) × (word t.words (h + 2 + 2 * j) ≡ word s₀ (l.graph.g + 2 + 2 * i)) = f.numbers j b in
      rw p.2 (g.table p.0 p.1)

  -- as many as are counted
  pub so_far_count : (t : Counted) (x : Graph) → SoFar t x → t.count ≡ length x
  so_far_count t x f = sym (entries_length t.words l.graph.ends pairs h 0 t.count) ∙ ap length f.is_held

  -- words that a half reads while it is written
  pub reads : (t : List ℕ) (i : ℕ) → Only h (2 * k) s t → i < u → word t i ≡ word s₀ i
  reads t i o b = o.under i (omega arith) ∙ g.keeps.same i b

  -- ── an entry at the next place ──

  -- the words after entry i is written with c copies
  abbrev pub put_next : Counted → ℕ → ℕ → List ℕ
  put_next t i c = push_m h t.words t.count (word s₀ (l.graph.g + 2 + 2 * i)) c

  next_only : (t : Counted) (x : Graph) (i c : ℕ) → SoFar t x → t.count + 2 ≤ k → Only h (2 * k) s (put_next t i c)
  next_only t x i c f room =
      let q : ℕ = t.count in
      let e : ℕ = word s₀ (l.graph.g + 2 + 2 * i) in
      only_put h (2 * k) s (put_word t.words (h + 2 + 2 * q) e) (h + 3 + 2 * q) c
      (only_put h (2 * k) s t.words (h + 2 + 2 * q) e f.only (omega arith) (omega arith)) (omega arith) (omega arith)

  -- those before it are as they were
  next_old :
      (t : Counted) (x : Graph) (i c : ℕ) → SoFar t x → (j : ℕ) → j < t.count → SameEntry l.graph.ends h j t.words (put_next t i c)
  next_old t x i c f j b =
      let q : ℕ = t.count in
      let e : ℕ = word s₀ (l.graph.g + 2 + 2 * i) in
      let w : List ℕ = t.words in
      let kj : l.graph.ends + 2 * word w (h + 2 + 2 * j) + 1 < u = known t x f j b in
      record {
        number = away2 w (h + 2 + 2 * q) e (h + 3 + 2 * q) c (h + 2 + 2 * j) (λ z. omega arith) (λ z. omega arith);
        copies = away2 w (h + 2 + 2 * q) e (h + 3 + 2 * q) c (h + 3 + 2 * j) (λ z. omega arith) (λ z. omega arith);
        first = away2 w (h + 2 + 2 * q) e (h + 3 + 2 * q) c (l.graph.ends + 2 * word w (h + 2 + 2 * j)) (λ z. omega arith) (λ z. omega arith);
        second = away2 w (h + 2 + 2 * q) e (h + 3 + 2 * q) c (l.graph.ends + 2 * word w (h + 2 + 2 * j) + 1) (λ z. omega arith) (λ z. omega arith);
      }

  next_same :
      (t : Counted) (x : Graph) (i c : ℕ) → SoFar t x → entries (put_next t i c) l.graph.ends pairs h 0 t.count ≡ x
  next_same t x i c f =
      entries_same l.graph.ends pairs h 0 t.count t.words (put_next t i c) (λ j lo hi. next_old t x i c f j (omega arith))
      ∙ f.is_held

  -- an entry that is not counted
  pub passed :
      (t : Counted) (x : Graph) (i c : ℕ) → SoFar t x → t.count + 2 ≤ k →
      SoFar (record { words = put_next t i c; count = t.count }) x
  passed t x i c f room =
      record {
        only = next_only t x i c f room;
        is_held = next_same t x i c f;
        numbers = λ j d.
            let r : (i : ℕ) × (i < m) × (word t.words (h + 2 + 2 * j) ≡ word s₀ (l.graph.g + 2 + 2 * i)) = f.numbers j d in
            (r.0, r.1, (next_old t x i c f j d).number ∙ r.2);
      }

  -- an entry that is counted
  pub pushed :
      (t : Counted) (x : Graph) (i c : ℕ) → SoFar t x → i < m → c < 4294967296 → t.count + 2 ≤ k →
      SoFar (record { words = put_next t i c; count = t.count + 1 }) (x ++ (held A i c ∷ []))
  pushed t x i c f b cb room =
      let q : ℕ = t.count in
      let e : ℕ = word s₀ (l.graph.g + 2 + 2 * i) in
      let w : List ℕ = t.words in
      let w₁ : List ℕ = put_word w (h + 2 + 2 * q) e in
      let w₂ : List ℕ = put_next t i c in
      let len : length w ≡ length s = f.only.len in
      let len₁ : length w₁ ≡ length w = length_put w (h + 2 + 2 * q) e in
      let tb : l.graph.ends + 2 * e + 1 < u = g.table i b in
      let only₂ : Only h (2 * k) s w₂ = next_only t x i c f room in
      let num : word w₂ (h + 2 + 2 * q) ≡ e =
      away w₁ (h + 3 + 2 * q) (h + 2 + 2 * q) c (λ z. omega arith) ∙ here w (h + 2 + 2 * q) e (omega arith) (omega arith) in
      let cop : word w₂ (h + 3 + 2 * q) ≡ c = here w₁ (h + 3 + 2 * q) c (omega arith) cb in
      let new : entry w₂ l.graph.ends pairs h (0 + q) ≡ held A i c =
      let z : 0 + q ≡ q = omega arith in
      rw (z, num, cop, reads w₂ (l.graph.ends + 2 * e) only₂ (omega arith), reads w₂ (l.graph.ends + 2 * e + 1) only₂ tb) in
      record {
        only = only₂;
        is_held = entries_snoc w₂ l.graph.ends pairs h 0 q ∙ rw (next_same t x i c f, new);
        numbers = λ j d.
            elim (ℕ_discrete j q) [
              | yes z ↦ (i, b, ap (λ (y : ℕ). word w₂ (h + 2 + 2 * y)) z ∙ num)
              | no z ↦ (passed t x i c f room).numbers j (omega arith)
            ];
      }
