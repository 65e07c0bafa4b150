-- Graphs in words: what leaves their words as they were, and one entry more. Assumes nothing.
use Prim.Native.Nat.{ℕ, zero, suc, ◌+◌, ◌*◌, ◌≤◌, ◌<◌}
use mathlib.Core.Path.{◌≡◌, refl, ◌∙◌, ap}
use mathlib.Core.List.{List, [], ◌∷◌, ◌++◌}
use native.Mathlib.Omega.{arith}
use lib.ListN.{length}
use Rattle.words.specs.Words.{word, put_word}
use Rattle.words.proofs.Frames.{away, length_put}
use Rattle.multigraph.specs.Multigraph.{Graph}
use Rattle.multigraph.specs.Stored.{entry, entries}

-- the same length, and every word outside the n words from h on the same
pub record Only (h n : ℕ) (s t : List ℕ) : Type 0 where
  pub len : length t ≡ length s
  pub under : (i : ℕ) → i < h → word t i ≡ word s i
  pub over : (i : ℕ) → h + n ≤ i → word t i ≡ word s i

-- nothing written
pub only_refl : (h n : ℕ) (s : List ℕ) → Only h n s s
only_refl h n s = record { len = refl; under = λ i b. refl; over = λ i b. refl }

-- a word within them written
pub only_put : (h n : ℕ) (s t : List ℕ) (a x : ℕ) → Only h n s t → h ≤ a → a < h + n → Only h n s (put_word t a x)
only_put h n s t a x o lo hi =
    record {
      len = length_put t a x ∙ o.len;
      under = λ i b. away t a i x (λ e. omega arith) ∙ o.under i b;
      over = λ i b. away t a i x (λ e. omega arith) ∙ o.over i b;
    }

-- the entry at place j of the graph at h reads the same
pub record SameEntry (ends h j : ℕ) (s t : List ℕ) : Type 0 where
  pub number : word t (h + 2 + 2 * j) ≡ word s (h + 2 + 2 * j)
  pub copies : word t (h + 3 + 2 * j) ≡ word s (h + 3 + 2 * j)
  pub first : word t (ends + 2 * word s (h + 2 + 2 * j)) ≡ word s (ends + 2 * word s (h + 2 + 2 * j))
  pub second : word t (ends + 2 * word s (h + 2 + 2 * j) + 1) ≡ word s (ends + 2 * word s (h + 2 + 2 * j) + 1)

-- so a graph reads the same
pub entries_same :
    (ends pairs h i n : ℕ) (s t : List ℕ) → ((j : ℕ) → i ≤ j → j < i + n → SameEntry ends h j s t) →
    entries t ends pairs h i n ≡ entries s ends pairs h i n
unfolding entries
entries_same ends pairs h i zero s t e = refl
entries_same ends pairs h i (suc n) s t e =
    let a : SameEntry ends h i s t = e i (omega arith) (omega arith) in
    rw (a.number, a.copies, a.first, a.second)
    (ap (λ (g : Graph). entry s ends pairs h i ∷ g)
    (entries_same ends pairs h (i + 1) n s t (λ j lo hi. e j (omega arith) (omega arith))))

-- one entry more, at the end
pub entries_snoc :
    (s : List ℕ) (ends pairs h i n : ℕ) →
    entries s ends pairs h i (n + 1) ≡ entries s ends pairs h i n ++ (entry s ends pairs h (i + n) ∷ [])
unfolding entries
entries_snoc s ends pairs h i zero = let e : i + 0 ≡ i = omega arith in rw e
entries_snoc s ends pairs h i (suc n) =
    let e : i + suc n ≡ i + 1 + n = omega arith in
    let f : suc n + 1 ≡ suc (n + 1) = omega arith in
    rw (e, f) (ap (λ (g : Graph). entry s ends pairs h i ∷ g) (entries_snoc s ends pairs h (i + 1) n))

pub entries_length : (s : List ℕ) (ends pairs h i n : ℕ) → length (entries s ends pairs h i n) ≡ n
unfolding entries
entries_length s ends pairs h i zero = refl
entries_length s ends pairs h i (suc n) = ap suc (entries_length s ends pairs h (i + 1) n)
