-- Lists that stand in words: the stack with its last word first; a list whose length stands in a word of its own, with what
-- putting one word at its end does; and the rows, such a list for each party. Assumes nothing.
use Prim.Native.Nat.{ℕ, zero, suc, ◌+◌, ◌<◌}
use mathlib.Core.Path.{◌≡◌, refl, sym, ◌∙◌}
use mathlib.Core.List.{List, [], ◌∷◌, ◌++◌}
use native.Mathlib.Omega.{arith}
use lib.ListN.{length, length-append}
use Rattle.words.specs.Words.{word, put_word, region}
use Rattle.words.proofs.Frames.{here, away, length_put}
use Rattle.words.specs.Appending.{appended}
use Rattle.two_color_steps.specs.Model.{row_count, row_start, row_place, append_m}
use Rattle.words.proofs.Regions.{Same, region_same}

-- ── the stack ──

-- the n words from a on, the last first
unfoldable pub newest : List ℕ → ℕ → ℕ → List ℕ
newest s a zero = []
newest s a (suc n) = word s (a + n) ∷ newest s a n

pub newest_same : (s t : List ℕ) (a n : ℕ) → Same a n s t → newest t a n ≡ newest s a n
unfolding newest
newest_same s t a zero h = refl
newest_same s t a (suc n) h = rw (newest_same s t a n (λ i l k. h i l (omega arith)), h (a + n) (omega arith) (omega arith))

-- ── a list with its length ──

-- the list stands at a and its length at k
pub record Held (k a : ℕ) (s list : List ℕ) : Type 0 where
  pub count : word s k ≡ length list
  pub words : region s a (length list) ≡ list

pub held_same : {k a : ℕ} {s list : List ℕ} (t : List ℕ) → word t k ≡ word s k → Same a (length list) s t → Held k a s list → Held k a t list
held_same {k} {a} {s} {list} t e h x = record { count = e ∙ x.count; words = region_same s t a (length list) h ∙ x.words }

pub held_none : (k a : ℕ) (s : List ℕ) → word s k ≡ 0 → Held k a s []
unfolding region
held_none k a s e = record { count = e; words = refl }

-- what putting w at the end of a list of n words does
pub record Appended (k a n w : ℕ) (s t : List ℕ) : Type 0 where
  pub len : length t ≡ length s
  pub count : word t k ≡ n + 1
  pub last : word t (a + n) ≡ w
  pub other : (i : ℕ) → (i ≡ k → ⊥) → (i ≡ a + n → ⊥) → word t i ≡ word s i

pub append_does : (k a n w : ℕ) (s : List ℕ) → word s k ≡ n → k < length s → a + n < length s → (k ≡ a + n → ⊥) → n + 1 < 4294967296 → w < 4294967296 → Appended k a n w s (append_m k a w s)
unfolding appended
append_does k a n w s e hk ha ne hn hw =
    rw e
    (record {
      len = length_put (put_word s (a + n) w) k (n + 1) ∙ length_put s (a + n) w;
      count = here (put_word s (a + n) w) k (n + 1) (omega (arith, length_put s (a + n) w)) hn;
      last = away (put_word s (a + n) w) k (a + n) (n + 1) (λ q. ne (sym q)) ∙ here s (a + n) w ha hw;
      other = λ i p q. away (put_word s (a + n) w) k i (n + 1) p ∙ away s (a + n) i w q;
    })

-- a list with one word more
pub held_more : {k a : ℕ} {s list : List ℕ} (t : List ℕ) (w : ℕ) → word t k ≡ length list + 1 → word t (a + length list) ≡ w → Same a (length list) s t → Held k a s list → Held k a t (list ++ (w ∷ []))
unfolding region
held_more {k} {a} {s} {list} t w e l h x =
    let n : length (list ++ (w ∷ [])) ≡ suc (length list) = length-append list (w ∷ []) ∙ omega arith in
    let old : region t a (length list) ≡ list = region_same s t a (length list) h ∙ x.words in
    record { count = e ∙ omega arith; words = rw (n, old, l) }

-- ── the rows ──

-- each party's row stands where its word says, and holds the list that f gives
pub record Rows (u p d : ℕ) (f : ℕ → List ℕ) (s : List ℕ) : Type 0 where
  pub starts : (v : ℕ) → v < p → word s (row_start u p v) ≡ row_place u p d v
  pub held : (v : ℕ) → v < p → Held (row_count u p v) (row_place u p d v) s (f v)
