-- What a step on lent words leaves as it was. Assumes nothing.
use Rattle.std.specs.Prelude.{ℕ, ◌+◌, ◌<◌, ◌≤◌, ◌≡◌, List, length}
use Rattle.words.specs.Words.{word}

-- the same length, and every word below the mark the same
pub record Keeps (mark : ℕ) (s t : List ℕ) : Type 0 where
  pub len : length t ≡ length s
  pub same : (i : ℕ) → i < mark → word t i ≡ word s i

-- the same length, and every word below the mark the same but for those from o up to o + w
pub record Stays (mark o w : ℕ) (s t : List ℕ) : Type 0 where
  pub len : length t ≡ length s
  pub under : (i : ℕ) → i < mark → i < o → word t i ≡ word s i
  pub over : (i : ℕ) → i < mark → o + w ≤ i → word t i ≡ word s i

-- The same length, and every word the same but for those from a up to a + v and those from b up to b + w, which lie further up.
pub record Changes (a v b w : ℕ) (s t : List ℕ) : Type 0 where
  pub len : length t ≡ length s
  pub under : (i : ℕ) → i < a → word t i ≡ word s i
  pub between : (i : ℕ) → a + v ≤ i → i < b → word t i ≡ word s i
  pub over : (i : ℕ) → b + w ≤ i → word t i ≡ word s i

-- the same two ranges, but only words below the mark are spoken of
pub record Spares (mark a v b w : ℕ) (s t : List ℕ) : Type 0 where
  pub len : length t ≡ length s
  pub under : (i : ℕ) → i < mark → i < a → word t i ≡ word s i
  pub between : (i : ℕ) → i < mark → a + v ≤ i → i < b → word t i ≡ word s i
  pub over : (i : ℕ) → i < mark → b + w ≤ i → word t i ≡ word s i

-- The same length, and every word below the mark the same but for three ranges, each further up than the one before: from a up to
-- a + u, from b up to b + v, from c up to c + w.
pub record ChangesThree (a u b v c w mark : ℕ) (s t : List ℕ) : Type 0 where
  pub len : length t ≡ length s
  pub under : (i : ℕ) → i < mark → i < a → word t i ≡ word s i
  pub after_first : (i : ℕ) → i < mark → a + u ≤ i → i < b → word t i ≡ word s i
  pub after_second : (i : ℕ) → i < mark → b + v ≤ i → i < c → word t i ≡ word s i
  pub after_third : (i : ℕ) → i < mark → c + w ≤ i → word t i ≡ word s i
