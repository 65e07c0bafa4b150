-- One word written, as the facts that are used of it: the length stays, the word is the new one, every other word stays. Assumes
-- nothing.
use Prim.Native.Nat.{ℕ, ◌<◌}
use mathlib.Core.Path.{◌≡◌}
use mathlib.Core.List.{List}
use lib.ListN.{length}
use Rattle.words.specs.Words.{word, put_word}
use Rattle.words.proofs.Frames.{here, away, length_put}

-- x is written at a
pub record Put (a x : ℕ) (s t : List ℕ) : Type 0 where
  pub len : length t ≡ length s
  pub new : word t a ≡ x
  pub else : (i : ℕ) → (i ≡ a → ⊥) → word t i ≡ word s i

-- what `put_word` does, where a is a place and x fits a word
pub put_is : (a x : ℕ) (s t : List ℕ) → t ≡ put_word s a x → a < length s → x < 4294967296 → Put a x s t
put_is a x s t e inside small =
    rw e (record { len = length_put s a x; new = here s a x inside small; else = λ i n. away s a i x n })
