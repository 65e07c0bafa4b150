-- Words after several puts. Assumes nothing.
use Prim.Native.Nat.{ℕ}
use mathlib.Core.Path.{◌≡◌, ◌∙◌}
use mathlib.Core.List.{List}
use Rattle.words.specs.Words.{word, put_word}
use Rattle.words.proofs.Frames.{away}

-- a word that two puts pass by
pub away2 :
    (s : List ℕ) (a x b y j : ℕ) → (j ≡ a → ⊥) → (j ≡ b → ⊥) → word (put_word (put_word s a x) b y) j ≡ word s j
away2 s a x b y j p q = away (put_word s a x) b j y q ∙ away s a j x p

-- or three
pub away3 :
    (s : List ℕ) (a x b y c z j : ℕ) → (j ≡ a → ⊥) → (j ≡ b → ⊥) → (j ≡ c → ⊥) →
    word (put_word (put_word (put_word s a x) b y) c z) j ≡ word s j
away3 s a x b y c z j p q r = away (put_word (put_word s a x) b y) c j z r ∙ away2 s a x b y j p q
