-- What the steps of evening out do, by what they have read, and two counters raised. Assumes nothing.
use Prim.Native.Nat.{ℕ, ◌+◌, ◌/◌, ◌<◌}
use mathlib.Core.Path.{◌≡◌, refl, ◌∙◌}
use mathlib.Core.List.{List}
use native.Mathlib.Omega.{arith}
use lib.ListN.{length}
use Rattle.words.specs.Words.{word, put_word}
use Rattle.list_pairs.specs.Ends.{Joins}
use Rattle.list_pairs.specs.Rows.{row}
use Rattle.list_pairs.specs.declared.Bases.{Bases}
use Rattle.list_pairs.specs.declared.rows.RowBases.{RowBases}
use Rattle.words.proofs.Puts.{Put, put_is}

module _ (list : List ℕ) (at : Bases) (rs : RowBases) (l r : ℕ) (s : List ℕ) where
  -- none of the first t half-edges in the row of l is one of an appointment with these ends
  abbrev pub Missed : ℕ → Type 0
  Missed t = (x : ℕ) → x < t → Joins list (row s rs l x / 2) l r → ⊥

-- ── two counters raised ──

-- From words s, and a that have the same counters, to t: the counters of l and r at b are raised, and nothing else changes.
pub record Raised (b l r more : ℕ) (s a t : List ℕ) : Type 0 where
  pub len : length t ≡ length a
  pub left : word t (b + l) ≡ word s (b + l) + more
  pub right : word t (b + r) ≡ word s (b + r) + more
  pub elsewhere : (k : ℕ) → (k ≡ b + l → ⊥) → (k ≡ b + r → ⊥) → word t k ≡ word a k

-- two words written, of which neither is the other
pub raised :
    (b l r more : ℕ) (s a t : List ℕ) → t ≡ put_word (put_word a (b + l) (word s (b + l) + more)) (b + r) (word s (b + r) + more) →
    (l ≡ r → ⊥) → b + l < length a → b + r < length a → word s (b + l) + more < 4294967296 → word s (b + r) + more < 4294967296 →
    Raised b l r more s a t
raised b l r more s a t e apart il ir sl sr =
    let mid : List ℕ = put_word a (b + l) (word s (b + l) + more) in
    let p : Put (b + l) (word s (b + l) + more) a mid = put_is (b + l) (word s (b + l) + more) a mid refl il sl in
    let q : Put (b + r) (word s (b + r) + more) mid t = put_is (b + r) (word s (b + r) + more) mid t e (omega (arith, p.len)) sr in
    record {
      len = q.len ∙ p.len;
      left = q.else (b + l) (λ z. apart (omega arith)) ∙ p.new;
      right = q.new;
      elsewhere = λ k x y. q.else k y ∙ p.else k x;
    }
