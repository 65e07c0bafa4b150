-- At degree 2, pair numbers in words: what a half holds. Assumes nothing.
use Prim.Native.Nat.{ℕ, ◌+◌, ◌*◌, ◌≤◌, ◌<◌}
use mathlib.Core.Path.{◌≡◌, sym, ◌∙◌}
use mathlib.Core.List.{List, [], ◌∷◌}
use native.Mathlib.Omega.{arith}
use lib.ListN.{length}
use Rattle.words.specs.Words.{word, put_word}
use Rattle.words.proofs.Frames.{here, away, length_put}
use Rattle.euler.specs.Entries.{head_m}
use Rattle.circuits.specs.Model.{push_one_m}
use Rattle.euler.proofs.Puts.{away2}

-- the half at h holds one copy each of the pairs es, the last first
abbrev pub Held : List ℕ → ℕ → List ℕ → Type 0
Held s h [] = Unit {0}
Held s h (e ∷ es) = (word s (h + 2 + 2 * length es) ≡ e) × (word s (h + 3 + 2 * length es) ≡ 1) × Held s h es

-- words that read the same hold the same
pub held_same :
    (s t : List ℕ) (h : ℕ) (es : List ℕ) → ((a : ℕ) → h + 2 ≤ a → a < h + 2 + 2 * length es → word t a ≡ word s a) →
    Held s h es → Held t h es
held_same s t h [] f k = tt
held_same s t h (e ∷ es) f k = (
  f (h + 2 + 2 * length es) (omega arith) (omega arith) ∙ k.0,
  f (h + 3 + 2 * length es) (omega arith) (omega arith) ∙ k.1,
  held_same s t h es (λ a lo hi. f a lo (omega arith)) k.2,
)

-- a word that a pair written to a half passes by
pub push_one_away :
    (h : ℕ) (s : List ℕ) (at e a : ℕ) → (a ≡ h + 2 + 2 * at → ⊥) → (a ≡ h + 3 + 2 * at → ⊥) → word (push_one_m h s at e) a ≡ word s a
push_one_away h s at e a p q =
    away2 s (h + 2 + 2 * at) e (h + 3 + 2 * at) 1 a p q

-- one pair more
pub held_more :
    (s : List ℕ) (h e : ℕ) (es : List ℕ) → h + 3 + 2 * length es < length s → e < 4294967296 → Held s h es →
    Held (push_one_m h s (length es) e) h (e ∷ es)
held_more s h e es b f k =
    let t : List ℕ = put_word s (h + 2 + 2 * length es) e in
    let len : length t ≡ length s = length_put s (h + 2 + 2 * length es) e in (
      away t (h + 3 + 2 * length es) (h + 2 + 2 * length es) 1 (λ x. omega arith)
          ∙ here s (h + 2 + 2 * length es) e (omega arith) f,
      here t (h + 3 + 2 * length es) 1 (omega arith) (omega arith),
      held_same s (push_one_m h s (length es) e) h es
          (λ a lo hi. push_one_away h s (length es) e a (λ x. omega arith) (λ x. omega arith)) k,
    )

-- ── a half with its head ──

-- its base, the number of its pairs, and the pairs
pub record Headed (t : List ℕ) (h : ℕ) (ds : List ℕ) : Type 0 where
  pub base : word t h ≡ h
  pub number : word t (h + 1) ≡ length ds
  pub held : Held t h ds

-- a word that a head passes by
pub head_away : (h : ℕ) (s : List ℕ) (c a : ℕ) → (a ≡ h → ⊥) → (a ≡ h + 1 → ⊥) → word (head_m h s c) a ≡ word s a
head_away h s c a p q = away2 s h h (h + 1) c a p q

-- a half gets its head
pub headed :
    (s : List ℕ) (h c : ℕ) (ds : List ℕ) → length ds ≡ c → h + 1 < length s → length s ≤ 4294967296 → c < 4294967296 →
    Held s h ds → Headed (head_m h s c) h ds
headed s h c ds e b small few d =
    record {
      base = away (put_word s h h) (h + 1) h c (λ x. omega arith) ∙ here s h h (omega arith) (omega arith);
      number = here (put_word s h h) (h + 1) c (omega (arith, length_put s h h)) few ∙ sym e;
      held = held_same s (head_m h s c) h ds (λ a lo hi. head_away h s c a (λ x. omega arith) (λ x. omega arith)) d;
    }

-- the head of another half above it
pub headed_below : (s : List ℕ) (h o c : ℕ) (ds : List ℕ) → h + 2 + 2 * length ds ≤ o → Headed s h ds → Headed (head_m o s c) h ds
headed_below s h o c ds b d =
    record {
      base = head_away o s c h (λ x. omega arith) (λ x. omega arith) ∙ d.base;
      number = head_away o s c (h + 1) (λ x. omega arith) (λ x. omega arith) ∙ d.number;
      held = held_same s (head_m o s c) h ds (λ a lo hi. head_away o s c a (λ x. omega arith) (λ x. omega arith)) d.held;
    }
