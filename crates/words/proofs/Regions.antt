-- The laws of `region`, a stretch of words in order. Assumes nothing.
use Prim.Native.Nat.{ℕ, zero, suc, ◌+◌, ◌≤◌, ◌<◌}
use mathlib.Core.Path.{◌≡◌, refl, ◌∙◌, ap}
use mathlib.Core.List.{List, [], ◌∷◌, ◌++◌}
use native.Mathlib.Omega.{arith}
use native.Mathlib.Numerals.{add-one}
use native.Mathlib.Decide.{ℕ_discrete}
use lib.ListN.{length, length-append, drop, get_or, get_or-append}
use lib.Seq.{drop-cons, get_or_at}
use Rattle.words.specs.Basics.{count, All}
use Rattle.words.specs.Words.{word, region}
use Rattle.words.proofs.Sums.{all_at, count_once}

-- the n words from a on are the same
abbrev pub Same : ℕ → ℕ → List ℕ → List ℕ → Type 0
Same a n s t = (i : ℕ) → a ≤ i → i < a + n → word t i ≡ word s i

pub region_same : (s t : List ℕ) (a n : ℕ) → Same a n s t → region t a n ≡ region s a n
unfolding region
region_same s t a zero h = refl
region_same s t a (suc n) h = rw (region_same s t a n (λ i l k. h i l (omega arith)), h (a + n) (omega arith) (omega arith))

pub region_length : (s : List ℕ) (a n : ℕ) → length (region s a n) ≡ n
unfolding region
region_length s a zero = refl
region_length s a (suc n) = length-append (region s a n) (word s (a + n) ∷ []) ∙ omega (arith, region_length s a n)

-- one word more at its end
pub region_more : (s : List ℕ) (a n : ℕ) → region s a (n + 1) ≡ region s a n ++ (word s (a + n) ∷ [])
unfolding region
region_more s a n = rw add-one

-- its first word and the others
pub region_front : (s : List ℕ) (a n : ℕ) → region s a (suc n) ≡ word s a ∷ region s (a + 1) n
unfolding region
region_front s a zero = let e : a + 0 ≡ a = omega arith in rw e
region_front s a (suc n) =
    let e : a + suc n ≡ a + 1 + n = omega arith in
    rw e (ap (λ (l : List ℕ). l ++ (word s (a + 1 + n) ∷ [])) (region_front s a n))

-- its members are the words themselves; what all have each one has; and a member counted once stands at one place
region_at : (s : List ℕ) (a n i : ℕ) → i < n → get_or (region s a n) i 0 ≡ word s (a + i)
unfolding region
region_at s a zero i h = absurd (omega arith)
region_at s a (suc n) i h =
    elim (ℕ_discrete i n) [
      | yes e ↦ rw e (get_or_at (region s a n) (word s (a + n)) [] 0 n (region_length s a n))
      | no q ↦
          let l : i < length (region s a n) = omega (arith, region_length s a n) in
          get_or-append (region s a n) (word s (a + n) ∷ []) 0 i l ∙ region_at s a n i (omega arith)
    ]

pub region_all : (P : ℕ → Type 0) (s : List ℕ) (a n : ℕ) → All P (region s a n) → (i : ℕ) → i < n → P (word s (a + i))
region_all P s a n h i k =
    rw (region_at s a n i k) at (all_at P (region s a n) 0 h i (omega (arith, region_length s a n)))

pub region_once :
    (v : ℕ) (s : List ℕ) (a n : ℕ) → count v (region s a n) ≤ 1 → (i j : ℕ) → i < n → j < n → word s (a + i) ≡ v →
    word s (a + j) ≡ v → i ≡ j
region_once v s a n h i j k l e f =
    count_once v (region s a n) h i j (omega (arith, region_length s a n)) (omega (arith, region_length s a n))
    (region_at s a n i k ∙ e) (region_at s a n j l ∙ f)

-- what is left from place i on
pub region_rest :
    (s : List ℕ) (a n i : ℕ) → i < n → drop i (region s a n) ≡ word s (a + i) ∷ drop (i + 1) (region s a n)
region_rest s a n i h =
    let e : drop i (region s a n) ≡ get_or (region s a n) i 0 ∷ drop (suc i) (region s a n) =
    drop-cons (region s a n) i 0 (omega (arith, region_length s a n)) in
    rw (add-one i, ← region_at s a n i h) e
