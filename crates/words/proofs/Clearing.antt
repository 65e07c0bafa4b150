-- Words that are all 0, and the list that a clearing leaves. Assumes nothing.
use Prim.Native.Nat.{ℕ, zero, suc, ◌+◌, ◌-◌, ◌≤◌, ◌<◌}
use mathlib.Core.Path.{◌≡◌, refl, sym, ◌∙◌, ap}
use mathlib.Core.List.{List, ◌++◌}
use native.Mathlib.Omega.{arith}
use native.Mathlib.Decide.{dec_lt}
use lib.ListN.{length, replicate, take, drop, length-append, length-replicate, length-drop, get_or-append}
use lib.Seq.{length-take-le, get_or-take, get_or-drop, get_or-append-add, ext_get_or}
use Rattle.words.specs.Words.{word}
use Rattle.words.specs.Clearing.{Cleared}

-- words that are all 0
pub zeros : (n v : ℕ) → word (replicate n 0) v ≡ 0
zeros zero zero = refl
zeros zero (suc v) = refl
zeros (suc n) zero = refl
zeros (suc n) (suc v) = zeros n v

-- ── a clearing, as an equation ──

module _ (b n : ℕ) (s t : List ℕ) (c : Cleared b n s t) (room : b + n ≤ length s) where
  -- what stood before, n words 0, and what stood after
  abbrev rest : List ℕ
  rest = replicate n 0 ++ drop (b + n) s

  abbrev whole : List ℕ
  whole = take b s ++ rest

  front : length (take b s) ≡ b
  front = length-take-le b s (omega arith)

  size : length whole ≡ length s
  size =
      omega (
        arith,
        front,
        length-append (take b s) rest,
        length-append (replicate n 0) (drop (b + n) s),
        length-replicate {A = ℕ} n 0,
        length-drop (b + n) s,
      )

  before : (i : ℕ) → i < b → word t i ≡ word whole i
  before i h =
      c.keeps.same i h ∙ sym (get_or-append (take b s) rest 0 i (omega (arith, front)) ∙ get_or-take b s i 0 h)

  on : (v : ℕ) → word whole (b + v) ≡ word rest v
  on v = ap (λ (j : ℕ). word whole (j + v)) (sym front) ∙ get_or-append-add (take b s) rest v 0

  within : (v : ℕ) → v < n → word t (b + v) ≡ word whole (b + v)
  within v h =
      c.zero v h
      ∙ sym
      (on v
      ∙ get_or-append (replicate n 0) (drop (b + n) s) 0 v (omega (arith, length-replicate {A = ℕ} n 0))
      ∙ zeros n v)

  beyond : (v : ℕ) → word t (b + (n + v)) ≡ word whole (b + (n + v))
  beyond v =
      let e : b + n + v ≡ b + (n + v) = omega arith in
      c.over (b + (n + v)) (omega arith)
      ∙ sym
      (on (n + v)
      ∙ ap (λ (j : ℕ). word rest (j + v)) (sym (length-replicate {A = ℕ} n 0))
      ∙ get_or-append-add (replicate n 0) (drop (b + n) s) v 0
      ∙ get_or-drop (b + n) s v 0
      ∙ ap (word s) e)

  same : (i : ℕ) → word t i ≡ word whole i
  same i =
      let ahead : (b ≤ i) → b + (i - b) ≡ i = λ h. omega arith in
      let further : (b + n ≤ i) → b + (n + (i - (b + n))) ≡ i = λ h. omega arith in
      elim (dec_lt i b) [
        | yes h ↦ before i h
        | no h ↦
            elim (dec_lt i (b + n)) [
              | yes k ↦ rw (ahead (omega arith)) at (within (i - b) (omega arith))
              | no k ↦ rw (further (omega arith)) at (beyond (i - (b + n)))
            ]
      ]

  pub cleared_whole : t ≡ take b s ++ (replicate n 0 ++ drop (b + n) s)
  cleared_whole = ext_get_or 0 t whole (c.keeps.len ∙ sym size) (λ i h. same i)

-- from the first word on
pub cleared_is : (n : ℕ) (s t : List ℕ) → Cleared 0 n s t → n ≤ length s → t ≡ replicate n 0 ++ drop n s
cleared_is n s t c h =
    let e : 0 + n ≡ n = omega arith in
    cleared_whole 0 n s t c (omega arith) ∙ rw e
