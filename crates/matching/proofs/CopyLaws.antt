-- A graph copied to another place, its copies times α: entry by entry, and what it is as a graph. Assumes nothing.
use Prim.Native.Nat.{ℕ, ◌+◌, ◌*◌, ◌-◌, ◌≤◌, ◌<◌}
use mathlib.Core.Path.{◌≡◌, ◌∙◌, ap}
use mathlib.Core.List.{List}
use native.Mathlib.Omega.{arith}
use native.Mathlib.Decide.{ℕ_discrete, dec_lt, dec_le}
use lib.ListN.{length}
use Rattle.words.specs.Words.{word, put_word}
use Rattle.words.proofs.Frames.{here, away, length_put}
use Rattle.multigraph.specs.Places.{size, number, copies_of}
use Rattle.matching.specs.Choosing.{CanCopy, Copying}

-- the words of the graph itself are not written
copying_source :
    (from to α i : ℕ) (s t : List ℕ) → CanCopy from to α s → i ≤ size s from → Copying from to α i s t →
    (x : ℕ) → x < 2 + 2 * size s from → word t (from + x) ≡ word s (from + x)
copying_source from to α i s t can le c x h =
    elim (dec_lt (from + x) (to + 2)) [
      | yes p ↦ c.under (from + x) p
      | no p ↦
          elim (dec_le (to + 2 + 2 * i) (from + x)) [
            | yes q ↦ c.over (from + x) q
            | no q ↦ absurd (can.apart x (from + x - to) h (omega arith) (omega arith))
          ]
    ]

-- one more entry
pub copying_more :
    (from to α i : ℕ) (s t u : List ℕ) → CanCopy from to α s → i < size s from → Copying from to α i s t →
    u ≡ put_word (put_word t (to + 2 + 2 * i) (word t (from + 2 + 2 * i))) (to + 3 + 2 * i) (α * word t (from + 3 + 2 * i)) →
    Copying from to α (i + 1) s u
copying_more from to α i s t u can lt c e =
    rw e
    (record {
      len = length_put t1 (to + 3 + 2 * i) (α * word t (from + 3 + 2 * i)) ∙ len1 ∙ c.len;
      numbers = λ j h. elim (ℕ_discrete j i) [ yes k ↦ rw k new_number | no k ↦ old (to + 2 + 2 * j) (λ x. omega arith) (λ x. omega arith) ∙ c.numbers j (omega arith) ];
      copies = λ j h. elim (ℕ_discrete j i) [ yes k ↦ rw k new_copies | no k ↦ old (to + 3 + 2 * j) (λ x. omega arith) (λ x. omega arith) ∙ c.copies j (omega arith) ];
      under = λ j h. old j (λ x. omega arith) (λ x. omega arith) ∙ c.under j h;
      over = λ j h. old j (λ x. omega arith) (λ x. omega arith) ∙ c.over j (omega arith);
    })
  where
    t1 : List ℕ
    t1 = put_word t (to + 2 + 2 * i) (word t (from + 2 + 2 * i))

    t2 : List ℕ
    t2 = put_word t1 (to + 3 + 2 * i) (α * word t (from + 3 + 2 * i))

    len1 : length t1 ≡ length t
    len1 = length_put t (to + 2 + 2 * i) (word t (from + 2 + 2 * i))

    old : (j : ℕ) → (j ≡ to + 2 + 2 * i → ⊥) → (j ≡ to + 3 + 2 * i → ⊥) → word t2 j ≡ word t j
    old j p q = away t1 (to + 3 + 2 * i) j (α * word t (from + 3 + 2 * i)) q ∙ away t (to + 2 + 2 * i) j (word t (from + 2 + 2 * i)) p

    source : (x : ℕ) → x < 2 + 2 * size s from → word t (from + x) ≡ word s (from + x)
    source = copying_source from to α i s t can (omega arith) c

    its_number : word t (from + 2 + 2 * i) ≡ number s from i
    its_number =
        let a : from + (2 + 2 * i) ≡ from + 2 + 2 * i = omega arith in
        rw a at (source (2 + 2 * i) (omega arith))

    its_copies : word t (from + 3 + 2 * i) ≡ copies_of s from i
    its_copies =
        let a : from + (3 + 2 * i) ≡ from + 3 + 2 * i = omega arith in
        rw a at (source (3 + 2 * i) (omega arith))

    new_number : number t2 to i ≡ number s from i
    new_number =
        away t1 (to + 3 + 2 * i) (to + 2 + 2 * i) (α * word t (from + 3 + 2 * i)) (λ x. omega arith)
        ∙ here t (to + 2 + 2 * i) (word t (from + 2 + 2 * i)) (omega (arith, can.inside, c.len))
        (rw its_number (can.numbers i lt))
        ∙ its_number

    new_copies : copies_of t2 to i ≡ α * copies_of s from i
    new_copies =
        here t1 (to + 3 + 2 * i) (α * word t (from + 3 + 2 * i)) (omega (arith, can.inside, c.len, len1))
        (rw its_copies (can.copies i lt))
        ∙ ap (λ (x : ℕ). α * x) its_copies
