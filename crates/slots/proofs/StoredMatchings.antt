-- A matching that lies in words has as many copies of a pair as its words have the pair's number. Assumes nothing.
use Prim.Native.Nat.{ℕ, zero, suc, ◌+◌, ◌*◌, ◌<◌}
use mathlib.Core.Path.{◌≡◌, refl, sym, ◌∙◌}
use mathlib.Core.List.{List}
use mathlib.Core.Logic.{inl, ⊎_elim}
use native.Mathlib.Omega.{arith}
use native.Mathlib.Nat.{add-zero}
use Rattle.words.specs.Basics.{is}
use Rattle.words.specs.Words.{word}
use Rattle.words.proofs.Sums.{is_eq, is_ne}
use Rattle.multigraph.specs.Regular.{between, copies_between}
use Rattle.multigraph.specs.Stored.{numbered, matching_at}
use Rattle.multigraph.specs.Places.{DistinctEnds}
use Rattle.multigraph.proofs.Ends.{between_cases}
use Rattle.multigraph.proofs.Weights.{weigh_none, weigh_cons}
use Rattle.slots.proofs.Pushing.{seen}

-- the numbers from the front
seen_front : (s : List ℕ) (m e k : ℕ) → seen s m e (suc k) ≡ is e (word s m) + seen s (m + 1) e k
unfolding seen
seen_front s m e zero = rw (add-zero m)
seen_front s m e (suc k) =
    let same : m + suc k ≡ m + 1 + k = omega arith in
    rw same (omega (arith, seen_front s m e k))

module _ (s : List ℕ) (ends pairs : ℕ) (distinct : DistinctEnds ends pairs s) where
  -- two numbers have the same ends exactly if they are the same
  pub between_numbers :
      (e f : ℕ) → e < pairs → f < pairs →
      between (word s (ends + 2 * e)) (word s (ends + 2 * e + 1)) (word s (ends + 2 * f)) (word s (ends + 2 * f + 1)) ≡ is e f
  between_numbers e f a b =
      ⊎_elim (λ k. k.1 ∙ sym (is_eq (distinct.distinct e f a b k.0)))
      (λ k. k.1 ∙ sym (is_ne (λ x. k.0 (rw x (inl (refl, refl))))))
      (between_cases (word s (ends + 2 * e)) (word s (ends + 2 * e + 1)) (word s (ends + 2 * f)) (word s (ends + 2 * f + 1)))

  pub matching_copies :
      (e m k : ℕ) → e < pairs → ((i : ℕ) → i < k → word s (m + i) < pairs) →
      copies_between (word s (ends + 2 * e)) (word s (ends + 2 * e + 1)) (matching_at s ends pairs m k) ≡ seen s m e k
  unfolding matching_at seen
  matching_copies e m zero h below = weigh_none (between (word s (ends + 2 * e)) (word s (ends + 2 * e + 1)))
  matching_copies e m (suc k) h below =
      let b : word s m < pairs = rw (add-zero m) at (below 0 (omega arith)) in
      let ih = matching_copies e (m + 1) k h
      (λ i x.
      let same : m + 1 + i ≡ m + suc i = omega arith in
      rw same (below (suc i) (omega arith))) in
      omega (
        arith,
        weigh_cons (between (word s (ends + 2 * e)) (word s (ends + 2 * e + 1))) (numbered s ends pairs (word s m) 1)
            (matching_at s ends pairs (m + 1) k),
        between_numbers e (word s m) h b,
        seen_front s m e k,
        ih,
      )
