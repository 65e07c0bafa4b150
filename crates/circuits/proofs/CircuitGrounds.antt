-- What a graph in words that is regular of degree 2 says of its entries and of its rest. Assumes nothing.
use Prim.Native.Nat.{ℕ, zero, suc, ◌+◌, ◌*◌, ◌≤◌, ◌<◌}
use mathlib.Core.Path.{◌≡◌, refl, sym, ◌∙◌, ap, subst}
use mathlib.Core.List.{List, [], ◌∷◌}
use mathlib.Core.Logic.{⊎_elim}
use native.Mathlib.Omega.{arith}
use native.Mathlib.Nat.{mul-le-mul_left}
use native.Mathlib.Decide.{dec_lt}
use Rattle.words.specs.Basics.{total, All}
use Rattle.words.proofs.Sums.{is_eq, is_ne, is_le, is_cases, total_append, all_map}
use Rattle.multigraph.specs.Multigraph.{Pair}
use Rattle.multigraph.specs.Regular.{weigh, names, degree, between, pairs_between, Across, Regular}
use Rattle.multigraph.specs.Stored.{entry, entries}
use Rattle.multigraph.proofs.Weights.{apart_le}
use Rattle.multigraph.proofs.Sizes.{all_copies, regular_copies}
use Rattle.euler.specs.Split.{rest}
use Rattle.euler.specs.Room.{Splits}
use Rattle.circuits.specs.Model.{copies_sum_m}
use Rattle.euler.proofs.Taken.{ends}
use Rattle.euler.proofs.EulerLaws.{beyond}
use Rattle.euler.proofs.Dealing.{weigh_parts}
use Rattle.euler.proofs.Grounds.{entries_part, flag_total, entries_more, N, m, G, reg, across_at, degree_is, rest_across}

copies_total :
    (s : List ℕ) (table graph n : ℕ) → total (λ (p : Pair). p.copies) (entries s table 0 graph 0 n) ≡ copies_sum_m graph n s
unfolding copies_sum_m total entries
copies_total s table graph zero = refl
copies_total s table graph (suc n) =
    ap (total (λ (p : Pair). p.copies)) (entries_more s table graph 0 n)
    ∙ total_append (λ (p : Pair). p.copies) (entries s table 0 graph 0 n) (entry s table 0 graph n ∷ [])
    ∙ omega (arith, copies_total s table graph n)

module _ {s : List ℕ} {u table graph n width : ℕ} (q : Splits s u table graph n width) where
  -- n·d copies are 2·n
  pub degree_two : copies_sum_m graph (m q) s ≡ 2 * n → 2 * q.half ≡ 2
  unfolding all_copies
  degree_two sum =
      let d : ℕ = 2 * q.half in
      let e : 2 * n ≡ n + n = omega arith in
      let both : Regular (n + n) q.side d (G q 0) = subst (λ (x : ℕ). Regular x q.side d (G q 0)) e (reg q) in
      let c : n * d ≡ 2 * n = sym (regular_copies n q.side d (G q 0) both) ∙ copies_total s table graph (m q) ∙ sum in
      elim (dec_lt d 2) [
        | yes b ↦ let x : n * d ≤ n * 1 = mul-le-mul_left n (omega arith) in absurd (omega (arith, q.some))
        | no b ↦
            elim (dec_lt 2 d) [
              | yes w ↦ let x : n * 3 ≤ n * d = mul-le-mul_left n (omega arith) in absurd (omega (arith, q.some))
              | no w ↦ omega arith
            ]
      ]

  module _ (is_two : 2 * q.half ≡ 2) (pairs : ℕ) where
    -- no pair has more than 2 copies
    pub copies_two : (i : ℕ) → i < m q → (entry s table pairs graph i).copies ≤ 2
    unfolding weigh
    copies_two i b =
        let p : Pair = entry s table pairs graph i in
        let v : ℕ = p.first in
        let part : p.copies * names v p.first p.second ≤ degree v (G q pairs) =
        entries_part s table graph (λ p. p.copies * names v p.first p.second) pairs 0 (m q) i (omega arith) (omega arith) in
        let one : 1 ≤ names v p.first p.second = omega (arith, is_eq {u = v} refl) in
        let more : p.copies * 1 ≤ p.copies * names v p.first p.second = mul-le-mul_left p.copies one in
        omega (arith, degree_is q pairs v (across_at q i b).first_below)

    -- and no two have the same ends
    pub once : (a b : ℕ) → total (λ p. between a b p.first p.second) (G q pairs) ≤ 1
    unfolding pairs_between
    once a b =
        omega (
          arith,
          flag_total s table graph (λ p. between a b p.first p.second) (λ a b c x y. refl) pairs 0 (m q),
          apart_le a b (G q 0) (reg q).apart,
        )

    -- no pair of the rest names a party twice
    pub rest_thin : (v : ℕ) → All (λ (p : Pair). ends v p ≤ 1) (rest (G q pairs))
    rest_thin v = all_map one (rest (G q pairs)) (rest_across q pairs)
      where
        one : (p : Pair) → Across (N q) q.side p → ends v p ≤ 1
        one p h =
            ⊎_elim
            (λ c.
            omega (
              arith,
              c.1,
              is_ne {u = v} {v = p.second} (λ e. omega (arith, h.sides, ap q.side (sym c.0 ∙ e))),
            )) (λ c. omega (arith, c.1, is_le v p.second)) (is_cases v p.first)

    -- no party is in more than two
    pub rest_few : (v : ℕ) → total (ends v) (rest (G q pairs)) ≤ 2
    rest_few v =
        elim (dec_lt v (N q)) [
          | yes b ↦ omega (arith, weigh_parts (names v) (G q pairs), degree_is q pairs v b)
          | no b ↦ omega (arith, beyond (N q) q.side (rest (G q pairs)) (rest_across q pairs) v b)
        ]
