-- A graph of degree 2 in words, sifted, and its parties told their half-edges. Assumes nothing.
use Prim.Native.Nat.{ℕ, ◌+◌, ◌*◌, ◌%◌, ◌≤◌, ◌<◌}
use mathlib.Core.Path.{◌≡◌, refl, ◌∙◌, ap, subst}
use mathlib.Core.List.{List, [], map, reverse_aux}
use native.Mathlib.Omega.{arith}
use native.Mathlib.Nat.{mul-le-mul_left, mul-le-mul_right}
use native.Mathlib.Decide.{ℕ_discrete}
use lib.Dec.{eqb}
use lib.ListN.{length}
use Rattle.words.specs.Basics.{All}
use Rattle.words.specs.Words.{word}
use Rattle.words.proofs.Sums.{all_map}
use Rattle.circuits.specs.declared.Two.{Two}
use Rattle.std.proofs.Props.{props}
use Rattle.euler.specs.Room.{Splits}
use Rattle.circuits.specs.Model.{Lies, ApartSoFar, two_start_m, two_sift_all_m, two_fill_m, copies_sum_m, split_two_m, two_laid}
use Rattle.circuits.specs.Bounds.{TwoFills}
use Rattle.euler.proofs.Places.{keep}
use Rattle.circuits.proofs.CircuitFill as Fill
use Rattle.circuits.proofs.CircuitFill.{Ground}
use Rattle.circuits.proofs.CircuitGrounds as TwoGrounds
use Rattle.euler.proofs.Grounds.{across_at}

-- bases and sizes leave room for sums of them, which is so in one way
pub same_lies : (u k table graph m N : ℕ) (x y : Lies u k table graph m N) → x ≡ y
same_lies u k table graph m N = hlevel props

-- so a split does the same, however it is known
pub any_lies :
    {u k table graph m N : ℕ} {t : List ℕ} (s : List ℕ) (x y : Lies u k table graph m N) →
    t ≡ split_two_m (two_laid u k table graph m N x) m N s → t ≡ split_two_m (two_laid u k table graph m N y) m N s
any_lies {u = u} {k = k} {table = table} {graph = graph} {m = m} {N = N} s x y et =
    et ∙ ap (λ (z : Lies u k table graph m N). split_two_m (two_laid u k table graph m N z) m N s) (same_lies u k table graph m N x y)

-- a split has that room
pub lies_at :
    {s : List ℕ} {u table graph n width m : ℕ} → Splits s u table graph n width → m ≡ word s (graph + 1) →
    Lies u (n * (width + 1)) table graph m (2 * n)
lies_at {n = n} {width = width} q em =
    let one : 1 * (width + 1) ≤ n * (width + 1) = mul-le-mul_right (width + 1) q.some in
    record {
      graph = omega (arith, q.graph, q.room, q.short);
      entries = omega (arith, em, q.graph, q.room, q.short);
      parties = omega (arith, q.few);
      table = omega (arith, q.base, q.room, q.short);
      first = omega (arith, q.room, q.short);
      second = omega (arith, q.room, q.short);
      marks = omega (arith, q.room, q.short);
      notes = omega (arith, q.room, q.short);
    }

pub lies :
    {s : List ℕ} {u table graph n width : ℕ} → Splits s u table graph n width →
    Lies u (n * (width + 1)) table graph (word s (graph + 1)) (2 * n)
lies q = lies_at q refl

module _ {s : List ℕ} {u table graph n width : ℕ} (q : Splits s u table graph n width) (sum : copies_sum_m graph (word s (graph + 1)) s ≡ 2 * n) where
  abbrev N : ℕ
  N = 2 * n

  abbrev k : ℕ
  k = n * (width + 1)

  abbrev m : ℕ
  m = word s (graph + 1)

  -- where the words lie
  abbrev pub l : Two
  l = two_laid u k table graph m N (lies q)

  abbrev pub h₂ : ℕ
  h₂ = u + 2 * k

  -- the degree is 2
  pub is_two : 2 * q.half ≡ 2
  is_two = TwoGrounds.degree_two q sum

  -- where everything lies, and that ends are parties
  pub ground : Ground l N m k u s
  ground =
      let kk : n * (width + 1) ≡ n * width + n = omega arith in
      let two : n * 2 ≤ n * width = mul-le-mul_left n q.two in
      record {
        first = refl;
        second = refl;
        parties = refl;
        notes = refl;
        room = q.room;
        small = q.short;
        few = omega arith;
        entries = omega (arith, q.pairs, q.some);
        graph = omega (arith, q.graph);
        table = q.table;
        ends = λ i side b c.
            elim (ℕ_discrete side 0) [
              | yes z ↦ subst (λ (x : ℕ). word s x < N) (omega arith) (across_at q i b).first_below
              | no z ↦ subst (λ (x : ℕ). word s x < N) (omega arith) (across_at q i b).second_below
            ];
      }

  -- the pairs of odd copies, and those of 2 copies, newest first
  abbrev pub es : List ℕ
  es = Fill.odds_of s graph m

  abbrev pub ps : List ℕ
  ps = Fill.evens_of s graph m

  -- the party at a half-edge
  abbrev pub E : ℕ → ℕ
  E y = word s (table + y)

  -- ── before the circuits ──

  -- the words once no party has a half-edge
  abbrev pub s₁ : List ℕ
  s₁ = two_start_m l N s

  -- and once the entries are sifted
  abbrev pub sifted : ApartSoFar
  sifted = two_sift_all_m l m s₁

  start : Fill.Started ground N s₁
  start = Fill.started ground N (omega arith)

  pub sift : Fill.SiftDone ground s₁ m sifted
  sift = Fill.sift_done ground s₁ start.keeps m (omega arith)

  fine : (side : ℕ) → side < 2 → All (λ (e : ℕ). Fill.Fine ground (2 * e + side)) es
  fine side b = all_map (λ e i. Fill.fine ground e side b i) es (Fill.those_nums ground (λ c. eqb (c % 2) 1) m (omega arith))

  begun : Fill.Filled ground sifted.words [] sifted.words
  unfolding keep
  begun =
      record {
        len = sift.keeps.len;
        low = λ a b. refl;
        high = λ a b. refl;
        marks = λ v b. sift.parties (l.b + 2 * v) (omega arith) (omega (arith, ground.few)) ∙ start.marks v b;
        sums = λ v b. sift.parties (l.b + 2 * v + 1) (omega arith) (omega (arith, ground.few)) ∙ start.sums v b;
      }

  few_odds : length es ≤ k
  few_odds = omega (arith, Fill.those_length (λ c. eqb (c % 2) 1) s graph m, ground.entries)

  -- the half-edges of first ends, the last first, and then all
  abbrev pub done₁ : List ℕ
  done₁ = reverse_aux (map (λ e. 2 * e + 0) es) []

  abbrev pub done : List ℕ
  done = reverse_aux (map (λ e. 2 * e + 1) es) done₁

  -- the words once the first ends are noted at their parties, and then all
  abbrev pub s₃ : List ℕ
  s₃ = two_fill_m l 0 (length es) sifted.words

  abbrev pub s₄ : List ℕ
  s₄ = two_fill_m l 1 (length es) s₃

  -- what they then hold
  pub filled_first : TwoFills l 0 (length es) sifted.words × Fill.Filled ground sifted.words done₁ s₃
  filled_first = Fill.fill_done ground sifted.words 0 sift.keeps es (fine 0 (omega arith)) sift.noted few_odds [] sifted.words begun

  pub filled : TwoFills l 1 (length es) s₃ × Fill.Filled ground sifted.words done s₄
  filled = Fill.fill_done ground sifted.words 1 sift.keeps es (fine 1 (omega arith)) sift.noted few_odds done₁ s₃ filled_first.1
