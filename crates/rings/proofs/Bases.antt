-- Where the words of a split lie, and its graph, which stays as it is. Assumes nothing.
use Prim.Native.Nat.{ℕ, ◌+◌, ◌*◌, ◌%◌, ◌≤◌, ◌<◌}
use mathlib.Core.Path.{◌≡◌, ◌∙◌, ap}
use mathlib.Core.Bool.{Bool, true, false, not}
use mathlib.Core.List.{List}
use native.Mathlib.Omega.{arith}
use lib.ListN.{length}
use Rattle.words.specs.Words.{word}
use Rattle.words.specs.Frames.{Keeps}
use Rattle.multigraph.specs.Multigraph.{Pair, pair}
use Rattle.rings.specs.declared.Rings.{Rings}
use Rattle.rings.specs.Model.{copies_m, end_m}
use Rattle.rings.proofs.Nodes.{edge, end}
use Rattle.euler.proofs.Odds.{EndsFit}

-- ── the ends of an entry ──

-- the party at the first end of entry i
abbrev pub first_at : Rings → List ℕ → ℕ → ℕ
first_at l s i = word s (l.graph.ends + 2 * word s (l.graph.g + 2 + 2 * i))

-- and at its second end
abbrev pub second_at : Rings → List ℕ → ℕ → ℕ
second_at l s i = word s (l.graph.ends + 2 * word s (l.graph.g + 2 + 2 * i) + 1)

-- the sides as the code counts them
abbrev pub side_of : Bool → ℕ
side_of true = 0
side_of false = 1

-- ── where everything lies ──

-- The rings at b and the columns above them, the graph and the table of ends below, for N parties, m entries and k words a
-- column.
pub record Laid (l : Rings) (N m k : ℕ) (s : List ℕ) : Type 0 where
  pub place : l.top ≡ 4 * k
  pub column : l.col ≡ l.b + 10 * k
  pub room : l.b + 12 * k ≤ length s
  pub small : length s ≤ 4294967296
  pub parties : N ≤ k
  pub few : N ≤ 2048
  pub entries : m < k
  pub short : m * 2048 + 2048 ≤ 4294967296
  pub graph : l.graph.g + 3 + 2 * m ≤ l.b
  pub table : (i : ℕ) → i < m → l.graph.ends + 2 * word s (l.graph.g + 2 + 2 * i) + 1 < l.b
  pub fit : EndsFit N m (first_at l s) (second_at l s)

module _ {l : Rings} {N m k : ℕ} {s₀ : List ℕ} (g : Laid l N m k s₀) where
  -- a node: a half-edge, or a party's own
  abbrev pub Node : ℕ → Type 0
  Node y = (y < l.top + N) × (y < l.top → y % 2 ≡ 0)

  -- a half-edge
  abbrev pub Edge : ℕ → Type 0
  Edge y = (y < l.top) × (y % 2 ≡ 0)

  -- a half-edge is a node, and so is a party's own
  pub edge_node : (y : ℕ) → Edge y → Node y
  edge_node y e = (omega (arith, e.0), λ b. e.1)

  pub party_node : (v : ℕ) → v < N → Node (l.top + v)
  party_node v b = (omega arith, λ c. absurd (omega arith))

  -- the half-edges of the entries
  pub edge_is : (d : Bool) (i : ℕ) → i < m → Edge (edge d i)
  edge_is true i b = (omega (arith, g.place, g.entries), omega arith)
  edge_is false i b = (omega (arith, g.place, g.entries), omega arith)

  -- ── the graph as it was ──

  -- what stays below the rings: pair numbers and copies
  pub number_kept : (s : List ℕ) → Keeps l.b s₀ s → (i : ℕ) → i < m → word s (l.graph.g + 2 + 2 * i) ≡ word s₀ (l.graph.g + 2 + 2 * i)
  number_kept s h i b = h.same (l.graph.g + 2 + 2 * i) (omega (arith, g.graph))

  pub copies_kept : (s : List ℕ) → Keeps l.b s₀ s → (i : ℕ) → i < m → copies_m l s i ≡ copies_m l s₀ i
  copies_kept s h i b = h.same (l.graph.g + 3 + 2 * i) (omega (arith, g.graph))

  module _ (flag : ℕ → ℕ) where
    -- the pair of the rest at a place
    abbrev pub P : ℕ → Pair
    P i = pair (first_at l s₀ i) (second_at l s₀ i) 1 (flag i)

    -- the party to which an entry's half-edge leads
    abbrev pub far : Bool → ℕ → ℕ
    far d i = end P (not d) i

    -- ends are parties
    pub end_below : (d : Bool) (i : ℕ) → i < m → end P d i < N
    end_below true i b = g.fit.first_below i b
    end_below false i b = g.fit.second_below i b

    -- and stay as they were
    pub end_kept :
        (s : List ℕ) → Keeps l.b s₀ s → (d : Bool) (i : ℕ) → i < m → end_m l (side_of d) s i ≡ end P d i
    end_kept s h true i b =
        let at : l.graph.ends + 2 * word s₀ (l.graph.g + 2 + 2 * i) + 0 ≡ l.graph.ends + 2 * word s₀ (l.graph.g + 2 + 2 * i) = omega arith in
        ap (λ (e : ℕ). word s (l.graph.ends + 2 * e + 0)) (number_kept s h i b)
        ∙ ap (word s) at
        ∙ h.same (l.graph.ends + 2 * word s₀ (l.graph.g + 2 + 2 * i)) (omega (arith, g.table i b))
    end_kept s h false i b =
        ap (λ (e : ℕ). word s (l.graph.ends + 2 * e + 1)) (number_kept s h i b)
        ∙ h.same (l.graph.ends + 2 * word s₀ (l.graph.g + 2 + 2 * i) + 1) (g.table i b)
