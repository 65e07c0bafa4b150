-- What holds while the walk on words goes on, and the number that each step lowers. Assumes nothing.
use Prim.Native.Nat.{ℕ, ◌+◌, ◌*◌, ◌-◌, ◌/◌, ◌≤◌, ◌<◌}
use mathlib.Core.Path.{◌≡◌, subst}
use mathlib.Core.Bool.{Bool, true, false, not}
use mathlib.Core.List.{List, [], ◌∷◌}
use mathlib.Core.Logic.{⊎_elim}
use native.Mathlib.Omega.{arith}
use lib.ListN.{length}
use Rattle.words.specs.Basics.{All, iterate}
use Rattle.words.specs.Words.{word}
use Rattle.multigraph.specs.Multigraph.{Pair}
use Rattle.rings.specs.declared.Rings.{Rings}
use Rattle.walking.specs.declared.Walk.{Walk}
use Rattle.euler.specs.Euler.{walk_step}
use Rattle.rings.specs.Model.{copies_m}
use Rattle.walking.specs.Model.{Stage, mate_m}
use Rattle.euler.proofs.Straight.{straight}
use Rattle.euler.proofs.Places.{Falling, row}
use Rattle.rings.proofs.Chains.{Chain}
use Rattle.rings.proofs.Nodes.{edge, nodes, first_node}
use Rattle.euler.proofs.Odds.{Odd, odd_places, odds_length}
use Rattle.rings.proofs.Bases.{Laid, P, edge_is}
use Rattle.rings.proofs.Columns.{column, mark_of}
use Rattle.walking.proofs.Following.{Remaining, has_odd}
use Rattle.walking.proofs.Stacks.{bottom, Sound, walking}

-- ── half-edges and their entries ──

-- a half-edge's mate, its entry, and that it is below the parties' nodes
pub mate_is : (d : Bool) (i : ℕ) → mate_m (edge d i) ≡ edge (not d) i
mate_is true i = omega arith
mate_is false i = omega arith

pub entry_is : (d : Bool) (i : ℕ) → edge d i / 4 ≡ i
entry_is true i = omega arith
entry_is false i = omega arith

pub edge_low : (e : Bool) (m j : ℕ) → j < m → edge e j < 4 * m
edge_low true m j c = omega arith
edge_low false m j c = omega arith

module _ {l : Rings} {N m k : ℕ} {s₀ : List ℕ} (g : Laid l N m k s₀) (flag : ℕ → ℕ) (r : List Pair) where
  abbrev C : ℕ → ℕ
  C i = copies_m l s₀ i

  abbrev Q : ℕ → Pair
  Q i = P g flag i

  -- at most as many places as entries
  pub few_places : length (odd_places m C) ≤ m
  unfolding odd_places
  few_places = odds_length C m

  -- The walk on words: the rings hold the places `is`, the stack xs, and ws are written; and it stands where the definition's does.
  pub record Live (s : List ℕ) (w : Walk) (xs ws is : List ℕ) : Type 0 where
    pub rings : Remaining g flag s is
    pub stack : column l true s w.height ≡ xs
    pub written : column l false s w.written ≡ ws
    pub marks : (i : ℕ) → i < m → word s (l.b + 8 * i + 2) ≡ mark_of i ws
    pub falling : Falling is
    pub size : length is + w.height + w.written ≡ length (odd_places m C)
    pub rooted : bottom w.at.0 xs ≡ w.next.0
    pub sound : w.next.0 < N → Sound N m w.at.0 xs
    pub places : All (λ (i : ℕ). i < m) ws
    pub inside : w.next.0 ≤ N
    pub reached : (j : ℕ) × (walking g flag w.at.0 xs is ws ≡ iterate j (walk_step w.next.0) (straight w.next.0 r))
    pub done : N ≤ w.next.0 → walking g flag w.at.0 xs is ws ≡ straight w.next.0 r

  -- places not taken, places not written, parties to come
  unfoldable pub measure : Stage → ℕ
  measure t =
      (length (odd_places m C) - (t.walk.height + t.walk.written))
      + (length (odd_places m C) - t.walk.written)
      + (N - t.walk.next.0)

  -- what a step comes to
  pub record Moved (t u : Stage) : Type 0 where
    pub xs : List ℕ
    pub ws : List ℕ
    pub is : List ℕ
    pub live : Live u.words u.walk xs ws is
    pub less : measure u < measure t

  -- the ring of the party at which the walk stands
  pub ring_here : (s : List ℕ) (w : Walk) (xs ws is : List ℕ) → Live s w xs ws is → w.at.0 < N → (ys : List ℕ) → nodes Q w.at.0 is ≡ ys → Chain l.b s (l.top + w.at.0) ys (l.top + w.at.0)
  ring_here s w xs ws is h vb ys e =
      subst (λ (zs : List ℕ). Chain l.b s (l.top + w.at.0) zs (l.top + w.at.0)) e (h.rings.rung.rings w.at.0 vb)

  -- a party's own node comes after itself only where no place remains
  pub stuck_row :
      (s : List ℕ) (w : Walk) (xs ws is : List ℕ) → Live s w xs ws is → w.at.0 < N →
      word s (l.b + 2 * (l.top + w.at.0)) ≡ l.top + w.at.0 → row Q w.at.0 is ≡ []
  stuck_row s w xs ws is h vb q =
      ⊎_elim (λ e. e.0)
      (λ f.
      let o : Odd m C f.entry = has_odd g flag s is f.entry h.rings f.has in
      let low = edge_is g f.side f.entry o.below in
      absurd (omega (arith, low.0, (ring_here s w xs ws is h vb (edge f.side f.entry ∷ f.nodes_left) f.nodes_is).0)))
      (first_node Q w.at.0 is)
