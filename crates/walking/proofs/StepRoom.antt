-- Every place that a step of the walk touches is one. Assumes nothing.
use Prim.Native.Nat.{ℕ, ◌+◌, ◌*◌, ◌-◌, ◌/◌, ◌<◌}
use mathlib.Core.Path.{◌≡◌, sym, ◌∙◌, subst}
use mathlib.Core.Bool.{Bool, true, not}
use mathlib.Core.List.{List, [], ◌∷◌}
use mathlib.Core.Logic.{⊎_elim}
use native.Mathlib.Omega.{arith}
use lib.ListN.{length}
use Rattle.words.specs.Words.{word}
use Rattle.multigraph.specs.Multigraph.{Pair}
use Rattle.rings.specs.declared.Rings.{Rings}
use Rattle.walking.specs.declared.Walk.{Walk}
use Rattle.walking.specs.Model.{pop_m}
use Rattle.walking.specs.Bounds.{Unlinks, Takes, Backs, Steps}
use Rattle.rings.proofs.Nodes.{edge, nodes, First, first_node}
use Rattle.rings.proofs.Bases.{Laid, P, far, edge_is, end_below}
use Rattle.rings.proofs.Columns.{column, column_first}
use Rattle.walking.proofs.Following.{ringed_between, left, is_odd, first_there, mate_there, first_out}
use Rattle.walking.proofs.Stacks.{Sound, sound_here}
use Rattle.walking.proofs.Live.{mate_is, edge_low, few_places, Live, ring_here}

module _ {l : Rings} {N m k : ℕ} {s₀ : List ℕ} (g : Laid l N m k s₀) (flag : ℕ → ℕ) (r : List Pair) where
  abbrev Q : ℕ → Pair
  Q i = P g flag i

  -- room for nodes and columns
  low_node : (y : ℕ) → y < l.top + N → l.b + 2 * y + 1 < length s₀
  low_node y b = omega (arith, g.place, g.parties, g.room)

  live_takes :
      (s : List ℕ) (w : Walk) (xs ws is : List ℕ) → Live g flag r s w xs ws is → w.next.0 < N → (f : First Q w.at.0 is) →
      Takes l s w (edge f.side f.entry)
  live_takes s w xs ws is h b f =
      let v : ℕ = w.at.0 in
      let vb : v < N = sound_here N m v xs (h.sound b) in
      let d : Bool = f.side in
      let i : ℕ = f.entry in
      let ib : i < m = (is_odd g flag v s is vb h.falling h.rings f).below in
      let out₁ = first_out g flag v s is vb h.falling h.rings f in
      let t : List ℕ = pop_m l s (l.top + v) (edge d i) in
      let len : length s ≡ length s₀ = h.rings.rung.keeps.len in
      let lent : length t ≡ length s₀ = out₁.0.keeps.len in
      let p = ringed_between g flag (λ u. nodes Q u is) s v (edge d i) vb (first_there g flag v s is vb h.falling h.rings f) h.rings.rung in
      let q =
      ringed_between g flag (left g flag v s is vb h.falling h.rings f) t (far g flag d i) (edge (not d) i) (end_below g flag (not d) i ib)
      (mate_there g flag v s is vb h.falling h.rings f) out₁.0 in
      let el : edge d i < l.top = (edge_is g d i ib).0 in
      let yl : edge (not d) i < l.top = (edge_is g (not d) i ib).0 in
      record {
        leads = omega (arith, len, edge_low d m i ib, g.entries, g.room);
        pops =
            record {
              own = omega (arith, len, low_node (l.top + v) (omega arith));
              here = omega (arith, len, low_node (edge d i) (omega arith));
              next = omega (arith, len, low_node (word s (l.b + 2 * edge d i)) p.after_node.0);
            };
        unlinks =
            subst (Unlinks l t) (sym (mate_is d i))
            (record {
              here = omega (arith, lent, low_node (edge (not d) i) (omega arith));
              before = omega (arith, lent, low_node (word t (l.b + 2 * edge (not d) i + 1)) q.prior_node.0);
              next = omega (arith, lent, low_node (word t (l.b + 2 * edge (not d) i)) q.after_node.0);
            });
        stack = omega (arith, len, h.size, few_places g flag r, g.entries, g.column, g.room);
      }

  live_backs : (s : List ℕ) (w : Walk) (xs ws is : List ℕ) → Live g flag r s w xs ws is → w.next.0 < N → 0 < w.height → Backs l s w
  live_backs s w xs ws is h b p =
      let x : ℕ = word s (l.col + 2 * (w.height - 1)) in
      let e : xs ≡ x ∷ column l true s (w.height - 1) = sym h.stack ∙ column_first l true s w.height p in
      let im : x / 2048 < m = (subst (Sound N m w.at.0) e (h.sound b)).1 in
      let len : length s ≡ length s₀ = h.rings.rung.keeps.len in
      record {
        stack = omega (arith, len, h.size, few_places g flag r, g.entries, g.column, g.room);
        mark = omega (arith, len, g.entries, g.room);
        column = omega (arith, len, h.size, few_places g flag r, g.entries, g.column, g.room);
      }

  -- a step, whichever
  pub live_steps : (s : List ℕ) (w : Walk) (xs ws is : List ℕ) → Live g flag r s w xs ws is → w.next.0 < N → Steps l s w
  live_steps s w xs ws is h b =
      let vb : w.at.0 < N = sound_here N m w.at.0 xs (h.sound b) in
      record {
        here = omega (arith, h.rings.rung.keeps.len, low_node (l.top + w.at.0) (omega arith));
        takes = λ n.
            ⊎_elim (λ e. absurd (n (ring_here g flag r s w xs ws is h vb [] e.1).0))
            (λ f.
            subst (Takes l s w)
            (sym (ring_here g flag r s w xs ws is h vb (edge f.side f.entry ∷ f.nodes_left) f.nodes_is).0)
            (live_takes s w xs ws is h b f))
            (first_node Q w.at.0 is);
        backs = live_backs s w xs ws is h b;
      }
