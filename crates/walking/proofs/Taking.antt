-- A half-edge is taken: the walk on words goes on as the walk of the definition. Assumes nothing.
use Prim.Native.Nat.{ℕ, suc, ◌+◌, ◌*◌, ◌/◌, ◌%◌, ◌<◌}
use mathlib.Core.Path.{◌≡◌, sym, ◌∙◌, ap}
use mathlib.Core.Bool.{Bool, true, false, not}
use mathlib.Core.List.{List, ◌∷◌}
use native.Mathlib.Omega.{arith}
use borrow.Author.Tests.{eq-eqb, ne_eqb}
use lib.Dec.{eqb}
use lib.ListN.{length}
use Rattle.words.specs.Words.{word, put_word}
use Rattle.words.proofs.Frames.{here, away}
use Rattle.words.proofs.Runs.{iterate_suc_out}
use Rattle.multigraph.specs.Multigraph.{Pair}
use Rattle.rings.specs.declared.Rings.{Rings}
use Rattle.walking.specs.declared.Walk.{Walk}
use Rattle.euler.specs.Euler.{other_node, walk_step}
use Rattle.walking.specs.Model.{party, pop_m, unlink_m, take_m}
use Rattle.euler.proofs.Straight.{straight}
use Rattle.euler.proofs.Places.{without, keep_falling, without_shorter}
use Rattle.rings.proofs.Nodes.{edge, end, First}
use Rattle.rings.proofs.Bases.{Laid, P, far, end_below}
use Rattle.rings.proofs.Asides.{Aside, same_high}
use Rattle.rings.proofs.Columns.{column, column_same, column_more}
use Rattle.walking.proofs.Following.{remaining_same, has_odd, remaining_take}
use Rattle.walking.proofs.Stacks.{sound_here, walking, step_on}
use Rattle.walking.proofs.Live.{mate_is, entry_is, edge_low, few_places, Live, measure, Moved}

module _ {l : Rings} {N m k : ℕ} {s₀ : List ℕ} (g : Laid l N m k s₀) (flag : ℕ → ℕ) (r : List Pair) where
  abbrev Q : ℕ → Pair
  Q i = P g flag i

  -- the other party of the half-edge (d, i)
  other_party : (d : Bool) (i v : ℕ) → i < m → end Q d i ≡ v → other_node (Q i) v ≡ far g flag d i
  other_party true i v b e = rw (eq-eqb v (Q i).first (sym e))
  other_party false i v b e = rw (ne_eqb v (Q i).first (λ q. g.fit.different i b (sym q ∙ sym e)))

  -- both half-edges of an entry taken out
  abbrev pub out : List ℕ → ℕ → Bool → ℕ → List ℕ
  out s v d i = unlink_m l (pop_m l s (l.top + v) (edge d i)) (edge (not d) i)

  -- the words after taking
  abbrev pub took : List ℕ → Walk → Bool → ℕ → List ℕ
  took s w d i = put_word (out s w.at.0 d i) (l.col + 2 * w.height) (i * 2048 + w.at.0)

  -- the model takes it so
  pub take_form :
      (s : List ℕ) (w : Walk) (d : Bool) (i x : ℕ) → x ≡ edge d i → word s (l.b + 2 * edge d i + 3) ≡ far g flag d i →
      take_m l s w x
      ≡ record {
        words = took s w d i;
        walk = record { next = w.next; at = party (far g flag d i); height = w.height + 1; written = w.written };
      }
  unfolding take_m
  take_form s w d i x e f = rw (e, f, mate_is d i, entry_is d i)

  -- the stack after taking
  took_stack :
      (s : List ℕ) (w : Walk) (d : Bool) (i : ℕ) → length (out s w.at.0 d i) ≡ length s₀ → w.at.0 < N → w.height < k → i < m →
      Aside g s (out s w.at.0 d i) →
      column l true (took s w d i) (w.height + 1) ≡ (i * 2048 + w.at.0) ∷ column l true s w.height
  took_stack s w d i len vb hb ib a =
      let u : List ℕ = out s w.at.0 d i in
      let top : word (took s w d i) (l.col + 2 * w.height) ≡ i * 2048 + w.at.0 =
      here u (l.col + 2 * w.height) (i * 2048 + w.at.0) (omega (arith, g.column, g.room)) (omega (arith, g.short, g.few)) in
      let under : column l true (took s w d i) w.height ≡ column l true s w.height =
      column_same l true s (took s w d i) w.height
      (λ j e.
      away u (l.col + 2 * w.height) (l.col + 2 * j) (i * 2048 + w.at.0) (λ q. omega arith)
      ∙ a.high (l.col + 2 * j) (omega (arith, g.column))) in
      column_more l true (took s w d i) w.height ∙ rw (top, under)

  -- taking a half-edge keeps what holds
  pub live_take :
      (s : List ℕ) (w : Walk) (xs ws is : List ℕ) → Live g flag r s w xs ws is → w.next.0 < N → (f : First Q w.at.0 is) →
      Moved g flag r (record { words = s; walk = w })
      (record {
        words = took s w f.side f.entry;
        walk = record { next = w.next; at = party (far g flag f.side f.entry); height = w.height + 1; written = w.written };
      })
  unfolding measure
  live_take s w xs ws is h b f =
      let v : ℕ = w.at.0 in
      let vb : v < N = sound_here N m v xs (h.sound b) in
      let d : Bool = f.side in
      let i : ℕ = f.entry in
      let ib : i < m = (has_odd g flag s is i h.rings f.has).below in
      let fb : far g flag d i < N = end_below g flag (not d) i ib in
      let out_is = remaining_take g flag v s is vb h.falling h.rings f in
      let u : List ℕ = out s v d i in
      let a : ℕ = l.col + 2 * w.height in
      let x : ℕ = i * 2048 + v in
      let shorter : length is ≡ suc (length (without i is)) = without_shorter Q v i is f.row_left h.falling f.row_is in
      let hb : w.height < k = omega (arith, h.size, few_places g flag r, g.entries) in
      let on : walk_step w.next.0 (walking g flag v xs is ws) ≡ walking g flag (far g flag d i) (x ∷ xs) (without i is) ws =
      step_on g flag w.next.0 v i (far g flag d i) xs is f.row_left ws h.rooted h.falling f.row_is
      (omega (arith, g.few)) (omega (arith, g.few)) (other_party d i v ib f.own) in
      let q₁ : x / 2048 ≡ i = omega (arith, g.few) in
      let q₂ : x % 2048 ≡ v = omega (arith, g.few) in
      record {
        xs = x ∷ xs;
        ws = ws;
        is = without i is;
        live =
            record {
              rings =
                  remaining_same g flag u (took s w d i) (without i is)
                  (same_high g u a x (omega (arith, g.column)))
                  (λ e j c. away u a (l.b + 2 * edge e j + 3) x (λ q. omega (arith, g.column, g.entries, edge_low e m j c))) out_is.0;
              stack =
                  took_stack s w d i out_is.0.rung.keeps.len vb hb ib out_is.1 ∙ ap (λ (z : List ℕ). x ∷ z) h.stack;
              written =
                  column_same l false s (took s w d i) w.written
                  (λ j e.
                  away u a (l.col + 2 * j + 1) x (λ q. omega arith) ∙ out_is.1.high (l.col + 2 * j + 1) (omega (arith, g.column)))
                  ∙ h.written;
              marks = λ j e.
                  away u a (l.b + 8 * j + 2) x (λ q. omega (arith, g.column, g.entries))
                  ∙ out_is.1.marks j (omega (arith, g.entries))
                  ∙ h.marks j e;
              falling = keep_falling (λ z. not (eqb i z)) is h.falling;
              size = omega (arith, h.size);
              rooted = rw q₂ h.rooted;
              sound = λ e. (fb, rw q₁ ib, rw q₂ (h.sound e));
              places = h.places;
              inside = h.inside;
              reached = (
                suc h.reached.0,
                sym on ∙ ap (walk_step w.next.0) h.reached.1
                    ∙ sym (iterate_suc_out h.reached.0 (walk_step w.next.0) (straight w.next.0 r)),
              );
              done = λ e. absurd (omega arith);
            };
        less = omega (arith, h.size);
      }
