-- The walk is stuck: it steps back and writes the place down, or goes on from the next party. Assumes nothing.
use Prim.Native.Nat.{ℕ, suc, ◌+◌, ◌*◌, ◌-◌, ◌/◌, ◌%◌, ◌≤◌, ◌<◌}
use mathlib.Core.Path.{◌≡◌, refl, sym, ◌∙◌, ap, subst}
use mathlib.Core.Bool.{true, false}
use mathlib.Core.List.{List, [], ◌∷◌, map}
use native.Mathlib.Omega.{arith}
use native.Mathlib.Numerals.{add-one}
use native.Mathlib.Decide.{ℕ_discrete}
use lib.ListN.{length}
use Rattle.words.specs.Basics.{total, iterate}
use Rattle.words.specs.Words.{word, put_word}
use Rattle.words.proofs.Frames.{here, away, length_put}
use Rattle.words.proofs.Runs.{iterate_suc_out}
use Rattle.multigraph.specs.Multigraph.{Pair}
use Rattle.rings.specs.declared.Rings.{Rings}
use Rattle.walking.specs.declared.Walk.{Walk}
use Rattle.euler.specs.Euler.{none, first_pair, walk_step}
use Rattle.walking.specs.Model.{party, back_m}
use Rattle.euler.proofs.Taken.{ends}
use Rattle.euler.proofs.Trail.{aslant}
use Rattle.euler.proofs.Straight.{straight, straight_ended, rests_same, ended_rests}
use Rattle.euler.proofs.Places.{first_none}
use Rattle.rings.proofs.Nodes.{edge}
use Rattle.rings.proofs.Bases.{Laid, P}
use Rattle.euler.proofs.Puts.{away2}
use Rattle.rings.proofs.Asides.{same_mark, same_high, same_trans}
use Rattle.rings.proofs.Columns.{column, column_same, column_more, column_first, column_length, mark_of, mark_same, mark_other}
use Rattle.walking.proofs.Following.{Remaining, remaining_same}
use Rattle.walking.proofs.Stacks.{steps, bottom, walking, step_off}
use Rattle.walking.proofs.Live.{edge_low, few_places, Live, measure, Moved, stuck_row}

-- no step
pub iterate_zero {ℓ} : {A : Type ℓ} (f : A → A) (a : A) → iterate 0 f a ≡ a
unfolding iterate
iterate_zero f a = refl

straight_more_is :
    (v : ℕ) (r : List Pair) → straight (suc v) r ≡ iterate (2 * length (straight v r).left) (walk_step v) (straight v r)
unfolding straight
straight_more_is v r = refl

module _ {l : Rings} {N m k : ℕ} {s₀ : List ℕ} (g : Laid l N m k s₀) (flag : ℕ → ℕ) (r : List Pair) where
  abbrev Q : ℕ → Pair
  Q i = P g flag i

  -- the words after stepping back
  abbrev wrote : List ℕ → Walk → ℕ → List ℕ
  wrote s w i = put_word (put_word s (l.b + 8 * i + 2) (2 + w.written % 2)) (l.col + 2 * w.written + 1) i

  wrote_away :
      (s : List ℕ) (w : Walk) (i a : ℕ) → (a ≡ l.b + 8 * i + 2 → ⊥) → (a ≡ l.col + 2 * w.written + 1 → ⊥) →
      word (wrote s w i) a ≡ word s a
  wrote_away s w i a p q = away2 s (l.b + 8 * i + 2) (2 + w.written % 2) (l.col + 2 * w.written + 1) i a p q

  wrote_rings :
      (s : List ℕ) (w : Walk) (i : ℕ) (is : List ℕ) → i < k → w.written < k → Remaining g flag s is →
      Remaining g flag (wrote s w i) is
  wrote_rings s w i is ib wb h =
      let t : List ℕ = put_word s (l.b + 8 * i + 2) (2 + w.written % 2) in
      remaining_same g flag s (wrote s w i) is
      (same_trans g s t (wrote s w i) (same_mark g s i (2 + w.written % 2) ib)
      (same_high g t (l.col + 2 * w.written + 1) i (omega (arith, g.column))))
      (λ e j c.
      wrote_away s w i (l.b + 2 * edge e j + 3) (λ q. omega arith) (λ q. omega (arith, g.column, g.entries, edge_low e m j c)))
      h

  wrote_marks :
      (s : List ℕ) (w : Walk) (ws : List ℕ) (i : ℕ) → length s ≡ length s₀ → i < k → w.written < k →
      length ws ≡ w.written → ((j : ℕ) → j < m → word s (l.b + 8 * j + 2) ≡ mark_of j ws) → (j : ℕ) → j < m →
      word (wrote s w i) (l.b + 8 * j + 2) ≡ mark_of j (i ∷ ws)
  wrote_marks s w ws i len ib wb lw old j jb =
      elim (ℕ_discrete j i) [
        | yes e ↦
            let t : List ℕ = put_word s (l.b + 8 * i + 2) (2 + w.written % 2) in
            let own : word (wrote s w i) (l.b + 8 * i + 2) ≡ 2 + w.written % 2 =
            away t (l.col + 2 * w.written + 1) (l.b + 8 * i + 2) i (λ q. omega (arith, g.column))
            ∙ here s (l.b + 8 * i + 2) (2 + w.written % 2) (omega (arith, g.room)) (omega arith) in
            ap (λ (z : ℕ). word (wrote s w i) (l.b + 8 * z + 2)) e ∙ own ∙ sym (mark_same j i ws e ∙ rw lw)
        | no n ↦
            wrote_away s w i (l.b + 8 * j + 2) (λ q. n (omega arith)) (λ q. omega (arith, g.column, g.entries)) ∙ old j jb ∙ sym (mark_other j i ws n)
      ]

  wrote_written :
      (s : List ℕ) (w : Walk) (i : ℕ) → length s ≡ length s₀ → i < k → w.written < k →
      column l false (wrote s w i) (w.written + 1) ≡ i ∷ column l false s w.written
  wrote_written s w i len ib wb =
      let t : List ℕ = put_word s (l.b + 8 * i + 2) (2 + w.written % 2) in
      let lt : length t ≡ length s = length_put s (l.b + 8 * i + 2) (2 + w.written % 2) in
      let top : word (wrote s w i) (l.col + 2 * w.written + 1) ≡ i =
      here t (l.col + 2 * w.written + 1) i (omega arith) (omega arith) in
      let under : column l false (wrote s w i) w.written ≡ column l false s w.written =
      column_same l false s (wrote s w i) w.written
      (λ j e. wrote_away s w i (l.col + 2 * j + 1) (λ q. omega arith) (λ q. omega arith)) in
      column_more l false (wrote s w i) w.written ∙ rw (top, under)

  live_wrote :
      (s : List ℕ) (w : Walk) (x : ℕ) (xs ws is : List ℕ) → Live g flag r s w (x ∷ xs) ws is → w.next.0 < N → 0 < w.height →
      column l true s (w.height - 1) ≡ xs → word s (l.b + 2 * (l.top + w.at.0)) ≡ l.top + w.at.0 →
      Moved g flag r (record { words = s; walk = w })
      (record {
        words = wrote s w (x / 2048);
        walk = record { next = w.next; at = party (x % 2048); height = w.height - 1; written = w.written + 1 };
      })
  unfolding measure
  live_wrote s w x xs ws is h b pos' under q =
      let i : ℕ = x / 2048 in
      let len : length s ≡ length s₀ = h.rings.rung.keeps.len in
      let vb : w.at.0 < N = (h.sound b).0 in
      let im : i < m = (h.sound b).1 in
      let wb : w.written < k = omega (arith, h.size, few_places g flag r) in
      let lw : length ws ≡ w.written = ap length (sym h.written) ∙ column_length l false s w.written in
      let off : walk_step w.next.0 (walking g flag w.at.0 (x ∷ xs) is ws) ≡ walking g flag (x % 2048) xs is (i ∷ ws) =
      step_off g flag w.next.0 w.at.0 x xs is ws h.falling (stuck_row g flag r s w (x ∷ xs) ws is h vb q) in
      record {
        xs = xs;
        ws = i ∷ ws;
        is = is;
        live =
            record {
              rings = wrote_rings s w i is (omega (arith, g.entries)) wb h.rings;
              stack =
                  column_same l true s (wrote s w i) (w.height - 1)
                  (λ j e. wrote_away s w i (l.col + 2 * j) (λ z. omega arith) (λ z. omega arith))
                  ∙ under;
              written = wrote_written s w i len (omega arith) wb ∙ ap (λ (z : List ℕ). i ∷ z) h.written;
              marks = wrote_marks s w ws i len (omega arith) wb lw h.marks;
              falling = h.falling;
              size = omega (arith, h.size);
              rooted = h.rooted;
              sound = λ e. (h.sound e).2;
              places = (im, h.places);
              inside = h.inside;
              reached = (
                suc h.reached.0,
                sym off ∙ ap (walk_step w.next.0) h.reached.1
                    ∙ sym (iterate_suc_out h.reached.0 (walk_step w.next.0) (straight w.next.0 r)),
              );
              done = λ e. absurd (omega arith);
            };
        less = omega (arith, h.size);
      }

  -- a step back keeps what holds
  pub live_back :
      (s : List ℕ) (w : Walk) (xs ws is : List ℕ) → Live g flag r s w xs ws is → w.next.0 < N → 0 < w.height →
      word s (l.b + 2 * (l.top + w.at.0)) ≡ l.top + w.at.0 →
      Moved g flag r (record { words = s; walk = w }) (back_m l s w)
  unfolding back_m
  live_back s w xs ws is h b pos' q =
      let x : ℕ = word s (l.col + 2 * (w.height - 1)) in
      let e : xs ≡ x ∷ column l true s (w.height - 1) = sym h.stack ∙ column_first l true s w.height pos' in
      live_wrote s w x (column l true s (w.height - 1)) ws is (subst (λ (z : List ℕ). Live g flag r s w z ws is) e h) b pos' refl q

  -- ── on to the next party ──

  module _ (side : ℕ → ℕ) (slant : total (aslant side) r ≡ 0) (evens : (v : ℕ) → total (ends v) r % 2 ≡ 0) where
    -- going on from the next party keeps what holds
    pub live_next :
        (s : List ℕ) (w : Walk) (xs ws is : List ℕ) → Live g flag r s w xs ws is → w.next.0 < N → w.height ≤ 0 →
        word s (l.b + 2 * (l.top + w.at.0)) ≡ l.top + w.at.0 →
        Moved g flag r (record { words = s; walk = w })
        (record { words = s; walk = record { next = party (w.next.0 + 1); at = party (w.next.0 + 1); height = 0; written = w.written } })
    unfolding measure column steps
    live_next s w xs ws is h b z q =
        let flat : w.height ≡ 0 = omega arith in
        let bare : xs ≡ [] = sym h.stack ∙ ap (column l true s) flat in
        let home : w.at.0 ≡ w.next.0 = ap (bottom w.at.0) (sym bare) ∙ h.rooted in
        let vb : w.at.0 < N = omega arith in
        let empty : first_pair w.next.0 (map Q is) ≡ none =
        rw home at (first_none Q w.at.0 is h.falling (stuck_row g flag r s w xs ws is h vb q)) in
        let here' : walking g flag w.at.0 xs is ws ≡ record { stack = []; left = map Q is; written = map Q ws } =
        ap (λ (z : List ℕ). walking g flag w.at.0 z is ws) bare in
        let rest₁ : walk_step w.next.0 (record { stack = []; left = map Q is; written = map Q ws }) ≡ record { stack = []; left = map Q is; written = map Q ws } =
        ended_rests w.next.0 (record { stack = []; left = map Q is; written = map Q ws }) refl empty in
        let e : ((straight (suc w.next.0) r).stack ≡ []) × (first_pair w.next.0 (straight (suc w.next.0) r).left ≡ none) =
        straight_ended side r slant evens w.next.0 in
        let rest₂ : walk_step w.next.0 (straight (suc w.next.0) r) ≡ straight (suc w.next.0) r =
        ended_rests w.next.0 (straight (suc w.next.0) r) e.0 e.1 in
        let on : record { stack = []; left = map Q is; written = map Q ws } ≡ straight (w.next.0 + 1) r =
        rests_same (walk_step w.next.0) (straight w.next.0 r) (record { stack = []; left = map Q is; written = map Q ws })
        (straight (suc w.next.0) r) h.reached.0 (2 * length (straight w.next.0 r).left) (sym here' ∙ h.reached.1) (straight_more_is w.next.0 r)
        rest₁ rest₂
        ∙ ap (λ (v : ℕ). straight v r) (sym (add-one w.next.0)) in
        record {
          xs = [];
          ws = ws;
          is = is;
          live =
              record {
                rings = h.rings;
                stack = refl;
                written = h.written;
                marks = h.marks;
                falling = h.falling;
                size = omega (arith, h.size);
                rooted = refl;
                sound = λ v. v;
                places = h.places;
                inside = omega arith;
                reached = (0, on ∙ sym (iterate_zero (walk_step (w.next.0 + 1)) (straight (w.next.0 + 1) r)));
                done = λ v. on;
              };
          less = omega arith;
        }
