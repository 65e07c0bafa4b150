-- The walk on words follows the walk of the definition, step for step, and each step lowers one number, so that it ends in
-- time. Assumes nothing.
use Prim.Native.Nat.{ℕ, ◌+◌, ◌*◌, ◌%◌, ◌≤◌, ◌<◌}
use mathlib.Core.Path.{◌≡◌, refl, sym, ◌∙◌, ap, subst}
use mathlib.Core.Bool.{false}
use mathlib.Core.List.{List, [], ◌∷◌, map, reverse}
use mathlib.Core.Logic.{◌⊎◌, inl, inr, ⊎_elim}
use native.Mathlib.Omega.{arith}
use native.Mathlib.Decide.{ℕ_discrete, dec_lt}
use Rattle.words.specs.Basics.{total, All}
use Rattle.words.specs.Words.{word}
use Rattle.words.specs.Frames.{Keeps}
use Rattle.words.proofs.Runs.{iterate_ends, iterate_keeps}
use Rattle.multigraph.specs.Multigraph.{Pair}
use Rattle.rings.specs.declared.Rings.{Rings}
use Rattle.walking.specs.declared.Walk.{Walk}
use Rattle.euler.specs.Euler.{Walking, walk_step}
use Rattle.rings.specs.Model.{copies_m}
use Rattle.walking.specs.Model.{Stage, party, step_m, walk_m, begun}
use Rattle.walking.specs.Bounds.{Walks}
use Rattle.euler.proofs.Taken.{ends}
use Rattle.euler.proofs.Trail.{aslant}
use Rattle.euler.proofs.Straight.{straight}
use Rattle.euler.proofs.Places.{descend}
use Rattle.rings.proofs.Nodes.{edge, first_node}
use Rattle.euler.proofs.Odds.{Odd, odds_below, odds_falling, odds_odd, odd_places}
use Rattle.walking.proofs.ModelLaws.{step_idle, step_takes, step_stuck, stuck_backs, stuck_next}
use Rattle.rings.proofs.Bases.{Laid, P}
use Rattle.rings.proofs.Filling.{Filled}
use Rattle.rings.proofs.Columns.{column, mark_of}
use Rattle.walking.proofs.Following.{Remaining, has_odd}
use Rattle.walking.proofs.Stacks.{steps, sound_here, walking}
use Rattle.walking.proofs.Live.{few_places, Live, measure, Moved, ring_here}
use Rattle.walking.proofs.Taking.{take_form, live_take}
use Rattle.walking.proofs.Backing.{iterate_zero, live_back, live_next}
use Rattle.walking.proofs.StepRoom.{live_steps}

module _ {l : Rings} {N m k : ℕ} {s₀ : List ℕ} (g : Laid l N m k s₀) (flag : ℕ → ℕ) (r : List Pair) (side : ℕ → ℕ) (slant : total (aslant side) r ≡ 0) (evens : (v : ℕ) → total (ends v) r % 2 ≡ 0) where
  abbrev C : ℕ → ℕ
  C i = copies_m l s₀ i

  abbrev Q : ℕ → Pair
  Q i = P g flag i

  -- something lives at this stage
  pub record Alive (t : Stage) : Type 0 where
    pub xs : List ℕ
    pub ws : List ℕ
    pub is : List ℕ
    pub live : Live g flag r t.words t.walk xs ws is

  live_step :
      (s : List ℕ) (w : Walk) (xs ws is : List ℕ) → Live g flag r s w xs ws is → w.next.0 < N →
      Moved g flag r (record { words = s; walk = w }) (step_m l N (record { words = s; walk = w }))
  live_step s w xs ws is h b =
      let t : Stage = record { words = s; walk = w } in
      let vb : w.at.0 < N = sound_here N m w.at.0 xs (h.sound b) in
      let x : ℕ = word s (l.b + 2 * (l.top + w.at.0)) in
      elim (ℕ_discrete x (l.top + w.at.0)) [
        | yes e ↦
            subst (Moved g flag r t) (sym (step_stuck l N s w b e))
            (elim (dec_lt 0 w.height) [
              | yes p ↦ subst (Moved g flag r t) (sym (stuck_backs l s w p)) (live_back g flag r s w xs ws is h b p e)
              | no p ↦
                  let z : w.height ≤ 0 = omega arith in
                  subst (Moved g flag r t) (sym (stuck_next l s w z)) (live_next g flag r side slant evens s w xs ws is h b z e)
            ])
        | no n ↦
            ⊎_elim (λ e. absurd (n (ring_here g flag r s w xs ws is h vb [] e.1).0))
            (λ f.
            let o : Odd m C f.entry = has_odd g flag s is f.entry h.rings f.has in
            let first : x ≡ edge f.side f.entry =
            (ring_here g flag r s w xs ws is h vb (edge f.side f.entry ∷ f.nodes_left) f.nodes_is).0 in
            subst (Moved g flag r t)
            (sym (step_takes l N s w b n ∙ take_form g flag r s w f.side f.entry x first (h.rings.leads f.side f.entry o)))
            (live_take g flag r s w xs ws is h b f))
            (first_node Q w.at.0 is)
      ]

  alive_step : (t : Stage) → Alive t → (N ≤ t.walk.next.0) ⊎ Moved g flag r t (step_m l N t)
  alive_step t a =
      elim (dec_lt t.walk.next.0 N) [
        | yes b ↦ inr (live_step t.words t.walk a.xs a.ws a.is a.live b)
        | no n ↦ inl (omega arith)
      ]

  alive_keeps : (t : Stage) → Alive t → Alive (step_m l N t)
  alive_keeps t a =
      ⊎_elim (λ d. subst Alive (sym (step_idle l N t d)) a)
      (λ u. record { xs = u.xs; ws = u.ws; is = u.is; live = u.live })
      (alive_step t a)

  -- Enough steps bring the walk past the last party.
  pub walk_ends :
      (t : Stage) (n : ℕ) → Alive t → measure g flag r t ≤ n → Alive (walk_m l N n t) × (N ≤ (walk_m l N n t).walk.next.0)
  walk_ends t n a b = (
    iterate_keeps {Inv = Alive} (step_m l N) alive_keeps n t a,
    iterate_ends {Inv = Alive} {Done = λ u. N ≤ u.walk.next.0} (step_m l N) (measure g flag r) alive_keeps
        (λ u i. ⊎_elim (λ d. inl d) (λ e. inr e.less) (alive_step u i))
        (λ u i d. subst (λ (z : Stage). N ≤ z.walk.next.0) (sym (step_idle l N u d)) d) n t b a,
  )

  -- ── the start ──

  start_rings : (s : List ℕ) → Filled g flag s → Remaining g flag s (odd_places m C)
  unfolding odd_places
  start_rings s f =
      record {
        rung = f.rung;
        leads = f.leads;
        below = odds_below C m;
        odds = odds_odd C (descend m);
      }

  start_live :
      (s : List ℕ) → Filled g flag s → reverse r ≡ map Q (odd_places m C) →
      Live g flag r s (record { next = party 0; at = party 0; height = 0; written = 0 }) [] [] (odd_places m C)
  unfolding column mark_of steps straight odd_places
  start_live s f e =
      let on : walking g flag 0 [] (odd_places m C) [] ≡ straight 0 r =
      ap (λ (z : List Pair). record { stack = []; left = z; written = [] }) (sym e) in
      record {
        rings = start_rings s f;
        stack = refl;
        written = refl;
        marks = f.marks;
        falling = odds_falling C m;
        size = omega arith;
        rooted = refl;
        sound = λ b. b;
        places = tt;
        inside = omega arith;
        reached = (0, on ∙ sym (iterate_zero (walk_step 0) (straight 0 r)));
        done = λ b. on;
      }

  start_measure : (s : List ℕ) → measure g flag r (record { words = s; walk = record { next = party 0; at = party 0; height = 0; written = 0 } }) ≤ 2 * m + N
  unfolding measure
  start_measure s = omega (arith, few_places g flag r)

  -- The walk over filled rings has ended in time, and has written what the straight walk has.
  pub record WalkedAll (t : Stage) : Type 0 where
    pub ws : List ℕ
    pub keeps : Keeps l.b s₀ t.words
    pub written : column l false t.words t.walk.written ≡ ws
    pub marks : (i : ℕ) → i < m → word t.words (l.b + 8 * i + 2) ≡ mark_of i ws
    pub places : All (λ (i : ℕ). i < m) ws
    pub few : t.walk.written ≤ m
    pub same : map Q ws ≡ (straight N r).written

  pub walked_all :
      (s : List ℕ) → Filled g flag s → reverse r ≡ map Q (odd_places m C) →
      WalkedAll (walk_m l N (2 * m + N) (record { words = s; walk = record { next = party 0; at = party 0; height = 0; written = 0 } }))
  walked_all s f e =
      let t₀ : Stage = record { words = s; walk = record { next = party 0; at = party 0; height = 0; written = 0 } } in
      let a₀ : Alive t₀ = record { xs = []; ws = []; is = odd_places m C; live = start_live s f e } in
      let p : Alive (walk_m l N (2 * m + N) t₀) × (N ≤ (walk_m l N (2 * m + N) t₀).walk.next.0) =
      walk_ends t₀ (2 * m + N) a₀ (start_measure s) in
      let a : Alive (walk_m l N (2 * m + N) t₀) = p.0 in
      let h = a.live in
      let last : (walk_m l N (2 * m + N) t₀).walk.next.0 ≡ N = omega (arith, h.inside, p.1) in
      record {
        ws = a.ws;
        keeps = h.rings.rung.keeps;
        written = h.written;
        marks = h.marks;
        places = h.places;
        few = omega (arith, h.size, few_places g flag r);
        same = ap (λ (w : Walking). w.written) (h.done p.1) ∙ ap (λ (v : ℕ). (straight v r).written) last;
      }

  -- Every place that the walk touches is one.
  pub walks_on :
      (s : List ℕ) (n : ℕ) → Filled g flag s → reverse r ≡ map Q (odd_places m C) → Walks l N n s
  walks_on s n f e =
      record {
        steps = λ j c b.
            let a : Alive (walk_m l N j (begun s)) =
            iterate_keeps {Inv = Alive} (step_m l N) alive_keeps j (begun s)
            (record { xs = []; ws = []; is = odd_places m C; live = start_live s f e }) in
            live_steps g flag r (walk_m l N j (begun s)).words (walk_m l N j (begun s)).walk a.xs a.ws a.is a.live b;
      }
