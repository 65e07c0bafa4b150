-- One step of the code's model is one turn of the search, on the words that stand for it, with the neighbours of each party in
-- its row; and every neighbour that a step looks at stands at a place. Assumes nothing.
use Prim.Native.Nat.{ℕ, zero, suc, ◌+◌, ◌*◌, ◌-◌, ◌%◌, ◌≤◌, ◌<◌}
use mathlib.Core.Path.{◌≡◌, refl, sym, ◌∙◌}
use mathlib.Core.List.{List, [], ◌∷◌, ◌++◌}
use native.Mathlib.Omega.{arith}
use native.Mathlib.Decide.{ℕ_discrete, dec_lt}
use borrow.Author.Tests.{eq-eqb, ne_eqb, lt-ltb, le-ltb}
use lib.ListN.{length}
use Rattle.words.specs.Basics.{All, iterate}
use Rattle.words.specs.Words.{word, put_word, region}
use Rattle.words.proofs.Frames.{here, away}
use Rattle.words.proofs.Runs.{iterate_suc_out}
use Rattle.appointments.specs.Appointments.{Appt}
use Rattle.bipartition.specs.TwoColor.{Colouring, colour_of, neighbours, Search, going, refused, touch, touch_all, pop, side}
use Rattle.two_color_steps.specs.Model.{Small, stack_place, colour_place, refused_place, next_place, stack_count, left_count, right_count, row_count, row_start, row_place, touch_m, look_m, looks_m, touch_all_m, take_off_m, next_party_m, step_m, steps_m}
use Rattle.two_color_steps.specs.Bounds.{CanTouch, CanLook, CanLookAll, CanTakeOff, CanGoOn, CanStep, CanStepAll}
use Rattle.two_color_steps.proofs.ModelLaws.{touch_rests, touch_refuses, touch_colors, touch_passes, next_none, next_colors, next_passes, step_rests, step_next, step_off}
use Rattle.bipartition.proofs.Colouring.{colour_le, sides_length, coloured_le}
use Rattle.words.proofs.Regions.{region_all}
use Rattle.two_color.proofs.Held.{newest, newest_same, held_same, Rows}
use Rattle.two_color.proofs.Showing.{Within, within_trans, within_put, Shows, Shown, shown_within, color_shows}
use Rattle.bipartition.proofs.Turns.{Stage, stage, begun, turn_from, turn}

touch_all_snoc : (c : ℕ) (ws : List ℕ) (w : ℕ) (r : Search) → touch_all c (ws ++ (w ∷ [])) r ≡ touch c w (touch_all c ws r)
unfolding touch_all
touch_all_snoc c [] w r = refl
touch_all_snoc c (v ∷ ws) w r = touch_all_snoc c ws w (touch c v r)

module _ (u p : ℕ) (small : Small u p) (s₀ : List ℕ) (fits : u + 4 * p + 5 ≤ length s₀) where
  -- ── neighbours ──

  refuse_shows : (s : List ℕ) → Within u (u + 4 * p + 5) s₀ s → (word (put_word s (refused_place u p) 1) (refused_place u p) ≡ 1) × Within u (u + 4 * p + 5) s₀ (put_word s (refused_place u p) 1)
  refuse_shows s f = (
    here s (refused_place u p) 1 (omega (arith, f.len)) (omega arith),
    within_trans f (within_put u (u + 4 * p + 5) s (refused_place u p) 1 (omega arith) (omega arith)),
  )

  touch_shows : (c w : ℕ) → c ≤ 1 → w < p → (s : List ℕ) (r : Search) (k : ℕ) → Shown u p s₀ s r k → Shown u p s₀ (touch_m u p (1 - c) w s) (touch c w r) k
  unfolding touch
  touch_shows c w two below s refused k h = go (ℕ_discrete (word s (colour_place u p w)) (1 - c)) (ℕ_discrete (word s (colour_place u p w)) 2)
    where
      go : Dec (word s (colour_place u p w) ≡ 1 - c) → Dec (word s (colour_place u p w) ≡ 2) → Shown u p s₀ (touch_m u p (1 - c) w s) refused k
      go (yes e) d = rw (touch_passes u p s (1 - c) w e) h
      go (no n) (yes e) = rw (touch_rests u p s (1 - c) w n e (λ z. omega (arith, h.0))) h
      go (no n) (no m) = rw (touch_refuses u p s (1 - c) w n m) (refuse_shows s h.1)
  touch_shows c w two below s (going so_far stack) k x = go (ℕ_discrete (colour_of w so_far) c) (ℕ_discrete (colour_of w so_far) 2)
    where
      e : word s (colour_place u p w) ≡ colour_of w so_far
      e = x.core.colours w below

      go : Dec (colour_of w so_far ≡ c) → Dec (colour_of w so_far ≡ 2) → Shown u p s₀ (touch_m u p (1 - c) w s) (touch c w (going so_far stack)) k
      go (yes q) d =
          rw (touch_refuses u p s (1 - c) w (λ g. omega (arith, e)) (λ g. omega (arith, e)), eq-eqb (colour_of w so_far) c q)
          (refuse_shows s x.core.frame)
      go (no q) (yes z) =
          rw (touch_colors u p s (1 - c) w (λ g. omega (arith, e)) (e ∙ z) x.core.refusal, ne_eqb (colour_of w so_far) c q, eq-eqb (colour_of w so_far) 2 z)
          (color_shows u p small s₀ fits s so_far stack k w (1 - c) below (omega arith) z x).0
      go (no q) (no z) =
          rw (touch_passes u p s (1 - c) w (omega (arith, e, colour_le p so_far x.core.each_once w)), ne_eqb (colour_of w so_far) c q, ne_eqb (colour_of w so_far) 2 z) x

  touch_fits : (c w : ℕ) → c ≤ 1 → w < p → (s : List ℕ) (r : Search) (k : ℕ) → Shown u p s₀ s r k → CanTouch u p (1 - c) w s
  touch_fits c w two below s refused k h = record { colour = omega (arith, h.1.len); paints = λ e z. absurd (omega (arith, h.0)) }
  touch_fits c w two below s (going so_far stack) k x =
      record {
        colour = omega (arith, x.core.frame.len);
        paints = λ e z. (color_shows u p small s₀ fits s so_far stack k w (1 - c) below (omega arith) (sym (x.core.colours w below) ∙ e) x).1;
      }

  -- the first n words of a row, which the search doesn't change
  module _ (c : ℕ) (two : c ≤ 1) (row : ℕ) (above : u + 4 * p + 5 ≤ row) (s : List ℕ) (r : Search) (k : ℕ) (x : Shown u p s₀ s r k) where
    looks_show : (n : ℕ) → ((i : ℕ) → i < n → word s₀ (row + i) < p) → Shown u p s₀ (looks_m u p (1 - c) row n s) (touch_all c (region s₀ row n) r) k
    unfolding looks_m look_m region touch_all
    looks_show zero a = x
    looks_show (suc n) a =
        let ws : List ℕ = region s₀ row n in
        let w : ℕ = word s₀ (row + n) in
        let t : List ℕ = looks_m u p (1 - c) row n s in
        let old : Shown u p s₀ t (touch_all c ws r) k = looks_show n (λ i l. a i (omega arith)) in
        let e : word t (row + n) ≡ w = (shown_within u p s₀ t (touch_all c ws r) k old).over (row + n) (omega arith) in
        rw (touch_all_snoc c ws w r, e) (touch_shows c w two (a n (omega arith)) t (touch_all c ws r) k old)

    -- each of them can be looked at
    looks_fit : (n : ℕ) → row + n ≤ length s₀ → ((i : ℕ) → i < n → word s₀ (row + i) < p) → (t : ℕ) → t < n → CanLook u p (1 - c) (row + t) (looks_m u p (1 - c) row t s)
    looks_fit n inside a t l =
        let y : List ℕ = looks_m u p (1 - c) row t s in
        let old : Shown u p s₀ y (touch_all c (region s₀ row t) r) k = looks_show t (λ i m. a i (omega arith)) in
        let f : Within u (u + 4 * p + 5) s₀ y = shown_within u p s₀ y (touch_all c (region s₀ row t) r) k old in
        let e : word y (row + t) ≡ word s₀ (row + t) = f.over (row + t) (omega arith) in
        record { here = omega (arith, f.len); touches = rw e (touch_fits c (word s₀ (row + t)) two (a t l) y (touch_all c (region s₀ row t) r) k old) }

  -- ── a word of the state ──

  -- the next party or the height is written
  put_shows :
      (s : List ℕ) (so_far : Colouring) (stack : List ℕ) (k : ℕ) → Shows u p s₀ s so_far stack k → (i x : ℕ) → u + 4 * p + 1 ≤ i → i ≤ u + 4 * p + 2 →
      (stack' : List ℕ) (k' : ℕ) → length stack' ≤ length stack → All (λ v. (v < p) × (colour_of v so_far ≤ 1)) stack' → newest s (stack_place u p) (length stack') ≡ stack' →
      word (put_word s i x) (next_place u p) ≡ k' → word (put_word s i x) (stack_count u p) ≡ length stack' → Shows u p s₀ (put_word s i x) so_far stack' k'
  put_shows s so_far stack k g i x lo hi stack' k' less waiters waiting party height =
      let t : List ℕ = put_word s i x in
      let many : length so_far ≤ p = coloured_le p so_far g.core.each_once in
      let both : length (side 0 so_far) + length (side 1 so_far) ≡ length so_far = sides_length p so_far g.core.each_once in
      let tall : length stack ≤ length so_far = g.core.high in
      let same : (j : ℕ) → j < u + 4 * p + 1 → word t j ≡ word s j = λ j h. away s i j x (λ e. omega arith) in
      record {
        core = record {
          each_once = g.core.each_once;
          high = omega arith;
          waiters = waiters;
          frame = within_trans g.core.frame (within_put u (u + 4 * p + 5) s i x (omega arith) (omega arith));
          refusal = same (refused_place u p) (omega arith) ∙ g.core.refusal;
          party = party;
          height = height;
          colours = λ v h. same (colour_place u p v) (omega arith) ∙ g.core.colours v h;
          waiting = newest_same s t (stack_place u p) (length stack') (λ j l h. same j (omega arith)) ∙ waiting;
        };
        lefts = held_same t (away s i (left_count u p) x (λ e. omega arith)) (λ j l h. same j (omega arith)) g.lefts;
        rights = held_same t (away s i (right_count u p) x (λ e. omega arith)) (λ j l h. same j (omega arith)) g.rights;
      }

  module _ (d : ℕ) (xs : List Appt) (rows : Rows u p d (λ v. neighbours v xs) s₀) (met : (v : ℕ) → All (λ w. w < p) (neighbours v xs)) (inside : (v : ℕ) → v < p → row_place u p d v + length (neighbours v xs) ≤ length s₀) where
    -- ── a party comes off ──

    row_shows : (v : ℕ) → v < p → (s : List ℕ) (so_far : Colouring) (stack : List ℕ) (k : ℕ) → colour_of v so_far ≤ 1 → Shows u p s₀ s so_far stack k → Shown u p s₀ (touch_all_m u p v s) (touch_all (colour_of v so_far) (neighbours v xs) (going so_far stack)) k × CanLookAll u p v s
    unfolding touch_all_m
    row_shows v below s so_far stack k two x =
        let row : ℕ = u + 6 * p + 5 + d * v in
        let n : ℕ = length (neighbours v xs) in
        let c : ℕ = colour_of v so_far in
        let c1 : word s (colour_place u p v) ≡ c = x.core.colours v below in
        let r1 : word s (row_start u p v) ≡ row = x.core.frame.over (row_start u p v) (omega arith) ∙ rows.starts v below in
        let n1 : word s (row_count u p v) ≡ n = x.core.frame.over (row_count u p v) (omega arith) ∙ (rows.held v below).count in
        let is_row : region s₀ row n ≡ neighbours v xs = (rows.held v below).words in
        let members : All (λ w. w < p) (region s₀ row n) = rw is_row (met v) in
        let each : (i : ℕ) → i < n → word s₀ (row + i) < p = region_all (λ w. w < p) s₀ row n members in
        let other : 1 - c % 2 ≡ 1 - c = omega arith in
        let done : Shown u p s₀ (looks_m u p (1 - c) row n s) (touch_all c (neighbours v xs) (going so_far stack)) k =
        rw is_row at (looks_show c two row (omega arith) s (going so_far stack) k x n each) in (
          rw (c1, other, r1, n1) done,
          record {
            looks = λ t l. rw (c1, other, r1) (looks_fit c two row (omega arith) s (going so_far stack) k x n (inside v below) each t (omega (arith, n1)));
          },
        )

    off_shows : (s : List ℕ) (so_far : Colouring) (v : ℕ) (stack : List ℕ) (k : ℕ) → Shows u p s₀ s so_far (v ∷ stack) k → Shown u p s₀ (take_off_m u p (suc (length stack)) s) (pop xs (going so_far (v ∷ stack))) k × CanTakeOff u p (suc (length stack)) s
    unfolding take_off_m pop newest
    off_shows s so_far v stack k x =
        let all : word s (u + 2 * p + length stack) ∷ newest s (stack_place u p) (length stack) ≡ v ∷ stack = x.core.waiting in
        let top : word s (u + 2 * p + length stack) ≡ v = cc in
        let rest : newest s (stack_place u p) (length stack) ≡ stack = cc in
        let less : suc (length stack) - 1 ≡ length stack = omega arith in
        let t : List ℕ = put_word s (stack_count u p) (length stack) in
        let many : length so_far ≤ p = coloured_le p so_far x.core.each_once in
        let tall : suc (length stack) ≤ length so_far = x.core.high in
        let popped : Shows u p s₀ t so_far stack k =
        put_shows s so_far (v ∷ stack) k x (stack_count u p) (length stack) (omega arith) (omega arith) stack k (omega arith) x.core.waiters.1 rest
        (away s (stack_count u p) (next_place u p) (length stack) (λ e. omega arith) ∙ x.core.party)
        (here s (stack_count u p) (length stack) (omega (arith, x.core.frame.len)) (omega (arith, small.few))) in
        rw (less, top) (row_shows v x.core.waiters.0.0 t so_far stack k x.core.waiters.0.1 popped)

    -- ── the next party ──

    passed : (s : List ℕ) (so_far : Colouring) (k : ℕ) → k < p → Shows u p s₀ s so_far [] k → Shows u p s₀ (put_word s (next_place u p) (k + 1)) so_far [] (suc k)
    unfolding newest
    passed s so_far k below x =
        put_shows s so_far [] k x (next_place u p) (k + 1) (omega arith) (omega arith) [] (suc k) (omega arith) tt refl
        (here s (next_place u p) (k + 1) (omega (arith, x.core.frame.len)) (omega (arith, small.few)) ∙ omega arith)
        (away s (next_place u p) (stack_count u p) (k + 1) (λ e. omega arith) ∙ x.core.height)

    next_fits : (s : List ℕ) (so_far : Colouring) (k : ℕ) → Shows u p s₀ s so_far [] k → CanGoOn u p s
    next_fits s so_far k x =
        record {
          paints = rw x.core.party (λ below e.
              (color_shows u p small s₀ fits (put_word s (next_place u p) (k + 1)) so_far [] (suc k) k 1 below (omega arith) (sym (x.core.colours k below) ∙ e) (passed s so_far k below x)).1);
        }

    next_shows : (s : List ℕ) (so_far : Colouring) (k : ℕ) → k < p → Shows u p s₀ s so_far [] k → Shown u p s₀ (next_party_m u p s) (begun k so_far) (suc k)
    unfolding begun
    next_shows s so_far k below x =
        let e : word s (colour_place u p k) ≡ colour_of k so_far = x.core.colours k below in
        elim (ℕ_discrete (colour_of k so_far) 2) [
          | yes q ↦
              rw (next_colors u p s k x.core.party below (e ∙ q), eq-eqb (colour_of k so_far) 2 q)
              (color_shows u p small s₀ fits (put_word s (next_place u p) (k + 1)) so_far [] (suc k) k 1 below (omega arith) q (passed s so_far k below x)).0
          | no q ↦ rw (next_passes u p s k x.core.party below (λ g. q (sym e ∙ g)), ne_eqb (colour_of k so_far) 2 q) (passed s so_far k below x)
        ]

    -- ── a step ──

    abbrev At : List ℕ → Stage → Type 0
    At s t = Shown u p s₀ s t.search t.next

    step_shows : (s : List ℕ) (r : Search) (k : ℕ) → Shown u p s₀ s r k → At (step_m u p s) (turn_from p xs r k)
    unfolding turn_from
    step_shows s refused k h = rw (step_rests u p s (λ e. omega (arith, h.0))) h
    step_shows s (going so_far (v ∷ stack)) k x =
        rw (step_off u p s x.core.refusal (λ e. omega (arith, x.core.height)), x.core.height) (off_shows s so_far v stack k x).0
    step_shows s (going so_far []) k x =
        let e : step_m u p s ≡ next_party_m u p s = step_next u p s x.core.refusal x.core.height in
        elim (dec_lt k p) [
          | yes h ↦ rw (e, lt-ltb k p h) (next_shows s so_far k h x)
          | no h ↦ rw (e, next_none u p s (omega (arith, x.core.party)), le-ltb k p (omega arith)) x
        ]

    -- it can be made
    step_fits : (s : List ℕ) (r : Search) (k : ℕ) → Shown u p s₀ s r k → CanStep u p s
    step_fits s refused k h = record { next = λ z e. absurd (omega (arith, h.0)); off = λ z n. absurd (omega (arith, h.0)) }
    step_fits s (going so_far (v ∷ stack)) k x =
        record { next = λ z e. absurd (omega (arith, x.core.height)); off = λ z n. rw x.core.height (off_shows s so_far v stack k x).1 }
    step_fits s (going so_far []) k x = record { next = λ z e. next_fits s so_far k x; off = λ z n. absurd (n x.core.height) }

    -- n steps are n turns
    pub steps_show : (n : ℕ) → Shows u p s₀ s₀ [] [] 0 → At (steps_m u p n s₀) (iterate n (turn p xs) (stage (going [] []) 0))
    unfolding steps_m iterate
    steps_show zero x = x
    steps_show (suc n) x =
        let last : Stage = iterate n (turn p xs) (stage (going [] []) 0) in
        let more : At (step_m u p (steps_m u p n s₀)) (turn p xs last) = step_shows (steps_m u p n s₀) last.search last.next (steps_show n x) in
        rw (iterate_suc_out n (turn p xs) (stage (going [] []) 0)) more

    pub steps_fit : (n : ℕ) → Shows u p s₀ s₀ [] [] 0 → CanStepAll u p n s₀
    steps_fit n x =
        record {
          steps = λ k l.
              let t : Stage = iterate k (turn p xs) (stage (going [] []) 0) in
              step_fits (steps_m u p k s₀) t.search t.next (steps_show k x);
        }
