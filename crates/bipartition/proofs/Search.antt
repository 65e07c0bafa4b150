-- The search of `two_color`, a party coming off the stack at a time. Every coloured party either waits on the stack, and is
-- then reached from the start by a walk whose length fits its colour, or is settled: all its neighbours have the other
-- colour. So two neighbours of equal colour are both reached and close an odd round. Each party is pushed once, when it is
-- coloured, so that P steps empty the stack. Assumes nothing.
use Prim.Native.Nat.{ℕ, ◌+◌, ◌-◌, ◌≤◌, ◌<◌}
use mathlib.Core.Path.{◌≡◌, refl, ◌∙◌}
use mathlib.Core.List.{List, [], ◌∷◌}
use mathlib.Core.Logic.{◌⊎◌, inl, inr, ⊎_elim}
use native.Mathlib.Omega.{arith}
use native.Mathlib.Decide.{ℕ_discrete}
use borrow.Author.Tests.{eq-eqb, ne_eqb}
use lib.ListN.{length}
use Rattle.words.specs.Basics.{count, All}
use Rattle.words.proofs.Sums.{is_same, is_cases, all_map}
use Rattle.appointments.specs.Appointments.{Appt}
use Rattle.appointments.specs.Rounds.{Joined, OddRound}
use Rattle.appointments.proofs.Loads.{Listed}
use Rattle.bipartition.specs.TwoColor.{ColouredParty, Colouring, coloured, colour_of, neighbours, Search, going, refused, touch, touch_all, pop}
use Rattle.bipartition.proofs.Walks.{Reached, reached_next, equal_neighbours, joined_sym, all_joined}
use Rattle.bipartition.proofs.NeighbourLaws.{all_neighbours, neighbours_all}
use Rattle.bipartition.proofs.Colouring.{colour_new, colour_other, colour_stays, still_coloured, EachOnce, colour_le, coloured_le}

-- ── what holds while a start is worked off ──

-- all neighbours of a party have the other colour
abbrev pub Settled : List Appt → Colouring → ℕ → Type 0
Settled xs so_far u = (w : ℕ) → Joined xs u w → colour_of u so_far + colour_of w so_far ≡ 1

-- a party waits to come off, reached from the start s
pub record Waits (xs : List Appt) (s : ℕ) (so_far : Colouring) (waiting : List ℕ) (u : ℕ) : Type 0 where
  pub listed : 0 < count u waiting
  pub reached : Reached xs s u (colour_of u so_far)

-- a party waits or is settled
abbrev pub Known : List Appt → ℕ → Colouring → List ℕ → ℕ → Type 0
Known xs s so_far waiting u = Waits xs s so_far waiting u ⊎ Settled xs so_far u

-- The start is s. The parties up to it are coloured, and so are those that wait; every coloured party waits or is settled.
pub record Going (P : ℕ) (xs : List Appt) (s : ℕ) (so_far : Colouring) (waiting : List ℕ) : Type 0 where
  pub each_once : EachOnce P so_far
  pub early : (u : ℕ) → u ≤ s → colour_of u so_far ≤ 1
  pub waiters : All (λ u. colour_of u so_far ≤ 1) waiting
  pub each : (u : ℕ) → colour_of u so_far ≤ 1 → Known xs s so_far waiting u

-- ── one more party is coloured ──

-- a settled party stays settled
settled_stays : (xs : List Appt) (m : ColouredParty) (cs : Colouring) (u : ℕ) → colour_of m.party cs ≡ 2 → Settled xs cs u → Settled xs (m ∷ cs) u
settled_stays xs m cs u free k w j =
    let e : colour_of u cs + colour_of w cs ≡ 1 = k w j in
    omega (arith, colour_stays m cs u free (omega arith), colour_stays m cs w free (omega arith))

-- what is known of each coloured party is known still after one more, which waits
pub known_more : (xs : List Appt) (s : ℕ) (m : ColouredParty) (cs : Colouring) (waiting waiting' : List ℕ) → colour_of m.party cs ≡ 2 → Reached xs s m.party m.colour → 0 < count m.party waiting' → ((u : ℕ) → count u waiting ≤ count u waiting') → ((u : ℕ) → colour_of u cs ≤ 1 → Known xs s cs waiting u) → (u : ℕ) → colour_of u (m ∷ cs) ≤ 1 → Known xs s (m ∷ cs) waiting' u
known_more xs s m cs waiting waiting' free new own wider old u h = go (ℕ_discrete u m.party)
  where
    as_before : (u ≡ m.party → ⊥) → Known xs s cs waiting u → Known xs s (m ∷ cs) waiting' u
    as_before n (inl k) = inl (record { listed = omega (arith, wider u, k.listed); reached = rw (colour_other m cs u n) k.reached })
    as_before n (inr k) = inr (settled_stays xs m cs u free k)

    go : Dec (u ≡ m.party) → Known xs s (m ∷ cs) waiting' u
    go (yes e) = inl (record { listed = rw e own; reached = rw (colour_new m cs u e, e) new })
    go (no n) = as_before n (old u (omega (arith, colour_other m cs u n)))

module _ (P : ℕ) (xs : List Appt) (s v w : ℕ) (cs : Colouring) (stack : List ℕ) where
  -- a neighbour without a colour is reached by one more step
  push_reached : Going P xs s cs (v ∷ stack) → Joined xs v w → colour_of w cs ≡ 2 → Reached xs s w (1 - colour_of v cs)
  push_reached g j free =
      ⊎_elim
      (λ k. reached_next w (1 - colour_of v cs) (omega (arith, g.waiters.0)) j k.reached)
      (λ k. absurd (omega (arith, k w j)))
      (g.each v g.waiters.0)

  -- and gets the other colour and is pushed
  push_going : Going P xs s cs (v ∷ stack) → Joined xs v w → w < P → colour_of w cs ≡ 2 → Going P xs s (coloured w (1 - colour_of v cs) ∷ cs) (v ∷ w ∷ stack)
  unfolding count
  push_going g j below free =
      let m : ColouredParty = coloured w (1 - colour_of v cs) in
      let stays : (u : ℕ) → colour_of u cs ≤ 1 → colour_of u (m ∷ cs) ≤ 1 = λ u h. still_coloured m cs u free h in
      record {
        each_once = (below, omega arith, free, g.each_once);
        early = λ u h. stays u (g.early u h);
        waiters = (stays v g.waiters.0, (omega (arith, colour_new m cs w refl), all_map stays stack g.waiters.1));
        each = known_more xs s m cs (v ∷ stack) (v ∷ w ∷ stack) free (push_reached g j free) (omega (arith, is_same w)) (λ u. omega arith) g.each;
      }

-- ── the neighbours of the party that came off ──

-- From so_far and stack to so_far' and stack', v being worked off: the neighbours ws are looked at, each has the other colour,
-- and as many parties were coloured as pushed.
record Turned (P : ℕ) (xs : List Appt) (s v : ℕ) (so_far : Colouring) (stack ws : List ℕ) (so_far' : Colouring) (stack' : List ℕ) : Type 0 where
  inv : Going P xs s so_far' (v ∷ stack')
  grown : (u : ℕ) → colour_of u so_far ≤ 1 → colour_of u so_far' ≡ colour_of u so_far
  met : All (λ w. colour_of v so_far' + colour_of w so_far' ≡ 1) ws
  pushes : length so_far' + length stack ≡ length so_far + length stack'

-- or it refused, and there is an odd round
abbrev Touched : ℕ → List Appt → ℕ → ℕ → Colouring → List ℕ → List ℕ → Search → Type 0
Touched P xs s v so_far stack ws (going so_far' stack') = Turned P xs s v so_far stack ws so_far' stack'
Touched P xs s v so_far stack ws refused = OddRound xs

module _ (P : ℕ) (xs : List Appt) (s v : ℕ) where
  -- two neighbours of equal colour: neither is settled, so both are reached
  equal_refused : (w : ℕ) (cs : Colouring) (stack : List ℕ) → Going P xs s cs (v ∷ stack) → Joined xs v w → colour_of w cs ≡ colour_of v cs → OddRound xs
  equal_refused w cs stack g j e = go (g.each v h) (g.each w (omega arith))
    where
      h : colour_of v cs ≤ 1
      h = g.waiters.0

      go : Known xs s cs (v ∷ stack) v → Known xs s cs (v ∷ stack) w → OddRound xs
      go (inl a) (inl b) = equal_neighbours j a.reached (rw e at b.reached)
      go (inr a) k = absurd (omega (arith, a w j))
      go (inl a) (inr b) = absurd (omega (arith, b v (joined_sym xs v w j)))

  -- a neighbour without a colour gets one and is pushed
  turned_push : (w : ℕ) (cs : Colouring) (stack : List ℕ) → Going P xs s cs (v ∷ stack) → Joined xs v w → w < P → colour_of w cs ≡ 2 → Turned P xs s v cs stack (w ∷ []) (coloured w (1 - colour_of v cs) ∷ cs) (w ∷ stack)
  turned_push w cs stack g j below free =
      let m : ColouredParty = coloured w (1 - colour_of v cs) in
      let grown : (u : ℕ) → colour_of u cs ≤ 1 → colour_of u (m ∷ cs) ≡ colour_of u cs = λ u. colour_stays m cs u free in
      record {
        inv = push_going P xs s v w cs stack g j below free;
        grown = grown;
        met = (omega (arith, g.waiters.0, grown v g.waiters.0, colour_new m cs w refl), tt);
        pushes = omega arith;
      }

  -- one that has the other colour changes nothing
  turned_stay : (w : ℕ) (cs : Colouring) (stack : List ℕ) → Going P xs s cs (v ∷ stack) → (colour_of w cs ≡ colour_of v cs → ⊥) → (colour_of w cs ≡ 2 → ⊥) → Turned P xs s v cs stack (w ∷ []) cs stack
  turned_stay w cs stack g n₁ n₂ =
      record {
        inv = g;
        grown = λ u h. refl;
        met = (omega (arith, g.waiters.0, colour_le P cs g.each_once w), tt);
        pushes = refl;
      }

  touched_one : (w : ℕ) (cs : Colouring) (stack : List ℕ) → Going P xs s cs (v ∷ stack) → Joined xs v w → w < P → Touched P xs s v cs stack (w ∷ []) (touch (colour_of v cs) w (going cs stack))
  unfolding touch
  touched_one w cs stack g j below = go (ℕ_discrete (colour_of w cs) (colour_of v cs)) (ℕ_discrete (colour_of w cs) 2)
    where
      go : Dec (colour_of w cs ≡ colour_of v cs) → Dec (colour_of w cs ≡ 2) → Touched P xs s v cs stack (w ∷ []) (touch (colour_of v cs) w (going cs stack))
      go (yes e) d = rw (eq-eqb (colour_of w cs) (colour_of v cs) e) (equal_refused w cs stack g j e)
      go (no n₁) (yes e) =
          rw (ne_eqb (colour_of w cs) (colour_of v cs) n₁, eq-eqb (colour_of w cs) 2 e) (turned_push w cs stack g j below e)
      go (no n₁) (no n₂) =
          rw (ne_eqb (colour_of w cs) (colour_of v cs) n₁, ne_eqb (colour_of w cs) 2 n₂) (turned_stay w cs stack g n₁ n₂)

  -- one neighbour, then the others
  turned_then : {w : ℕ} {cs cs' cs'' : Colouring} {stack stack' stack'' ws : List ℕ} → Turned P xs s v cs stack (w ∷ []) cs' stack' → Turned P xs s v cs' stack' ws cs'' stack'' → Turned P xs s v cs stack (w ∷ ws) cs'' stack''
  turned_then {w} {cs} {cs'} a b =
      record {
        inv = b.inv;
        grown = λ u h. b.grown u (omega (arith, a.grown u h)) ∙ a.grown u h;
        met = (omega (arith, a.met.0, b.grown v (omega (arith, a.met.0)), b.grown w (omega (arith, a.met.0))), b.met);
        pushes = omega (arith, a.pushes, b.pushes);
      }

  touched_then : (ws : List ℕ) {w : ℕ} {cs cs' : Colouring} {stack stack' : List ℕ} → Turned P xs s v cs stack (w ∷ []) cs' stack' → (r : Search) → Touched P xs s v cs' stack' ws r → Touched P xs s v cs stack (w ∷ ws) r
  touched_then ws a (going cs'' stack'') b = turned_then a b
  touched_then ws a refused b = b

  touch_refused : (c : ℕ) (ws : List ℕ) → touch_all c ws refused ≡ refused
  unfolding touch_all touch
  touch_refused c [] = refl
  touch_refused c (w ∷ ws) = touch_refused c ws

  touched_all : (ws : List ℕ) → All (λ w. Joined xs v w × (w < P)) ws → (cs : Colouring) (stack : List ℕ) → Going P xs s cs (v ∷ stack) → Touched P xs s v cs stack ws (touch_all (colour_of v cs) ws (going cs stack))
  unfolding touch_all
  touched_all [] h cs stack g = record { inv = g; grown = λ u k. refl; met = tt; pushes = refl }
  touched_all (w ∷ ws) h cs stack g = go (touch (colour_of v cs) w (going cs stack)) (touched_one w cs stack g h.0.0 h.0.1) (touched_all ws h.1)
    where
      go : (r : Search) → Touched P xs s v cs stack (w ∷ []) r → ((cs' : Colouring) (stack' : List ℕ) → Going P xs s cs' (v ∷ stack') → Touched P xs s v cs' stack' ws (touch_all (colour_of v cs') ws (going cs' stack'))) → Touched P xs s v cs stack (w ∷ ws) (touch_all (colour_of v cs) ws r)
      go refused t later = rw (touch_refused (colour_of v cs) ws) t
      go (going cs' stack') t later =
          touched_then ws t (touch_all (colour_of v cs) ws (going cs' stack'))
          (rw (t.grown v g.waiters.0) at (later cs' stack' t.inv))

-- ── a party comes off ──

-- the search goes on as it should, or it refused and there is an odd round
abbrev pub Sound : ℕ → List Appt → ℕ → Search → Type 0
Sound P xs s (going so_far stack) = Going P xs s so_far stack
Sound P xs s refused = OddRound xs

-- what is still to come off: the parties without a colour and those on the stack
abbrev pub to_come : ℕ → Search → ℕ
to_come P (going so_far stack) = P + length stack - length so_far
to_come P refused = 0

module _ (P : ℕ) (xs : List Appt) (s : ℕ) (listed : All (Listed P) xs) where
  -- v, its neighbours all looked at, is settled and waits no more
  settle : (v : ℕ) (cs cs' : Colouring) (stack stack' : List ℕ) → Turned P xs s v cs stack (neighbours v xs) cs' stack' → Going P xs s cs' stack'
  unfolding count
  settle v cs cs' stack stack' t =
      record { each_once = t.inv.each_once; early = t.inv.early; waiters = t.inv.waiters.1; each = λ u h. go u (t.inv.each u h) }
    where
      mine : Settled xs cs' v
      mine = neighbours_all _ v xs t.met

      go : (u : ℕ) → Known xs s cs' (v ∷ stack') u → Known xs s cs' stack' u
      go u (inr k) = inr k
      go u (inl k) =
          ⊎_elim
          (λ c. inr (rw c.0 mine))
          (λ c. inl (record { listed = omega (arith, k.listed, c.1); reached = k.reached }))
          (is_cases u v)

  pub neighbours_below : (v : ℕ) → All (λ w. Joined xs v w × (w < P)) (neighbours v xs)
  neighbours_below v = all_neighbours _ v xs (λ w j. (j, all_joined (λ u x. x < P) xs (all_map (λ x k. (k.1, k.0)) xs listed) v w j))

  -- One party off: the search stays sound, and there is less to come.
  pub pop_sound : (v : ℕ) (cs : Colouring) (stack : List ℕ) → Going P xs s cs (v ∷ stack) → Sound P xs s (pop xs (going cs (v ∷ stack))) × (to_come P (pop xs (going cs (v ∷ stack))) < to_come P (going cs (v ∷ stack)))
  unfolding pop
  pop_sound v cs stack g = go (touch_all (colour_of v cs) (neighbours v xs) (going cs stack)) (touched_all P xs s v (neighbours v xs) (neighbours_below v) cs stack g)
    where
      go : (r : Search) → Touched P xs s v cs stack (neighbours v xs) r → Sound P xs s r × (to_come P r < to_come P (going cs (v ∷ stack)))
      go refused t = (t, omega (arith, coloured_le P cs g.each_once))
      go (going cs' stack') t = (settle v cs cs' stack stack' t, omega (arith, t.pushes, coloured_le P cs g.each_once, coloured_le P cs' t.inv.each_once))
