-- The walks from all parties as one walk whose written pairs are never set apart: its written pairs are those of the cycles,
-- one cycle after the other. A visited party writes nothing, and every cycle is even, so that dealing along all of them is
-- dealing cycle by cycle. Assumes nothing.
use Prim.Native.Nat.{ℕ, zero, suc, ◌+◌, ◌*◌, ◌%◌}
use mathlib.Core.Path.{◌≡◌, refl, sym, ◌∙◌, ap, subst}
use mathlib.Core.Bool.{Bool, true, false}
use mathlib.Core.List.{List, [], ◌∷◌, ◌++◌, reverse, append_assoc, append-nil, reverse-append}
use native.Mathlib.Omega.{arith}
use native.Mathlib.Nat.{add_comm}
use lib.ListN.{length, length-reverse}
use Rattle.words.specs.Basics.{pick, total, iterate, All, Run, ran, Ran, and_then}
use Rattle.words.proofs.Sums.{is_same, total_append, all_append}
use Rattle.words.proofs.Runs.{iterate_add, iterate_rest}
use Rattle.multigraph.specs.Multigraph.{Pair, Graph, add_edge}
use Rattle.euler.specs.Euler.{Taken, taken, none, first_pair, Step, Walking, standing, follow, walk_step, Tour, walk_from, visited, tour_below, euler_cycles}
use Rattle.euler.specs.Split.{Halves, add_halves, rest, every_other, evens, odds, add_pairs, deal, rbmg_split_into_two}
use Rattle.euler.proofs.Taken.{ends, Found, first_pair_finds, leads_ends}
use Rattle.euler.proofs.Trail.{Trail, aslant, leads_across}
use Rattle.euler.proofs.Walks.{begin, Closed, walk_closes}
use Rattle.euler.proofs.Tours.{in_all, with_cycle, Toured, tour_below_tours, visited_named}

-- ── the walk with something written before ──

-- the same walk, with the pairs `out` written before it
abbrev pub onto : List Pair → Walking → Walking
onto out w = record { stack = w.stack; left = w.left; written = w.written ++ out }

onto_step : (s : ℕ) (out : List Pair) (w : Walking) → walk_step s (onto out w) ≡ onto out (walk_step s w)
unfolding walk_step
onto_step s out w = go w.stack (first_pair (standing s w.stack) w.left)
  where
    go :
        (st : List Step) (t : Taken) →
        follow s (record { stack = st; left = w.left; written = w.written ++ out }) t
        ≡ onto out (follow s (record { stack = st; left = w.left; written = w.written }) t)
    go st (taken p ps) = refl
    go [] none = refl
    go (e ∷ st) none = refl

onto_steps : (s : ℕ) (out : List Pair) (n : ℕ) (w : Walking) → iterate n (walk_step s) (onto out w) ≡ onto out (iterate n (walk_step s) w)
unfolding iterate
onto_steps s out zero w = refl
onto_steps s out (suc n) w = ap (iterate n (walk_step s)) (onto_step s out w) ∙ onto_steps s out n (walk_step s w)

-- ── all parties, straight through ──

-- the walks from the parties below v, as one
unfoldable pub straight : ℕ → List Pair → Walking
straight zero r = begin (reverse r)
straight (suc v) r = iterate (2 * length (straight v r).left) (walk_step v) (straight v r)

-- all the pairs of the cycles, in order
unfoldable pub along : List (List Pair) → List Pair
along [] = []
along (c ∷ cs) = c ++ along cs

-- one cycle more
pub along_more : (cs : List (List Pair)) (c : List Pair) → along (cs ++ (c ∷ [])) ≡ along cs ++ c
unfolding along
along_more [] c = append-nil c
along_more (d ∷ cs) c = ap (λ (l : List Pair). d ++ l) (along_more cs c) ∙ sym (append_assoc d (along cs) c)

-- the sum over all the pairs of the cycles
pub along_total : (f : Pair → ℕ) (cs : List (List Pair)) → total f (along cs) ≡ in_all f cs
unfolding along total
along_total f [] = refl
along_total f (c ∷ cs) = total_append f c (along cs) ∙ ap (λ (x : ℕ). total f c + x) (along_total f cs)

-- What the definition's tour has come to before party v; every cycle is even.
pub record TourAt (v : ℕ) (r : List Pair) (t : Tour) : Type 0 where
  pub runs : tour_below v r ≡ ran t
  pub toured : Toured r v t
  pub even : All (λ (c : List Pair). length c % 2 ≡ 0) t.cycles

-- What the straight walk has come to before party v, against that tour.
pub record SameTour (v : ℕ) (r : List Pair) : Type 0 where
  pub tour : Tour
  pub so_far : TourAt v r tour
  pub bare : (straight v r).stack ≡ []
  pub left : (straight v r).left ≡ tour.left
  pub written : reverse (straight v r).written ≡ along tour.cycles

-- ── the cycles are even ──

trail_even :
    (side : ℕ → ℕ) (a b : ℕ) (ps : List Pair) → Trail a b ps → total (aslant side) ps ≡ 0 →
    (side a + side b + length ps) % 2 ≡ 0
unfolding total
trail_even side a b [] e z = omega (arith, ap side e)
trail_even side a b (p ∷ ps) (c, lead, t) z =
    omega (arith, leads_across side p a c lead (omega arith), trail_even side c b ps t (omega arith))

-- the written pairs of a closed walk are even
pub closed_even :
    (side : ℕ → ℕ) (s : ℕ) (r : List Pair) (w : Walking) → total (aslant side) r ≡ 0 → Closed s r w →
    length w.written % 2 ≡ 0
closed_even side s r w z c =
    omega (arith, trail_even side s s w.written c.trail (omega (arith, c.whole (aslant side))))

-- ── one party more ──

-- a party that no remaining pair names has no first pair
pub none_there : (v : ℕ) (ps : List Pair) → total (ends v) ps ≡ 0 → first_pair v ps ≡ none
none_there v ps z = go (first_pair v ps) (first_pair_finds v ps)
  where
    go : (t : Taken) → Found v (ends v) ps t → t ≡ none
    go none h = refl
    go (taken q os) h = absurd (omega (arith, h.whole (ends v), leads_ends h.leads v, is_same v))

-- a walk that stands at its start with no pair there has ended
pub ended_rests : (v : ℕ) (w : Walking) → w.stack ≡ [] → first_pair v w.left ≡ none → walk_step v w ≡ w
unfolding walk_step
ended_rests v w e n = go w.stack e
  where
    go :
        (st : List Step) → st ≡ [] →
        follow v (record { stack = st; left = w.left; written = w.written }) (first_pair (standing v st) w.left)
        ≡ record { stack = st; left = w.left; written = w.written }
    go [] e = rw n
    go (x ∷ st) e = let z : ◌≡◌ {A = ℕ} 0 1 = cc in absurd (omega arith)

-- the walk from v over the pairs r, whole
abbrev pub walked : ℕ → List Pair → Walking
walked v r = iterate (2 * length r) (walk_step v) (begin r)

straight_more :
    (v : ℕ) (r left : List Pair) → (straight v r).stack ≡ [] → (straight v r).left ≡ left →
    straight (suc v) r ≡ onto (straight v r).written (walked v left)
unfolding straight
straight_more v r left e l =
    let same : straight v r ≡ onto (straight v r).written (begin left) = rw (← l) (whole (straight v r) e) in
    ap (λ (w : Walking). iterate (2 * length w.left) (walk_step v) w) same
    ∙ onto_steps v (straight v r).written (2 * length left) (begin left)
  where
    whole : (w : Walking) → w.stack ≡ [] → w ≡ onto w.written (begin w.left)
    whole w e = ap (λ (st : List Step). record { stack = st; left = w.left; written = w.written }) e

module _ (side : ℕ → ℕ) (r : List Pair) (slant : total (aslant side) r ≡ 0) (evens_all : (v : ℕ) → total (ends v) r % 2 ≡ 0) where
  -- ── the definition's tour ──

  tour_is : (v : ℕ) (t : Tour) → tour_below v r ≡ ran t → Toured r v t
  tour_is v t e = subst (Ran (Toured r v)) e (tour_below_tours side r slant evens_all v)

  -- before the first party
  pub tour_start : TourAt 0 r (record { cycles = []; left = reverse r })
  unfolding tour_below
  tour_start = record { runs = refl; toured = tour_is 0 (record { cycles = []; left = reverse r }) refl; even = tt }

  -- a visited party
  pub tour_past : (v : ℕ) (t : Tour) → TourAt v r t → visited v t.cycles ≡ true → TourAt (suc v) r t
  unfolding tour_below
  tour_past v t h e =
      let runs : tour_below (suc v) r ≡ ran t =
      ap (λ (x : Run Tour). and_then x (λ u. pick (visited v u.cycles) (ran u) (walk_from v u))) h.runs ∙ rw e in
      record { runs = runs; toured = tour_is (suc v) t runs; even = h.even }

  -- the walk from any other
  pub tour_closed : (v : ℕ) (t : Tour) → TourAt v r t → Closed v t.left (walked v t.left)
  tour_closed v t h = walk_closes v t.left h.toured.even

  pub cycle_even : (v : ℕ) (t : Tour) → TourAt v r t → length (reverse (walked v t.left).written) % 2 ≡ 0
  cycle_even v t h =
      rw length-reverse
      (closed_even side v t.left (walked v t.left) (omega (arith, h.toured.whole (aslant side))) (tour_closed v t h))

  pub tour_walk : (v : ℕ) (t : Tour) → TourAt v r t → visited v t.cycles ≡ false → TourAt (suc v) r (with_cycle t (walked v t.left))
  unfolding tour_below walk_from
  tour_walk v t h e =
      let w : Walking = walked v t.left in
      let c : Closed v t.left w = tour_closed v t h in
      let walks : walk_from v t ≡ ran (with_cycle t w) = rw (c.empty, c.stuck) in
      let runs : tour_below (suc v) r ≡ ran (with_cycle t w) =
      ap (λ (x : Run Tour). and_then x (λ u. pick (visited v u.cycles) (ran u) (walk_from v u))) h.runs ∙ rw e walks in
      record {
        runs = runs;
        toured = tour_is (suc v) (with_cycle t w) runs;
        even =
            all_append (λ (c : List Pair). length c % 2 ≡ 0) t.cycles (reverse w.written ∷ []) h.even (cycle_even v t h, tt);
      }

  -- ── the straight walk beside it ──

  same_past : (v : ℕ) (h : SameTour v r) → visited v h.tour.cycles ≡ true → SameTour (suc v) r
  same_past v h e =
      let t : Tour = h.tour in
      let none_left : first_pair v t.left ≡ none = none_there v t.left (h.so_far.toured.spent v (visited_named v t.cycles e)) in
      let still : walked v t.left ≡ begin t.left =
      iterate_rest (2 * length t.left) (walk_step v) (begin t.left) (ended_rests v (begin t.left) refl none_left) in
      let more : straight (suc v) r ≡ onto (straight v r).written (begin t.left) =
      straight_more v r t.left h.bare h.left ∙ ap (onto (straight v r).written) still in
      record {
        tour = t;
        so_far = tour_past v t h.so_far e;
        bare = ap (λ (w : Walking). w.stack) more;
        left = ap (λ (w : Walking). w.left) more;
        written = ap (λ (w : Walking). reverse w.written) more ∙ h.written;
      }

  same_walk : (v : ℕ) (h : SameTour v r) → visited v h.tour.cycles ≡ false → SameTour (suc v) r
  same_walk v h e =
      let t : Tour = h.tour in
      let w : Walking = walked v t.left in
      let more : straight (suc v) r ≡ onto (straight v r).written w = straight_more v r t.left h.bare h.left in
      record {
        tour = with_cycle t w;
        so_far = tour_walk v t h.so_far e;
        bare = ap (λ (x : Walking). x.stack) more ∙ (tour_closed v t h.so_far).empty;
        left = ap (λ (x : Walking). x.left) more;
        written =
            ap (λ (x : Walking). reverse x.written) more
            ∙ reverse-append w.written (straight v r).written
            ∙ ap (λ (l : List Pair). l ++ reverse w.written) h.written
            ∙ sym (along_more t.cycles (reverse w.written));
      }

  pub same_tour : (v : ℕ) → SameTour v r
  unfolding straight along
  same_tour zero =
      record {
        tour = record { cycles = []; left = reverse r };
        so_far = tour_start;
        bare = refl;
        left = refl;
        written = refl;
      }
  same_tour (suc v) = go (same_tour v) (visited v (same_tour v).tour.cycles) refl
    where
      go : (h : SameTour v r) (b : Bool) → visited v h.tour.cycles ≡ b → SameTour (suc v) r
      go h true e = same_past v h e
      go h false e = same_walk v h e

  -- after party v's walk its stack is empty and no pair is left there
  pub straight_ended : (v : ℕ) → ((straight (suc v) r).stack ≡ []) × (first_pair v (straight (suc v) r).left ≡ none)
  straight_ended v =
      let h : SameTour (suc v) r = same_tour (suc v) in
      (h.bare, rw h.left (none_there v h.tour.left (h.so_far.toured.below v (omega arith))))

-- ── two ends of one walk ──

-- two states at rest that come from one are the same
pub rests_same {ℓ} : {A : Type ℓ} (f : A → A) (a x y : A) (j k : ℕ) → x ≡ iterate j f a → y ≡ iterate k f a → f x ≡ x → f y ≡ y → x ≡ y
rests_same f a x y j k ex ey rx ry =
    sym (iterate_rest k f x rx)
    ∙ ap (iterate k f) ex
    ∙ sym (iterate_add j k f a)
    ∙ ap (λ (n : ℕ). iterate n f a) (add_comm j k)
    ∙ iterate_add k j f a
    ∙ ap (iterate j f) (sym ey)
    ∙ iterate_rest j f y ry

-- ── dealing straight through ──

-- every other of two lists, where the first is even
pub every_other_even :
    (b : Bool) (xs ys : List Pair) → length xs % 2 ≡ 0 → every_other b (xs ++ ys) ≡ every_other b xs ++ every_other b ys
unfolding every_other
every_other_even b [] ys h = refl
every_other_even true (x ∷ []) ys h = absurd (omega arith)
every_other_even false (x ∷ []) ys h = absurd (omega arith)
every_other_even true (x ∷ y ∷ xs) ys h = ap (λ (l : List Pair). x ∷ l) (every_other_even true xs ys (omega arith))
every_other_even false (x ∷ y ∷ xs) ys h = ap (λ (l : List Pair). y ∷ l) (every_other_even false xs ys (omega arith))

add_pairs_append : (h : Graph) (xs ys : List Pair) → add_pairs h (xs ++ ys) ≡ add_pairs (add_pairs h xs) ys
unfolding add_pairs
add_pairs_append h [] ys = refl
add_pairs_append h (x ∷ xs) ys = add_pairs_append (add_edge h x.first x.second 1 x.bad) xs ys

-- where all cycles are even, dealing goes on along all their pairs
deal_along :
    (h : Halves) (cs : List (List Pair)) → All (λ (c : List Pair). length c % 2 ≡ 0) cs →
    deal h cs
    ≡ record {
      first_half = add_pairs h.first_half (evens (along cs));
      second_half = add_pairs h.second_half (odds (along cs));
    }
unfolding deal along every_other add_pairs
deal_along h [] e = refl
deal_along h (c ∷ cs) e =
    deal_along (record { first_half = add_pairs h.first_half (evens c); second_half = add_pairs h.second_half (odds c) }) cs e.1
    ∙ rw (every_other_even true c (along cs) e.0, every_other_even false c (along cs) e.0, add_pairs_append, add_pairs_append)

-- The halves of a graph, dealt along all the pairs of its cycles.
pub split_along :
    (N : ℕ) (g : Graph) (t : Tour) → TourAt N (rest g) t →
    rbmg_split_into_two N g
    ≡ ran (record {
      first_half = add_pairs (add_halves [] g) (evens (along t.cycles));
      second_half = add_pairs (add_halves [] g) (odds (along t.cycles));
    })
unfolding rbmg_split_into_two euler_cycles
split_along N g t h =
    ap
    (λ (x : Run Tour).
    and_then (and_then x (λ t. ran t.cycles))
    (λ cs. ran (deal (record { first_half = add_halves [] g; second_half = add_halves [] g }) cs)))
    h.runs
    ∙ ap (λ (x : Halves). ran x)
    (deal_along (record { first_half = add_halves [] g; second_half = add_halves [] g }) t.cycles h.even)
