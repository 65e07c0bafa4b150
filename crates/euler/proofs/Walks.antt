-- The walk from one party. It ends; what is written down then is a closed trail; and no party that it names has a pair left.
-- Assumes nothing.
use Prim.Native.Nat.{ℕ, suc, ◌+◌, ◌*◌, ◌%◌, ◌≤◌, ◌<◌}
use mathlib.Core.Path.{◌≡◌, refl, sym, ◌∙◌, ap, subst}
use mathlib.Core.List.{List, [], ◌∷◌}
use mathlib.Core.Logic.{◌⊎◌, inl, inr, ⊎_elim}
use native.Mathlib.Omega.{arith}
use lib.ListN.{length}
use Rattle.words.specs.Basics.{is, total, iterate}
use Rattle.words.proofs.Sums.{is_same, is_pos, is_cases}
use Rattle.words.proofs.Runs.{iterate_keeps, iterate_ends}
use Rattle.multigraph.specs.Multigraph.{Pair}
use Rattle.euler.specs.Euler.{Taken, taken, none, first_pair, other_node, Step, Walking, standing, step_back, follow, walk_step}
use Rattle.euler.proofs.Taken.{ends, Leads, leads_ends, Takes, Found, first_pair_finds}
use Rattle.euler.proofs.Trail.{Trail}

-- the sum of f over the pairs on the stack
abbrev stacked : (Pair → ℕ) → List Step → ℕ
stacked f stack = total (λ (e : Step). f e.pair) stack

-- how often the party v stands on the stack of a walk from s
abbrev on : ℕ → ℕ → List Step → ℕ
on s v stack = is v s + total (λ (e : Step). is v e.to) stack

-- the same walk with another stack
abbrev with_stack : List Step → Walking → Walking
with_stack stack w = record { stack = stack; left = w.left; written = w.written }

-- each pair on the stack leads from where the walk stood to where it led
abbrev Stacked : ℕ → List Step → Type 0
Stacked s [] = Unit {0}
Stacked s (e ∷ stack) = Leads e.pair (standing s stack) e.to × Stacked s stack

-- ── one step ──

-- the walk after taking the pair q, with the pairs os left
abbrev go_on : ℕ → Walking → Pair → List Pair → Walking
go_on s w q os =
    record {
      stack = record { pair = q; to = other_node q (standing s w.stack) } ∷ w.stack;
      left = os;
      written = w.written;
    }

-- what a step of the walk from s makes of w: a pair taken, a step back, or nothing at the end
data Turn (s : ℕ) (w : Walking) : Walking → Type 0 where
  went :
      (q : Pair) (os : List Pair) →
      Takes (standing s w.stack) w.left q os →
      Turn s w (go_on s w q os)
  back :
      (e : Step) (stack : List Step) →
      w.stack ≡ e ∷ stack →
      total (ends e.to) w.left ≡ 0 →
      Turn s w (record { stack = stack; left = w.left; written = e.pair ∷ w.written })
  ended : w.stack ≡ [] → first_pair s w.left ≡ none → Turn s w w

turn : (s : ℕ) (w : Walking) → Turn s w (walk_step s w)
unfolding walk_step
turn s w = go (first_pair (standing s w.stack) w.left) refl (first_pair_finds (standing s w.stack) w.left)
  where
    stuck :
        (stack : List Step) → w.stack ≡ stack → first_pair (standing s stack) w.left ≡ none →
        total (ends (standing s stack)) w.left ≡ 0 → Turn s w (step_back stack w.left w.written)
    stuck [] e n h = rw (← e) (ended e n)
    stuck (x ∷ stack) e n h = back x stack e h

    go :
        (t : Taken) → first_pair (standing s w.stack) w.left ≡ t →
        Found (standing s w.stack) (ends (standing s w.stack)) w.left t → Turn s w (follow s w t)
    go (taken q os) e h = went q os h
    go none e h = stuck w.stack refl e h

-- ── what every step keeps ──

-- A walk from s over the pairs r. What is written down leads from `end` to s, read last first; the stack leads from s to
-- where the walk stands; at every party the number of ends that remain is even, but for where the walk stands and `end`.
-- A party of a written pair has no pair left, unless it is on the stack.
record Walked (s : ℕ) (r : List Pair) (w : Walking) : Type 0 where
  end : ℕ
  whole : (f : Pair → ℕ) → total f w.left + stacked f w.stack + total f w.written ≡ total f r
  stack_leads : Stacked s w.stack
  trail : Trail end s w.written
  parity : (v : ℕ) → (total (ends v) w.left + is v (standing s w.stack) + is v end) % 2 ≡ 0
  spent : (v : ℕ) → 0 < total (ends v) w.written → on s v w.stack ≡ 0 → total (ends v) w.left ≡ 0

-- the party at which the walk stands is on the stack
on_standing : (s v : ℕ) (stack : List Step) → is v (standing s stack) ≤ on s v stack
unfolding total
on_standing s v [] = omega arith
on_standing s v (e ∷ stack) = omega arith

went_keeps :
    (s : ℕ) (r : List Pair) (w : Walking) (q : Pair) (os : List Pair) → Takes (standing s w.stack) w.left q os →
    Walked s r w → Walked s r (go_on s w q os)
unfolding total
went_keeps s r w q os t i =
    record {
      end = i.end;
      whole = λ f. omega (arith, t.whole f, i.whole f);
      stack_leads = (t.leads, i.stack_leads);
      trail = i.trail;
      parity = λ v. omega (arith, t.whole (ends v), i.parity v, leads_ends t.leads v);
      spent = λ v h o. omega (arith, t.whole (ends v), i.spent v h (omega arith));
    }

-- Stuck where no pair is left: by parity the walk stands at the end of what is written.
stuck_at_end :
    (s : ℕ) (r : List Pair) (w : Walking) (i : Walked s r w) → total (ends (standing s w.stack)) w.left ≡ 0 →
    standing s w.stack ≡ i.end
stuck_at_end s r w i z = let x : ℕ = standing s w.stack in is_pos x i.end (omega (arith, i.parity x, is_same x))

back_keeps :
    (s : ℕ) (r : List Pair) (e : Step) (stack : List Step) (left written : List Pair) → total (ends e.to) left ≡ 0 →
    Walked s r (record { stack = e ∷ stack; left = left; written = written }) →
    Walked s r (record { stack = stack; left = left; written = e.pair ∷ written })
unfolding total
back_keeps s r e stack left written z i =
    let met : e.to ≡ i.end = stuck_at_end s r (record { stack = e ∷ stack; left = left; written = written }) i z in
    let lead : Leads e.pair (standing s stack) e.to = i.stack_leads.0 in
    record {
      end = standing s stack;
      whole = λ f. omega (arith, i.whole f);
      stack_leads = i.stack_leads.1;
      trail = (i.end, rw met at lead, i.trail);
      parity = λ v. omega (arith, i.parity v, ap (is v) met);
      spent = λ v h o.
          ⊎_elim (λ c. ap (λ (u : ℕ). total (ends u) left) c.0 ∙ z)
          (λ c. i.spent v (omega (arith, leads_ends lead v, on_standing s v stack)) (omega arith))
          (is_cases v e.to);
    }

turn_keeps : (s : ℕ) (r : List Pair) (w x : Walking) → Turn s w x → Walked s r w → Walked s r x
turn_keeps s r w x (went q os t) i = went_keeps s r w q os t i
turn_keeps s r w x (back e stack q z) i =
    back_keeps s r e stack w.left w.written z (subst (λ (k : List Step). Walked s r (with_stack k w)) q i)
turn_keeps s r w x (ended q n) i = i

-- ── the walk ends ──

-- twice the pairs that remain plus the stack: each step lowers it, until the walk has ended
measure : Walking → ℕ
measure w = 2 * length w.left + length w.stack

-- the walk from s has ended
abbrev Ended : ℕ → Walking → Type 0
Ended s w = (w.stack ≡ []) × (first_pair s w.left ≡ none)

turn_ends : (s : ℕ) (w x : Walking) → Turn s w x → Ended s w ⊎ (measure x < measure w)
unfolding measure
turn_ends s w x (went q os t) = inr (omega (arith, t.shorter))
turn_ends s w x (back e stack q z) = inr (omega (arith, ap length q))
turn_ends s w x (ended q n) = inl (q, n)

ended_stays : (s : ℕ) (w : Walking) → Ended s w → Ended s (walk_step s w)
unfolding walk_step
ended_stays s w h = rw (h.0, h.1) (refl, h.1)

-- a walk from s that begins at the pairs r
abbrev pub begin : List Pair → Walking
begin r = record { stack = []; left = r; written = [] }

begin_walked : (s : ℕ) (r : List Pair) → ((v : ℕ) → total (ends v) r % 2 ≡ 0) → Walked s r (begin r)
unfolding total
begin_walked s r even =
    record {
      end = s;
      whole = λ f. omega arith;
      stack_leads = tt;
      trail = refl;
      parity = λ v. omega (arith, even v);
      spent = λ v h o. absurd (omega arith);
    }

-- What a finished walk from s over the pairs r has come to.
pub record Closed (s : ℕ) (r : List Pair) (w : Walking) : Type 0 where
  pub empty : w.stack ≡ []
  pub stuck : first_pair s w.left ≡ none
  pub whole : (f : Pair → ℕ) → total f w.left + total f w.written ≡ total f r
  pub trail : Trail s s w.written
  pub even : (v : ℕ) → total (ends v) w.left % 2 ≡ 0
  pub start_spent : total (ends s) w.left ≡ 0
  pub spent : (v : ℕ) → 0 < total (ends v) w.written → total (ends v) w.left ≡ 0

bare_closed :
    (s : ℕ) (r left written : List Pair) → Walked s r (record { stack = []; left = left; written = written }) →
    first_pair s left ≡ none → Closed s r (record { stack = []; left = left; written = written })
unfolding total
bare_closed s r left written i n =
    let none_left : total (ends s) left ≡ 0 = rw n at (first_pair_finds s left) in
    let met : s ≡ i.end = stuck_at_end s r (record { stack = []; left = left; written = written }) i none_left in
    record {
      empty = refl;
      stuck = n;
      whole = λ f. omega (arith, i.whole f);
      trail = rw (← met) at i.trail;
      even = λ v. omega (arith, i.parity v, ap (is v) met);
      start_spent = none_left;
      spent = λ v h.
          ⊎_elim (λ c. ap (λ (u : ℕ). total (ends u) left) c.0 ∙ none_left) (λ c. i.spent v h (omega arith))
          (is_cases v s);
    }

ended_closed : (s : ℕ) (r : List Pair) (w : Walking) → Walked s r w → Ended s w → Closed s r w
ended_closed s r w i h =
    subst (λ (k : List Step). Closed s r (with_stack k w)) (sym h.0)
    (bare_closed s r w.left w.written (subst (λ (k : List Step). Walked s r (with_stack k w)) h.0 i) h.1)

-- The walk from s: in twice as many steps as there are pairs it has ended, and what is written is a closed trail.
pub walk_closes :
    (s : ℕ) (r : List Pair) → ((v : ℕ) → total (ends v) r % 2 ≡ 0) →
    Closed s r (iterate (2 * length r) (walk_step s) (begin r))
unfolding measure
walk_closes s r even =
    ended_closed s r (iterate (2 * length r) (walk_step s) (begin r))
    (iterate_keeps (walk_step s) keep (2 * length r) (begin r) start)
    (iterate_ends (walk_step s) measure keep (λ x i. turn_ends s x (walk_step s x) (turn s x)) (λ x i. ended_stays s x)
    (2 * length r) (begin r) (omega arith) start)
  where
    start : Walked s r (begin r)
    start = begin_walked s r even

    keep : (x : Walking) → Walked s r x → Walked s r (walk_step s x)
    keep x = turn_keeps s r x (walk_step s x) (turn s x)

-- ── a start with two ends ──

-- the pair at the bottom of the stack
abbrev Bottom : Pair → List Step → Type 0
Bottom p [] = ⊥
Bottom p (e ∷ []) = e.pair ≡ p
Bottom p (e ∷ d ∷ stack) = Bottom p (d ∷ stack)

bottom_more : (p : Pair) (e : Step) (stack : List Step) → Bottom p stack → Bottom p (e ∷ stack)
bottom_more p e [] h = absurd h
bottom_more p e (d ∷ stack) h = h

-- the walk is over: the pair p was written last, and no pair is left at the start
record Over (s : ℕ) (p : Pair) (w : Walking) : Type 0 where
  bare : w.stack ≡ []
  spent : total (ends s) w.left ≡ 0
  before : List Pair
  written : w.written ≡ p ∷ before

-- a walk from s whose first pair was p
abbrev Led : ℕ → Pair → List Pair → Walking → Type 0
Led s p r w = Walked s r w × (Bottom p w.stack ⊎ Over s p w)

led_back :
    (s : ℕ) (p : Pair) (r : List Pair) (e : Step) (stack : List Step) (left written : List Pair) → total (ends s) r ≡ 2 →
    Walked s r (record { stack = e ∷ stack; left = left; written = written }) → total (ends e.to) left ≡ 0 →
    Bottom p (e ∷ stack) →
    Bottom p stack ⊎ Over s p (record { stack = stack; left = left; written = e.pair ∷ written })
unfolding total
led_back s p r e [] left written two i z b =
    let met : e.to ≡ i.end = stuck_at_end s r (record { stack = e ∷ []; left = left; written = written }) i z in
    let lead : Leads e.pair s e.to = i.stack_leads.0 in
    inr
    (record {
      bare = refl;
      spent = omega (arith, i.parity s, ap (is s) met, i.whole (ends s), leads_ends lead s, is_same s);
      before = written;
      written = ap (λ (q : Pair). q ∷ written) b;
    })
led_back s p r e (d ∷ stack) left written two i z b = inl b

led_turn :
    (s : ℕ) (p : Pair) (r : List Pair) (w x : Walking) → total (ends s) r ≡ 2 → Turn s w x → Walked s r w →
    Bottom p w.stack ⊎ Over s p w → Bottom p x.stack ⊎ Over s p x
led_turn s p r w x two (went q os t) i h =
    ⊎_elim (λ b. inl (bottom_more p (record { pair = q; to = other_node q (standing s w.stack) }) w.stack b))
    (λ o.
    let start : standing s w.stack ≡ s = ap (standing s) o.bare in
    absurd
    (omega (
      arith,
      o.spent,
      t.whole (ends s),
      leads_ends t.leads s,
      is_same s,
      ap (is s) start,
    ))) h
led_turn s p r w x two (back e stack q z) i h =
    ⊎_elim
    (λ b.
    led_back s p r e stack w.left w.written two (subst (λ (k : List Step). Walked s r (with_stack k w)) q i) z
    (subst (Bottom p) q b))
    (λ o. absurd (omega (arith, ap length o.bare, ap length q))) h
led_turn s p r w x two (ended q n) i h = h

-- Where the start has two ends, the pair walked first is the one written last.
pub walk_head :
    (s : ℕ) (r : List Pair) (p : Pair) (ps : List Pair) → ((v : ℕ) → total (ends v) r % 2 ≡ 0) → total (ends s) r ≡ 2 →
    first_pair s r ≡ taken p ps →
    (before : List Pair) × ((iterate (2 * length r) (walk_step s) (begin r)).written ≡ p ∷ before)
unfolding iterate walk_step
walk_head s r p ps even two e =
    let t : Takes s r p ps = subst (Found s (ends s) r) e (first_pair_finds s r) in
    let n : ℕ = suc (2 * length ps) in
    let more : 2 * length r ≡ suc n = omega (arith, t.shorter) in
    let c : Closed s r (iterate (2 * length r) (walk_step s) (begin r)) = walk_closes s r even in
    let one : walk_step s (begin r) ≡ go_on s (begin r) p ps = rw e in
    let w : Walking = iterate (2 * length r) (walk_step s) (begin r) in
    let same : w ≡ iterate n (walk_step s) (go_on s (begin r) p ps) =
    ap (λ (k : ℕ). iterate k (walk_step s) (begin r)) more ∙ ap (iterate n (walk_step s)) one in
    let led : Led s p r (iterate n (walk_step s) (go_on s (begin r) p ps)) =
    iterate_keeps {Inv = Led s p r} (walk_step s)
    (λ x h. (turn_keeps s r x (walk_step s x) (turn s x) h.0, led_turn s p r x (walk_step s x) two (turn s x) h.0 h.1)) n
    (go_on s (begin r) p ps) (went_keeps s r (begin r) p ps t (begin_walked s r even), inl refl) in
    ⊎_elim (λ b. absurd (subst (Bottom p) c.empty b)) (λ o. (o.before, o.written)) (subst (λ (x : Walking). Led s p r x) (sym same) led).1
