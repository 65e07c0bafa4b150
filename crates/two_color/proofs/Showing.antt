-- The words of the search and what they stand for: the colouring so far, the stack and the two sides; and a party coloured in
-- the words is one coloured in the search. Assumes nothing.
use Prim.Native.Nat.{ℕ, suc, ◌+◌, ◌*◌, ◌-◌, ◌≤◌, ◌<◌}
use mathlib.Core.Path.{◌≡◌, refl, sym, ◌∙◌}
use mathlib.Core.List.{List, [], ◌∷◌, ◌++◌}
use native.Mathlib.Omega.{arith}
use native.Mathlib.Decide.{ℕ_discrete}
use lib.ListN.{length}
use Rattle.words.specs.Basics.{All}
use Rattle.words.specs.Words.{word, put_word}
use Rattle.words.proofs.Frames.{here, away, length_put}
use Rattle.words.proofs.Sums.{all_map}
use Rattle.bipartition.specs.TwoColor.{ColouredParty, Colouring, coloured, colour_of, Search, going, refused, side}
use Rattle.two_color_steps.specs.Model.{Small, right_place, stack_place, colour_place, refused_place, next_place, stack_count, left_count, right_count, append_m, stacked, color_party_m}
use Rattle.words.specs.Appending.{CanAppend}
use Rattle.two_color_steps.specs.Bounds.{CanColorParty}
use Rattle.two_color_steps.proofs.ModelLaws.{color_left, color_right}
use Rattle.bipartition.proofs.Colouring.{colour_new, colour_other, still_coloured, EachOnce, side_same, side_other, sides_length, coloured_le}
use Rattle.words.proofs.Regions.{Same}
use Rattle.two_color.proofs.Held.{newest, newest_same, Held, held_same, held_more, Appended, append_does}

-- ── the frame of the search ──

-- the same length, and nothing changed below u or from r on
pub record Within (u r : ℕ) (s t : List ℕ) : Type 0 where
  pub len : length t ≡ length s
  pub under : (i : ℕ) → i < u → word t i ≡ word s i
  pub over : (i : ℕ) → r ≤ i → word t i ≡ word s i

pub within_refl : (u r : ℕ) (s : List ℕ) → Within u r s s
within_refl u r s = record { len = refl; under = λ i h. refl; over = λ i h. refl }

pub within_trans : {u r : ℕ} {s t v : List ℕ} → Within u r s t → Within u r t v → Within u r s v
within_trans a b =
    record { len = b.len ∙ a.len; under = λ i h. b.under i h ∙ a.under i h; over = λ i h. b.over i h ∙ a.over i h }

pub within_put : (u r : ℕ) (s : List ℕ) (i x : ℕ) → u ≤ i → i < r → Within u r s (put_word s i x)
within_put u r s i x h k =
    record { len = length_put s i x; under = λ j l. away s i j x (λ e. omega arith); over = λ j l. away s i j x (λ e. omega arith) }

-- ── a party is coloured ──

-- What `color_party` does to the words, where h are on the stack and the side at a, counted at k, has n.
record Painted (u p w c k a h n : ℕ) (s t : List ℕ) : Type 0 where
  len : length t ≡ length s
  colour : word t (colour_place u p w) ≡ c
  height : word t (stack_count u p) ≡ h + 1
  top : word t (u + 2 * p + h) ≡ w
  count : word t k ≡ n + 1
  last : word t (a + n) ≡ w
  stack_fits : CanAppend (stack_count u p) (stack_place u p) (put_word s (colour_place u p w) c)
  side_fits : CanAppend k a (stacked u p w c s)
  other : (i : ℕ) → (i ≡ u + 3 * p + w → ⊥) → (i ≡ u + 4 * p + 2 → ⊥) → (i ≡ u + 2 * p + h → ⊥) → (i ≡ k → ⊥) → (i ≡ a + n → ⊥) → word t i ≡ word s i

-- k counts a side, and a is where it stands
record SideAt (u p k a : ℕ) : Type 0 where
  low : u + 4 * p + 3 ≤ k
  high : k ≤ u + 4 * p + 4
  from : u ≤ a
  upto : a + p ≤ u + 2 * p

left_at : (u p : ℕ) → SideAt u p (left_count u p) u
left_at u p = record { low = omega arith; high = omega arith; from = omega arith; upto = omega arith }

right_at : (u p : ℕ) → SideAt u p (right_count u p) (right_place u p)
right_at u p = record { low = omega arith; high = omega arith; from = omega arith; upto = omega arith }

module _ (u p : ℕ) (small : Small u p) (s : List ℕ) (fits : u + 4 * p + 5 ≤ length s) where
  painted :
      (w c k a h n : ℕ) → w < p → c ≤ 1 → SideAt u p k a → h < p → n < p → word s (stack_count u p) ≡ h → word s k ≡ n →
      Painted u p w c k a h n s (append_m k a w (stacked u p w c s))
  painted w c k a h n hw hc at hh hn eh en =
      let t : List ℕ = put_word s (colour_place u p w) c in
      let t2 : List ℕ = stacked u p w c s in
      let lt : length t ≡ length s = length_put s (colour_place u p w) c in
      let e1 : word t (stack_count u p) ≡ h = away s (colour_place u p w) (stack_count u p) c (λ q. omega arith) ∙ eh in
      let A : Appended (stack_count u p) (stack_place u p) h w t t2 =
      append_does (stack_count u p) (stack_place u p) h w t e1 (omega arith) (omega arith) (λ q. omega arith) (omega (arith, small.few)) (omega (arith, small.few)) in
      let lt2 : length t2 ≡ length s = A.len ∙ lt in
      let e2 : word t2 k ≡ n =
      A.other k (λ q. omega (arith, at.low)) (λ q. omega (arith, at.low)) ∙ away s (colour_place u p w) k c (λ q. omega (arith, at.low)) ∙ en in
      let B : Appended k a n w t2 (append_m k a w t2) =
      append_does k a n w t2 e2 (omega (arith, at.high)) (omega (arith, at.upto)) (λ q. omega (arith, at.low, at.upto)) (omega (arith, small.few)) (omega (arith, small.few)) in
      record {
        len = B.len ∙ lt2;
        colour =
            B.other (colour_place u p w) (λ q. omega (arith, at.low)) (λ q. omega (arith, at.upto))
            ∙ A.other (colour_place u p w) (λ q. omega arith) (λ q. omega arith)
            ∙ here s (colour_place u p w) c (omega arith) (omega arith);
        height = B.other (stack_count u p) (λ q. omega (arith, at.low)) (λ q. omega (arith, at.upto)) ∙ A.count;
        top = B.other (u + 2 * p + h) (λ q. omega (arith, at.low)) (λ q. omega (arith, at.upto)) ∙ A.last;
        count = B.count;
        last = B.last;
        stack_fits = record { count = omega arith; next = omega arith };
        side_fits = record { count = omega (arith, at.high); next = omega (arith, at.upto) };
        other = λ i n1 n2 n3 n4 n5. B.other i n4 n5 ∙ A.other i n2 n3 ∙ away s (colour_place u p w) i c n1;
      }

-- which words stay: all but five
module _ {u p w c k a h n : ℕ} {s t : List ℕ} (at : SideAt u p k a) (w_low : w < p) (h_low : h < p) (n_low : n < p) (e : Painted u p w c k a h n s t) where
  side_stays : (i : ℕ) → i < u + 2 * p → (i ≡ a + n → ⊥) → word t i ≡ word s i
  side_stays i l q = e.other i (λ z. omega arith) (λ z. omega arith) (λ z. omega arith) (λ z. omega (arith, at.low)) q

  stack_stays : Same (stack_place u p) h s t
  stack_stays i g l = e.other i (λ z. omega arith) (λ z. omega arith) (λ z. omega arith) (λ z. omega (arith, at.low)) (λ z. omega (arith, at.upto))

  colour_stays : (v : ℕ) → v < p → (v ≡ w → ⊥) → word t (colour_place u p v) ≡ word s (colour_place u p v)
  colour_stays v l q = e.other (colour_place u p v) (λ z. q (omega arith)) (λ z. omega arith) (λ z. omega arith) (λ z. omega (arith, at.low)) (λ z. omega (arith, at.upto))

  state_stays : (i : ℕ) → u + 4 * p ≤ i → (i ≡ u + 4 * p + 2 → ⊥) → (i ≡ k → ⊥) → word t i ≡ word s i
  state_stays i g q r = e.other i (λ z. omega arith) q (λ z. omega arith) r (λ z. omega (arith, at.upto))

  painted_within : Within u (u + 4 * p + 5) s t
  painted_within =
      record {
        len = e.len;
        under = λ i l. side_stays i (omega arith) (λ z. omega (arith, at.from));
        over = λ i g. state_stays i (omega arith) (λ z. omega arith) (λ z. omega (arith, at.high));
      }

  -- the side that is counted at k gets one party more, and the other is as it was
  painted_sides : (k' a' : ℕ) (own others : List ℕ) → SideAt u p k' a' → (k' ≡ k → ⊥) → ((i j : ℕ) → i < p → j < p → a + i ≡ a' + j → ⊥) → length own ≡ n → length others ≤ p → Held k a s own → Held k' a' s others → Held k a t (own ++ (w ∷ [])) × Held k' a' t others
  painted_sides k' a' own others at' apart clear size few x y = (
    held_more t w (rw size e.count) (rw size e.last) (λ i g l. side_stays i (omega (arith, at.upto)) (λ z. omega arith)) x,
    held_same t (state_stays k' (omega (arith, at'.low)) (λ z. omega (arith, at'.low)) apart)
        (λ i g l. side_stays i (omega (arith, at'.upto)) (λ z. clear n (i - a') n_low (omega arith) (omega arith))) y,
  )

-- ── what the words stand for ──

-- all but the two sides
pub record Core (u p : ℕ) (s₀ s : List ℕ) (so_far : Colouring) (stack : List ℕ) (next : ℕ) : Type 0 where
  pub each_once : EachOnce p so_far
  pub high : length stack ≤ length so_far
  pub waiters : All (λ v. (v < p) × (colour_of v so_far ≤ 1)) stack
  pub frame : Within u (u + 4 * p + 5) s₀ s
  pub refusal : word s (refused_place u p) ≡ 0
  pub party : word s (next_place u p) ≡ next
  pub height : word s (stack_count u p) ≡ length stack
  pub colours : (v : ℕ) → v < p → word s (colour_place u p v) ≡ colour_of v so_far
  pub waiting : newest s (stack_place u p) (length stack) ≡ stack

pub record Shows (u p : ℕ) (s₀ s : List ℕ) (so_far : Colouring) (stack : List ℕ) (next : ℕ) : Type 0 where
  pub core : Core u p s₀ s so_far stack next
  pub lefts : Held (left_count u p) u s (side 0 so_far)
  pub rights : Held (right_count u p) (right_place u p) s (side 1 so_far)

-- the words stand for the search, or it has refused
abbrev pub Shown : ℕ → ℕ → List ℕ → List ℕ → Search → ℕ → Type 0
Shown u p s₀ s (going so_far stack) next = Shows u p s₀ s so_far stack next
Shown u p s₀ s refused next = (word s (refused_place u p) ≡ 1) × Within u (u + 4 * p + 5) s₀ s

pub shown_within : (u p : ℕ) (s₀ s : List ℕ) (r : Search) (next : ℕ) → Shown u p s₀ s r next → Within u (u + 4 * p + 5) s₀ s
shown_within u p s₀ s (going so_far stack) next h = h.core.frame
shown_within u p s₀ s refused next h = h.1

module _ (u p : ℕ) (small : Small u p) (s₀ : List ℕ) (fits : u + 4 * p + 5 ≤ length s₀) where
  module _ (s : List ℕ) (so_far : Colouring) (stack : List ℕ) (next : ℕ) (w c : ℕ) (below : w < p) (two : c ≤ 1) (free : colour_of w so_far ≡ 2) where
    painted_core :
        (k a n : ℕ) (t : List ℕ) → SideAt u p k a → n < p → length stack < p → Core u p s₀ s so_far stack next → Painted u p w c k a (length stack) n s t →
        Core u p s₀ t (coloured w c ∷ so_far) (w ∷ stack) next
    unfolding newest
    painted_core k a n t at room low x e =
        let m : ColouredParty = coloured w c in
        let mine : colour_of w (m ∷ so_far) ≡ c = colour_new m so_far w refl in
        let old : newest t (stack_place u p) (length stack) ≡ stack = newest_same s t (stack_place u p) (length stack) (stack_stays at below low room e) ∙ x.waiting in
        record {
          each_once = (below, two, free, x.each_once);
          high = omega (arith, x.high);
          waiters = ((below, omega arith), all_map (λ v k. (k.0, still_coloured m so_far v free k.1)) stack x.waiters);
          frame = within_trans x.frame (painted_within at below low room e);
          refusal = state_stays at below low room e (refused_place u p) (omega arith) (λ q. omega arith) (λ q. omega (arith, at.low)) ∙ x.refusal;
          party = state_stays at below low room e (next_place u p) (omega arith) (λ q. omega arith) (λ q. omega (arith, at.low)) ∙ x.party;
          height = e.height ∙ omega arith;
          colours = λ v h.
              elim (ℕ_discrete v w) [
                | yes q ↦ rw q (e.colour ∙ sym mine)
                | no q ↦ colour_stays at below low room e v h q ∙ x.colours v h ∙ sym (colour_other m so_far v q)
              ];
          waiting = rw (e.top, old);
        }

    -- A party without a colour gets c and goes on the stack and to the end of its side, where there is a place for it.
    pub color_shows : Shows u p s₀ s so_far stack next → Shows u p s₀ (color_party_m u p w c s) (coloured w c ∷ so_far) (w ∷ stack) next × CanColorParty u p w c s
    color_shows x =
        let inside : u + 4 * p + 5 ≤ length s = omega (arith, x.core.frame.len) in
        let coloured_low : suc (length so_far) ≤ p = coloured_le p (coloured w c ∷ so_far) (below, two, free, x.core.each_once) in
        let sides_low : length (side 0 so_far) + length (side 1 so_far) ≡ length so_far = sides_length p so_far x.core.each_once in
        let low : length stack < p = omega (arith, x.core.high) in
        let l_low : length (side 0 so_far) < p = omega arith in
        let r_low : length (side 1 so_far) < p = omega arith in
        elim (ℕ_discrete c 0) [
          | yes e ↦
              let q = painted u p small s inside w c (left_count u p) u (length stack) (length (side 0 so_far)) below two (left_at u p) low l_low x.core.height x.lefts.count in
              let both = painted_sides (left_at u p) below low l_low q (right_count u p) (right_place u p) (side 0 so_far) (side 1 so_far) (right_at u p) (λ z. omega arith) (λ i j g h z. omega arith) refl (omega arith) x.lefts x.rights in
              rw (color_left u p s w c e) (
                record {
                  core = painted_core (left_count u p) u (length (side 0 so_far)) _ (left_at u p) l_low low x.core q;
                  lefts = rw (side_same 0 (coloured w c) so_far (sym e)) both.0;
                  rights = rw (side_other 1 (coloured w c) so_far (λ z. omega arith)) both.1;
                },
                record { colour = omega arith; stack = q.stack_fits; left = λ z. q.side_fits; right = λ n. absurd (n e) },
              )
          | no e ↦
              let q = painted u p small s inside w c (right_count u p) (right_place u p) (length stack) (length (side 1 so_far)) below two (right_at u p) low r_low x.core.height x.rights.count in
              let both = painted_sides (right_at u p) below low r_low q (left_count u p) u (side 1 so_far) (side 0 so_far) (left_at u p) (λ z. omega arith) (λ i j g h z. omega arith) refl (omega arith) x.rights x.lefts in
              rw (color_right u p s w c e) (
                record {
                  core = painted_core (right_count u p) (right_place u p) (length (side 1 so_far)) _ (right_at u p) r_low low x.core q;
                  lefts = rw (side_other 0 (coloured w c) so_far (λ z. e (sym z))) both.1;
                  rights = rw (side_same 1 (coloured w c) so_far (omega arith)) both.0;
                },
                record { colour = omega arith; stack = q.stack_fits; left = λ z. absurd (e z); right = λ n. q.side_fits },
              )
        ]
