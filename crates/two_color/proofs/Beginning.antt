-- The words before the first step: the state is 0, no party has a colour, and the rows are filled with the neighbours. Assumes
-- nothing.
use Prim.Native.Nat.{ℕ, zero, suc, ◌+◌, ◌*◌, ◌/◌, ◌≤◌, ◌<◌}
use mathlib.Core.Path.{◌≡◌, refl, sym, ◌∙◌, ap}
use mathlib.Core.List.{List, [], ◌++◌}
use native.Mathlib.Omega.{arith}
use native.Mathlib.Nat.{add-zero}
use native.Mathlib.Decide.{ℕ_discrete}
use lib.ListN.{length, length-append}
use Rattle.words.specs.Basics.{All}
use Rattle.words.specs.Words.{word, put_word}
use Rattle.words.specs.Frames.{Keeps}
use Rattle.words.proofs.Frames.{here, away, length_put, keeps_refl}
use Rattle.words.proofs.Sums.{all_reverse}
use Rattle.words.proofs.Below.{row_end}
use Rattle.appointments.specs.Appointments.{Appt, appts, load}
use Rattle.appointments.proofs.Loads.{Listed, load_reverse}
use Rattle.bipartition.specs.TwoColor.{colour_of, second_ends, first_ends, neighbours, side}
use Rattle.two_color_steps.specs.Model.{Small, right_place, colour_place, refused_place, next_place, stack_count, left_count, right_count, row_count, row_start, row_place, clear_state_m, start_party_m, start_parties_m, fill_rows_m, prepare_m}
use Rattle.two_color_steps.specs.Bounds.{CanFill, CanPrepare}
use Rattle.two_color.specs.Contract.{CanColor}
use Rattle.two_color.proofs.Held.{newest, held_none, Rows}
use Rattle.two_color.proofs.Showing.{within_refl, Shows}
use Rattle.two_color.proofs.Backwards.{backwards, reverse_appts, ends_load}
use Rattle.two_color.proofs.Filling.{Ends, Filled, filled_as, fill_filled}

-- ── the state ──

-- n words from a on set to 0
unfoldable zeroed : List ℕ → ℕ → ℕ → List ℕ
zeroed s a zero = s
zeroed s a (suc n) = put_word (zeroed s a n) (a + n) 0

zeroed_length : (s : List ℕ) (a n : ℕ) → length (zeroed s a n) ≡ length s
unfolding zeroed
zeroed_length s a zero = refl
zeroed_length s a (suc n) = length_put (zeroed s a n) (a + n) 0 ∙ zeroed_length s a n

zeroed_in : (s : List ℕ) (a n : ℕ) → a + n ≤ length s → (i : ℕ) → a ≤ i → i < a + n → word (zeroed s a n) i ≡ 0
unfolding zeroed
zeroed_in s a zero h i l k = absurd (omega arith)
zeroed_in s a (suc n) h i l k =
    elim (ℕ_discrete i (a + n)) [
      | yes e ↦ rw e (here (zeroed s a n) (a + n) 0 (omega (arith, zeroed_length s a n)) (omega arith))
      | no q ↦ away (zeroed s a n) (a + n) i 0 q ∙ zeroed_in s a n (omega arith) i l (omega arith)
    ]

zeroed_under : (s : List ℕ) (a n i : ℕ) → i < a → word (zeroed s a n) i ≡ word s i
unfolding zeroed
zeroed_under s a zero i h = refl
zeroed_under s a (suc n) i h = away (zeroed s a n) (a + n) i 0 (λ e. omega arith) ∙ zeroed_under s a n i h

state_zeroed : (u p : ℕ) (s : List ℕ) → clear_state_m u p s ≡ zeroed s (refused_place u p) 5
unfolding clear_state_m zeroed
state_zeroed u p s = rw (add-zero (refused_place u p))

-- ── the parties ──

-- n parties have no colour and an empty row; nothing changed below u or in the state
record Started (u p d n : ℕ) (s t : List ℕ) : Type 0 where
  len : length t ≡ length s
  under : (i : ℕ) → i < u → word t i ≡ word s i
  state : (i : ℕ) → u + 4 * p ≤ i → i < u + 4 * p + 5 → word t i ≡ word s i
  colours : (v : ℕ) → v < n → word t (colour_place u p v) ≡ 2
  counts : (v : ℕ) → v < n → word t (row_count u p v) ≡ 0
  starts : (v : ℕ) → v < n → word t (row_start u p v) ≡ row_place u p d v

module _ (u p d : ℕ) (small : Small u p) (narrow : d * p ≤ 8192) (s : List ℕ) (fits : u + 6 * p + 5 ≤ length s) where
  module _ (n : ℕ) (below : n < p) (t : List ℕ) (x : Started u p d n s t) where
    t1 : List ℕ
    t1 = put_word t (colour_place u p n) 2

    t2 : List ℕ
    t2 = put_word t1 (row_count u p n) 0

    t3 : List ℕ
    t3 = put_word t2 (row_start u p n) (row_place u p d n)

    same_length : (length t1 ≡ length s) × (length t2 ≡ length s) × (length t3 ≡ length s)
    unfolding t1 t2 t3
    same_length =
        let e1 = length_put t (colour_place u p n) 2 ∙ x.len in
        let e2 = length_put t1 (row_count u p n) 0 ∙ e1 in
        (e1, e2, length_put t2 (row_start u p n) (row_place u p d n) ∙ e2)

    other : (i : ℕ) → (i ≡ u + 3 * p + n → ⊥) → (i ≡ row_count u p n → ⊥) → (i ≡ row_start u p n → ⊥) → word t3 i ≡ word t i
    unfolding t1 t2 t3
    other i a b c = away t2 (row_start u p n) i (row_place u p d n) c ∙ away t1 (row_count u p n) i 0 b ∙ away t (colour_place u p n) i 2 a

    own_colour : word t3 (colour_place u p n) ≡ 2
    unfolding t1 t2 t3
    own_colour =
        away t2 (row_start u p n) (colour_place u p n) (row_place u p d n) (λ e. omega arith)
        ∙ away t1 (row_count u p n) (colour_place u p n) 0 (λ e. omega arith)
        ∙ here t (colour_place u p n) 2 (omega (arith, x.len)) (omega arith)

    own_count : word t3 (row_count u p n) ≡ 0
    unfolding t2 t3
    own_count =
        away t2 (row_start u p n) (row_count u p n) (row_place u p d n) (λ e. omega arith)
        ∙ here t1 (row_count u p n) 0 (omega (arith, same_length.0)) (omega arith)

    own_start : word t3 (row_start u p n) ≡ row_place u p d n
    unfolding t3
    own_start =
        here t2 (row_start u p n) (row_place u p d n) (omega (arith, same_length.1)) (omega (arith, row_end d n p below, small.low, small.few))

    start_more : Started u p d (suc n) s (start_party_m u p d n t)
    unfolding start_party_m t1 t2 t3
    start_more =
        record {
          len = same_length.2;
          under = λ i h. other i (λ e. omega arith) (λ e. omega arith) (λ e. omega arith) ∙ x.under i h;
          state = λ i h k. other i (λ e. omega arith) (λ e. omega arith) (λ e. omega arith) ∙ x.state i h k;
          colours = λ v h.
              elim (ℕ_discrete v n) [
                | yes e ↦ rw e own_colour
                | no q ↦ other (colour_place u p v) (λ e. q (omega arith)) (λ e. omega arith) (λ e. omega arith) ∙ x.colours v (omega arith)
              ];
          counts = λ v h.
              elim (ℕ_discrete v n) [
                | yes e ↦ rw e own_count
                | no q ↦ other (row_count u p v) (λ e. omega arith) (λ e. q (omega arith)) (λ e. omega arith) ∙ x.counts v (omega arith)
              ];
          starts = λ v h.
              elim (ℕ_discrete v n) [
                | yes e ↦ rw e own_start
                | no q ↦ other (row_start u p v) (λ e. omega arith) (λ e. omega arith) (λ e. q (omega arith)) ∙ x.starts v (omega arith)
              ];
        }

  parties_started : (n : ℕ) → n ≤ p → Started u p d n s (start_parties_m u p d n s)
  unfolding start_parties_m
  parties_started zero h =
      record {
        len = refl;
        under = λ i k. refl;
        state = λ i k l. refl;
        colours = λ v k. absurd (omega arith);
        counts = λ v k. absurd (omega arith);
        starts = λ v k. absurd (omega arith);
      }
  parties_started (suc n) h = start_more n h (start_parties_m u p d n s) (parties_started n (omega arith))

-- ── the rows ──

first_ends_of : (p : ℕ) (list : List ℕ) → Ends p list 0 1 (λ x. x.first) (λ x. x.second)
first_ends_of p list =
    record {
      near_is = λ i. rw (add-zero (2 * i));
      far_is = λ i. refl;
      near_low = λ x h. h.0;
      far_low = λ x h. h.1;
    }

second_ends_of : (p : ℕ) (list : List ℕ) → Ends p list 1 0 (λ x. x.second) (λ x. x.first)
second_ends_of p list =
    record {
      near_is = λ i. refl;
      far_is = λ i. rw (add-zero (2 * i));
      near_low = λ x h. h.1;
      far_low = λ x h. h.0;
    }

-- ── all together ──

-- what stands in the words before the first step
pub record Begun (u p d : ℕ) (list s t : List ℕ) : Type 0 where
  pub keeps : Keeps u s t
  pub rows : Rows u p d (λ v. neighbours v (appts list)) t
  -- the rows end inside
  pub inside : (v : ℕ) → v < p → row_place u p d v + length (neighbours v (appts list)) ≤ length t
  pub shows : Shows u p t t [] [] 0

module _ (u p d : ℕ) (list s : List ℕ) (can : CanColor p d u list s) (some : 0 < p) where
  small : Small u p
  small = record { low = can.low; few = can.few }

  cleared : List ℕ
  cleared = clear_state_m u p s

  parties : List ℕ
  parties = start_parties_m u p d p cleared

  ys : List Appt
  ys = backwards list (length list / 2)

  cleared_length : length cleared ≡ length s
  unfolding cleared
  cleared_length = ap length (state_zeroed u p s) ∙ zeroed_length s (refused_place u p) 5

  started : Started u p d p cleared parties
  unfolding parties
  started = parties_started u p d small can.narrow cleared (omega (arith, cleared_length, can.room)) p (omega arith)

  empty_rows : Filled u p d parties (λ v. []) parties
  empty_rows =
      record {
        frame = keeps_refl (u + 4 * p + 5) parties;
        rows = record { starts = started.starts; held = λ v h. held_none (row_count u p v) (row_place u p d v) parties (started.counts v h) };
      }

  listed : All (Listed p) ys
  unfolding ys
  listed = rw (reverse_appts list) at (all_reverse (Listed p) (appts list) can.listed)

  loads : (v : ℕ) → v < p → length (second_ends v ys) + length (first_ends v ys) ≤ d
  unfolding ys
  loads v h =
      let e : load v ys ≡ load v (appts list) = ap (load v) (sym (reverse_appts list)) ∙ load_reverse v (appts list) in
      omega (arith, ends_load v ys, can.loads v h)

  fits : u + 6 * p + 5 + d * p ≤ length parties
  fits = omega (arith, started.len, cleared_length, can.room)

  abbrev after_firsts : List ℕ
  after_firsts = fill_rows_m u p list 0 1 (length list / 2) parties

  firsts : Filled u p d parties (λ v. second_ends v ys) after_firsts × CanFill u p list 0 1 (length list / 2) parties
  unfolding ys
  firsts =
      fill_filled u p d small parties fits can.narrow list 0 1 _ _ (first_ends_of p list) (length list / 2)
      (λ v. []) parties listed (λ v h. omega (arith, loads v h)) empty_rows

  seconds :
      Filled u p d parties (λ v. second_ends v ys ++ first_ends v ys) (prepare_m u p d list s)
      × CanFill u p list 1 0 (length list / 2) after_firsts
  unfolding prepare_m parties cleared ys
  seconds =
      fill_filled u p d small parties fits can.narrow list 1 0 _ _ (second_ends_of p list) (length list / 2)
      (λ v. second_ends v ys) after_firsts listed loads firsts.0

  full_rows : Filled u p d parties (λ v. second_ends v ys ++ first_ends v ys) (prepare_m u p d list s)
  full_rows = seconds.0

  -- The rows have room for all that they get.
  pub prepared_fits : CanPrepare u p d list s
  unfolding parties cleared
  prepared_fits = record { firsts = firsts.1; seconds = seconds.1 }

  rows_are : (v : ℕ) → second_ends v ys ++ first_ends v ys ≡ neighbours v (appts list)
  unfolding neighbours ys
  rows_are v = rw (reverse_appts list)

  state_zero : (i : ℕ) → u + 4 * p ≤ i → i < u + 4 * p + 5 → word (prepare_m u p d list s) i ≡ 0
  unfolding cleared
  state_zero i h k =
      full_rows.frame.same i k
      ∙ started.state i h k
      ∙ ap (λ l. word l i) (state_zeroed u p s)
      ∙ zeroed_in s (refused_place u p) 5 (omega (arith, can.room)) i h k

  -- What stands in the words before the first step.
  pub prepared_begun : Begun u p d list s (prepare_m u p d list s)
  unfolding cleared newest side colour_of
  prepared_begun =
      let t : List ℕ = prepare_m u p d list s in
      let filled : Filled u p d parties (λ v. neighbours v (appts list)) t = filled_as _ _ rows_are full_rows in
      record {
        keeps = record {
          len = full_rows.frame.len ∙ started.len ∙ cleared_length;
          same = λ i h. full_rows.frame.same i (omega arith) ∙ started.under i h ∙ ap (λ l. word l i) (state_zeroed u p s) ∙ zeroed_under s (refused_place u p) 5 i (omega arith);
        };
        rows = filled.rows;
        inside = λ v h.
            omega (
              arith,
              fits,
              full_rows.frame.len,
              row_end d v p h,
              loads v h,
              ap length (rows_are v),
              length-append (second_ends v ys) (first_ends v ys),
            );
        shows = record {
          core = record {
            each_once = tt;
            high = omega arith;
            waiters = tt;
            frame = within_refl u (u + 4 * p + 5) t;
            refusal = state_zero (refused_place u p) (omega arith) (omega arith);
            party = state_zero (next_place u p) (omega arith) (omega arith);
            height = state_zero (stack_count u p) (omega arith) (omega arith);
            colours = λ v h. full_rows.frame.same (colour_place u p v) (omega arith) ∙ started.colours v h;
            waiting = refl;
          };
          lefts = held_none (left_count u p) u t (state_zero (left_count u p) (omega arith) (omega arith));
          rights = held_none (right_count u p) (right_place u p) t (state_zero (right_count u p) (omega arith) (omega arith));
        };
      }
