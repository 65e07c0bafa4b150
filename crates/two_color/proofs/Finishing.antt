-- The words after the last step, and the answer that is read off them: that of the definition. Assumes nothing.
use Prim.Native.Nat.{ℕ, ◌+◌, ◌*◌, ◌-◌, ◌≤◌, ◌<◌}
use mathlib.Core.Path.{◌≡◌, refl, sym, ◌∙◌, ap}
use mathlib.Core.List.{List, [], ◌∷◌}
use native.Mathlib.Omega.{arith}
use native.Mathlib.Nat.{le_refl}
use lib.ListN.{length}
use Rattle.std.specs.Prelude.{Some, None}
use Rattle.words.specs.Basics.{All, iterate}
use Rattle.words.specs.Words.{word, region}
use Rattle.words.specs.Frames.{Keeps}
use Rattle.words.proofs.Frames.{keeps_refl, keeps_trans}
use Rattle.words.proofs.Sums.{all_map}
use Rattle.appointments.specs.Appointments.{Appt, appts}
use Rattle.bipartition.specs.TwoColor.{Colouring, neighbours, Search, going, refused, search_below, side, sides, two_color}
use Rattle.two_color.specs.Contract.{CanColor, Colored}
use Rattle.two_color_steps.specs.Model.{Small, right_place, refused_place, left_count, prepare_m, steps_m}
use Rattle.two_color_steps.specs.Bounds.{CanStepAll}
use Rattle.bipartition.proofs.Colouring.{sides_length, coloured_all}
use Rattle.bipartition.proofs.Search.{neighbours_below}
use Rattle.bipartition.proofs.Starts.{Ended, search_ends}
use Rattle.bipartition.proofs.Turns.{Stage, stage, turn, turns_whole}
use Rattle.two_color.proofs.Showing.{Shows, Shown, shown_within}
use Rattle.two_color.proofs.Stepping.{steps_show, steps_fit}
use Rattle.two_color.proofs.Beginning.{Begun, prepared_begun}

-- nobody is to be put on a side
nobody : (u : ℕ) (list s : List ℕ) → two_color 0 (appts list) ≡ sides (region s u 0) (region s (u + 0) (0 - 0))
unfolding two_color search_below region side
nobody u list s = refl

pub none_colored : (u : ℕ) (list s : List ℕ) (p : ℕ) → p ≡ 0 → Colored p list u s (u + 2 * p) s (Some 0)
none_colored u list s p e = record { answers = (omega arith, rw e (nobody u list s)); mark = refl; keeps = keeps_refl u s }

-- the words before the first step, and after the last
abbrev pub first_words : ℕ → ℕ → ℕ → List ℕ → List ℕ → List ℕ
first_words u p d list s = prepare_m u p d list s

abbrev pub last_words : ℕ → ℕ → ℕ → List ℕ → List ℕ → List ℕ
last_words u p d list s = steps_m u p (2 * p) (first_words u p d list s)

module _ (u p d : ℕ) (list s : List ℕ) (can : CanColor p d u list s) (some : 0 < p) where
  xs : List Appt
  xs = appts list

  last : Stage
  last = iterate (2 * p) (turn p xs) (stage (going [] []) 0)

  begun : Begun u p d list s (first_words u p d list s)
  begun = prepared_begun u p d list s can some

  small : Small u p
  small = record { low = can.low; few = can.few }

  fits : u + 4 * p + 5 ≤ length (first_words u p d list s)
  fits = omega (arith, can.room, begun.keeps.len)

  met : (v : ℕ) → All (λ w. w < p) (neighbours v xs)
  unfolding xs
  met v = all_map (λ w h. h.1) (neighbours v (appts list)) (neighbours_below p (appts list) 0 can.listed v)

  -- Every step can be made.
  pub all_fit : (t : List ℕ) → t ≡ first_words u p d list s → CanStepAll u p (2 * p) t
  unfolding xs
  all_fit t e = rw e (steps_fit u p small (first_words u p d list s) fits d xs begun.rows met begun.inside (2 * p) begun.shows)

  whole : Shown u p (first_words u p d list s) (last_words u p d list s) (search_below p xs p) last.next
  unfolding xs last
  whole =
      let shown : Shown u p (first_words u p d list s) (last_words u p d list s) last.search last.next =
      steps_show u p small (first_words u p d list s) fits d xs begun.rows met begun.inside (2 * p) begun.shows in
      rw (turns_whole p xs can.listed) at shown

  keeps : Keeps u s (last_words u p d list s)
  keeps =
      let w = shown_within u p (first_words u p d list s) (last_words u p d list s) (search_below p xs p) last.next whole in
      keeps_trans begun.keeps (record { len = w.len; same = w.under })

  ended : Ended p xs p (search_below p xs p)
  unfolding xs
  ended = search_ends p xs can.listed p (le_refl p)

  -- what each outcome of the search says of the word that tells whether it refused
  refuses : (r : Search) → Ended p xs p r → Shown u p (first_words u p d list s) (last_words u p d list s) r last.next → (word (last_words u p d list s) (refused_place u p) ≡ 0 → ⊥) → r ≡ refused
  refuses (going so_far stack) e x n = absurd (n x.core.refusal)
  refuses refused e x n = refl

  finds : (r : Search) → Ended p xs p r → Shown u p (first_words u p d list s) (last_words u p d list s) r last.next → word (last_words u p d list s) (refused_place u p) ≡ 0 → (l : ℕ) → l ≡ word (last_words u p d list s) (left_count u p) → (so_far : Colouring) × (r ≡ going so_far []) × (l ≡ length (side 0 so_far)) × (p - l ≡ length (side 1 so_far)) × (l ≤ p)
  finds refused e x z l q = absurd (omega (arith, x.0))
  finds (going so_far (v ∷ stack)) e x z l q = absurd e
  finds (going so_far []) e x z l q =
      let both : length (side 0 so_far) + length (side 1 so_far) ≡ length so_far = sides_length p so_far e.each_once in
      let all : length so_far ≡ p = coloured_all p so_far e.each_once e.early in
      let own : l ≡ length (side 0 so_far) = q ∙ x.lefts.count in
      (so_far, refl, own, omega arith, omega arith)

  module _ (t z : List ℕ) (begins : t ≡ first_words u p d list s) (steps : z ≡ steps_m u p (2 * p) t) (r : ℕ) (told : r ≡ word z (refused_place u p)) where
    pub last_is : z ≡ last_words u p d list s
    last_is = rw begins at steps

    -- It refused.
    pub refused_colored : (r ≡ 0 → ⊥) → Colored p list u s (u + 2 * p) z None
    unfolding two_color xs
    refused_colored n =
        rw last_is (record { answers = rw (refuses (search_below p xs p) ended whole (λ o. n (rw last_is at told ∙ o))); mark = refl; keeps = keeps })

    -- It found sides.
    pub found_colored : (l : ℕ) → r ≡ 0 → l ≡ word z (left_count u p) → Colored p list u s (u + 2 * p) z (Some l)
    unfolding two_color xs
    found_colored l none count =
        let f = finds (search_below p xs p) ended whole (sym (rw last_is at told) ∙ none) l (rw last_is at count) in
        let so_far : Colouring = f.0 in
        let x : Shows u p (first_words u p d list s) (last_words u p d list s) so_far [] last.next = rw f.1 at whole in
        let left : region (last_words u p d list s) u l ≡ side 0 so_far = ap (region (last_words u p d list s) u) f.2 ∙ x.lefts.words in
        let right : region (last_words u p d list s) (right_place u p) (p - l) ≡ side 1 so_far = ap (region (last_words u p d list s) (right_place u p)) f.3 ∙ x.rights.words in
        rw last_is (record { answers = (f.4, rw (f.1, left, right)); mark = refl; keeps = keeps })
