-- The checks as the code goes through them: an early answer is the definition's. Assumes nothing.
use Prim.Native.Nat.{ℕ, zero, suc, ◌*◌, ◌/◌, ◌%◌, ◌<◌, ◌≤◌, max}
use mathlib.Core.Path.{◌≡◌, refl, sym, ◌∙◌}
use mathlib.Core.Bool.{Bool, true, false}
use mathlib.Core.List.{List, [], ◌∷◌}
use native.Mathlib.Omega.{arith}
use native.Mathlib.Nat.{le_trans, mul-le-mul_left}
use borrow.Author.Tests.{lt-ltb, le-ltb, ltb-false}
use lib.Dec.{eqb, ltb}
use Rattle.std.specs.Option.{unwrap_or}
use Rattle.std.specs.List.{fold, reduce}
use lib.ListN.{length}
use Rattle.words.specs.Words.{word}
use Rattle.words.proofs.Sums.{count_le}
use Rattle.appointments.specs.Appointments.{Appt, appts, load, largest_load, scratch_words}
use Rattle.appointments.specs.Checks.{First, at, nowhere, first_from, has_blank, has_unlisted, Check, passed, refused, bar, bar_at, check_parties, check_even, check_count, check_slots, checks_1_to_5, checks_with_slots, checks_1_to_6, checks_1_to_8, checks, check_ends}
use Rattle.appointments.specs.Answers.{Answer, accepted}
use Rattle.appointments.specs.Answers as answers
use Rattle.appointments.specs.Needed.{needing, needs_answer, scratch_enough}
use Rattle.checking.specs.Checked.{checked, answered, largest_word, WordsFit}
use Rattle.appointments.proofs.Loads.{largest_load_le, appts_length}
use Rattle.appointments.proofs.ChecksLaws.{GoodList, bar_passed, good_goes_on, sized_goes_on, passed_good, passed_sized}
use Rattle.appointments.proofs.Causes.{never_refused, refused_cause, cause_number}
use Rattle.appointments.proofs.Enough.{words_enough, enough, needed_words}
use Rattle.appointments.proofs.AnswerLaws.{accepted_passed, refused_checked, accepted_refused, refused_number, refused_place}
use Rattle.appointments.proofs.Flat.{appts_count, load_count}

-- the largest of a list, from its first element on
largest_cons : (n x : ℕ) (s : List ℕ) → largest_word (suc n) (x ∷ s) ≡ max x (largest_word n s)
unfolding largest_word
largest_cons zero x s = omega arith
largest_cons (suc n) x s = rw (largest_cons n x s) (omega arith)

largest_from : (a : ℕ) (s : List ℕ) → fold max a s ≡ max a (largest_word (length s) s)
unfolding largest_word
largest_from a [] = omega arith
largest_from a (x ∷ s) = largest_from (max a x) s ∙ rw (largest_cons (length s) x s) (omega arith)

pub largest_of : (s : List ℕ) → unwrap_or (reduce max s) 0 ≡ largest_word (length s) s
unfolding largest_word
largest_of [] = refl
largest_of (x ∷ s) = largest_from x s ∙ sym (largest_cons (length s) x s)

-- counters that hold the loads have the largest load
pub largest_is :
    (p : ℕ) (s : List ℕ) (xs : List Appt) → ((v : ℕ) → v < p → word s v ≡ load v xs) → largest_word p s ≡ largest_load p xs
unfolding largest_word largest_load
largest_is zero s xs h = refl
largest_is (suc p) s xs h = rw (largest_is p s xs (λ v k. h v (omega arith)), h p (omega arith))

-- what was told is what the checks came to, without a figure
pub checked_passed : (c : Check) → accepted tt ≡ checked c → c ≡ passed
checked_passed c h = (accepted_passed c tt tt (sym h)).0

pub checked_number : (c : Check) (n i : ℕ) → answers.refused n i ≡ checked c → c ≡ refused n i
checked_number c n i h = refused_checked c tt n i (sym h)

-- and with D
pub answered_passed : (c : Check) (d e : ℕ) → accepted e ≡ answered c d → c ≡ passed
answered_passed c d e h = (accepted_passed c d e (sym h)).0

pub answered_figure : (c : Check) (d e : ℕ) → accepted e ≡ answered c d → e ≡ d
answered_figure c d e h = sym (accepted_passed c d e (sym h)).1

pub answered_number : (c : Check) (d n i : ℕ) → answers.refused n i ≡ answered c d → c ≡ refused n i
answered_number c d n i h = refused_checked c d n i (sym h)

-- what one check told: it refused by its test, with its number and place 0; or it passed
pub bar_refused : (t : Bool) (k n i : ℕ) → answers.refused n i ≡ checked (bar t k passed) → (t ≡ true) × (n ≡ k) × (i ≡ 0)
bar_refused true k n i e = (refl, refused_number n i k 0 e, refused_place n i k 0 e)
bar_refused false k n i e = accepted_refused tt n i (sym e)

pub bar_accepted : (t : Bool) (k : ℕ) → accepted tt ≡ checked (bar t k passed) → t ≡ false
bar_accepted true k e = accepted_refused tt k 0 e
bar_accepted false k e = refl

-- and what is known of its numbers where it passed
pub few_parties : (P : ℕ) → accepted tt ≡ checked (check_parties P passed) → P ≤ 1024
few_parties P e = ltb-false 1024 P (bar_accepted _ 1 e)

pub few_appointments : (A : ℕ) → accepted tt ≡ checked (check_count A passed) → A ≤ 4096
few_appointments A e = ltb-false 4096 A (bar_accepted _ 3 e)

pub enough_slots : (slots A : ℕ) → accepted tt ≡ checked (check_slots slots A passed) → A ≤ slots
enough_slots slots A e = ltb-false slots A (bar_accepted _ 7 e)

bar_first : (t : Bool) (k : ℕ) (next : Check) (n i : ℕ) → bar t k passed ≡ refused n i → bar t k next ≡ refused n i
bar_first true k next n i h = h
bar_first false k next n i h = never_refused n i h

-- what one check told, in every sequence of checks that begins with it: its refusal stays, and where it passed the others go on
module _ (t : Bool) (k : ℕ) (next : Check) where
  pub bar_stays : (n i : ℕ) → answers.refused n i ≡ checked (bar t k passed) → bar t k next ≡ refused n i
  bar_stays n i e = bar_first t k next n i (checked_number (bar t k passed) n i e)

  pub bar_goes_on : accepted tt ≡ checked (bar t k passed) → bar t k next ≡ next
  bar_goes_on e = rw (bar_accepted t k e)

-- checks 1 to 5 by what checks 1 to 3 told
module _ (P : ℕ) (list : List ℕ) where
  pub refuses_1 : (n i : ℕ) → answers.refused n i ≡ checked (check_parties P passed) → checks_1_to_5 P list passed ≡ refused n i
  unfolding checks_1_to_5
  refuses_1 n i e = bar_stays _ 1 _ n i e

  module _ (parties : accepted tt ≡ checked (check_parties P passed)) where
    pub refuses_2 : (n i : ℕ) → answers.refused n i ≡ checked (check_even list passed) → checks_1_to_5 P list passed ≡ refused n i
    unfolding checks_1_to_5
    refuses_2 n i e = bar_goes_on _ 1 _ parties ∙ bar_stays _ 2 _ n i e

    module _ (even : accepted tt ≡ checked (check_even list passed)) where
      pub refuses_3 : (n i : ℕ) → answers.refused n i ≡ checked (check_count (length list / 2) passed) → checks_1_to_5 P list passed ≡ refused n i
      unfolding checks_1_to_5
      refuses_3 n i e = bar_goes_on _ 1 _ parties ∙ bar_goes_on _ 2 _ even ∙ rw (appts_count list) (bar_stays _ 3 _ n i e)

      pub goes_on : accepted tt ≡ checked (check_count (length list / 2) passed) → checks_1_to_5 P list passed ≡ check_ends P list passed
      unfolding checks_1_to_5
      goes_on e = bar_goes_on _ 1 _ parties ∙ bar_goes_on _ 2 _ even ∙ rw (appts_count list) (bar_goes_on _ 3 _ e)

five_bars :
    (t u w : Bool) (f g : First) (own next : Check) (n i : ℕ) → (own ≡ refused n i → next ≡ refused n i) →
    bar t 1 (bar u 2 (bar w 3 (bar_at f 4 (bar_at g 5 own)))) ≡ refused n i →
    bar t 1 (bar u 2 (bar w 3 (bar_at f 4 (bar_at g 5 next)))) ≡ refused n i
five_bars true u w f g own next n i later h = h
five_bars false true w f g own next n i later h = h
five_bars false false true f g own next n i later h = h
five_bars false false false (at j) g own next n i later h = h
five_bars false false false nowhere (at j) own next n i later h = h
five_bars false false false nowhere nowhere own next n i later h = later h

-- What checks 1 to 5 refuse stays refused, whatever comes after them.
pub refused_first :
    (P : ℕ) (list : List ℕ) (next : Check) (n i : ℕ) → checks_1_to_5 P list passed ≡ refused n i →
    checks_1_to_5 P list next ≡ refused n i
unfolding checks_1_to_5
refused_first P list next n i h =
    five_bars (ltb 1024 P) (eqb (length list % 2) 1) (ltb 4096 (length (appts list)))
    (first_from 0 has_blank (appts list)) (first_from 0 (has_unlisted P) (appts list)) passed next n i (never_refused n i) h

-- and with one check more
refused_bar :
    (P : ℕ) (list : List ℕ) (t : Bool) (k : ℕ) (next : Check) (n i : ℕ) → checks_1_to_5 P list (bar t k passed) ≡ refused n i →
    checks_1_to_5 P list (bar t k next) ≡ refused n i
unfolding checks_1_to_5
refused_bar P list t k next n i h =
    five_bars (ltb 1024 P) (eqb (length list % 2) 1) (ltb 4096 (length (appts list)))
    (first_from 0 has_blank (appts list)) (first_from 0 (has_unlisted P) (appts list))
    (bar t k passed) (bar t k next) n i (bar_first t k next n i) h

-- The same of checks 1 to 5 with 7: what they refuse stays refused, and what they pass goes on.
module _ (P : ℕ) (list : List ℕ) (slots : ℕ) where
  pub refused_with_slots :
      (next : Check) (n i : ℕ) → checks_with_slots P list slots passed ≡ refused n i → checks_with_slots P list slots next ≡ refused n i
  unfolding checks_with_slots
  refused_with_slots next n i h = refused_bar P list (ltb slots (length (appts list))) 7 next n i h

  -- a good list, and a slot entry for each appointment
  abbrev pub Slotted : Type 0
  Slotted = GoodList P list × (length (appts list) ≤ slots)

  pub slotted_goes_on : (next : Check) → Slotted → checks_with_slots P list slots next ≡ next
  unfolding checks_with_slots
  slotted_goes_on next g =
      good_goes_on P list (check_slots slots (length (appts list)) next) g.0 ∙ rw (le-ltb slots (length (appts list)) g.1)

  pub passed_slotted : (next : Check) → checks_with_slots P list slots next ≡ passed → Slotted × (next ≡ passed)
  unfolding checks_with_slots
  passed_slotted next h =
      let c₅ = passed_good P list _ h in
      let c₇ = bar_passed (ltb slots (length (appts list))) 7 next c₅.1 in
      ((c₅.0, ltb-false slots (length (appts list)) c₇.0), c₇.1)

  -- and of what the code was told
  pub checked_stays : (next : Check) (n i : ℕ) → answers.refused n i ≡ checked (checks_with_slots P list slots passed) → checks_with_slots P list slots next ≡ refused n i
  checked_stays next n i e = refused_with_slots next n i (checked_number _ n i e)

  pub checked_slotted : accepted tt ≡ checked (checks_with_slots P list slots passed) → Slotted
  checked_slotted e = (passed_slotted passed (checked_passed _ e)).0

  -- a code's early answers
  pub refuses_listed : (n i : ℕ) → checks_1_to_5 P list passed ≡ refused n i → checks_with_slots P list slots passed ≡ refused n i
  unfolding checks_with_slots
  refuses_listed n i h = refused_first P list (check_slots slots (length (appts list)) passed) n i h

  module _ (ok : checks_1_to_5 P list passed ≡ passed) where
    pub listed_goes_on : checks_with_slots P list slots passed ≡ check_slots slots (length (appts list)) passed
    unfolding checks_with_slots
    listed_goes_on = good_goes_on P list (check_slots slots (length (appts list)) passed) (passed_good P list passed ok).0

-- and what checks 1 to 6 refuse
pub refused_sized :
    (P : ℕ) (list : List ℕ) (next : Check) (n i : ℕ) → checks_1_to_6 P list passed ≡ refused n i →
    checks_1_to_6 P list next ≡ refused n i
unfolding checks_1_to_6
refused_sized P list next n i h = refused_bar P list (ltb 8192 (largest_load P (appts list) * P)) 6 next n i h

-- a code's answers to check 6, of the D that it has
module _ (P : ℕ) (list : List ℕ) where
  pub still_refused : (n i : ℕ) → checks_1_to_5 P list passed ≡ refused n i → checks_1_to_6 P list passed ≡ refused n i
  unfolding checks_1_to_6
  still_refused n i h = refused_first P list (bar (ltb 8192 (largest_load P (appts list) * P)) 6 passed) n i h

  module _ (D : ℕ) (e : D ≡ largest_load P (appts list)) (ok : checks_1_to_5 P list passed ≡ passed) where
    pub refuses_6 : 8192 < D * P → checks_1_to_6 P list passed ≡ refused 6 0
    unfolding checks_1_to_6
    refuses_6 h = rw (← e, lt-ltb 8192 (D * P) h) (good_goes_on P list (refused 6 0) (passed_good P list passed ok).0)

    pub passes_6 : D * P ≤ 8192 → checks_1_to_6 P list passed ≡ passed
    passes_6 h = sized_goes_on P list passed (passed_good P list passed ok).0 (rw e at h)

-- and to checks 7 and 8
module _ (P : ℕ) (list : List ℕ) (slots scratch : ℕ) where
  -- checks 7 and 8, once D is known
  abbrev checks_7_and_8 : Check
  checks_7_and_8 = check_slots slots (length (appts list)) (bar (ltb scratch (scratch_words P (largest_load P (appts list)))) 8 passed)

  pub all_refused : (n i : ℕ) → checks_1_to_6 P list passed ≡ refused n i → checks P list slots scratch ≡ refused n i
  unfolding checks_1_to_8
  all_refused n i h = refused_sized P list checks_7_and_8 n i h

  pub all_go_on : checks_1_to_6 P list passed ≡ passed → checks P list slots scratch ≡ checks_7_and_8
  unfolding checks_1_to_8
  all_go_on h = let c = passed_sized P list passed h in sized_goes_on P list checks_7_and_8 c.0 c.1

  module _ (ok : checks_1_to_6 P list passed ≡ passed) where
    pub refuses_7 : (n i : ℕ) → answers.refused n i ≡ checked (check_slots slots (length list / 2) passed) → checks P list slots scratch ≡ refused n i
    refuses_7 n i k = all_go_on ok ∙ rw (appts_count list) (bar_stays _ 7 _ n i k)

    module _ (room : accepted tt ≡ checked (check_slots slots (length list / 2) passed)) (D : ℕ) (e : D ≡ largest_load P (appts list)) where
      only_8 : checks P list slots scratch ≡ bar (ltb scratch (scratch_words P D)) 8 passed
      only_8 = all_go_on ok ∙ rw (← e, appts_count list) (bar_goes_on _ 7 _ room)

      pub refuses_8 : scratch < scratch_words P D → checks P list slots scratch ≡ refused 8 0
      refuses_8 l = only_8 ∙ rw (lt-ltb scratch (scratch_words P D) l)

      pub passes_all : scratch_words P D ≤ scratch → checks P list slots scratch ≡ passed
      passes_all l = only_8 ∙ rw (le-ltb scratch (scratch_words P D) l)

-- a code's answer to how much scratch a list needs
module _ (P : ℕ) (list : List ℕ) where
  pub needs_refused : (n i : ℕ) → checks_1_to_6 P list passed ≡ refused n i → answers.refused n i ≡ needs_answer P list
  unfolding needs_answer
  needs_refused n i h = rw h

  pub needs_words : (D : ℕ) → D ≡ largest_load P (appts list) → checks_1_to_6 P list passed ≡ passed → accepted (needing D (scratch_words P D)) ≡ needs_answer P list
  unfolding needs_answer
  needs_words D e h = rw (h, e)

-- what is known of D and P where checks 1 to 5 have passed
pub d_small : (P : ℕ) (list : List ℕ) → checks_1_to_5 P list passed ≡ passed → largest_load P (appts list) ≤ 8192
d_small P list h =
    let good = (passed_good P list passed h).0 in
    largest_load_le P (appts list) 8192
    (λ v k. omega (arith, load_count v list good.even, count_le v list, appts_length list good.even, good.few))

-- where checks 1 to 5 have passed loads can be counted,
pub countable : (P : ℕ) (list : List ℕ) → checks_1_to_5 P list passed ≡ passed → (P ≤ 1024) × (length list ≤ 8192) × (length list % 2 ≡ 0)
countable P list ok =
    let good = (passed_good P list passed ok).0 in
    (good.parties, omega (arith, good.few, good.even, appts_count list), good.even)

-- and the product of check 6 fits
pub product_fits : (P : ℕ) (list : List ℕ) (D : ℕ) → checks_1_to_5 P list passed ≡ passed → D ≡ largest_load P (appts list) → D * P ≤ 8388608
product_fits P list D ok e =
    let d : D ≤ 8192 = omega (arith, d_small P list ok) in
    let p : P ≤ 1024 = (passed_good P list passed ok).0.parties in
    le_trans (mul-le-mul_left D p) (omega arith)

-- what the code knows once `check_size` has told it D: W can be computed
pub record Sized (P : ℕ) (list : List ℕ) (D : ℕ) : Type 0 where
  pub ok : checks_1_to_6 P list passed ≡ passed
  pub figure : D ≡ largest_load P (appts list)
  pub room : WordsFit P D

pub sized :
    (P : ℕ) (list : List ℕ) (D : ℕ) → accepted D ≡ answered (checks_1_to_6 P list passed) (largest_load P (appts list)) → Sized P list D
sized P list D e =
    let ok = answered_passed (checks_1_to_6 P list passed) (largest_load P (appts list)) D e in
    let figure = answered_figure (checks_1_to_6 P list passed) (largest_load P (appts list)) D e in
    let c = passed_sized P list passed ok in
    let product : D * P ≤ 8192 = rw figure c.1 in
    let small : D ≤ 8192 = omega (arith, d_small P list (good_goes_on P list passed c.0)) in
    record {
      ok = ok;
      figure = figure;
      room = record { parties = c.0.parties; figure = small; words = words_enough P D c.0.parties product };
    }

-- ── how large the numbers of a list's needs are ──

module _ (P : ℕ) (list : List ℕ) where
  pub needs_small : (D W : ℕ) → needs_answer P list ≡ accepted (needing D W) → (D ≤ 8192) × (W ≤ scratch_enough)
  unfolding needs_answer
  needs_small D W e =
      let D₀ : ℕ = largest_load P (appts list) in
      let k = needed_words (checks_1_to_6 P list passed) D₀ (scratch_words P D₀) D W e in
      let good = (passed_sized P list passed k.0).0 in
      omega (arith, k.1, k.2, d_small P list (good_goes_on P list passed good), (enough P list).words k.0)

  pub needs_refusal_small : (n i : ℕ) → needs_answer P list ≡ answers.refused n i → (n ≤ 8) × (i ≤ 4096)
  unfolding needs_answer
  needs_refusal_small n i e =
      let h = refused_checked (checks_1_to_6 P list passed) _ n i e in
      omega (arith, cause_number (refused_cause P list 0 0 n i (all_refused P list 0 0 n i h)))
