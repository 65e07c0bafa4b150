-- What the planning call leaves alone: both buffers keep their lengths, slot entries past A stay and so do scratch words past
-- W, a refusal leaves the slots and (9 apart) scratch as they were, and what the buffers held before affects neither the
-- answer nor the plan. Assumes nothing.
use Prim.Native.Nat.{ℕ, ◌≤◌}
use mathlib.Core.Path.{◌≡◌, refl, sym, ◌∙◌, ap}
use mathlib.Core.List.{List, ◌++◌}
use mathlib.Core.Logic.{◌⊎◌, inl, inr, ⊎_elim}
use native.Mathlib.Omega.{arith}
use lib.ListN.{length, take, drop, replicate, length-append, length-drop, length-replicate}
use lib.Seq.{take_at, drop_at}
use Rattle.appointments.specs.Checks.{Check, passed}
use Rattle.appointments.specs.Answers.{accepted, refused, over}
use Rattle.appointments.specs.Lent.{Lent, lent, lent_appts, lent_d, lent_words, lent_checks}
use Rattle.appointments.proofs.AnswerLaws.{accepted_refused, refused_number, after_refused}
use Rattle.appointments.proofs.LentLaws.{lent_passes}
use Rattle.planning.specs.Planning.{outcome_slots, lent_outcome, plan_answer, plan_slots, plan_scratch}
use Rattle.planning.proofs.Outcomes.{FoundPlan, Came, barred, found, odd, came, barred_answer, found_answer, odd_answer, found_slots}
use Rattle.planning.proofs.Demand3.{demand_3}

-- ── a list whose first n entries were written over, if any were ──

pub record FrontWritten (n : ℕ) (before after : List ℕ) : Type 0 where
  pub front : List ℕ
  pub size : length front ≡ n
  pub room : n ≤ length before
  pub is : after ≡ front ++ drop n before

abbrev pub KeptPast : ℕ → List ℕ → List ℕ → Type 0
KeptPast n before after = (after ≡ before) ⊎ FrontWritten n before after

pub kept_length : (n : ℕ) (before after : List ℕ) → KeptPast n before after → length after ≡ length before
kept_length n before after =
    ⊎_elim (ap length) (λ w. rw w.is (simp (length-append, length-drop) (omega (arith, w.size, w.room))))

pub kept_past : (n : ℕ) (before after : List ℕ) → KeptPast n before after → drop n after ≡ drop n before
kept_past n before after =
    ⊎_elim (ap (drop n)) (λ w. rw w.is (drop_at w.front (drop n before) n w.size))

-- ── the buffers after a call ──

module _ (l : Lent) where
  abbrev A : ℕ
  A = length (lent_appts l)

  abbrev W : ℕ
  W = lent_words l

  -- an accepted list's slots
  module _ (e : lent_checks l passed ≡ passed) (f : FoundPlan l.parties (lent_appts l)) where
    pub accepted_slots : plan_slots l ≡ f.slots ++ drop A l.slots
    accepted_slots = rw (found_slots l e f, f.proper.plan_of)

    pub accepted_front : take A (plan_slots l) ≡ f.slots
    accepted_front = rw accepted_slots (take_at f.slots (drop A l.slots) A f.proper.plan_of)

  -- the first W words of scratch are 0 and the others stay, where the checks pass
  pub passed_clears : lent_checks l passed ≡ passed → plan_scratch l ≡ over (replicate W 0) l.scratch
  unfolding plan_scratch
  passed_clears e = rw e

  -- where they don't it stays
  pub barred_scratch : (n i : ℕ) → lent_checks l passed ≡ Check.refused n i → plan_scratch l ≡ l.scratch
  unfolding plan_scratch
  barred_scratch n i e = rw e

  -- Every refusal leaves the slots as they were.
  pub refusal_slots : (n i : ℕ) → plan_answer l ≡ refused n i → plan_slots l ≡ l.slots
  unfolding plan_slots
  refusal_slots n i e = after_refused (plan_answer l) n i (outcome_slots (lent_outcome l)) l.slots e

  slots_written : KeptPast A l.slots (plan_slots l)
  slots_written = go (came l)
    where
      go : Came l → KeptPast A l.slots (plan_slots l)
      go (barred n i e) = inl (refusal_slots n i (barred_answer l n i e))
      go (odd e f) = inl (refusal_slots 9 0 (odd_answer l e f))
      go (found e f) =
          inr
          (record {
            front = f.slots;
            size = f.proper.plan_of;
            room = (lent_passes l e).slot_room;
            is = accepted_slots e f;
          })

  scratch_written : KeptPast W l.scratch (plan_scratch l)
  scratch_written = go (lent_checks l passed) refl
    where
      go : (c : Check) → lent_checks l passed ≡ c → KeptPast W l.scratch (plan_scratch l)
      go (Check.refused n i) e = inl (barred_scratch n i e)
      go passed e =
          inr
          (record {
            front = replicate W 0;
            size = length-replicate W 0;
            room = (lent_passes l e).scratch_room;
            is = passed_clears e ∙ rw (length-replicate {A = ℕ} W 0);
          })

  -- Both buffers keep their lengths.
  pub slots_length : length (plan_slots l) ≡ length l.slots
  slots_length = kept_length A l.slots (plan_slots l) slots_written

  pub scratch_length : length (plan_scratch l) ≡ length l.scratch
  scratch_length = kept_length W l.scratch (plan_scratch l) scratch_written

  -- Slot entries past A stay, and scratch words past W.
  pub slots_past : drop A (plan_slots l) ≡ drop A l.slots
  slots_past = kept_past A l.slots (plan_slots l) slots_written

  pub scratch_past : drop W (plan_scratch l) ≡ drop W l.scratch
  scratch_past = kept_past W l.scratch (plan_scratch l) scratch_written

  -- Every refusal but 9 leaves scratch as it was.
  pub refusal_scratch : (n i : ℕ) → plan_answer l ≡ refused n i → (n ≡ 9 → ⊥) → plan_scratch l ≡ l.scratch
  refusal_scratch n i q not_9 = go (came l)
    where
      go : Came l → plan_scratch l ≡ l.scratch
      go (barred k j e) = barred_scratch k j e
      go (odd e f) = absurd (not_9 (sym (refused_number 9 0 n i (sym (odd_answer l e f) ∙ q))))
      go (found e f) = accepted_refused (lent_d l) n i (sym (found_answer l e f) ∙ q)

  -- After acceptance and after 9 the first W words of scratch are 0, the others stay.
  pub accepted_clears : (D : ℕ) → plan_answer l ≡ accepted D → plan_scratch l ≡ over (replicate W 0) l.scratch
  accepted_clears D q = passed_clears ((demand_3 l).only_passed D q)

  pub nine_clears : (place : ℕ) → plan_answer l ≡ refused 9 place → plan_scratch l ≡ over (replicate W 0) l.scratch
  nine_clears place q = passed_clears ((demand_3 l).nine place q).1

-- ── what the buffers held before ──

module _ (P : ℕ) (list : List ℕ) where
  module _
      (slots slots' scratch scratch' : List ℕ) (same_slots : length slots ≡ length slots')
      (same_scratch : length scratch ≡ length scratch') where
    abbrev l₁ : Lent
    l₁ = lent P list slots scratch

    abbrev l₂ : Lent
    l₂ = lent P list slots' scratch'

    -- it doesn't affect the answer,
    pub same_answer : plan_answer l₁ ≡ plan_answer l₂
    unfolding plan_answer
    same_answer = rw (same_slots, same_scratch)

    -- nor the plan,
    pub same_plan :
        (D : ℕ) → plan_answer l₁ ≡ accepted D →
        take (length (lent_appts l₁)) (plan_slots l₁) ≡ take (length (lent_appts l₂)) (plan_slots l₂)
    same_plan D q = go (came l₁)
      where
        go : Came l₁ → take (length (lent_appts l₁)) (plan_slots l₁) ≡ take (length (lent_appts l₂)) (plan_slots l₂)
        go (barred n i e) = accepted_refused D n i (sym q ∙ barred_answer l₁ n i e)
        go (odd e f) = accepted_refused D 9 0 (sym q ∙ odd_answer l₁ e f)
        go (found e f) =
            let e' : lent_checks l₂ passed ≡ passed = rw (same_slots, same_scratch) at e in
            accepted_front l₁ e f ∙ sym (accepted_front l₂ e' f)

  -- and what scratch held affects nothing.
  pub scratch_unread :
      (slots scratch scratch' : List ℕ) → length scratch ≡ length scratch' →
      plan_slots (lent P list slots scratch) ≡ plan_slots (lent P list slots scratch')
  unfolding plan_slots plan_answer
  scratch_unread slots scratch scratch' e = rw e
