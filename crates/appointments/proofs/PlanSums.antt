-- Slot by slot: with every slot of a plan below a bound B, a party's load is the sum over the slots below B of how often it
-- meets them, and the number of slots is the sum of 1 for each slot that is used; and the number of slots with one more at the end.
-- Assumes nothing.
use Prim.Native.Nat.{ℕ, suc, ◌+◌, ◌*◌, ◌≤◌, ◌<◌, min, max}
use mathlib.Core.Path.{◌≡◌, refl, sym, ◌∙◌, ap}
use mathlib.Core.List.{List, [], ◌∷◌, ◌++◌}
use mathlib.Core.Logic.{⊎_elim}
use native.Mathlib.Omega.{arith}
use native.Mathlib.Nat.{suc_inj, zero-mul, one-mul}
use native.Mathlib.Decide.{ℕ_discrete}
use lib.ListN.{length}
use Rattle.words.specs.Basics.{is, total, count, All, sum_below}
use Rattle.words.proofs.Sums.{is_eq, is_ne, is_le, is_cases, count_append, sum_below_add, sum_below_cong, sum_below_all_zero, sum_below_at, all_map}
use Rattle.appointments.specs.Appointments.{Appt, names, load}
use Rattle.appointments.specs.Plans.{PlanOf, different, meets}

-- 1 for a slot that the plan uses, 0 for another
unfoldable pub used : ℕ → List ℕ → ℕ
used s plan = min 1 (count s plan)

-- a number above every slot of a plan
unfoldable pub above : List ℕ → ℕ
above [] = 0
above (s ∷ plan) = max (suc s) (above plan)

pub above_is : (plan : List ℕ) → All (λ s. s < above plan) plan
unfolding above
above_is [] = tt
above_is (s ∷ plan) = (omega arith, all_map (λ c h. omega arith) plan (above_is plan))

-- the sum of a number that stands at one slot only
sum_at : (c k B : ℕ) → c < B → sum_below (λ s. is s c * k) B ≡ k
sum_at c k B h = sum_below_at (λ s. k) c B h

-- ── meets ──

-- nobody meets a slot that the plan doesn't use
pub meets_none : (v s : ℕ) (xs : List Appt) (plan : List ℕ) → count s plan ≡ 0 → meets v s xs plan ≡ 0
unfolding meets count
meets_none v s [] plan h = refl
meets_none v s (x ∷ xs) [] h = refl
meets_none v s (x ∷ xs) (c ∷ plan) h =
    let z : is s c ≡ 0 = omega arith in
    rw (z, zero-mul) (omega (arith, meets_none v s xs plan (omega arith)))

-- A party's load is the sum, over the slots, of how often the party meets them.
pub load_by_slots : (v B : ℕ) (xs : List Appt) (plan : List ℕ) → PlanOf xs plan → All (λ s. s < B) plan → sum_below (λ s. meets v s xs plan) B ≡ load v xs
unfolding meets load total
load_by_slots v B [] plan p h = sum_below_all_zero B (λ s k. refl)
load_by_slots v B (x ∷ xs) [] p h = absurd (omega arith)
load_by_slots v B (x ∷ xs) (c ∷ plan) p h =
    sum_below_add (λ s. is s c * names v x) (λ s. meets v s xs plan) B
    ∙ omega (arith, sum_at c (names v x) B h.0, load_by_slots v B xs plan (suc_inj p) h.1)

-- ── the number of slots ──

-- 1 for a slot that the plan doesn't use, 0 for another
abbrev pub unused : ℕ → List ℕ → ℕ
unused s plan = is (count s plan) 0

pub unused_or_used : (s : ℕ) (plan : List ℕ) → unused s plan + used s plan ≡ 1
unfolding used
unused_or_used s plan =
    elim (ℕ_discrete (count s plan) 0)
    [ yes e ↦ omega (arith, is_eq {u = count s plan} {v = 0} e) | no n ↦ omega (arith, is_ne {u = count s plan} {v = 0} n) ]

-- `different` counts a slot where it comes for the last time
different_cons : (c : ℕ) (plan : List ℕ) → different (c ∷ plan) ≡ unused c plan + different plan
unfolding different is
different_cons c plan = refl

used_cons : (s c : ℕ) (plan : List ℕ) → used s (c ∷ plan) ≡ is s c * unused c plan + used s plan
unfolding used count
used_cons s c plan =
    ⊎_elim
    (λ k. rw (k.1, one-mul) (omega (arith, ap (λ (t : ℕ). used t plan) k.0, unused_or_used c plan)))
    (λ k. rw (k.1, zero-mul) (omega arith))
    (is_cases s c)

-- The number of slots is the number of those that are used.
pub different_by_slots : (B : ℕ) (plan : List ℕ) → All (λ s. s < B) plan → sum_below (λ s. used s plan) B ≡ different plan
unfolding different used count
different_by_slots B [] h = sum_below_all_zero B (λ s k. refl)
different_by_slots B (c ∷ plan) h =
    sum_below_cong B (λ s k. used_cons s c plan)
    ∙ sum_below_add (λ s. is s c * unused c plan) (λ s. used s plan) B
    ∙ omega (arith, sum_at c (unused c plan) B h.0, different_by_slots B plan h.1, different_cons c plan)

-- ── one slot more ──

pub different_more : (plan : List ℕ) (s : ℕ) → different (plan ++ (s ∷ [])) ≡ different plan + is (count s plan) 0
unfolding count
different_more [] s = omega (arith, different_cons s [])
different_more (a ∷ plan) s =
    let later : different (plan ++ (s ∷ [])) ≡ different plan + is (count s plan) 0 = different_more plan s in
    let now : different (a ∷ (plan ++ (s ∷ []))) ≡ is (count a (plan ++ (s ∷ []))) 0 + different (plan ++ (s ∷ [])) = different_cons a (plan ++ (s ∷ [])) in
    let was : different (a ∷ plan) ≡ is (count a plan) 0 + different plan = different_cons a plan in
    let counts : count a (plan ++ (s ∷ [])) ≡ count a plan + (is a s + 0) = count_append a plan (s ∷ []) in
    let tally : ℕ → ℕ = λ n. is n 0 in
    elim (ℕ_discrete a s) [
      | yes e ↦
          let one : is a s ≡ 1 = is_eq e in
          let other : is s a ≡ 1 = is_eq (sym e) in
          let again : is (count a (plan ++ (s ∷ []))) 0 ≡ 0 = is_ne (λ z. omega arith) in
          let met : is (is s a + count s plan) 0 ≡ 0 = is_ne (λ z. omega arith) in
          let same : is (count a plan) 0 ≡ is (count s plan) 0 = ap (λ (t : ℕ). is (count t plan) 0) e in
          omega arith
      | no n ↦
          let none : is a s ≡ 0 = is_ne n in
          let other : is s a ≡ 0 = is_ne (λ e. n (sym e)) in
          let first : is (count a (plan ++ (s ∷ []))) 0 ≡ is (count a plan) 0 = ap tally (omega arith) in
          let second : is (is s a + count s plan) 0 ≡ is (count s plan) 0 = ap tally (omega arith) in
          omega arith
    ]

pub different_length : (plan : List ℕ) → different plan ≤ length plan
unfolding different
different_length [] = omega arith
different_length (a ∷ plan) = omega (arith, different_cons a plan, is_le (count a plan) 0, different_length plan)
