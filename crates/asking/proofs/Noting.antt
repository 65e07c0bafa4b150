-- What the walk notes: nothing at first, then one slot more; and the waiting that comes of it. Assumes nothing.
use Prim.Native.Nat.{ℕ, ◌+◌, ◌-◌, ◌≤◌, ◌<◌, min, max}
use mathlib.Core.Path.{◌≡◌, refl, ◌∙◌, ap}
use mathlib.Core.Bool.{Bool, true, false}
use mathlib.Core.List.{List, [], ◌∷◌, ◌++◌}
use native.Mathlib.Omega.{arith}
use native.Mathlib.Decide.{ℕ_discrete}
use lib.ListN.{length, replicate, get_or, take, set, length-replicate, length-set, length-take}
use Rattle.std.proofs.lemmas.List.{get_or-replicate}
use lib.Seq.{get_or-set_same, get_or-set_other}
use Rattle.words.specs.Basics.{pick, is, count}
use Rattle.words.proofs.Sums.{is_eq, is_ne, count_append}
use Rattle.appointments.specs.Appointments.{Appt}
use Rattle.appointments.specs.Plans.{different}
use Rattle.appointments.proofs.PlanSums.{different_more, different_length}
use Rattle.asking.specs.PartySlots.{slots_of, lowest, highest}
use Rattle.asking.specs.Waiting.{free_between, waiting}
use Rattle.asking.specs.Noted.{Noted, unflagged}
use Rattle.asking.proofs.PartySlots.{slots_count, lowest_more, highest_more}
use Rattle.asking.proofs.Between.{free_le, between_whole}

-- over flags that are all false
pub noted_none : Noted [] (replicate 65536 false) 65535 0 0
unfolding lowest highest different count is
noted_none =
    record {
      size = length-replicate {A = Bool} 65536 false;
      flagged = λ s h. ap (λ (b : Bool). pick b 0 1) (get_or-replicate 65536 s false false h);
      low = refl;
      high = refl;
      different_slots = refl;
    }

-- the flag of a slot more
module _ (mine : List ℕ) (flags : List Bool) (s : ℕ) (room : s < length flags) (old : (t : ℕ) → t < 65536 → unflagged flags t ≡ is (count t mine) 0) where
  noted_flag : (t : ℕ) → t < 65536 → unflagged (set flags s true) t ≡ is (count t (mine ++ (s ∷ []))) 0
  unfolding count
  noted_flag t h =
      let counts : count t (mine ++ (s ∷ [])) ≡ count t mine + (is t s + 0) = count_append t mine (s ∷ []) in
      elim (ℕ_discrete t s) [
        | yes e ↦
            let one : is t s ≡ 1 = is_eq e in
            let here : get_or (set flags s true) t false ≡ true = ap (λ (k : ℕ). get_or (set flags s true) k false) e ∙ get_or-set_same flags s true false room in
            let no_flag : unflagged (set flags s true) t ≡ 0 = ap (λ (b : Bool). pick b 0 1) here in
            let there : is (count t (mine ++ (s ∷ []))) 0 ≡ 0 = is_ne (λ z. omega arith) in
            omega arith
        | no n ↦
            let none : is t s ≡ 0 = is_ne n in
            ap (λ (b : Bool). pick b 0 1) (get_or-set_other flags s t true false n) ∙ old t h ∙ ap (λ (k : ℕ). is k 0) (omega arith)
      ]

-- one slot more
pub noted_more :
    {mine : List ℕ} {flags : List Bool} {low high n : ℕ} (s low' high' n' : ℕ) → s < 65536 → Noted mine flags low high n →
    low' ≡ min low s → high' ≡ max high s → n' ≡ n + unflagged flags s →
    Noted (mine ++ (s ∷ [])) (set flags s true) low' high' n'
noted_more {mine} {flags} {low} {high} {n} s low' high' n' fits m l h k =
    record {
      size = length-set flags s true ∙ m.size;
      flagged = noted_flag mine flags s (omega (arith, m.size)) m.flagged;
      low = omega (arith, l, m.low, lowest_more mine s (omega arith));
      high = omega (arith, h, m.high, highest_more mine s);
      different_slots = omega (arith, k, m.different_slots, m.flagged s fits, different_more mine s);
    }

-- no more different slots than appointments that were gone through
pub noted_few :
    {flags : List Bool} {l h n : ℕ} (party i : ℕ) (xs : List Appt) (slots : List ℕ) → Noted (slots_of party (take i xs) slots) flags l h n → n ≤ i
noted_few party i xs slots m =
    let mine : List ℕ = slots_of party (take i xs) slots in
    omega (arith, m.different_slots, different_length mine, slots_count party (take i xs) slots, length-take i xs)

-- ── what comes of all that was noted ──

module _ (xs : List Appt) (slots : List ℕ) (party : ℕ) {flags : List Bool} {l h n : ℕ} (m : Noted (slots_of party xs slots) flags l h n) where
  abbrev mine : List ℕ
  mine = slots_of party xs slots

  -- nothing
  pub waits_none : n ≡ 0 → 0 ≡ waiting xs slots party
  unfolding waiting lowest highest
  waits_none k = go mine (omega (arith, m.different_slots))
    where
      go : (found : List ℕ) → different found ≡ 0 → 0 ≡ free_between (lowest found) (highest found) found
      go [] q = omega (arith, free_le 65535 0 [])
      go (s ∷ more) q =
          absurd (omega (arith, between_whole (s ∷ more) (omega arith), free_le (lowest (s ∷ more)) (highest (s ∷ more)) (s ∷ more)))

  -- something: the numbers from the lowest to the highest less the different slots
  pub waits_some : 0 < n → (l ≤ h) × (n ≤ h - l + 1) × (h - l + 1 - n ≡ waiting xs slots party)
  unfolding waiting lowest highest
  waits_some k =
      let some : 0 < length mine = omega (arith, m.different_slots, different_length mine) in
      let whole : free_between (lowest mine) (highest mine) mine + different mine ≡ highest mine - lowest mine + 1 = between_whole mine some in
      let order : lowest mine ≤ highest mine = rises mine some in
      (omega (arith, m.low, m.high), omega (arith, m.low, m.high, m.different_slots), omega (arith, m.low, m.high, m.different_slots))
    where
      rises : (found : List ℕ) → 0 < length found → lowest found ≤ highest found
      rises [] q = absurd (omega arith)
      rises (s ∷ []) q = omega arith
      rises (s ∷ t ∷ more) q = omega arith

  pub waits_most : h < 65536 → waiting xs slots party ≤ 65534
  unfolding waiting
  waits_most k = omega (arith, m.high, free_le (lowest mine) (highest mine) mine)
