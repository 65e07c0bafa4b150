-- The slots of one party: one appointment more, how many they are, whose they are; and the lowest and the highest of them, with one
-- more at the end. Assumes nothing.
use Prim.Native.Nat.{ℕ, zero, suc, ◌+◌, ◌/◌, ◌≤◌, ◌<◌, min, max}
use mathlib.Core.Path.{◌≡◌, refl, sym, ◌∙◌, ap}
use mathlib.Core.Bool.{Bool, true, false}
use mathlib.Core.List.{List, [], ◌∷◌, ◌++◌, append-nil}
use native.Mathlib.Omega.{arith}
use native.Mathlib.Numerals.{add-one}
use native.Mathlib.Decide.{ℕ_discrete}
use borrow.Author.Tests.{ltb-true, ltb-false}
use lib.ListN.{length, take, get_or}
use Rattle.words.specs.Basics.{pick, total, count, All}
use Rattle.words.specs.Words.{word}
use Rattle.words.proofs.Sums.{is_same, is_eq, all_map}
use Rattle.appointments.specs.Appointments.{Appt, appt, appts, names, named, named_at, load}
use Rattle.appointments.proofs.Flat.{appts_count, appt_at}
use Rattle.asking.specs.PartySlots.{slots_of, lowest, highest}

-- ── one appointment more ──

more : (party : ℕ) (xs : List Appt) (slots : List ℕ) (i : ℕ) (d : Appt) → i < length xs → i < length slots
    → slots_of party (take (suc i) xs) slots ≡ slots_of party (take i xs) slots ++ pick (named party (get_or xs i d)) (word slots i ∷ []) []
unfolding slots_of
more party [] slots i d h k = absurd (omega arith)
more party (x ∷ xs) [] i d h k = absurd (omega arith)
more party (x ∷ xs) (s ∷ slots) zero d h k = refl
more party (x ∷ xs) (s ∷ slots) (suc i) d h k =
    go (named party x) _ _ _ (more party xs slots i d (omega arith) (omega arith))
  where
    go : (b : Bool) (later earlier last : List ℕ) → later ≡ earlier ++ last → pick b (s ∷ later) later ≡ pick b (s ∷ earlier) earlier ++ last
    go true later earlier last e = ap (λ (l : List ℕ). s ∷ l) e
    go false later earlier last e = e

module _ (party : ℕ) (list slots : List ℕ) (i : ℕ) (h : i < length list / 2) (k : i < length slots) where
  abbrev so_far : List ℕ
  so_far = slots_of party (take i (appts list)) slots

  abbrev with_this : List ℕ
  with_this = slots_of party (take (i + 1) (appts list)) slots

  -- its slot comes last, if it names the party:
  pub slots_more : with_this ≡ so_far ++ pick (named_at party list i) (word slots i ∷ []) []
  slots_more =
      let d : Appt = appt 0 0 in
      ap (λ (n : ℕ). slots_of party (take n (appts list)) slots) (add-one i)
      ∙ more party (appts list) slots i d (omega (arith, appts_count list)) k
      ∙ ap (λ (x : Appt). so_far ++ pick (named party x) (word slots i ∷ []) []) (appt_at list i d h)

  -- one that names the party gives its slot,
  pub slots_named : true ≡ named_at party list i → with_this ≡ so_far ++ (word slots i ∷ [])
  slots_named e = slots_more ∙ ap (λ (b : Bool). so_far ++ pick b (word slots i ∷ []) []) (sym e)

  -- any other none
  pub slots_other : false ≡ named_at party list i → with_this ≡ so_far
  slots_other e = slots_more ∙ ap (λ (b : Bool). so_far ++ pick b (word slots i ∷ []) []) (sym e) ∙ append-nil so_far

-- of no appointments there are none
pub slots_none : (party : ℕ) (xs : List Appt) (slots : List ℕ) → slots_of party (take 0 xs) slots ≡ []
unfolding slots_of
slots_none party [] slots = refl
slots_none party (x ∷ xs) slots = refl

-- all of them, once the list or the slots are at their end
pub slots_all : (party : ℕ) (xs : List Appt) (slots : List ℕ) (n : ℕ) → min (length xs) (length slots) ≤ n → slots_of party (take n xs) slots ≡ slots_of party xs slots
unfolding slots_of
slots_all party [] slots zero h = refl
slots_all party [] slots (suc n) h = refl
slots_all party (x ∷ xs) [] zero h = refl
slots_all party (x ∷ xs) [] (suc n) h = refl
slots_all party (x ∷ xs) (s ∷ slots) zero h = absurd (omega arith)
slots_all party (x ∷ xs) (s ∷ slots) (suc n) h = ap (λ (l : List ℕ). pick (named party x) (s ∷ l) l) (slots_all party xs slots n (omega arith))

-- ── how many there are, and whose they are ──

-- not more than the party's load
pub slots_load : (party : ℕ) (xs : List Appt) (slots : List ℕ) → length (slots_of party xs slots) ≤ load party xs
unfolding slots_of load total
slots_load party [] slots = omega arith
slots_load party (x ∷ xs) [] = omega arith
slots_load party (x ∷ xs) (s ∷ slots) = go (named party x) refl (slots_load party xs slots)
  where
    go : (b : Bool) → named party x ≡ b → length (slots_of party xs slots) ≤ total (names party) xs
        → length (pick b (s ∷ slots_of party xs slots) (slots_of party xs slots)) ≤ names party x + total (names party) xs
    go true e rest = omega (arith, ltb-true 0 (names party x) e)
    go false e rest = omega arith

-- a party that the list names has a slot, if each appointment has one
pub slots_some : (party : ℕ) (xs : List Appt) (slots : List ℕ) → length xs ≤ length slots → 0 < load party xs → 0 < length (slots_of party xs slots)
unfolding slots_of load total
slots_some party [] slots h k = k
slots_some party (x ∷ xs) [] h k = absurd (omega arith)
slots_some party (x ∷ xs) (s ∷ slots) h k = go (named party x) refl (slots_some party xs slots (omega arith))
  where
    go : (b : Bool) → named party x ≡ b → (0 < total (names party) xs → 0 < length (slots_of party xs slots)) → 0 < length (pick b (s ∷ slots_of party xs slots) (slots_of party xs slots))
    go true e rest = omega arith
    go false e rest = rest (omega (arith, ltb-false 0 (names party x) e))

-- not more than the appointments
pub slots_count : (party : ℕ) (xs : List Appt) (slots : List ℕ) → length (slots_of party xs slots) ≤ length xs
unfolding slots_of
slots_count party [] slots = omega arith
slots_count party (x ∷ xs) [] = omega arith
slots_count party (x ∷ xs) (s ∷ slots) = go (named party x) (slots_of party xs slots) (slots_count party xs slots)
  where
    go : (b : Bool) (l : List ℕ) → length l ≤ length xs → length (pick b (s ∷ l) l) ≤ suc (length xs)
    go true l h = omega arith
    go false l h = omega arith

-- what all slots of the list have, a party's have
pub slots_each : (P : ℕ → Type 0) (party : ℕ) (xs : List Appt) (slots : List ℕ) → All P (take (length xs) slots) → All P (slots_of party xs slots)
unfolding slots_of
slots_each P party [] slots h = tt
slots_each P party (x ∷ xs) [] h = tt
slots_each P party (x ∷ xs) (s ∷ slots) h = go (named party x) (slots_of party xs slots) (slots_each P party xs slots h.1)
  where
    go : (b : Bool) (l : List ℕ) → All P l → All P (pick b (s ∷ l) l)
    go true l k = (h.0, k)
    go false l k = k

-- ── lowest and highest, with one more ──

pub lowest_more : (mine : List ℕ) (s : ℕ) → s ≤ 65535 → lowest (mine ++ (s ∷ [])) ≡ min (lowest mine) s
unfolding lowest
lowest_more [] s h = omega arith
lowest_more (a ∷ []) s h = refl
lowest_more (a ∷ b ∷ mine) s h = omega (arith, lowest_more (b ∷ mine) s h)

pub highest_more : (mine : List ℕ) (s : ℕ) → highest (mine ++ (s ∷ [])) ≡ max (highest mine) s
unfolding highest
highest_more [] s = omega arith
highest_more (a ∷ mine) s = omega (arith, highest_more mine s)

-- ── between lowest and highest ──

pub lowest_under : (mine : List ℕ) → All (λ s. lowest mine ≤ s) mine
unfolding lowest
lowest_under [] = tt
lowest_under (a ∷ []) = (omega arith, tt)
lowest_under (a ∷ b ∷ mine) = (omega arith, all_map (λ s h. omega arith) (b ∷ mine) (lowest_under (b ∷ mine)))

pub highest_over : (mine : List ℕ) → All (λ s. s ≤ highest mine) mine
unfolding highest
highest_over [] = tt
highest_over (a ∷ mine) = (omega arith, all_map (λ s h. omega arith) mine (highest_over mine))

-- both stand among the slots
pub lowest_in : (mine : List ℕ) → 0 < length mine → 0 < count (lowest mine) mine
unfolding lowest count
lowest_in [] h = absurd (omega arith)
lowest_in (a ∷ []) h = omega (arith, is_same a)
lowest_in (a ∷ b ∷ mine) h =
    let rest : ℕ = lowest (b ∷ mine) in
    elim (ℕ_discrete (min a rest) a) [
      | yes e ↦ omega (arith, is_eq {u = min a rest} {v = a} e)
      | no n ↦
          let q : min a rest ≡ rest = omega arith in
          omega (arith, ap (λ (t : ℕ). count t (b ∷ mine)) q, lowest_in (b ∷ mine) (omega arith))
    ]

pub highest_in : (mine : List ℕ) → 0 < length mine → 0 < count (highest mine) mine
unfolding highest count
highest_in [] h = absurd (omega arith)
highest_in (a ∷ []) h = omega (arith, is_eq {u = max a 0} {v = a} (omega arith))
highest_in (a ∷ b ∷ mine) h =
    let rest : ℕ = highest (b ∷ mine) in
    elim (ℕ_discrete (max a rest) a) [
      | yes e ↦ omega (arith, is_eq {u = max a rest} {v = a} e)
      | no n ↦
          let q : max a rest ≡ rest = omega arith in
          omega (arith, ap (λ (t : ℕ). count t (b ∷ mine)) q, highest_in (b ∷ mine) (omega arith))
    ]
