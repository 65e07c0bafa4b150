-- The sides made even: with new parties, numbered on from P, appended to the shorter side, each party of both sides stands
-- once on its side, and the two sides are equally long. Assumes nothing.
use Prim.Native.Nat.{ℕ, zero, suc, ◌+◌, ◌-◌, ◌≤◌, ◌<◌, max}
use mathlib.Core.Path.{◌≡◌, refl, ◌∙◌}
use mathlib.Core.List.{List}
use native.Mathlib.Omega.{arith}
use native.Mathlib.Decide.{dec_le}
use borrow.Author.Tests.{lt-ltb, le-ltb}
use lib.Dec.{ltb}
use lib.ListN.{length, length-append}
use Rattle.words.specs.Basics.{pick, count, All}
use Rattle.words.proofs.Sums.{is_eq, is_ne, total_all_zero, count_append, zero_count, all_append, all_map, all_both}
use Rattle.appointments.specs.Appointments.{Appt, names, load}
use Rattle.appointments.proofs.Loads.{Listed}
use Rattle.appointments.specs.TwoSides.{TwoSides}
use Rattle.multigraph.specs.Regular.{Partition}
use Rattle.regular_graph.specs.Evening.{new_parties, padded}
use Rattle.regular_graph.proofs.Pairs.{Crosses}

-- ── new parties ──

-- there are k of them
pub new_parties_length : (v k : ℕ) → length (new_parties v k) ≡ k
unfolding new_parties
new_parties_length v zero = refl
new_parties_length v (suc k) = omega (arith, new_parties_length (v + 1) k)

-- they are the numbers from v to v + k - 1
pub new_parties_all : (v k : ℕ) → All (λ u. (v ≤ u) × (u < v + k)) (new_parties v k)
unfolding new_parties
new_parties_all v zero = tt
new_parties_all v (suc k) =
    let later : List ℕ = new_parties (v + 1) k in
    ((omega arith, omega arith), all_map (λ u h. (omega arith, omega arith)) later (new_parties_all (v + 1) k))

-- each once
pub new_parties_off : (u v k : ℕ) → u < v → count u (new_parties v k) ≡ 0
new_parties_off u v k h =
    zero_count u (new_parties v k) (all_map (λ w b e. omega arith) (new_parties v k) (new_parties_all v k))

-- a number that is among them is there once
pub new_parties_once : (u v k : ℕ) → v ≤ u → u < v + k → count u (new_parties v k) ≡ 1
unfolding new_parties count
new_parties_once u v zero h l = absurd (omega arith)
new_parties_once u v (suc k) h l =
    elim (dec_le u v) [
      | yes le ↦ omega (arith, is_eq {u = u} {v = v} (omega arith), new_parties_off u (v + 1) k (omega arith))
      | no n ↦
          omega (
            arith,
            is_ne {u = u} {v = v} (λ e. omega arith),
            new_parties_once u (v + 1) k (omega arith) (omega arith),
          )
    ]

-- of two stretches from v on, one of them empty
pub new_parties_either :
    (u v k m : ℕ) → v ≤ u → u < v + k + m → (0 < k → m ≡ 0) → count u (new_parties v k) + count u (new_parties v m) ≡ 1
unfolding new_parties count
new_parties_either u v zero m h l one = omega (arith, new_parties_once u v m h (omega arith))
new_parties_either u v (suc k) m h l one =
    let z : m ≡ 0 = one (omega arith) in
    rw z (omega (arith, new_parties_once u v (suc k) h (omega arith)))

-- ── sides ──

-- a party's side: that of the list for the parties below P, and the shorter side for new ones
unfoldable pub padded_side : ℕ → List ℕ → List ℕ → (ℕ → ℕ) → ℕ → ℕ
padded_side P left right side v = pick (ltb v P) (side v) (pick (ltb (length left) (length right)) 0 1)

module _ (P : ℕ) (left right : List ℕ) (side : ℕ → ℕ) where
  -- an old party stays on its side
  pub padded_side_old : (v : ℕ) → v < P → padded_side P left right side v ≡ side v
  unfolding padded_side
  padded_side_old v h = rw (lt-ltb v P h)

  -- a new one is left if the left side was shorter
  pub padded_side_left : (v : ℕ) → P ≤ v → length left < length right → padded_side P left right side v ≡ 0
  unfolding padded_side
  padded_side_left v h l = rw (le-ltb v P h, lt-ltb (length left) (length right) l)

  -- and right if it was not
  pub padded_side_right : (v : ℕ) → P ≤ v → length right ≤ length left → padded_side P left right side v ≡ 1
  unfolding padded_side
  padded_side_right v h l = rw (le-ltb v P h, le-ltb (length left) (length right) l)

-- ── both sides ──

-- a padded side has n parties
pub padded_length : (P n : ℕ) (side : List ℕ) → length side ≤ n → length (padded P n side) ≡ n
padded_length P n side h =
    omega (arith, length-append side (new_parties P (n - length side)), new_parties_length P (n - length side))

-- a party below P is counted as before
pub padded_count_old : (P n v : ℕ) (side : List ℕ) → v < P → count v (padded P n side) ≡ count v side
padded_count_old P n v side h =
    omega (arith, count_append v side (new_parties P (n - length side)), new_parties_off v P (n - length side) h)

-- and a new one among the new
pub padded_count_new :
    (P n v : ℕ) (side : List ℕ) → P ≤ v → All (λ u. u < P) side →
    count v (padded P n side) ≡ count v (new_parties P (n - length side))
padded_count_new P n v side h below =
    omega (
      arith,
      count_append v side (new_parties P (n - length side)),
      zero_count v side (all_map (λ u l e. omega arith) side below),
    )

-- what holds of the old parties and of the new ones holds of all
pub padded_all :
    (Q : ℕ → Type 0) (P n : ℕ) (side : List ℕ) → All Q side → ((v : ℕ) → (P ≤ v) × (v < P + (n - length side)) → Q v) →
    All Q (padded P n side)
padded_all Q P n side old new =
    let k : ℕ = n - length side in
    all_append Q side (new_parties P k) old (all_map new (new_parties P k) (new_parties_all P k))

-- how long both sides are then, and how many parties they have
abbrev pub even_length : List ℕ → List ℕ → ℕ
even_length left right = max (length left) (length right)

-- all parties of both sides
abbrev pub even_parties : List ℕ → List ℕ → ℕ
even_parties left right = even_length left right + even_length left right

module _ (P : ℕ) (xs : List Appt) (side : ℕ → ℕ) (left right : List ℕ) (two : TwoSides P xs side left right) where
  -- each party stands once: an old one where it stood, a new one on the side that was shorter
  once :
      (v : ℕ) → v < even_parties left right →
      count v (padded P (even_length left right) left) + count v (padded P (even_length left right) right) ≡ 1
  once v h =
      let n : ℕ = even_length left right in
      elim (dec_le P v) [
        | yes new ↦
            let under : v < P + (n - length left) + (n - length right) = omega (arith, two.all_parties) in
            omega (
              arith,
              padded_count_new P n v left new (all_map (λ u b. b.0) left two.lefts),
              padded_count_new P n v right new (all_map (λ u b. b.0) right two.rights),
              new_parties_either v P (n - length left) (n - length right) new under (λ k. omega arith),
            )
        | no old ↦
            omega (
              arith,
              padded_count_old P n v left (omega arith),
              padded_count_old P n v right (omega arith),
              two.once v (omega arith),
            )
      ]

  -- The padded sides are equally long and hold each of their parties once.
  pub padded_partition :
      Partition (even_parties left right) (padded_side P left right side) (padded P (even_length left right) left)
      (padded P (even_length left right) right)
  padded_partition =
      record {
        once = once;
        left_side = padded_all (λ v. (v < n + n) × (side' v ≡ 0)) P n left (all_map old left two.lefts) new_left;
        right_side = padded_all (λ v. (v < n + n) × (side' v ≡ 1)) P n right (all_map old right two.rights) new_right;
        same_length = omega (arith, padded_length P n left (omega arith), padded_length P n right (omega arith));
        whole = omega (arith, padded_length P n left (omega arith), padded_length P n right (omega arith));
      }
    where
      n : ℕ
      n = even_length left right

      side' : ℕ → ℕ
      side' = padded_side P left right side

      old : {c : ℕ} (v : ℕ) → (v < P) × (side v ≡ c) → (v < n + n) × (side' v ≡ c)
      old v h = (omega (arith, two.all_parties), padded_side_old P left right side v h.0 ∙ h.1)

      new_left : (v : ℕ) → (P ≤ v) × (v < P + (n - length left)) → (v < n + n) × (side' v ≡ 0)
      new_left v h = (omega (arith, two.all_parties), padded_side_left P left right side v h.0 (omega arith))

      new_right : (v : ℕ) → (P ≤ v) × (v < P + (n - length right)) → (v < n + n) × (side' v ≡ 1)
      new_right v h = (omega (arith, two.all_parties), padded_side_right P left right side v h.0 (omega arith))

  -- Each appointment goes across the padded sides.
  pub padded_crosses :
      All (Listed P) xs → All (Crosses (even_parties left right) (padded_side P left right side)) xs
  padded_crosses listed = all_map crosses xs (all_both _ _ xs listed two.across)
    where
      crosses :
          (x : Appt) → Listed P x × (side x.first + side x.second ≡ 1) →
          Crosses (even_parties left right) (padded_side P left right side) x
      crosses x h =
          let low : P ≤ even_parties left right = omega (arith, two.all_parties) in
          record {
            first_below = omega arith;
            second_below = omega arith;
            sides =
                omega (
                  arith,
                  padded_side_old P left right side x.first h.0.0,
                  padded_side_old P left right side x.second h.0.1,
                );
          }

-- ── loads ──

-- The list names no party from P on: where no party's load is above D, neither is a new one's.
pub padded_loads :
    (P D : ℕ) (xs : List Appt) → All (Listed P) xs → ((v : ℕ) → v < P → load v xs ≤ D) → (v : ℕ) → load v xs ≤ D
unfolding load names
padded_loads P D xs listed most v =
    elim (dec_le P v) [
      | yes new ↦ omega (arith, total_all_zero (names v) xs (all_map (unnamed new) xs listed))
      | no old ↦ most v (omega arith)
    ]
  where
    unnamed : P ≤ v → (x : Appt) → Listed P x → names v x ≡ 0
    unnamed new x h = omega (arith, is_ne {u = v} {v = x.first} (λ e. omega arith), is_ne {u = v} {v = x.second} (λ e. omega arith))
