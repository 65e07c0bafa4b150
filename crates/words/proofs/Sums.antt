-- The laws of `is`, of sums over a list and over the numbers below a bound, of counts, and of properties that all members
-- have. Assumes nothing.
use Prim.Native.Nat.{ℕ, zero, suc, ◌+◌, ◌*◌, ◌≤◌, ◌<◌}
use mathlib.Core.Path.{◌≡◌, refl, sym, ◌∙◌, ap, subst}
use mathlib.Core.List.{List, [], ◌∷◌, ◌++◌, map, reverse, reverse_aux}
use mathlib.Core.Logic.{◌⊎◌, inl, inr, ⊎_elim}
use native.Mathlib.Omega.{arith}
use native.Mathlib.Nat.{add-zero, add-suc}
use native.Mathlib.Numerals.{add-one}
use native.Mathlib.Decide.{ℕ_discrete}
use borrow.Author.Tests.{eq-eqb, ne_eqb}
use lib.ListN.{length, take, get_or}
use Rattle.words.specs.Basics.{is, total, count, All, sum_below}

-- ── is ──

pub is_eq : {u v : ℕ} → u ≡ v → is u v ≡ 1
unfolding is
is_eq {u} {v} e = rw (eq-eqb u v e)

pub is_same : (v : ℕ) → is v v ≡ 1
is_same v = is_eq refl

pub is_ne : {u v : ℕ} → (u ≡ v → ⊥) → is u v ≡ 0
unfolding is
is_ne {u} {v} n = rw (ne_eqb u v n)

-- the two cases, with what `is` is in each
pub is_cases : (u v : ℕ) → ((u ≡ v) × (is u v ≡ 1)) ⊎ ((u ≡ v → ⊥) × (is u v ≡ 0))
is_cases u v = elim (ℕ_discrete u v) [ yes e ↦ inl (e, is_eq e) | no n ↦ inr (n, is_ne n) ]

pub is_le : (u v : ℕ) → is u v ≤ 1
is_le u v = ⊎_elim (λ c. omega arith) (λ c. omega arith) (is_cases u v)

pub is_sym : (u v : ℕ) → is u v ≡ is v u
is_sym u v = ⊎_elim (λ c. c.1 ∙ sym (is_eq (sym c.0))) (λ c. c.1 ∙ sym (is_ne (λ e. c.0 (sym e)))) (is_cases u v)

-- where `is` is not 0 the numbers are equal
pub is_pos : (u v : ℕ) → 0 < is u v → u ≡ v
is_pos u v h = ⊎_elim (λ c. c.0) (λ c. absurd (omega arith)) (is_cases u v)

-- ── sums over a list ──

module _ {ℓ} {A : Type ℓ} where
  pub total_append : (f : A → ℕ) (xs ys : List A) → total f (xs ++ ys) ≡ total f xs + total f ys
  unfolding total
  total_append f [] ys = omega arith
  total_append f (x ∷ xs) ys = omega (arith, total_append f xs ys)

  total_reverse_aux : (f : A → ℕ) (xs ys : List A) → total f (reverse_aux xs ys) ≡ total f xs + total f ys
  unfolding total
  total_reverse_aux f [] ys = omega arith
  total_reverse_aux f (x ∷ xs) ys = omega (arith, total_reverse_aux f xs (x ∷ ys))

  pub total_reverse : (f : A → ℕ) (xs : List A) → total f (reverse xs) ≡ total f xs
  unfolding total
  total_reverse f xs = omega (arith, total_reverse_aux f xs [])

  pub total_cong : {f g : A → ℕ} → ((x : A) → f x ≡ g x) → (xs : List A) → total f xs ≡ total g xs
  unfolding total
  total_cong h [] = refl
  total_cong h (x ∷ xs) = omega (arith, h x, total_cong h xs)

  pub total_cong_all : (f g : A → ℕ) (xs : List A) → All (λ x. f x ≡ g x) xs → total f xs ≡ total g xs
  unfolding total
  total_cong_all f g [] h = refl
  total_cong_all f g (x ∷ xs) h = omega (arith, total_cong_all f g xs h.1)

  pub total_add : (f g : A → ℕ) (xs : List A) → total (λ x. f x + g x) xs ≡ total f xs + total g xs
  unfolding total
  total_add f g [] = refl
  total_add f g (x ∷ xs) = omega (arith, total_add f g xs)

  pub total_mul : (k : ℕ) (f : A → ℕ) (xs : List A) → total (λ x. k * f x) xs ≡ k * total f xs
  unfolding total
  total_mul k f [] = omega arith
  total_mul k f (x ∷ xs) = omega (arith, total_mul k f xs)

  pub total_le : {f g : A → ℕ} → ((x : A) → f x ≤ g x) → (xs : List A) → total f xs ≤ total g xs
  unfolding total
  total_le h [] = omega arith
  total_le h (x ∷ xs) = omega (arith, h x, total_le h xs)

  pub total_le_all : (f g : A → ℕ) (xs : List A) → All (λ x. f x ≤ g x) xs → total f xs ≤ total g xs
  unfolding total
  total_le_all f g [] h = omega arith
  total_le_all f g (x ∷ xs) h = omega (arith, total_le_all f g xs h.1)

  pub total_const : (k : ℕ) (xs : List A) → total (λ (x : A). k) xs ≡ length xs * k
  unfolding total
  total_const k [] = omega arith
  total_const k (x ∷ xs) = omega (arith, total_const k xs)

  pub total_zero : (xs : List A) → total (λ (x : A). 0) xs ≡ 0
  unfolding total
  total_zero [] = refl
  total_zero (x ∷ xs) = omega (arith, total_zero xs)

  -- a sum of 0 has only parts of 0, and the other way round
  pub total_zero_all : (f : A → ℕ) (xs : List A) → total f xs ≡ 0 → All (λ x. f x ≡ 0) xs
  unfolding total
  total_zero_all f [] h = tt
  total_zero_all f (x ∷ xs) h = (omega arith, total_zero_all f xs (omega arith))

  pub total_all_zero : (f : A → ℕ) (xs : List A) → All (λ x. f x ≡ 0) xs → total f xs ≡ 0
  unfolding total
  total_all_zero f [] h = refl
  total_all_zero f (x ∷ xs) h = omega (arith, total_all_zero f xs h.1)

-- the order of two sums over lists
pub total_swap {ℓ κ} : {A : Type ℓ} {B : Type κ} (f : A → B → ℕ) (xs : List A) (ys : List B) → total (λ x. total (f x) ys) xs ≡ total (λ y. total (λ x. f x y) xs) ys
unfolding total
total_swap f [] ys = sym (total_zero ys)
total_swap f (x ∷ xs) ys =
    ap (λ (k : ℕ). total (f x) ys + k) (total_swap f xs ys) ∙ sym (total_add (f x) (λ y. total (λ z. f z y) xs) ys)

-- the sum over a mapped list
pub total_map {ℓ κ} : {A : Type ℓ} {B : Type κ} (f : B → ℕ) (g : A → B) (xs : List A) → total f (map g xs) ≡ total (λ x. f (g x)) xs
unfolding total
total_map f g [] = refl
total_map f g (x ∷ xs) = omega (arith, total_map f g xs)

-- ── counts ──

pub count_total : (v : ℕ) (xs : List ℕ) → count v xs ≡ total (is v) xs
unfolding count total
count_total v [] = refl
count_total v (x ∷ xs) = omega (arith, count_total v xs)

pub total_is : (a : ℕ) (vs : List ℕ) → total (λ v. is v a) vs ≡ count a vs
total_is a vs = total_cong (λ v. is_sym v a) vs ∙ sym (count_total a vs)

pub count_append : (v : ℕ) (xs ys : List ℕ) → count v (xs ++ ys) ≡ count v xs + count v ys
unfolding count
count_append v [] ys = omega arith
count_append v (x ∷ xs) ys = omega (arith, count_append v xs ys)

pub count_le : (v : ℕ) (xs : List ℕ) → count v xs ≤ length xs
unfolding count
count_le v [] = omega arith
count_le v (x ∷ xs) = omega (arith, is_le v x, count_le v xs)

-- no member is v where v is counted 0 times, and the other way round
pub count_zero : (v : ℕ) (xs : List ℕ) → count v xs ≡ 0 → All (λ x. v ≡ x → ⊥) xs
unfolding count
count_zero v [] h = tt
count_zero v (x ∷ xs) h = (λ e. omega (arith, is_eq e), count_zero v xs (omega arith))

pub zero_count : (v : ℕ) (xs : List ℕ) → All (λ x. v ≡ x → ⊥) xs → count v xs ≡ 0
unfolding count
zero_count v [] h = refl
zero_count v (x ∷ xs) h = omega (arith, is_ne h.0, zero_count v xs h.1)

-- a number that is counted has what all members have
pub all_counted : (P : ℕ → Type 0) (v : ℕ) (xs : List ℕ) → All P xs → 0 < count v xs → P v
unfolding count
all_counted P v [] h k = absurd (omega arith)
all_counted P v (x ∷ xs) h k =
    elim (ℕ_discrete v x)
    [ yes e ↦ subst P (sym e) h.0 | no n ↦ all_counted P v xs h.1 (omega (arith, is_ne {u = v} {v = x} n)) ]

pub count_take_le : (v : ℕ) (list : List ℕ) (k : ℕ) → count v (take k list) ≤ count v list
unfolding count
count_take_le v [] zero = omega arith
count_take_le v [] (suc k) = omega arith
count_take_le v (x ∷ xs) zero = omega arith
count_take_le v (x ∷ xs) (suc k) = omega (arith, count_take_le v xs k)

-- the number at a position is counted
pub count_at : (v : ℕ) (xs : List ℕ) (i : ℕ) → i < length xs → get_or xs i 0 ≡ v → 0 < count v xs
unfolding count
count_at v [] i h e = absurd (omega arith)
count_at v (x ∷ xs) zero h e = omega (arith, is_eq (sym e))
count_at v (x ∷ xs) (suc i) h e = omega (arith, count_at v xs i (omega arith) e)

-- a number that is counted at most once stands at one position
pub count_once :
    (v : ℕ) (xs : List ℕ) → count v xs ≤ 1 → (i j : ℕ) → i < length xs → j < length xs → get_or xs i 0 ≡ v → get_or xs j 0 ≡ v →
    i ≡ j
unfolding count
count_once v [] h i j a b e f = absurd (omega arith)
count_once v (x ∷ xs) h zero zero a b e f = refl
count_once v (x ∷ xs) h zero (suc j) a b e f = absurd (omega (arith, is_eq (sym e), count_at v xs j (omega arith) f))
count_once v (x ∷ xs) h (suc i) zero a b e f = absurd (omega (arith, is_eq (sym f), count_at v xs i (omega arith) e))
count_once v (x ∷ xs) h (suc i) (suc j) a b e f = ap suc (count_once v xs (omega arith) i j (omega arith) (omega arith) e f)

-- ── all members ──

module _ {ℓ} {A : Type ℓ} where
  pub all_append : (P : A → Type 0) (xs ys : List A) → All P xs → All P ys → All P (xs ++ ys)
  all_append P [] ys h k = k
  all_append P (x ∷ xs) ys h k = (h.0, all_append P xs ys h.1 k)

  pub all_left : (P : A → Type 0) (xs ys : List A) → All P (xs ++ ys) → All P xs
  all_left P [] ys h = tt
  all_left P (x ∷ xs) ys h = (h.0, all_left P xs ys h.1)

  pub all_right : (P : A → Type 0) (xs ys : List A) → All P (xs ++ ys) → All P ys
  all_right P [] ys h = h
  all_right P (x ∷ xs) ys h = all_right P xs ys h.1

  all_reverse_aux : (P : A → Type 0) (xs ys : List A) → All P xs → All P ys → All P (reverse_aux xs ys)
  all_reverse_aux P [] ys h k = k
  all_reverse_aux P (x ∷ xs) ys h k = all_reverse_aux P xs (x ∷ ys) h.1 (h.0, k)

  pub all_reverse : (P : A → Type 0) (xs : List A) → All P xs → All P (reverse xs)
  all_reverse P xs h = all_reverse_aux P xs [] h tt

  -- what holds of every thing holds of all members
  pub all_of : {P : A → Type 0} → ((x : A) → P x) → (xs : List A) → All P xs
  all_of h [] = tt
  all_of h (x ∷ xs) = (h x, all_of h xs)

  -- P passes to Q at every member
  pub all_map : {P Q : A → Type 0} → ((x : A) → P x → Q x) → (xs : List A) → All P xs → All Q xs
  all_map f [] h = tt
  all_map f (x ∷ xs) h = (f x h.0, all_map f xs h.1)

  pub all_both : (P Q : A → Type 0) (xs : List A) → All P xs → All Q xs → All (λ x. P x × Q x) xs
  all_both P Q [] h k = tt
  all_both P Q (x ∷ xs) h k = ((h.0, k.0), all_both P Q xs h.1 k.1)

  -- the member at a position
  pub all_at : (P : A → Type 0) (xs : List A) (d : A) → All P xs → (i : ℕ) → i < length xs → P (get_or xs i d)
  all_at P [] d h i k = absurd (omega arith)
  all_at P (x ∷ xs) d h zero k = h.0
  all_at P (x ∷ xs) d h (suc i) k = all_at P xs d h.1 i (omega arith)

  pub all_by : (P : A → Type 0) (xs : List A) (d : A) → ((i : ℕ) → i < length xs → P (get_or xs i d)) → All P xs
  all_by P [] d h = tt
  all_by P (x ∷ xs) d h = (h 0 (omega arith), all_by P xs d (λ i k. h (suc i) (omega arith)))

-- ── sums over the numbers below a bound ──

-- one number more
pub sum_below_more : (f : ℕ → ℕ) (n : ℕ) → sum_below f (n + 1) ≡ sum_below f n + f n
unfolding sum_below
sum_below_more f n = rw (add-one n)

pub sum_below_cong : {f g : ℕ → ℕ} (n : ℕ) → ((v : ℕ) → v < n → f v ≡ g v) → sum_below f n ≡ sum_below g n
unfolding sum_below
sum_below_cong zero h = refl
sum_below_cong (suc n) h = omega (arith, h n (omega arith), sum_below_cong n (λ v k. h v (omega arith)))

pub sum_below_add : (f g : ℕ → ℕ) (n : ℕ) → sum_below (λ v. f v + g v) n ≡ sum_below f n + sum_below g n
unfolding sum_below
sum_below_add f g zero = refl
sum_below_add f g (suc n) = omega (arith, sum_below_add f g n)

pub sum_below_mul : (k : ℕ) (f : ℕ → ℕ) (n : ℕ) → sum_below (λ v. k * f v) n ≡ k * sum_below f n
unfolding sum_below
sum_below_mul k f zero = omega arith
sum_below_mul k f (suc n) = omega (arith, sum_below_mul k f n)

pub sum_below_le : {f g : ℕ → ℕ} (n : ℕ) → ((v : ℕ) → v < n → f v ≤ g v) → sum_below f n ≤ sum_below g n
unfolding sum_below
sum_below_le zero h = omega arith
sum_below_le (suc n) h = omega (arith, h n (omega arith), sum_below_le n (λ v k. h v (omega arith)))

pub sum_below_const : (k n : ℕ) → sum_below (λ v. k) n ≡ n * k
unfolding sum_below
sum_below_const k zero = omega arith
sum_below_const k (suc n) = omega (arith, sum_below_const k n)

-- a sum whose every part is 0
pub sum_below_all_zero : {f : ℕ → ℕ} (n : ℕ) → ((v : ℕ) → v < n → f v ≡ 0) → sum_below f n ≡ 0
unfolding sum_below
sum_below_all_zero zero h = refl
sum_below_all_zero (suc n) h = omega (arith, h n (omega arith), sum_below_all_zero n (λ v k. h v (omega arith)))

-- and a sum of 0 has only parts of 0
pub sum_below_zero_all : (f : ℕ → ℕ) (n : ℕ) → sum_below f n ≡ 0 → (v : ℕ) → v < n → f v ≡ 0
unfolding sum_below
sum_below_zero_all f zero e v h = absurd (omega arith)
sum_below_zero_all f (suc n) e v h =
    elim (ℕ_discrete v n) [ yes q ↦ ap f q ∙ omega arith | no q ↦ sum_below_zero_all f n (omega arith) v (omega arith) ]

-- one part is at most the sum
pub sum_below_part : (f : ℕ → ℕ) (n v : ℕ) → v < n → f v ≤ sum_below f n
unfolding sum_below
sum_below_part f zero v h = absurd (omega arith)
sum_below_part f (suc n) v h =
    elim (ℕ_discrete v n) [ yes q ↦ omega (arith, ap f q) | no q ↦ omega (arith, sum_below_part f n v (omega arith)) ]

-- where no part is more than in g, and the sums are equal, each part is equal
pub sum_below_tight : (f g : ℕ → ℕ) (n : ℕ) → ((v : ℕ) → v < n → f v ≤ g v) → sum_below f n ≡ sum_below g n → (v : ℕ) → v < n → f v ≡ g v
unfolding sum_below
sum_below_tight f g zero le e v h = absurd (omega arith)
sum_below_tight f g (suc n) le e v h =
    let under : sum_below f n ≤ sum_below g n = sum_below_le n (λ u k. le u (omega arith)) in
    let top : f n ≤ g n = le n (omega arith) in
    elim (ℕ_discrete v n) [
      | yes q ↦ ap f q ∙ omega arith ∙ ap g (sym q)
      | no q ↦ sum_below_tight f g n (λ u k. le u (omega arith)) (omega arith) v (omega arith)
    ]

sum_below_off : (a n : ℕ) → n ≤ a → sum_below (λ v. is v a) n ≡ 0
sum_below_off a n h = sum_below_all_zero n (λ v k. is_ne (λ e. omega arith))

pub sum_below_is : (a n : ℕ) → a < n → sum_below (λ v. is v a) n ≡ 1
unfolding sum_below
sum_below_is a zero h = absurd (omega arith)
sum_below_is a (suc n) h =
    elim (ℕ_discrete a n) [
      | yes q ↦ omega (arith, sum_below_off a n (omega arith), is_eq (sym q))
      | no q ↦ omega (arith, sum_below_is a n (omega arith), is_ne {u = n} {v = a} (λ e. q (sym e)))
    ]

-- the order of two sums
pub sum_below_total {ℓ} : {A : Type ℓ} (f : ℕ → A → ℕ) (n : ℕ) (xs : List A) → sum_below (λ v. total (f v) xs) n ≡ total (λ x. sum_below (λ v. f v x) n) xs
unfolding total sum_below
sum_below_total f n [] = sum_below_all_zero n (λ v k. refl)
sum_below_total f n (x ∷ xs) =
    sum_below_add (λ v. f v x) (λ v. total (f v) xs) n ∙ ap (λ (k : ℕ). sum_below (λ v. f v x) n + k) (sum_below_total f n xs)

-- the sum of what is picked out once: f v where v is a, else 0
pub sum_below_at : (f : ℕ → ℕ) (a n : ℕ) → a < n → sum_below (λ v. is v a * f v) n ≡ f a
sum_below_at f a n h =
    sum_below_cong n (λ v k. at v)
    ∙ sum_below_mul (f a) (λ v. is v a) n
    ∙ omega (arith, ap (λ (k : ℕ). f a * k) (sum_below_is a n h))
  where
    at : (v : ℕ) → is v a * f v ≡ f a * is v a
    at v = ⊎_elim (λ c. rw (c.1, ap f c.0) (omega arith)) (λ c. rw c.1 (omega arith)) (is_cases v a)

-- each number of a list whose members are below n is counted once
pub sum_below_count : (n : ℕ) (xs : List ℕ) → All (λ x. x < n) xs → sum_below (λ v. count v xs) n ≡ length xs
unfolding count
sum_below_count n [] h = sum_below_all_zero n (λ v k. refl)
sum_below_count n (x ∷ xs) h =
    sum_below_add (λ v. is v x) (λ v. count v xs) n ∙ omega (arith, sum_below_is x n h.0, sum_below_count n xs h.1)

pub sum_below_swap : (f : ℕ → ℕ → ℕ) (m n : ℕ) → sum_below (λ u. sum_below (f u) n) m ≡ sum_below (λ v. sum_below (λ u. f u v) m) n
unfolding sum_below
sum_below_swap f zero n = sym (sum_below_all_zero n (λ v k. refl))
sum_below_swap f (suc m) n =
    ap (λ (k : ℕ). k + sum_below (f m) n) (sum_below_swap f m n)
    ∙ sym (sum_below_add (λ v. sum_below (λ u. f u v) m) (f m) n)

-- the numbers below m, then the n after them
pub sum_below_join : (f : ℕ → ℕ) (m n : ℕ) → sum_below f (m + n) ≡ sum_below f m + sum_below (λ v. f (m + v)) n
unfolding sum_below
sum_below_join f m zero = rw (add-zero m) (omega arith)
sum_below_join f m (suc n) = rw add-suc (omega (arith, sum_below_join f m n))
