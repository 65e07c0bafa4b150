-- Matchings side by side in words: where each begins, what is the first few and the others, and that they stay while only other
-- words change. Assumes nothing.
use Prim.Native.Nat.{ℕ, zero, suc, ◌+◌, ◌*◌, ◌-◌, ◌≤◌, ◌<◌}
use mathlib.Core.Path.{◌≡◌, refl, ap, ◌∙◌}
use mathlib.Core.List.{List, [], ◌∷◌, ◌++◌}
use native.Mathlib.Omega.{arith}
use native.Mathlib.Nat.{add-zero, zero-add, mul-zero}
use lib.ListN.{length, take, drop, get_or}
use lib.Seq.{take_at, drop_at}
use Rattle.words.specs.Basics.{All}
use Rattle.words.specs.Words.{word}
use Rattle.multigraph.specs.Multigraph.{Graph, add_matching}
use Rattle.multigraph.specs.Regular.{Positive}
use Rattle.multigraph.specs.Stored.{numbered, matching_at, matchings_at}
use Rattle.multigraph.proofs.Spans.{matching_span, matched, span_same, add_matching_append}
use Rattle.multigraph.proofs.Kept.{EndsKept, numbered_kept}

-- ── the numbers of one ──

-- two stretches of numbers are two matchings, one after the other
pub matching_append :
    (s : List ℕ) (ends pairs m k l : ℕ) →
    matching_at s ends pairs m (k + l) ≡ matching_at s ends pairs m k ++ matching_at s ends pairs (m + k) l
unfolding matching_at
matching_append s ends pairs m zero l = rw (zero-add, add-zero)
matching_append s ends pairs m (suc k) l =
    let n : suc k + l ≡ suc (k + l) = omega arith in
    let e : m + 1 + k ≡ m + suc k = omega arith in
    let ih = matching_append s ends pairs (m + 1) k l in
    rw n (ap (λ x. numbered s ends pairs (word s m) 1 ∷ x) (rw e at ih))

pub matching_snoc :
    (s : List ℕ) (ends pairs m k : ℕ) →
    matching_at s ends pairs m (k + 1) ≡ matching_at s ends pairs m k ++ numbered s ends pairs (word s (m + k)) 1 ∷ []
unfolding matching_at
matching_snoc s ends pairs m k = matching_append s ends pairs m k 1

-- Matchings side by side are added one after the other: so one call adds several.
pub add_side_by_side :
    (h : Graph) (s : List ℕ) (ends pairs m k l : ℕ) →
    add_matching h (matching_at s ends pairs m (k + l))
    ≡ add_matching (add_matching h (matching_at s ends pairs m k)) (matching_at s ends pairs (m + k) l)
add_side_by_side h s ends pairs m k l =
    rw (matching_append s ends pairs m k l)
    (add_matching_append h (matching_at s ends pairs m k) (matching_at s ends pairs (m + k) l))

-- ── several ──

pub matchings_append :
    (s : List ℕ) (ends pairs out n a b : ℕ) →
    matchings_at s ends pairs out n (a + b)
    ≡ matchings_at s ends pairs out n a ++ matchings_at s ends pairs (out + n * a) n b
unfolding matchings_at
matchings_append s ends pairs out n zero b = rw (zero-add, mul-zero, add-zero)
matchings_append s ends pairs out n (suc a) b =
    let e : suc a + b ≡ suc (a + b) = omega arith in
    let f : out + n * suc a ≡ out + n + n * a = omega arith in
    rw (e, f) (ap (λ l. matching_at s ends pairs out n ∷ l) (matchings_append s ends pairs (out + n) n a b))

pub matchings_length : (s : List ℕ) (ends pairs out n d : ℕ) → length (matchings_at s ends pairs out n d) ≡ d
unfolding matchings_at
matchings_length s ends pairs out n zero = refl
matchings_length s ends pairs out n (suc d) = ap suc (matchings_length s ends pairs (out + n) n d)

-- the earliest j, and the others
pub matchings_take :
    (s : List ℕ) (ends pairs out n j d : ℕ) → j ≤ d →
    take j (matchings_at s ends pairs out n d) ≡ matchings_at s ends pairs out n j
matchings_take s ends pairs out n j d le =
    let e : d ≡ j + (d - j) = omega arith in
    rw (ap (matchings_at s ends pairs out n) e ∙ matchings_append s ends pairs out n j (d - j))
    (take_at (matchings_at s ends pairs out n j) (matchings_at s ends pairs (out + n * j) n (d - j)) j (matchings_length s ends pairs out n j))

pub matchings_drop :
    (s : List ℕ) (ends pairs out n j d : ℕ) → j ≤ d →
    drop j (matchings_at s ends pairs out n d) ≡ matchings_at s ends pairs (out + n * j) n (d - j)
matchings_drop s ends pairs out n j d le =
    let e : d ≡ j + (d - j) = omega arith in
    rw (ap (matchings_at s ends pairs out n) e ∙ matchings_append s ends pairs out n j (d - j))
    (drop_at (matchings_at s ends pairs out n j) (matchings_at s ends pairs (out + n * j) n (d - j)) j (matchings_length s ends pairs out n j))

-- matching i is the one whose words begin n·i behind the first
pub matchings_nth :
    (s : List ℕ) (ends pairs out n d i : ℕ) → i < d →
    get_or (matchings_at s ends pairs out n d) i [] ≡ matching_at s ends pairs (out + n * i) n
unfolding matchings_at
matchings_nth s ends pairs out n zero i h = absurd (omega arith)
matchings_nth s ends pairs out n (suc d) zero h = rw (mul-zero, add-zero)
matchings_nth s ends pairs out n (suc d) (suc i) h =
    let e : out + n * suc i ≡ out + n + n * i = omega arith in
    rw e (matchings_nth s ends pairs (out + n) n d i (omega arith))

-- ── every number stands for one copy ──

matching_positive : (s : List ℕ) (ends pairs m k : ℕ) → Positive (matching_at s ends pairs m k)
unfolding matching_at
matching_positive s ends pairs m zero = tt
matching_positive s ends pairs m (suc k) = (omega arith, matching_positive s ends pairs (m + 1) k)

pub matchings_positive : (s : List ℕ) (ends pairs out n d : ℕ) → All Positive (matchings_at s ends pairs out n d)
unfolding matchings_at
matchings_positive s ends pairs out n zero = tt
matchings_positive s ends pairs out n (suc d) =
    (matching_positive s ends pairs out n, matchings_positive s ends pairs (out + n) n d)

-- ── what stays ──

module _ {ends rows : ℕ} {s t : List ℕ} (kept : EndsKept ends rows s t) where
  pub matching_kept :
      (pairs m n : ℕ) → ((i : ℕ) → i < n → word t (m + i) ≡ word s (m + i)) → ((i : ℕ) → i < n → word s (m + i) < rows) →
      matching_at t ends pairs m n ≡ matching_at s ends pairs m n
  matching_kept pairs m n same below =
      rw (matching_span t ends pairs m n, matching_span s ends pairs m n)
      (span_same (matched s ends pairs m) (matched t ends pairs m) 0 n
      (λ j a b.
      let e : word t (m + j) ≡ word s (m + j) = same j (omega arith) in
      rw e (numbered_kept kept pairs (word s (m + j)) 1 (below j (omega arith)))))

  pub matchings_kept :
      (pairs out n d : ℕ) → ((i : ℕ) → i < n * d → word t (out + i) ≡ word s (out + i)) →
      ((i : ℕ) → i < n * d → word s (out + i) < rows) → matchings_at t ends pairs out n d ≡ matchings_at s ends pairs out n d
  unfolding matchings_at
  matchings_kept pairs out n zero same below = refl
  matchings_kept pairs out n (suc d) same below =
      let first = matching_kept pairs out n (λ i h. same i (omega arith)) (λ i h. below i (omega arith)) in
      let others =
      matchings_kept pairs (out + n) n d
      (λ i h. let e : out + n + i ≡ out + (n + i) = omega arith in rw e (same (n + i) (omega arith)))
      (λ i h. let e : out + n + i ≡ out + (n + i) = omega arith in rw e (below (n + i) (omega arith))) in
      rw (first, others)
