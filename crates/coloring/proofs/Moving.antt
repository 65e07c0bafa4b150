-- Matchings added to a regular graph raise its degree by as many, and their copies add up. Assumes nothing.
use Prim.Native.Nat.{ℕ, zero, suc, ◌+◌, ◌*◌, ◌<◌}
use mathlib.Core.Path.{◌≡◌, sym, ◌∙◌}
use mathlib.Core.List.{List, [], ◌∷◌}
use native.Mathlib.Omega.{arith}
use native.Mathlib.Nat.{mul-zero}
use lib.ListN.{length}
use Rattle.words.specs.Basics.{total, All}
use Rattle.words.proofs.Sums.{all_map, total_cong_all, total_const}
use Rattle.multigraph.specs.Multigraph.{Graph, add_matching}
use Rattle.multigraph.specs.Regular.{weigh, names, degree, Regular, Positive, Symmetric}
use Rattle.multigraph.specs.Stored.{matching_at, matchings_at}
use Rattle.multigraph.proofs.Ends.{names_symmetric}
use Rattle.multigraph.proofs.Matchings.{weigh_add_matching, Sound, add_matching_sound}
use Rattle.multigraph.proofs.SideBySide.{add_side_by_side}
use Rattle.perfect_matching.specs.Perfect.{Full, Perfect}
use Rattle.perfect_matching.proofs.MatchingLaws.{perfect_weigh}
use Rattle.coloring.specs.EdgeColor.{add_matchings}

-- each party has as many copies in perfect matchings as there are matchings
pub perfect_degrees :
    (N : ℕ) (side : ℕ → ℕ) (v : ℕ) → v < N → (ms : List Graph) → All (Perfect N side) ms →
    total (λ (m : Graph). degree v m) ms ≡ length ms
perfect_degrees N side v below ms h =
    let ones : total (λ (m : Graph). degree v m) ms ≡ total (λ (m : Graph). 1) ms =
    total_cong_all _ _ ms (all_map (λ m p. p.regular.even v below) ms h) in
    omega (arith, ones, total_const 1 ms)

pub weigh_add_matchings :
    (w : ℕ → ℕ → ℕ) → Symmetric w → (N : ℕ) (side : ℕ → ℕ) (g : Graph) (ms : List Graph) → All (Perfect N side) ms →
    weigh w (add_matchings g ms) ≡ weigh w g + total (λ (m : Graph). weigh w m) ms
unfolding add_matchings total
weigh_add_matchings w s N side g [] h = omega arith
weigh_add_matchings w s N side g (m ∷ ms) h =
    omega (
      arith,
      weigh_add_matchings w s N side (add_matching g m) ms h.1,
      weigh_add_matching w s g m,
      perfect_weigh w N side m h.0,
    )

pub add_matchings_sound :
    (N : ℕ) (side : ℕ → ℕ) (g : Graph) (ms : List Graph) → Sound N side g → All (Perfect N side) ms →
    Sound N side (add_matchings g ms)
unfolding add_matchings
add_matchings_sound N side g [] k h = k
add_matchings_sound N side g (m ∷ ms) k h =
    add_matchings_sound N side (add_matching g m) ms (add_matching_sound N side g m k h.0.regular.across) h.1

pub full : {N : ℕ} {side : ℕ → ℕ} {d : ℕ} {g : Graph} → Regular N side d g → Positive g → Full N side d g
full r pos = record { regular = r; positive = pos }

pub full_sound : (N : ℕ) (side : ℕ → ℕ) (d : ℕ) (g : Graph) → Full N side d g → Sound N side g
full_sound N side d g f = record { across = f.regular.across; apart = f.regular.apart; positive = f.positive }

pub sound_full :
    {N : ℕ} {side : ℕ → ℕ} {d : ℕ} {g : Graph} → ((v : ℕ) → v < N → degree v g ≡ d) → Sound N side g → Full N side d g
sound_full even s = full (record { even = even; across = s.across; apart = s.apart }) s.positive

-- each matching that is moved to a graph raises its degree by 1
pub add_matchings_law :
    (N : ℕ) (side : ℕ → ℕ) (k : ℕ) (g : Graph) (ms : List Graph) → Full N side k g → All (Perfect N side) ms →
    Full N side (k + length ms) (add_matchings g ms)
add_matchings_law N side k g ms f h =
    sound_full
    (λ v below.
    omega (
      arith,
      weigh_add_matchings (names v) (names_symmetric v) N side g ms h,
      f.regular.even v below,
      perfect_degrees N side v below ms h,
    ))
    (add_matchings_sound N side g ms (full_sound N side k g f) h)

-- ── over words ──

-- one call adds several matchings
pub add_matchings_words :
    (h : Graph) (s : List ℕ) (ends pairs m n k : ℕ) →
    add_matchings h (matchings_at s ends pairs m n k) ≡ add_matching h (matching_at s ends pairs m (n * k))
unfolding matchings_at add_matchings add_matching matching_at
add_matchings_words h s ends pairs m n zero = rw mul-zero
add_matchings_words h s ends pairs m n (suc k) =
    let e : n * suc k ≡ n + n * k = omega arith in
    rw e
    (add_matchings_words (add_matching h (matching_at s ends pairs m n)) s ends pairs (m + n) n k
    ∙ sym (add_side_by_side h s ends pairs m n (n * k)))
