-- The stack's words as the steps of a walk of the definition, and one step of it. Assumes nothing.
use Prim.Native.Nat.{ℕ, ◌+◌, ◌*◌, ◌/◌, ◌%◌, ◌<◌}
use mathlib.Core.Path.{◌≡◌, refl}
use mathlib.Core.List.{List, [], ◌∷◌, map}
use native.Mathlib.Omega.{arith}
use Rattle.multigraph.specs.Multigraph.{Pair}
use Rattle.rings.specs.declared.Rings.{Rings}
use Rattle.euler.specs.Euler.{taken, first_pair, other_node, Step, Walking, standing, walk_step}
use Rattle.euler.proofs.Places.{without, Falling, row, first_taken, first_none}
use Rattle.rings.proofs.Bases.{Laid, P}

-- where the walk began
abbrev pub bottom : ℕ → List ℕ → ℕ
bottom v [] = v
bottom v (x ∷ xs) = bottom (x % 2048) xs

-- parties below N and places below m
abbrev pub Sound : ℕ → ℕ → ℕ → List ℕ → Type 0
Sound N m v [] = v < N
Sound N m v (x ∷ xs) = (v < N) × (x / 2048 < m) × Sound N m (x % 2048) xs

-- the party at which it stands is one
pub sound_here : (N m v : ℕ) (xs : List ℕ) → Sound N m v xs → v < N
sound_here N m v [] h = h
sound_here N m v (x ∷ xs) h = h.0

module _ {l : Rings} {N m k : ℕ} {s₀ : List ℕ} (g : Laid l N m k s₀) (flag : ℕ → ℕ) where
  abbrev Q : ℕ → Pair
  Q i = P g flag i

  -- the stack's words, last first, as steps of a walk that stands at v
  unfoldable pub steps : ℕ → List ℕ → List Step
  steps v [] = []
  steps v (x ∷ xs) = record { pair = Q (x / 2048); to = v } ∷ steps (x % 2048) xs

  stands : (v : ℕ) (xs : List ℕ) → standing (bottom v xs) (steps v xs) ≡ v
  unfolding steps
  stands v [] = refl
  stands v (x ∷ xs) = refl

  -- the definition's walk: standing at v, the stack's words xs, the places that remain is, the places written ws
  abbrev pub walking : ℕ → List ℕ → List ℕ → List ℕ → Walking
  walking v xs is ws = record { stack = steps v xs; left = map Q is; written = map Q ws }

  -- ── one step of the definition's walk ──

  -- a place taken
  pub step_on :
      (s v i w : ℕ) (xs is ys ws : List ℕ) → bottom v xs ≡ s → Falling is → row Q v is ≡ i ∷ ys → v < 2048 → w < 2048 →
      other_node (Q i) v ≡ w → walk_step s (walking v xs is ws) ≡ walking w ((i * 2048 + v) ∷ xs) (without i is) ws
  unfolding walk_step steps
  step_on s v i w xs is ys ws e f q b c o =
      let st : standing s (steps v xs) ≡ v = rw (← e) (stands v xs) in
      let t : first_pair v (map Q is) ≡ taken (Q i) (map Q (without i is)) = first_taken Q v i is ys f q in
      let a : (i * 2048 + v) / 2048 ≡ i = omega arith in
      let d : (i * 2048 + v) % 2048 ≡ v = omega arith in
      rw (st, t, st, o, a, d)

  -- a step back
  pub step_off :
      (s v x : ℕ) (xs is ws : List ℕ) → Falling is → row Q v is ≡ [] →
      walk_step s (walking v (x ∷ xs) is ws) ≡ walking (x % 2048) xs is ((x / 2048) ∷ ws)
  unfolding walk_step steps
  step_off s v x xs is ws f q = rw (first_none Q v is f q)
