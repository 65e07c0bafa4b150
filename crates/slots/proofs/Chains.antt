-- Chains of links, and the list of slots that a pair has: highest first, a slot as often as its matching has the pair. Assumes
-- nothing.
use Prim.Native.Nat.{ℕ, zero, suc, ◌+◌, ◌*◌, ◌/◌, ◌%◌, ◌<◌, ◌≤◌}
use mathlib.Core.Path.{◌≡◌, refl, sym, ◌∙◌}
use mathlib.Core.List.{List, [], ◌∷◌, ◌++◌}
use native.Mathlib.Omega.{arith}
use native.Mathlib.Decide.{ℕ_discrete}
use native.Mathlib.Nat.{mul-add-div_right, mul-add-mod_self_right, mod-eq_of_lt, div-eq_of_lt}
use lib.ListN.{replicate}
use Rattle.words.specs.Basics.{is}
use Rattle.words.proofs.Sums.{is_eq, is_ne}

-- ── chains ──

-- From w on there is a link for each slot of the list: at a place below b, not below the slot. `next` is the word at a place;
-- what follows the last link is free.
abbrev pub Chain : (ℕ → ℕ) → ℕ → ℕ → List ℕ → Type 0
Chain next b w [] = Unit {0}
Chain next b w (z ∷ zs) = (t : ℕ) × (w ≡ z * 16384 + t) × (z ≤ t) × (t < b) × Chain next b (next t) zs

-- more places, where the words at those before stay
pub chain_keep :
    (next after : ℕ → ℕ) (b c w : ℕ) (zs : List ℕ) → b ≤ c → ((t : ℕ) → t < b → after t ≡ next t) →
    Chain next b w zs → Chain after c w zs
chain_keep next after b c w [] le same h = tt
chain_keep next after b c w (z ∷ zs) le same h = (
  h.0,
  h.1,
  h.2,
  omega (arith, h.3),
  rw (same h.0 h.3) (chain_keep next after b c (next h.0) zs le same h.4),
)

-- a link fits a word, so cutting to 32 bits changes no chain
pub link_fits : (z t : ℕ) → z ≤ t → t < 16384 → z * 16384 + t < 4294967296
link_fits z t h k = omega arith

pub chain_cut :
    (next : ℕ → ℕ) (b w : ℕ) (zs : List ℕ) → b ≤ 16384 → Chain next b w zs → Chain next b (w % 4294967296) zs
chain_cut next b w [] le h = tt
chain_cut next b w (z ∷ zs) le h =
    let small : w < 4294967296 = omega (arith, h.1, link_fits z h.0 h.2 (omega (arith, h.3))) in
    (h.0, mod-eq_of_lt small ∙ h.1, h.2, h.3, h.4)

-- the parts of a link
pub link_slot : (z t : ℕ) → t < 16384 → (z * 16384 + t) / 16384 ≡ z
link_slot z t h = omega (arith, mul-add-div_right {m = 16384} (omega arith) z t, div-eq_of_lt h)

pub link_place : (z t : ℕ) → t < 16384 → (z * 16384 + t) % 16384 ≡ t
link_place z t h = mul-add-mod_self_right z 16384 t ∙ mod-eq_of_lt h

-- ── a pair's slots ──

-- the slots below d, highest first, slot z as often as f says
unfoldable pub slots_left : (ℕ → ℕ) → ℕ → List ℕ
slots_left f zero = []
slots_left f (suc z) = replicate (f z) z ++ slots_left f z

pub slots_same : (f g : ℕ → ℕ) (d : ℕ) → ((z : ℕ) → z < d → f z ≡ g z) → slots_left f d ≡ slots_left g d
unfolding slots_left
slots_same f g zero h = refl
slots_same f g (suc d) h = rw (h d (omega arith), slots_same f g d (λ z k. h z (omega arith)))

-- The highest slot is taken once.
pub slots_taken :
    (f g : ℕ → ℕ) (z d : ℕ) → z < d → ((t : ℕ) → t < d → z < t → f t ≡ 0) →
    ((t : ℕ) → t < d → g t + is t z ≡ f t) → slots_left f d ≡ z ∷ slots_left g d
unfolding slots_left
slots_taken f g z zero h none once = absurd (omega arith)
slots_taken f g z (suc d) h none once =
    elim (ℕ_discrete z d) [
      | yes e ↦
          let more : f d ≡ suc (g d) = omega (arith, once d (omega arith), is_eq {u = d} {v = z} (sym e)) in
          rw (more, slots_same f g d (λ t k. same t k e), e)
      | no n ↦
          let gone : f d ≡ 0 = none d (omega arith) (omega arith) in
          let too : g d ≡ 0 = omega (arith, once d (omega arith)) in
          rw (gone, too) (slots_taken f g z d (omega arith) (λ t k. none t (omega arith)) (λ t k. once t (omega arith)))
    ]
  where
    same : (t : ℕ) → t < d → z ≡ d → f t ≡ g t
    same t k e = omega (arith, once t (omega arith), is_ne {u = t} {v = z} (λ x. omega arith))
