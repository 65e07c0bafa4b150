-- The half-edge at the other end differs from it in the last bit. Assumes nothing.
use Prim.Native.Nat.{ℕ, ◌%◌}
use mathlib.Core.Path.{◌≡◌}
use native.Mathlib.Omega.{arith}
use Rattle.std.specs.Int.Bits.{bit_xor, bit_and, xor_add_and}
use Rattle.std.proofs.lemmas.Nat.{and_mask}
use Rattle.words.specs.Sides.{mate}

-- the last bit flipped
pub flipped : (h : ℕ) → bit_xor h 1 ≡ mate h
flipped h =
    let low : bit_and h 1 ≡ h % 2 = and_mask h 1 in
    omega (arith, xor_add_and h 1, low)
