-- The other half-edge of an entry differs from it in one bit. Assumes nothing.
use Rattle.std.proofs.Common.{ℕ, zero, suc, ◌+◌, ◌*◌, ◌/◌, ◌%◌, ◌<◌, ◌≡◌, arith, refl, ap, ◌∙◌}
use Rattle.std.specs.Int.RustNames.{bit_xor}
use Rattle.std.specs.Int.Bits.{xor_zero_r}
use Rattle.std.proofs.lemmas.Nat.{xor_block}
use Rattle.walking.specs.Model.{mate_m}

low_bits : (r : ℕ) → r < 4 → bit_xor r 2 ≡ (r + 2) % 4
low_bits zero h = refl
low_bits (suc zero) h = refl
low_bits (suc (suc zero)) h = refl
low_bits (suc (suc (suc zero))) h = refl
low_bits (suc (suc (suc (suc r)))) h = absurd (omega arith)

pub mate_flips : (x : ℕ) → bit_xor x 2 ≡ mate_m x
mate_flips x =
    let parts : x ≡ x / 4 * 4 + x % 4 = omega arith in
    let low : bit_xor (x % 4) 2 ≡ (x % 4 + 2) % 4 = low_bits (x % 4) (omega arith) in
    ap (λ (z : ℕ). bit_xor z 2) parts
    ∙ xor_block 2 (x / 4) 0 (x % 4) 2 (omega arith) (omega arith)
    ∙ omega (arith, low, xor_zero_r (x / 4))
