-- How t = 2^e is cut into α copies of the degree and a remainder β. Assumes nothing.
use Prim.Native.Nat.{ℕ, ◌+◌, ◌*◌, ◌-◌, ◌/◌, ◌≤◌, ◌<◌}
use mathlib.Core.Path.{◌≡◌}
use native.Mathlib.Omega.{arith}
use native.Mathlib.Nat.{mod-lt, div-add-mod, le-div_iff_mul-le}

-- t is α times the degree k, and β more, with α at least 1 and β below k.
pub record Shares (k t : ℕ) : Type 0 where
  pub cut : k * (t / k) + (t - k * (t / k)) ≡ t
  pub some : 0 < t / k
  pub rest : t - k * (t / k) < k

pub shares : (k t : ℕ) → 0 < k → k ≤ t → Shares k t
shares k t pos h =
    let whole = div-add-mod t k in
    let less = mod-lt t pos in
    record {
      cut = omega (arith, whole);
      some = (le-div_iff_mul-le pos).1 (omega arith);
      rest = omega (arith, whole, less);
    }
