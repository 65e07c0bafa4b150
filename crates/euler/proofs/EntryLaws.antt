-- Whether an entry has 2 copies or more, as a number. Assumes nothing.
use Prim.Native.Nat.{ℕ, ◌<◌, ◌≤◌}
use mathlib.Core.Path.{◌≡◌}
use mathlib.Core.Bool.{Bool, true, false}
use native.Mathlib.Omega.{arith}
use borrow.Author.Tests.{lt-ltb, le-ltb}
use lib.Dec.{ltb}
use Rattle.words.specs.Basics.{pick}
use Rattle.euler.specs.Entries.{many_m}

-- 0 below 2 copies, else 1
pub many_none : (c : ℕ) → c < 2 → many_m c ≡ 0
many_none c h = rw (lt-ltb c 2 h)

pub many_one : (c : ℕ) → 2 ≤ c → many_m c ≡ 1
many_one c h = rw (le-ltb c 2 h)

pub many_le : (c : ℕ) → many_m c ≤ 1
many_le c = go (ltb c 2)
  where
    go : (b : Bool) → pick b 0 1 ≤ 1
    go true = omega arith
    go false = omega arith
