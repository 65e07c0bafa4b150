-- That a list rises, from one test that is computed over all of it; and that the times of the day do. Assumes nothing.
use Prim.Native.Nat.{ℕ, zero, suc, ◌<◌}
use mathlib.Core.Path.{◌≡◌, refl}
use mathlib.Core.Bool.{Bool, true, ◌&&◌}
use mathlib.Core.List.{List, [], ◌∷◌}
use native.Mathlib.Omega.{arith}
use borrow.Author.Tests.{ltb-true}
use lib.Dec.{ltb}
use lib.ListN.{length, get_or}
use Rattle.words.proofs.Bools.{both_true}
use Rattle.calendar.specs.Calendar.{times, Rising}

-- the test: each is below the next
unfoldable pub rises_from : ℕ → List ℕ → Bool
rises_from x [] = true
rises_from x (y ∷ ys) = ltb x y && rises_from y ys

unfoldable pub rises : List ℕ → Bool
rises [] = true
rises (x ∷ xs) = rises_from x xs

-- then the first is below all others
first_below : (x : ℕ) (xs : List ℕ) → rises_from x xs ≡ true → (j : ℕ) → j < length xs → x < get_or xs j 0
unfolding rises_from
first_below x [] e j h = absurd (omega arith)
first_below x (y ∷ ys) e zero h = ltb-true x y (both_true (ltb x y) (rises_from y ys) e).0
first_below x (y ∷ ys) e (suc j) h =
    let b = both_true (ltb x y) (rises_from y ys) e in
    omega (arith, ltb-true x y b.0, first_below y ys b.1 j (omega arith))

-- and so is each below all that come after it
from_rising : (x : ℕ) (xs : List ℕ) → rises_from x xs ≡ true → Rising (x ∷ xs)
unfolding rises_from
from_rising x xs e i zero h l = absurd (omega arith)
from_rising x xs e zero (suc j) h l = first_below x xs e j (omega arith)
from_rising x [] e (suc i) (suc j) h l = absurd (omega arith)
from_rising x (y ∷ ys) e (suc i) (suc j) h l =
    from_rising y ys (both_true (ltb x y) (rises_from y ys) e).1 i j (omega arith) (omega arith)

pub rising : (xs : List ℕ) → rises xs ≡ true → Rising xs
unfolding rises
rising [] e i j h l = absurd (omega arith)
rising (x ∷ xs) e i j h l = from_rising x xs e i j h l

-- The times of the day rise.
pub times_rise : Rising times
unfolding times rises rises_from
times_rise = rising times refl
