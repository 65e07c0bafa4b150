-- What `||` and `&&` of two tests tell. Assumes nothing.
use mathlib.Core.Path.{◌≡◌, refl, sym, subst}
use mathlib.Core.Logic.{◌⊎◌, inl, inr}
use mathlib.Core.Bool.{Bool, true, false, ◌&&◌, ◌||◌}
use lib.Dec.{T}

pub never_true {ℓ} : {X : Type ℓ} → false ≡ true → X
never_true e = absurd (subst T (sym e) tt)

pub either : (t u : Bool) → (t || u) ≡ true → (t ≡ true) ⊎ (u ≡ true)
either true u e = inl refl
either false true e = inr refl
either false false e = never_true e

pub neither : (t u : Bool) → (t || u) ≡ false → (t ≡ false) × (u ≡ false)
neither true u e = never_true (sym e)
neither false true e = never_true (sym e)
neither false false e = (refl, refl)

pub both_false : {t u : Bool} → t ≡ false → u ≡ false → (t || u) ≡ false
both_false e f = rw (e, f)

pub both_true : (t u : Bool) → (t && u) ≡ true → (t ≡ true) × (u ≡ true)
both_true true u e = (refl, e)
both_true false u e = never_true e

pub true_left : (t u : Bool) → t ≡ true → (t || u) ≡ true
true_left t u e = rw e

pub true_right : (t u : Bool) → u ≡ true → (t || u) ≡ true
true_right true u e = refl
true_right false u e = e

pub true_both : (t u : Bool) → t ≡ true → u ≡ true → (t && u) ≡ true
true_both t u e f = rw e f
