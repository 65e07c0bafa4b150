-- An appointment names a party by its first end, or else by its second. Assumes nothing.
use Prim.Native.Nat.{ℕ, ◌+◌}
use mathlib.Core.Path.{◌≡◌, sym}
use mathlib.Core.Bool.{true}
use native.Mathlib.Omega.{arith}
use native.Mathlib.Decide.{ℕ_discrete}
use borrow.Author.Tests.{eq-eqb, ne_eqb, lt-ltb, le-ltb}
use lib.Dec.{eqb}
use Rattle.words.specs.Basics.{is}
use Rattle.words.proofs.Sums.{is_eq, is_ne}
use Rattle.appointments.specs.Appointments.{appt, names, named}

pub named_first : (party a b : ℕ) → a ≡ party → true ≡ named party (appt a b)
unfolding names
named_first party a b e = sym (lt-ltb 0 (is party a + is party b) (omega (arith, is_eq {u = party} {v = a} (sym e))))

pub named_second : (party a b : ℕ) → (a ≡ party → ⊥) → eqb b party ≡ named party (appt a b)
unfolding names
named_second party a b n =
    elim (ℕ_discrete b party) [
      | yes e ↦ rw (eq-eqb b party e) (sym (lt-ltb 0 (is party a + is party b) (omega (arith, is_eq {u = party} {v = b} (sym e)))))
      | no k ↦ rw (ne_eqb b party k) (sym (le-ltb 0 (is party a + is party b) (omega (arith, is_ne {u = party} {v = b} (λ e. k (sym e)), is_ne {u = party} {v = a} (λ e. n (sym e))))))
    ]
