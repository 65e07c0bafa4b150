-- At degree 2, lists of half-edges: every other of them, their pairs, and what is put before something reversed. Assumes
-- nothing.
use Prim.Native.Nat.{ℕ, zero, suc, ◌+◌, ◌*◌, ◌-◌, ◌/◌, ◌%◌, ◌<◌}
use mathlib.Core.Path.{◌≡◌, refl, sym, ◌∙◌, ap}
use mathlib.Core.Bool.{Bool, true, false}
use mathlib.Core.List.{List, [], ◌∷◌, ◌++◌, map, reverse, reverse_aux, reverse-cons, append_assoc, append-nil}
use native.Mathlib.Omega.{arith}
use lib.ListN.{length}
use Rattle.words.specs.Basics.{All}
use Rattle.multigraph.specs.Multigraph.{Pair}
use Rattle.euler.specs.Split.{every_other}
use Rattle.circuits.proofs.CircuitTrails.{trace}
use Rattle.circuits.proofs.CircuitSteps.{double, numbers}

pub double_is : (n : ℕ) → double n ≡ 2 * n
unfolding double
double_is zero = refl
double_is (suc n) = omega (arith, double_is n)

-- an even number above 0
pub even_double : (c : ℕ) → c % 2 ≡ 0 → 0 < c → (n : ℕ) × (c ≡ double (suc n))
unfolding double
even_double c e b = (c / 2 - 1, omega (arith, double_is (c / 2 - 1)))

-- reversed onto
pub reverse_onto : (xs ys : List ℕ) → reverse (reverse_aux xs ys) ≡ reverse ys ++ xs
reverse_onto [] ys = sym (append-nil (reverse ys))
reverse_onto (x ∷ xs) ys =
    reverse_onto xs (x ∷ ys) ∙ ap (λ (l : List ℕ). l ++ xs) (reverse-cons x ys) ∙ append_assoc (reverse ys) (x ∷ []) xs

-- the pairs of half-edges, by number
pub map_numbers : (f : ℕ → Pair) (hs : List ℕ) → map f (numbers hs) ≡ map (λ y. f (y / 2)) hs
map_numbers f [] = refl
map_numbers f (y ∷ hs) = ap (λ (l : List Pair). f (y / 2) ∷ l) (map_numbers f hs)

-- every other of an even list is half of it
pub every_other_length : (n : ℕ) (hs : List ℕ) → length hs ≡ double n → (b : Bool) → length (every_other b hs) ≡ n
unfolding every_other double
every_other_length zero [] e true = refl
every_other_length zero [] e false = refl
every_other_length zero (y ∷ hs) e b = absurd (omega arith)
every_other_length (suc n) [] e b = absurd (omega arith)
every_other_length (suc n) (y ∷ []) e b = absurd (omega arith)
every_other_length (suc n) (y ∷ z ∷ hs) e true = ap suc (every_other_length n hs (omega arith) true)
every_other_length (suc n) (y ∷ z ∷ hs) e false = ap suc (every_other_length n hs (omega arith) false)

-- what all are, every other is
pub every_other_all : (Q : ℕ → Type 0) (b : Bool) (hs : List ℕ) → All Q hs → All Q (every_other b hs)
unfolding every_other
every_other_all Q true [] h = tt
every_other_all Q false [] h = tt
every_other_all Q true (y ∷ hs) h = (h.0, every_other_all Q false hs h.1)
every_other_all Q false (y ∷ hs) h = every_other_all Q true hs h.1

-- and so are their pairs
pub numbers_all : (Q R : ℕ → Type 0) → ((y : ℕ) → Q y → R (y / 2)) → (hs : List ℕ) → All Q hs → All R (numbers hs)
numbers_all Q R f [] h = tt
numbers_all Q R f (y ∷ hs) h = (f y h.0, numbers_all Q R f hs h.1)

pub trace_length : (f : ℕ → ℕ) (n x : ℕ) → length (trace f n x) ≡ n
unfolding trace
trace_length f zero x = refl
trace_length f (suc n) x = ap suc (trace_length f n (f x))

-- every other of what is mapped
pub every_other_map : (f : ℕ → Pair) (b : Bool) (hs : List ℕ) → map f (every_other b hs) ≡ every_other b (map f hs)
unfolding every_other
every_other_map f true [] = refl
every_other_map f false [] = refl
every_other_map f true (y ∷ hs) = ap (λ (l : List Pair). f y ∷ l) (every_other_map f false hs)
every_other_map f false (y ∷ hs) = every_other_map f true hs

-- lengths and members of what is reversed onto
pub onto_length : (xs ys : List ℕ) → length (reverse_aux xs ys) ≡ length xs + length ys
onto_length [] ys = omega arith
onto_length (x ∷ xs) ys = omega (arith, onto_length xs (x ∷ ys))

pub onto_all : (Q : ℕ → Type 0) (xs ys : List ℕ) → All Q xs → All Q ys → All Q (reverse_aux xs ys)
onto_all Q [] ys h k = k
onto_all Q (x ∷ xs) ys h k = onto_all Q xs (x ∷ ys) h.1 (h.0, k)
