-- Bytes parted at a separator: at its first place the part before it, then the parts behind it. Assumes nothing.
use Prim.Native.Nat.{ℕ, suc, ◌+◌, ◌-◌, ◌<◌}
use mathlib.Core.Path.{◌≡◌, refl, sym, ◌∙◌, ap}
use mathlib.Core.Bool.{Bool, true, false}
use mathlib.Core.List.{List, [], ◌∷◌, ◌++◌}
use native.Mathlib.Omega.{arith}
use Rattle.std.specs.Prelude.{Option, MatchOption}
use native.Mathlib.Numerals.{add-one}
use borrow.Author.Tests.{eq-eqb, ne_eqb}
use lib.Dec.{eqb}
use lib.ListN.{length, get_or, take, drop, length-drop}
use lib.Seq.{take_all, split_at, get_or-take, length-take-le}
use Rattle.words.specs.Basics.{pick, All}
use Rattle.words.proofs.Sums.{all_by}
use Rattle.reading.specs.Reading.{onto, parts}
use Rattle.reading.specs.Told.{FirstAt}

-- no byte of the part is the separator
abbrev pub Free : ℕ → List ℕ → Type 0
Free separator part = All (λ (b : ℕ). b ≡ separator → ⊥) part

pub part_one : (separator b : ℕ) (bytes : List ℕ) → (b ≡ separator → ⊥) → parts separator (b ∷ bytes) ≡ onto b (parts separator bytes)
unfolding parts
part_one separator b bytes h = rw (ne_eqb b separator h)

pub part_here : (separator : ℕ) (bytes : List ℕ) → parts separator (separator ∷ bytes) ≡ [] ∷ parts separator bytes
unfolding parts
part_here separator bytes = rw (eq-eqb separator separator refl)

pub parts_first : (separator : ℕ) (part rest : List ℕ) → Free separator part → parts separator (part ++ (separator ∷ rest)) ≡ part ∷ parts separator rest
parts_first separator [] rest h = part_here separator rest
parts_first separator (b ∷ part) rest h =
    part_one separator b (part ++ (separator ∷ rest)) h.0 ∙ ap (onto b) (parts_first separator part rest h.1)

pub parts_last : (separator : ℕ) (part : List ℕ) → Free separator part → parts separator part ≡ part ∷ []
unfolding parts
parts_last separator [] h = refl
parts_last separator (b ∷ part) h = part_one separator b part h.0 ∙ ap (onto b) (parts_last separator part h.1)

pub parts_some : (separator : ℕ) (bytes : List ℕ) → 0 < length (parts separator bytes)
unfolding parts
parts_some separator [] = omega arith
parts_some separator (b ∷ bytes) = go (eqb b separator) (parts separator bytes)
  where
    go : (t : Bool) (more : List (List ℕ)) → 0 < length (pick t ([] ∷ more) (onto b more))
    go true more = omega arith
    go false [] = omega arith
    go false (part ∷ more) = omega arith

-- ── at the first separator that a search found ──

module _ (separator : ℕ) (bytes : List ℕ) (i : ℕ) (f : FirstAt separator bytes i) where
  free_before : Free separator (take i bytes)
  free_before =
      all_by (λ (b : ℕ). b ≡ separator → ⊥) (take i bytes) 0
      (λ k h q.
      let l : k < i = omega (arith, length-take-le i bytes (omega (arith, f.inside))) in
      f.before k l (sym (get_or-take i bytes k 0 l) ∙ q))

  -- the part before it, then the parts behind it
  pub parts_at : parts separator bytes ≡ take i bytes ∷ parts separator (drop (i + 1) bytes)
  parts_at =
      let whole : bytes ≡ take i bytes ++ (separator ∷ drop (suc i) bytes) =
      split_at bytes i 0 f.inside ∙ ap (λ (b : ℕ). take i bytes ++ (b ∷ drop (suc i) bytes)) f.here in
      rw (add-one i) (ap (parts separator) whole ∙ parts_first separator (take i bytes) (drop (suc i) bytes) free_before)

-- none was found
abbrev pub Unfound : ℕ → List ℕ → Type 0
Unfound separator bytes = (k : ℕ) → k < length bytes → get_or bytes k 0 ≡ separator → ⊥

-- what a search found
abbrev pub Finds : ℕ → List ℕ → Option ℕ → Type 0
Finds separator bytes o = MatchOption o (Unfound separator bytes) (FirstAt separator bytes)

pub parts_none : (separator : ℕ) (bytes : List ℕ) → Unfound separator bytes → parts separator bytes ≡ bytes ∷ []
parts_none separator bytes f = parts_last separator bytes (all_by (λ (b : ℕ). b ≡ separator → ⊥) bytes 0 f)

-- a part up to the end
pub to_the_end : (l : List ℕ) (k : ℕ) → take (length l - k) (drop k l) ≡ drop k l
to_the_end l k = take_all (length l - k) (drop k l) (omega (arith, length-drop k l))
