-- What main's reading of text yields: P is below 65,535, the list holds two 16-bit numbers a line, and it is shorter than the
-- input; and a malformed line's number is at most one more than the bytes. Assumes nothing.
use Prim.Native.Nat.{ℕ, suc, ◌+◌, ◌*◌, ◌%◌, ◌/◌, ◌≤◌, ◌<◌}
use mathlib.Core.Path.{◌≡◌, refl, sym, ◌∙◌, ap, subst}
use mathlib.Core.Bool.{Bool, true, false, ◌||◌}
use mathlib.Core.List.{List, [], ◌∷◌}
use Rattle.std.specs.Prelude.{Option, None, Some}
use native.Mathlib.Omega.{arith}
use borrow.Author.Tests.{eqb-true, eqb-false, ltb-true}
use lib.Dec.{eqb, ltb}
use lib.ListN.{length}
use Rattle.words.specs.Basics.{pick, is, total, count, All}
use Rattle.words.proofs.Bools.{neither}
use Rattle.words.proofs.Sums.{is_eq, is_ne, count_le}
use Rattle.appointments.specs.Appointments.{Appt, appt}
use Rattle.appointments.specs.Checks.{blank}
use Rattle.words.specs.Ascii.{line_feed, comma}
use Rattle.reading.specs.Reading.{onto, parts, digits_value, below_blank, number, end_of, both, two_ends, appointment_of, Input, input, malformed, and_then_lines, read_lines, with_parties, read_first, read_text, broke_off, read_input}

-- ── parts ──

-- how many bytes the parts hold, with one separator counted for each
abbrev pub spread : List (List ℕ) → ℕ
spread ps = total (λ (p : List ℕ). length p + 1) ps

pub parts_spread : (separator : ℕ) (bytes : List ℕ) → spread (parts separator bytes) ≡ length bytes + 1
unfolding parts total
parts_spread separator [] = refl
parts_spread separator (b ∷ bytes) = go (eqb b separator) (parts separator bytes) (parts_spread separator bytes)
  where
    go : (t : Bool) (more : List (List ℕ)) → spread more ≡ length bytes + 1 → spread (pick t ([] ∷ more) (onto b more)) ≡ suc (length bytes) + 1
    go true more e = omega arith
    go false [] e = absurd (omega arith)
    go false (part ∷ more) e = omega arith

-- one part more than there are separators
pub parts_count : (separator : ℕ) (bytes : List ℕ) → length (parts separator bytes) ≡ count separator bytes + 1
unfolding parts count
parts_count separator [] = refl
parts_count separator (b ∷ bytes) = go (eqb b separator) refl (parts separator bytes) (parts_count separator bytes)
  where
    go : (t : Bool) → eqb b separator ≡ t → (more : List (List ℕ)) → length more ≡ count separator bytes + 1 → length (pick t ([] ∷ more) (onto b more)) ≡ is separator b + count separator bytes + 1
    go true h more e = omega (arith, is_eq (sym (eqb-true b separator h)))
    go false h [] e = absurd (omega arith)
    go false h (part ∷ more) e =
        let other : separator ≡ b → ⊥ = λ q. eqb-false b separator h (sym q) in
        omega (arith, is_ne other)

-- ── a part more ──

-- an end that isn't empty
pub end_number : (l : List ℕ) → 0 < length l → end_of l ≡ number l
unfolding end_of
end_number [] h = absurd (omega arith)
end_number (b ∷ l) h = refl

-- a line with a line feed behind it
pub line_step : (P n : ℕ) (line : List ℕ) (ps : List (List ℕ)) → 0 < length ps → read_lines P n (line ∷ ps) ≡ and_then_lines n (appointment_of line) (read_lines P (n + 1) ps)
unfolding read_lines
line_step P n line [] h = absurd (omega arith)
line_step P n line (next ∷ more) h = refl

-- the first line, with lines behind it
pub first_step : (line : List ℕ) (ps : List (List ℕ)) → 0 < length ps → read_first (line ∷ ps) ≡ with_parties (number line) ps
first_step line [] h = absurd (omega arith)
first_step line (next ∷ more) h = refl

-- ── a number, an end, a line ──

-- a number is below 65,535, and its text isn't empty
pub record Number (bytes : List ℕ) (v : ℕ) : Type 0 where
  pub below : v < 65535
  pub some_digit : 0 < length bytes

below_is : (o : Option ℕ) (v : ℕ) → below_blank o ≡ Some v → v < 65535
below_is None v e = cc
below_is (Some w) v e = go (ltb w blank) refl e
  where
    go : (t : Bool) → ltb w blank ≡ t → pick t (Some w) None ≡ Some v → v < 65535
    go true h q = let same : w ≡ v = cc in omega (arith, ltb-true w blank h)
    go false h q = cc

pub number_is : (bytes : List ℕ) (v : ℕ) → number bytes ≡ Some v → Number bytes v
unfolding number
number_is bytes v e = go (eqb (length bytes) 0 || ltb 5 (length bytes)) refl e
  where
    go : (t : Bool) → (eqb (length bytes) 0 || ltb 5 (length bytes)) ≡ t → pick t None (below_blank (digits_value 0 bytes)) ≡ Some v → Number bytes v
    go true h q = cc
    go false h q =
        let n = neither (eqb (length bytes) 0) (ltb 5 (length bytes)) h in
        let some_byte : length bytes ≡ 0 → ⊥ = eqb-false (length bytes) 0 n.0 in
        record { below = below_is (digits_value 0 bytes) v q; some_digit = omega arith }

-- an end is a 16-bit number
end_is : (bytes : List ℕ) (v : ℕ) → end_of bytes ≡ Some v → v < 65536
unfolding end_of
end_is [] v e = let same : blank ≡ v = cc in omega arith
end_is (b ∷ bytes) v e = omega (arith, number_is (b ∷ bytes) v e)

both_are : (a b : Option ℕ) (x : Appt) → both a b ≡ Some x → (a ≡ Some x.first) × (b ≡ Some x.second)
both_are (Some a) (Some b) x e = let same : appt a b ≡ x = cc in (ap (λ (y : Appt). Some y.first) same, ap (λ (y : Appt). Some y.second) same)
both_are (Some a) None x e = cc
both_are None b x e = cc

-- what is read from a line of an appointment: its ends are 16-bit numbers, and there is a byte at least, the comma
pub record LineRead (bytes : List ℕ) (x : Appt) : Type 0 where
  pub first_end : x.first < 65536
  pub second_end : x.second < 65536
  pub some_byte : 0 < length bytes

pub line_is : (bytes : List ℕ) (x : Appt) → appointment_of bytes ≡ Some x → LineRead bytes x
unfolding appointment_of total
line_is bytes x e = go (parts comma bytes) (parts_spread comma bytes) e
  where
    go : (ps : List (List ℕ)) → spread ps ≡ length bytes + 1 → two_ends ps ≡ Some x → LineRead bytes x
    go [] l q = cc
    go (a ∷ []) l q = cc
    go (a ∷ b ∷ []) l q =
        let ends = both_are (end_of a) (end_of b) x q in
        record { first_end = end_is a x.first ends.0; second_end = end_is b x.second ends.1; some_byte = omega arith }
    go (a ∷ b ∷ c ∷ more) l q = cc

-- ── the lines ──

pub record LinesRead (ps : List (List ℕ)) (P Q : ℕ) (list : List ℕ) : Type 0 where
  pub same : P ≡ Q
  pub two_each : length list + 2 ≡ 2 * length ps
  pub ends : All (λ (e : ℕ). e < 65536) list
  pub short : length list + 1 ≤ spread ps

-- one line more
with_line : (line : List ℕ) (ps : List (List ℕ)) (P Q : ℕ) (x : Appt) (list : List ℕ) → LineRead line x → LinesRead ps P Q list
    → LinesRead (line ∷ ps) P Q (x.first ∷ x.second ∷ list)
unfolding total
with_line line ps P Q x list l r =
    record {
      same = r.same;
      two_each = omega (arith, r.two_each);
      ends = (l.first_end, (l.second_end, r.ends));
      short = omega (arith, r.short, l.some_byte);
    }

lines_are : (P n : ℕ) (ps : List (List ℕ)) (Q : ℕ) (list : List ℕ) → read_lines P n ps ≡ input Q list → LinesRead ps P Q list
unfolding read_lines total
lines_are P n [] Q list e = cc
lines_are P n (rest ∷ []) Q list e = go (eqb (length rest) 0) e
  where
    go : (t : Bool) → pick t (input P []) (malformed n) ≡ input Q list → LinesRead (rest ∷ []) P Q list
    go true q =
        let same : P ≡ Q = cc in
        let none_left : [] ≡ list = cc in
        subst (λ (l : List ℕ). LinesRead (rest ∷ []) P Q l) none_left (record { same = same; two_each = refl; ends = tt; short = omega arith })
    go false q = cc
lines_are P n (line ∷ next ∷ more) Q list e = go (appointment_of line) refl (read_lines P (n + 1) (next ∷ more)) (lines_are P (n + 1) (next ∷ more) Q) e
  where
    go : (o : Option Appt) → appointment_of line ≡ o → (later : Input) → ((l : List ℕ) → later ≡ input Q l → LinesRead (next ∷ more) P Q l)
        → and_then_lines n o later ≡ input Q list → LinesRead (line ∷ next ∷ more) P Q list
    go None h later rest q = cc
    go (Some x) h (malformed m) rest q = cc
    go (Some x) h (input R l) rest q =
        let same : R ≡ Q = cc in
        let longer : x.first ∷ x.second ∷ l ≡ list = cc in
        subst (λ (k : List ℕ). LinesRead (line ∷ next ∷ more) P Q k) longer
        (with_line line (next ∷ more) P Q x l (line_is line x h) (rest l (ap (λ (k : ℕ). input k l) same)))

-- What main reads.
pub record Read (bytes : List ℕ) (P : ℕ) (list : List ℕ) : Type 0 where
  pub parties : P < 65535
  pub even : length list % 2 ≡ 0
  pub lines : count line_feed bytes ≡ length list / 2 + 1
  pub ends : All (λ (e : ℕ). e < 65536) list
  pub short : length list + 2 ≤ length bytes

pub reads : (bytes : List ℕ) (P : ℕ) (list : List ℕ) → read_text bytes ≡ input P list → Read bytes P list
unfolding read_text total
reads bytes P list e = go (parts line_feed bytes) (parts_spread line_feed bytes) (parts_count line_feed bytes) e
  where
    first : (o : Option ℕ) (line : List ℕ) (ps : List (List ℕ)) → number line ≡ o → length line + 1 + spread ps ≡ length bytes + 1 → length ps ≡ count line_feed bytes
        → with_parties o ps ≡ input P list → Read bytes P list
    first None line ps h l k q = cc
    first (Some Q) line ps h l k q =
        let r : LinesRead ps Q P list = lines_are Q 2 ps P list q in
        let n : Number line Q = number_is line Q h in
        record {
          parties = omega (arith, r.same, n.below);
          even = omega (arith, r.two_each);
          lines = omega (arith, r.two_each);
          ends = r.ends;
          short = omega (arith, r.short, n.some_digit);
        }

    go : (ps : List (List ℕ)) → spread ps ≡ length bytes + 1 → length ps ≡ count line_feed bytes + 1 → read_first ps ≡ input P list → Read bytes P list
    go [] l k q = cc
    go (rest ∷ []) l k q = cc
    go (line ∷ next ∷ more) l k q = first (number line) line (next ∷ more) refl l (omega arith) q

-- ── a malformed line ──

lines_malformed : (P n : ℕ) (ps : List (List ℕ)) (m : ℕ) → read_lines P n ps ≡ malformed m → m ≤ n + spread ps
unfolding read_lines total
lines_malformed P n [] m e = let same : n ≡ m = cc in omega arith
lines_malformed P n (rest ∷ []) m e = go (eqb (length rest) 0) e
  where
    go : (t : Bool) → pick t (input P []) (malformed n) ≡ malformed m → m ≤ n + spread (rest ∷ [])
    go true q = cc
    go false q = let same : n ≡ m = cc in omega arith
lines_malformed P n (line ∷ next ∷ more) m e = go (appointment_of line) (read_lines P (n + 1) (next ∷ more)) (lines_malformed P (n + 1) (next ∷ more) m) e
  where
    go : (o : Option Appt) (later : Input) → (later ≡ malformed m → m ≤ n + 1 + spread (next ∷ more)) → and_then_lines n o later ≡ malformed m → m ≤ n + spread (line ∷ next ∷ more)
    go None later rest q = let same : n ≡ m = cc in omega arith
    go (Some x) (malformed k) rest q = omega (arith, rest q)
    go (Some x) (input Q l) rest q = cc

-- The malformed line is at most the one after as many lines as there are bytes.
pub malformed_place : (bytes : List ℕ) (m : ℕ) → read_text bytes ≡ malformed m → m ≤ length bytes + 1
unfolding read_text total
malformed_place bytes m e = go (parts line_feed bytes) (parts_spread line_feed bytes) e
  where
    first : (o : Option ℕ) (line : List ℕ) (ps : List (List ℕ)) → number line ≡ o → length line + 1 + spread ps ≡ length bytes + 1 → with_parties o ps ≡ malformed m → m ≤ length bytes + 1
    first None line ps h l q = let same : 1 ≡ m = cc in omega arith
    first (Some Q) line ps h l q = omega (arith, lines_malformed Q 2 ps m q, number_is line Q h)

    go : (ps : List (List ℕ)) → spread ps ≡ length bytes + 1 → read_first ps ≡ malformed m → m ≤ length bytes + 1
    go [] l q = let same : 1 ≡ m = cc in omega arith
    go (rest ∷ []) l q = let same : 1 ≡ m = cc in omega arith
    go (line ∷ next ∷ more) l q = first (number line) line (next ∷ more) refl l q

-- the malformed line
abbrev line_of : Input → ℕ
line_of (malformed n) = n
line_of (input P list) = 0

-- The same of an input that may be broken.
pub input_place : (broken : Bool) (bytes : List ℕ) (m : ℕ) → read_input broken bytes ≡ malformed m → m ≤ length bytes + 1
unfolding read_input
input_place false bytes m e = malformed_place bytes m e
input_place true bytes m e = go (read_text bytes) refl e
  where
    go : (i : Input) → read_text bytes ≡ i → broke_off bytes i ≡ malformed m → m ≤ length bytes + 1
    go (malformed n) h q = malformed_place bytes m (h ∙ q)
    go (input P list) h q = omega (arith, ap line_of q, count_le line_feed bytes)
