-- Reading undoes writing: P and a list, written as document 01 says that main's input is written, are read back as they were.
-- Assumes nothing.
use Prim.Native.Nat.{ℕ, ◌+◌, ◌%◌, ◌<◌}
use mathlib.Core.Path.{◌≡◌, refl, sym, ◌∙◌, ap}
use mathlib.Core.Bool.{Bool, true, false}
use mathlib.Core.List.{List, [], ◌∷◌, ◌++◌}
use Rattle.std.specs.Prelude.{Option, Some}
use native.Mathlib.Omega.{arith}
use borrow.Author.Tests.{eqb-true, eqb-false}
use lib.Dec.{eqb}
use lib.ListN.{length}
use Rattle.words.specs.Basics.{pick, All}
use Rattle.words.proofs.Sums.{all_append, all_map}
use Rattle.appointments.specs.Appointments.{Appt, appt}
use Rattle.appointments.specs.Checks.{blank}
use Rattle.words.specs.Ascii.{line_feed, comma}
use Rattle.reading.specs.Reading.{parts, end_of, appointment_of, input, with_ends, and_then_lines, read_lines, with_parties, read_first, read_text}
use Rattle.printing.specs.Printing.{decimal}
use Rattle.reading.proofs.Digits.{Digit}
use Rattle.text.proofs.Decimals.{decimal_digits, decimal_some, number_decimal}
use Rattle.reading.proofs.ReadingLaws.{end_number, line_step, first_step}
use Rattle.reading.proofs.Parting.{Free, parts_first, parts_last, parts_some}

-- ── the written form ──

-- an end: its number, or nothing if it is blank
unfoldable pub end_text : ℕ → List ℕ
end_text e = pick (eqb e blank) [] (decimal e)

-- a line for each appointment
unfoldable pub lines_text : List ℕ → List ℕ
unfolding end_text
lines_text [] = []
lines_text (a ∷ []) = []
lines_text (a ∷ b ∷ list) = end_text a ++ (comma ∷ end_text b) ++ (line_feed ∷ lines_text list)

-- P's line, then the appointments'
unfoldable pub input_text : ℕ → List ℕ → List ℕ
unfolding lines_text
input_text P list = decimal P ++ (line_feed ∷ lines_text list)

-- ── an end and a line ──

decimal_free : (separator n : ℕ) → separator < 48 → Free separator (decimal n)
decimal_free separator n h =
    all_map {Q = λ (b : ℕ). b ≡ separator → ⊥} (λ b (d : Digit b) q. omega (arith, d.low)) (decimal n) (decimal_digits n)

end_free : (separator e : ℕ) → separator < 48 → Free separator (end_text e)
unfolding end_text
end_free separator e h = go (eqb e blank)
  where
    go : (t : Bool) → Free separator (pick t [] (decimal e))
    go true = tt
    go false = decimal_free separator e h

end_back : (e : ℕ) → e < 65536 → end_of (end_text e) ≡ Some e
unfolding end_text end_of
end_back e h = go (eqb e blank) refl
  where
    go : (t : Bool) → eqb e blank ≡ t → end_of (pick t [] (decimal e)) ≡ Some e
    go true q = ap Some (sym (eqb-true e blank q))
    go false q =
        let other : e ≡ blank → ⊥ = eqb-false e blank q in
        end_number (decimal e) (decimal_some e) ∙ number_decimal e (omega arith)

abbrev line_text : ℕ → ℕ → List ℕ
line_text a b = end_text a ++ (comma ∷ end_text b)

line_back : (a b : ℕ) → a < 65536 → b < 65536 → appointment_of (line_text a b) ≡ Some (appt a b)
unfolding appointment_of
line_back a b h k =
    rw (parts_first comma (end_text a) (end_text b) (end_free comma a (omega arith)), parts_last comma (end_text b) (end_free comma b (omega arith)))
    (rw (end_back a h, end_back b k))

line_free : (a b : ℕ) → Free line_feed (line_text a b)
line_free a b =
    all_append (λ (c : ℕ). c ≡ line_feed → ⊥) (end_text a) (comma ∷ end_text b) (end_free line_feed a (omega arith))
    ((λ q. omega arith), end_free line_feed b (omega arith))

-- ── the lines ──

lines_back : (P n : ℕ) (list : List ℕ) → length list % 2 ≡ 0 → All (λ (e : ℕ). e < 65536) list → read_lines P n (parts line_feed (lines_text list)) ≡ input P list
unfolding lines_text read_lines parts
lines_back P n [] e h = refl
lines_back P n (a ∷ []) e h = absurd (omega arith)
lines_back P n (a ∷ b ∷ list) e h =
    let rest : read_lines P (n + 1) (parts line_feed (lines_text list)) ≡ input P list = lines_back P (n + 1) list (omega arith) h.1.1 in
    ap (read_lines P n) (parts_first line_feed (line_text a b) (lines_text list) (line_free a b))
    ∙ line_step P n (line_text a b) (parts line_feed (lines_text list)) (parts_some line_feed (lines_text list))
    ∙ ap (λ (o : Option Appt). and_then_lines n o (read_lines P (n + 1) (parts line_feed (lines_text list)))) (line_back a b h.0 h.1.0)
    ∙ ap (with_ends (appt a b)) rest

-- Main reads back P and the list from their text: P below 65,535, and 16-bit ends, 65,535 being written as an empty end.
pub reading_undoes_writing : (P : ℕ) (list : List ℕ) → P < 65535 → length list % 2 ≡ 0 → All (λ (e : ℕ). e < 65536) list → read_text (input_text P list) ≡ input P list
unfolding read_text input_text
reading_undoes_writing P list h e ends =
    ap read_first (parts_first line_feed (decimal P) (lines_text list) (decimal_free line_feed P (omega arith)))
    ∙ first_step (decimal P) (parts line_feed (lines_text list)) (parts_some line_feed (lines_text list))
    ∙ ap (λ (o : Option ℕ). with_parties o (parts line_feed (lines_text list))) (number_decimal P h)
    ∙ lines_back P 2 list e ends
