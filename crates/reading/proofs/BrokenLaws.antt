-- Of a broken input no list is read: it is malformed in the first malformed line among those that ended, or else in the line
-- behind as many as there are line feeds. Assumes nothing.
use Prim.Native.Nat.{ℕ, ◌+◌, ◌<◌}
use mathlib.Core.Path.{◌≡◌, refl, sym, ◌∙◌, ap, subst}
use mathlib.Core.Bool.{Bool, true, false}
use mathlib.Core.List.{List, [], ◌∷◌, ◌++◌}
use Rattle.std.specs.Prelude.{Option, None, Some}
use native.Mathlib.Omega.{arith}
use native.Mathlib.Decide.{ℕ_discrete}
use borrow.Author.Tests.{eq-eqb, ne_eqb}
use lib.Dec.{eqb}
use lib.ListN.{length, length-append}
use Rattle.words.specs.Basics.{pick, is, count}
use Rattle.words.proofs.Sums.{is_same, is_ne}
use Rattle.appointments.specs.Appointments.{Appt}
use Rattle.words.specs.Ascii.{line_feed}
use Rattle.reading.specs.Reading.{onto, parts, number, appointment_of, Input, input, malformed, with_ends, and_then_lines, read_lines, with_parties, read_text, broke_off, read_input}
use Rattle.reading.specs.Broken.{ended, ReadsBroken}
use Rattle.reading.proofs.Parting.{part_one, part_here}
use Rattle.reading.proofs.ReadingLaws.{parts_count, line_step, first_step}

-- ── the lines that ended ──

-- The lines that ended are the parts but the last, which is empty if nothing stands behind them.
record Parted (bytes : List ℕ) : Type 0 where
  lines : List (List ℕ)
  rest : List ℕ
  all : parts line_feed bytes ≡ lines ++ (rest ∷ [])
  only_ended : parts line_feed (ended bytes) ≡ lines ++ ([] ∷ [])

ended_none : (b : ℕ) (bytes : List ℕ) → count line_feed (b ∷ bytes) ≡ 0 → ended (b ∷ bytes) ≡ []
unfolding ended
ended_none b bytes h = rw (eq-eqb (count line_feed (b ∷ bytes)) 0 h)

ended_more : (b : ℕ) (bytes : List ℕ) → (count line_feed (b ∷ bytes) ≡ 0 → ⊥) → ended (b ∷ bytes) ≡ b ∷ ended bytes
unfolding ended
ended_more b bytes h = rw (ne_eqb (count line_feed (b ∷ bytes)) 0 h)

parted_feed : (bytes : List ℕ) → Parted bytes → Parted (line_feed ∷ bytes)
unfolding count
parted_feed bytes p =
    let some_feed : count line_feed (line_feed ∷ bytes) ≡ 0 → ⊥ = λ z. omega (arith, is_same line_feed) in
    record {
      lines = [] ∷ p.lines;
      rest = p.rest;
      all = part_here line_feed bytes ∙ ap (λ (ps : List (List ℕ)). [] ∷ ps) p.all;
      only_ended =
          ap (parts line_feed) (ended_more line_feed bytes some_feed)
          ∙ part_here line_feed (ended bytes)
          ∙ ap (λ (ps : List (List ℕ)). [] ∷ ps) p.only_ended;
    }

parted_byte : (b : ℕ) (bytes : List ℕ) → (b ≡ line_feed → ⊥) → Parted bytes → Parted (b ∷ bytes)
unfolding parts count
parted_byte b bytes h p = go p.lines p.all p.only_ended
  where
    feeds : (lines : List (List ℕ)) → parts line_feed bytes ≡ lines ++ (p.rest ∷ []) → count line_feed bytes ≡ length lines
    feeds lines e = omega (arith, parts_count line_feed bytes, ap length e, length-append lines (p.rest ∷ []))

    other : is line_feed b ≡ 0
    other = is_ne (λ q. h (sym q))

    go : (lines : List (List ℕ)) → parts line_feed bytes ≡ lines ++ (p.rest ∷ []) → parts line_feed (ended bytes) ≡ lines ++ ([] ∷ []) → Parted (b ∷ bytes)
    go [] all only =
        record {
          lines = [];
          rest = b ∷ p.rest;
          all = part_one line_feed b bytes h ∙ ap (onto b) all;
          only_ended = ap (parts line_feed) (ended_none b bytes (omega (arith, other, feeds [] all)));
        }
    go (line ∷ more) all only =
        let some_feed : count line_feed (b ∷ bytes) ≡ 0 → ⊥ = λ z. omega (arith, feeds (line ∷ more) all) in
        record {
          lines = (b ∷ line) ∷ more;
          rest = p.rest;
          all = part_one line_feed b bytes h ∙ ap (onto b) all;
          only_ended =
              ap (parts line_feed) (ended_more b bytes some_feed)
              ∙ part_one line_feed b (ended bytes) h
              ∙ ap (onto b) only;
        }

parted : (bytes : List ℕ) → Parted bytes
unfolding parts ended
parted [] = record { lines = []; rest = []; all = refl; only_ended = refl }
parted (b ∷ bytes) =
    elim (ℕ_discrete b line_feed)
    [ yes e ↦ subst (λ (x : ℕ). Parted (x ∷ bytes)) (sym e) (parted_feed bytes (parted bytes)) | no n ↦ parted_byte b bytes n (parted bytes) ]

-- ── reading with and without what stands behind them ──

-- By what the lines that ended are read as: the malformed line stays the first, and if there is none the whole is malformed in
-- line k or not at all.
abbrev GoesOn : ℕ → Input → Input → Type 0
GoesOn k (malformed n) whole = whole ≡ malformed n
GoesOn k (input P list) whole = (n : ℕ) → whole ≡ malformed n → n ≡ k

line_goes_on : (k n : ℕ) (o : Option Appt) (later whole : Input) → GoesOn k later whole → GoesOn k (and_then_lines n o later) (and_then_lines n o whole)
line_goes_on k n None later whole h = refl
line_goes_on k n (Some x) (malformed m) whole h = ap (with_ends x) h
line_goes_on k n (Some x) (input P list) (malformed m) h = h
line_goes_on k n (Some x) (input P list) (input Q l) h = λ m e. cc

-- a part stands behind the lines
behind : (rest : List ℕ) (lines : List (List ℕ)) → 0 < length (lines ++ (rest ∷ []))
behind rest lines = omega (arith, length-append lines (rest ∷ []))

lines_go_on : (rest : List ℕ) (lines : List (List ℕ)) (P n : ℕ) → GoesOn (n + length lines) (read_lines P n (lines ++ ([] ∷ []))) (read_lines P n (lines ++ (rest ∷ [])))
unfolding read_lines
lines_go_on rest [] P n = go (eqb (length rest) 0)
  where
    go : (t : Bool) (m : ℕ) → pick t (input P []) (malformed n) ≡ malformed m → m ≡ n + 0
    go true m q = cc
    go false m q = let same : n ≡ m = cc in omega arith
lines_go_on rest (line ∷ lines) P n =
    let later : GoesOn (n + length (line ∷ lines)) (read_lines P (n + 1) (lines ++ ([] ∷ []))) (read_lines P (n + 1) (lines ++ (rest ∷ []))) =
    subst (λ (k : ℕ). GoesOn k (read_lines P (n + 1) (lines ++ ([] ∷ []))) (read_lines P (n + 1) (lines ++ (rest ∷ [])))) (omega arith) (lines_go_on rest lines P (n + 1)) in
    rw (line_step P n line (lines ++ ([] ∷ [])) (behind [] lines), line_step P n line (lines ++ (rest ∷ [])) (behind rest lines))
    (line_goes_on (n + length (line ∷ lines)) n (appointment_of line) (read_lines P (n + 1) (lines ++ ([] ∷ []))) (read_lines P (n + 1) (lines ++ (rest ∷ []))) later)

text_goes_on : (bytes : List ℕ) → GoesOn (1 + count line_feed bytes) (read_text (ended bytes)) (read_text bytes)
unfolding read_text
text_goes_on bytes = go (parted bytes).lines (parted bytes).all (parted bytes).only_ended
  where
    rest : List ℕ
    rest = (parted bytes).rest

    first : (line : List ℕ) (lines : List (List ℕ)) (o : Option ℕ) → 1 + count line_feed bytes ≡ 2 + length lines
        → GoesOn (1 + count line_feed bytes) (with_parties o (lines ++ ([] ∷ []))) (with_parties o (lines ++ (rest ∷ [])))
    first line lines None k = refl
    first line lines (Some P) k = rw k (lines_go_on rest lines P 2)

    go : (lines : List (List ℕ)) → parts line_feed bytes ≡ lines ++ (rest ∷ []) → parts line_feed (ended bytes) ≡ lines ++ ([] ∷ [])
        → GoesOn (1 + count line_feed bytes) (read_text (ended bytes)) (read_text bytes)
    go [] all only = rw (all, only) refl
    go (line ∷ lines) all only =
        let feeds : 1 + count line_feed bytes ≡ 2 + length lines =
        omega (arith, parts_count line_feed bytes, ap length all, length-append lines (rest ∷ [])) in
        rw (all, only, first_step line (lines ++ ([] ∷ [])) (behind [] lines), first_step line (lines ++ (rest ∷ [])) (behind rest lines))
        (first line lines (number line) feeds)

-- ── what is read of a broken input ──

module _ (bytes : List ℕ) where
  broken_malformed : (n : ℕ) → read_text bytes ≡ malformed n → read_input true bytes ≡ malformed n
  unfolding read_input
  broken_malformed n e = ap (broke_off bytes) e

  broken_none : (P : ℕ) (list : List ℕ) → read_text (ended bytes) ≡ input P list → read_input true bytes ≡ malformed (1 + count line_feed bytes)
  unfolding read_input
  broken_none P list e = go (read_text bytes) (rw e at (text_goes_on bytes))
    where
      go : (i : Input) → ((n : ℕ) → i ≡ malformed n → n ≡ 1 + count line_feed bytes) → broke_off bytes i ≡ malformed (1 + count line_feed bytes)
      go (malformed n) k = ap malformed (k n refl)
      go (input Q l) k = refl

  broken_no_list : (P : ℕ) (list : List ℕ) → read_input true bytes ≡ input P list → ⊥
  unfolding read_input
  broken_no_list P list = go (read_text bytes)
    where
      go : (i : Input) → broke_off bytes i ≡ input P list → ⊥
      go (malformed n) e = cc
      go (input Q l) e = cc

-- A broken input is read as specs/Broken.antt says.
pub reads_broken : (bytes : List ℕ) → ReadsBroken bytes
reads_broken bytes =
    record {
      no_list = broken_no_list bytes;
      first_malformed = λ n e. broken_malformed bytes n (rw e at (text_goes_on bytes));
      none_malformed = broken_none bytes;
      same_line = broken_malformed bytes;
    }
