-- Reading the first line, a line of two ends, and an input that may be broken, by the definition. Assumes nothing.
use Prim.Native.Nat.{ℕ, ◌+◌, ◌-◌, ◌/◌, ◌≤◌, ◌<◌}
use mathlib.Core.Path.{◌≡◌, refl, sym, ap}
use mathlib.Core.Bool.{Bool, true, false}
use mathlib.Core.List.{List, [], ◌∷◌}
use Rattle.std.specs.Prelude.{Option, None, Some, option_map, Ok, Err}
use native.Mathlib.Omega.{arith}
use borrow.Author.Tests.{eq-eqb, ne_eqb}
use lib.ListN.{length, get_or, take, drop, length-append}
use lib.Seq.{take_at, length-take-le}
use Rattle.appointments.specs.Appointments.{Appt, appt}
use Rattle.words.specs.Ascii.{line_feed}
use Rattle.reading.specs.Reading.{parts, number, appointment_of, Input, input, malformed, read_lines, with_parties, read_text, read_input}
use Rattle.appointments.specs.declared.Refusal.{Refusal}
use Rattle.appointments.specs.declared.Refusal.TheVariants.{MalformedLine}
use Rattle.reading.specs.Told.{FirstAt, ends_of, ended_line, ReadAs}
use Rattle.reading.specs.declared.Ends.{Ends}
use Rattle.reading.specs.declared.ReadInput.{ReadInput}
use Rattle.reading.proofs.Parting.{Unfound, parts_at, parts_none, parts_some}
use Rattle.reading.proofs.ReadingLaws.{first_step, reads}

-- ── one line ──

pub told_some : (ends : Ends) (o : Option Appt) → Some ends ≡ option_map ends_of o → o ≡ Some (appt ends.first ends.second)
told_some ends (Some x) e =
    let same : ends ≡ ends_of x = cc in
    rw same
told_some ends None e = cc

pub told_none : (o : Option Appt) → None ≡ option_map ends_of o → o ≡ None
told_none (Some x) e = cc
told_none None e = refl

-- ── a line that a line feed ends, and one that none ends ──

module _ (line : List ℕ) where
  pub is_ended : get_or line (length line - 1) 0 ≡ line_feed → option_map ends_of (appointment_of (take (length line - 1) line)) ≡ option_map ends_of (ended_line line)
  unfolding ended_line
  is_ended e = rw (eq-eqb (get_or line (length line - 1) 0) line_feed e) refl

  pub not_ended_by : (get_or line (length line - 1) 0 ≡ line_feed → ⊥) → None ≡ option_map ends_of (ended_line line)
  unfolding ended_line
  not_ended_by h = rw (ne_eqb (get_or line (length line - 1) 0) line_feed h) refl

pub no_line : (line : List ℕ) → length line < 1 → None ≡ option_map ends_of (ended_line line)
no_line [] h = not_ended_by [] (λ e. omega arith)
no_line (b ∷ line) h = absurd (omega arith)

-- ── the first line ──

pub text_unended : (bytes : List ℕ) → Unfound line_feed bytes → read_text bytes ≡ malformed 1
unfolding read_text
text_unended bytes f = rw (parts_none line_feed bytes f)

module _ (bytes : List ℕ) (end : ℕ) (f : FirstAt line_feed bytes end) where
  first_line : read_text bytes ≡ with_parties (number (take end bytes)) (parts line_feed (drop (end + 1) bytes))
  unfolding read_text
  first_line =
      rw (parts_at line_feed bytes end f)
      (first_step (take end bytes) (parts line_feed (drop (end + 1) bytes)) (parts_some line_feed (drop (end + 1) bytes)))

  pub text_no_number : None ≡ number (take end bytes) → read_text bytes ≡ malformed 1
  text_no_number m = rw (first_line, ← m)

  pub text_lines : (P : ℕ) → Some P ≡ number (take end bytes) → read_text bytes ≡ read_lines P 2 (parts line_feed (drop (end + 1) bytes))
  text_lines P m = rw (first_line, ← m)

-- ── what was read ──

-- P and the first numbers of the lent list
pub record WasRead (i : Input) (r : ReadInput) (lent : List ℕ) : Type 0 where
  pub inside : r.count ≤ length lent
  pub is : i ≡ input r.parties (take r.count lent)

pub was_read : (i : Input) (r : ReadInput) (before after : List ℕ) → ReadAs i (Ok r) before after → WasRead i r after
was_read (input Q list) r before after t =
    let same_P : r.parties ≡ Q = cc in
    let same_count : r.count ≡ length list = cc in
    let front : take r.count after ≡ list = rw t.1 (take_at list (drop (length list) before) r.count (sym same_count)) in
    record {
      inside = rw (t.1, length-append list (drop (length list) before)) (omega (arith, same_count));
      is = rw (front, same_P);
    }
was_read (malformed n) r before after t = cc

-- or the malformed line
pub was_malformed : (i : Input) (e : Refusal) (before after : List ℕ) → ReadAs i (Err e) before after → (n : ℕ) × (i ≡ malformed n) × (e ≡ MalformedLine n)
was_malformed (input Q list) e before after t = let no : Ok _ ≡ Err e = sym t.0 in cc
was_malformed (malformed m) e before after t = (m, refl, cc)

-- ── of an input that may be broken ──

module _ (bytes before after : List ℕ) where
  pub input_malformed : (broken : Bool) (e : Refusal) → ReadAs (read_text bytes) (Err e) before after → ReadAs (read_input broken bytes) (Err e) before after
  unfolding read_input
  input_malformed false e t = t
  input_malformed true e t = let m = was_malformed (read_text bytes) e before after t in rw m.1 (ap Err m.2)

  module _ (r : ReadInput) (t : ReadAs (read_text bytes) (Ok r) before after) where
    pub input_broken : ReadAs (read_input true bytes) (Err (MalformedLine (r.count / 2 + 2))) before after
    unfolding read_input
    input_broken =
        let w : WasRead (read_text bytes) r after = was_read (read_text bytes) r before after t in
        rw w.is
        (ap (λ (n : ℕ). Err (MalformedLine n)) (omega (arith, (reads bytes r.parties (take r.count after) w.is).lines, length-take-le r.count after w.inside)))

    pub input_whole : ReadAs (read_input false bytes) (Ok r) before after
    unfolding read_input
    input_whole = t
