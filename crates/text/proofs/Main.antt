-- Main, case by case: what its report is when the input is too long, malformed or read, and when the planning call has planned
-- or refused; and that 1,801 bytes have room for each. Assumes nothing.
use Prim.Native.Nat.{ℕ, ◌≤◌, ◌<◌}
use mathlib.Core.Path.{◌≡◌, sym, ◌∙◌, ap}
use mathlib.Core.Bool.{Bool}
use mathlib.Core.List.{List, [], ◌++◌}
use native.Mathlib.Omega.{arith}
use borrow.Author.Tests.{lt-ltb, le-ltb}
use lib.ListN.{length, take}
use Rattle.std.specs.Prelude.{Result, Ok, Err}
use Rattle.appointments.specs.Refusals.{refusal_number, refusal_place, told}
use Rattle.appointments.specs.declared.Refusal.{Refusal}
use Rattle.planning.specs.Planning.{plan_answer, plan_slots}
use Rattle.reading.specs.Reading.{read_input}
use Rattle.reading.specs.Told.{ReadAs}
use Rattle.reading.specs.declared.ReadInput.{ReadInput}
use Rattle.reading.proofs.LinesSteps.{was_read, was_malformed}
use Rattle.printing.specs.Printing.{Report, plan, refused, printed}
use Rattle.printing.specs.Placed.{string, Fits, Placed}
use Rattle.text.specs.Text.{main_lent, planned_report, input_report, report, text_output}
use Rattle.text.proofs.TextLaws.{output_fits}

module _ (broken : Bool) (bytes : List ℕ) where
  -- above 4,096 bytes it is 11, whatever they are
  pub report_long : 4096 < length bytes → report broken bytes ≡ refused 11 0
  unfolding report
  report_long h = rw (lt-ltb 4096 (length bytes) h)

  -- what is printed of its report has room, and is main's output
  module _ (r : Report) (e : report broken bytes ≡ r) where
    output_is : text_output broken bytes ≡ printed r
    unfolding text_output
    output_is = ap printed e

    pub output_room : (text : List ℕ) → text ≡ [] → Fits (string 1801 text) (printed r)
    output_room text h = record { room = omega (arith, output_fits broken bytes, ap length output_is, ap length h) }

    pub output_placed : (text after : List ℕ) → text ≡ [] → Placed (string 1801 text) (printed r) (string 1801 after) → after ≡ text_output broken bytes
    output_placed text after h p = p.stored ∙ ap (λ (l : List ℕ). l ++ printed r) h ∙ sym output_is

  -- up to there it goes by what was read
  module _ (h : length bytes ≤ 4096) where
    report_read : report broken bytes ≡ input_report (read_input broken bytes)
    unfolding report
    report_read = rw (le-ltb 4096 (length bytes) h)

    pub report_malformed : (e : Refusal) (before after : List ℕ) → ReadAs (read_input broken bytes) (Err e) before after → report broken bytes ≡ refused (refusal_number e) (refusal_place e)
    report_malformed e before after t =
        let m = was_malformed (read_input broken bytes) e before after t in
        let number : refusal_number e ≡ 10 = ap refusal_number m.2 in
        let place : refusal_place e ≡ m.0 = ap refusal_place m.2 in
        simp (number, place) (report_read ∙ ap input_report m.1)

    -- and by what the planning call then tells
    module _ (r : ReadInput) (before after : List ℕ) (t : ReadAs (read_input broken bytes) (Ok r) before after) where
      abbrev list : List ℕ
      list = take r.count after

      report_told : (a : Result ℕ Refusal) → told a ≡ plan_answer (main_lent r.parties list)
          → report broken bytes ≡ planned_report r.parties list (told a) (plan_slots (main_lent r.parties list))
      report_told a e = rw (report_read, (was_read (read_input broken bytes) r before after t).is, e)

      pub report_refused : (e : Refusal) → told (Err e) ≡ plan_answer (main_lent r.parties list) → report broken bytes ≡ refused (refusal_number e) (refusal_place e)
      report_refused e h = report_told (Err e) h

      pub report_planned : (d : ℕ) (slots : List ℕ) → told (Ok d) ≡ plan_answer (main_lent r.parties list) → slots ≡ plan_slots (main_lent r.parties list)
          → report broken bytes ≡ plan r.parties list d slots
      report_planned d slots h s = rw s (report_told (Ok d) h)
