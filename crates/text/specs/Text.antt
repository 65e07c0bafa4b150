-- Main as one function from the bytes that came, and whether the input is broken, to output bytes. Assumes nothing.
use Rattle.std.specs.Prelude.{ℕ, Bool, List, ltb, length, replicate}
use Rattle.words.specs.Basics.{pick}
use Rattle.appointments.specs.Answers.{Answer, accepted}
use Rattle.appointments.specs.Lent.{Lent, lent}
use Rattle.planning.specs.Planning.{plan_answer, plan_slots}
use Rattle.reading.specs.Reading.{Input, input, malformed, read_input}
use Rattle.printing.specs.Printing.{Report, plan, refused, printed, plan_lines, refusal_line}

-- Main lends 4,096 slot entries and 16,384 scratch words.
abbrev pub main_lent : ℕ → List ℕ → Lent
main_lent P list = lent P list (replicate 4096 0) (replicate 16384 0)

-- what there is to print of the planning call's answer and slots
abbrev pub planned_report : ℕ → List ℕ → Answer ℕ → List ℕ → Report
planned_report P list (accepted D) slots = plan P list D slots
planned_report P list (Answer.refused number place) slots = refused number place

-- what the planning call says of the input
abbrev pub input_report : Input → Report
input_report (input P list) =
    planned_report P list (plan_answer (main_lent P list)) (plan_slots (main_lent P list))
input_report (malformed n) = refused 10 n

-- 11 precedes 10, which precedes 1.
unfoldable pub report : Bool → List ℕ → Report
unfolding read_input
report broken bytes =
    let read = input_report (read_input broken bytes) in
    pick (ltb 4096 (length bytes)) (refused 11 0) read

-- Main's output of the bytes that came. A broken input is one whose reading failed for good; of any other document 01 says what
-- is printed.
unfoldable pub text_output : Bool → List ℕ → List ℕ
unfolding report plan_lines refusal_line
text_output broken bytes = printed (report broken bytes)
