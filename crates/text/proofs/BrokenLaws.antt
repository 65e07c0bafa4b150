-- A broken input gets a refusal and never a plan: by 11, or by 10 with the line in which it is malformed. Assumes nothing.
use Prim.Native.Nat.{ℕ, ◌≤◌, ◌<◌}
use mathlib.Core.Path.{◌≡◌, refl, ap}
use mathlib.Core.Bool.{Bool, true, false}
use mathlib.Core.List.{List}
use borrow.Author.Tests.{lt-ltb, le-ltb}
use lib.Dec.{ltb}
use lib.ListN.{length}
use Rattle.words.specs.Basics.{pick}
use Rattle.reading.specs.Reading.{Input, input, malformed, read_input}
use Rattle.reading.proofs.BrokenLaws.{reads_broken}
use Rattle.printing.specs.Printing.{plan, refused}
use Rattle.text.specs.Text.{input_report, report}
use Rattle.text.specs.Broken.{RefusesBroken}

module _ (bytes : List ℕ) where
  report_long : 4096 < length bytes → report true bytes ≡ refused 11 0
  unfolding report
  report_long h = rw (lt-ltb 4096 (length bytes) h)

  report_malformed : length bytes ≤ 4096 → (n : ℕ) → read_input true bytes ≡ malformed n → report true bytes ≡ refused 10 n
  unfolding report
  report_malformed h n e = rw (le-ltb 4096 (length bytes) h) (ap input_report e)

  report_refused : (P : ℕ) (list : List ℕ) (D : ℕ) (slots : List ℕ) → report true bytes ≡ plan P list D slots → ⊥
  unfolding report
  report_refused P list D slots = go (ltb 4096 (length bytes)) (read_input true bytes) refl
    where
      go : (t : Bool) (i : Input) → read_input true bytes ≡ i → pick t (refused 11 0) (input_report i) ≡ plan P list D slots → ⊥
      go true i r e = cc
      go false (malformed n) r e = cc
      go false (input Q l) r e = (reads_broken bytes).no_list Q l r

-- A broken input is refused, as specs/Broken.antt says.
pub refuses_broken : (bytes : List ℕ) → RefusesBroken bytes
refuses_broken bytes =
    let read = reads_broken bytes in
    record {
      no_plan = report_refused bytes;
      long = report_long bytes;
      first_malformed = λ h n e. report_malformed bytes h n (read.first_malformed n e);
      none_malformed = λ h P list e. report_malformed bytes h _ (read.none_malformed P list e);
      same_line = λ h n e. report_malformed bytes h n (read.same_line n e);
    }
