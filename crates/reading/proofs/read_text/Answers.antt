-- `read_text` meets its contract: a number in the first line, then the other lines. Assumes nothing.
use Prim.Native.Nat.{◌+◌}
use mathlib.Core.Path.{◌≡◌}
use native.Mathlib.Omega.{arith}
use Rattle.std.specs.Prelude.{Some, None}
use Rattle.std.proofs.lemmas.Option.{MatchOption-at_some, MatchOption-at_none}
use Rattle.appointments.proofs.AnswerLaws.{err_is}
use Rattle.appointments.specs.declared.Refusal.TheVariants.{MalformedLine}
use Rattle.reading.proofs.Parting.{to_the_end}
use Rattle.reading.proofs.LinesSteps.{text_unended, text_no_number, text_lines}
use Rattle.reading.proofs.read_text.Goals as goal

pub returns-in_err-end : goal.returns-in_err-end
returns-in_err-end c =
    let gone : c.find.result ≡ None = grind arith in
    let first : c.in_err-end.field-0.0 ≡ MalformedLine 1 = grind arith in
    rw (err_is _ _ c.from_residual.ensures.1, first, text_unended c.args.input.now (MatchOption-at_none _ _ gone c.find.ensures))

pub returns-in_err-parties : goal.returns-in_err-parties
returns-in_err-parties c =
    let found : c.find.result ≡ Some c.in_ok-end.end = grind arith in
    let gone : None ≡ c.number_in.result = grind arith in
    let first : c.in_err-parties.field-0.0 ≡ MalformedLine 1 = grind arith in
    rw (err_is _ _ c.from_residual-in_err-parties.ensures.1, first, text_no_number c.args.input.now _ (MatchOption-at_some _ _ _ found c.find.ensures) (cc))

pub returns : goal.returns
returns c =
    let input = c.args.input.now in
    let i = c.in_ok-end.end in
    let found : c.find.result ≡ Some i = grind arith in
    let number : Some c.in_ok-parties.parties ≡ c.number_in.result = grind arith in
    rw (text_lines input i (MatchOption-at_some _ _ _ found c.find.ensures) c.in_ok-parties.parties (cc), ← to_the_end input (i + 1)) c.read_lines.ensures
