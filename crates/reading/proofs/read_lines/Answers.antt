-- `read_lines` meets its contract: the next piece is a line, or it is malformed. Assumes nothing.
use Prim.Native.Nat.{◌+◌, ◌/◌}
use mathlib.Core.Path.{◌≡◌, sym, ◌∙◌}
use native.Mathlib.Omega.{arith}
use borrow.Author.Rules.{rules}
use Rattle.std.proofs.Common.{tests}
use Rattle.std.specs.Prelude.{Some, None}
use Rattle.std.proofs.lemmas.Iterator.Consumers.{YieldsList-turn, YieldsList-end}
use Rattle.std.proofs.lemmas.List.{length_push}
use Rattle.appointments.proofs.AnswerLaws.{err_is}
use Rattle.reading.proofs.LinesSteps.{told_some, told_none}
use Rattle.reading.proofs.Pieces.{yields_pieces, stored_start, stored_malformed, stored_room, stored_more, stored_all}
use Rattle.appointments.specs.declared.Refusal.TheVariants.{MalformedLine}
use Rattle.reading.proofs.read_lines.Goals as goal

pub loop-line-init : goal.loop-line-init
loop-line-init c = stored_start c.args.parties c.args.bytes.now c.args.list.now

pub put_ends-requires : goal.put_ends-requires
put_ends-requires c =
    let items = c.split_inclusive-line-items.ensures in
    let turn =
    YieldsList-turn (yields_pieces _ c.args.bytes.now c.into_iter-line-iterator.ensures.into_iter_gives items.rest items.closure (λ x b q k. search (rules, tests)))
    c.loop-line.yielded _ c.loop-line.yielded_by _ _ c.in-Some.line c.in-Some.is c.next.ensures.steps in
    let read : c.ended_line.result ≡ Some c.in_ok-ends.ends = grind arith in
    let ends = told_some _ _ (sym read ∙ c.ended_line.ensures) in
    stored_room c.loop-line.invariant c.requires _ turn _ ends

pub loop-line-preserved : goal.loop-line-preserved
loop-line-preserved c =
    let items = c.split_inclusive-line-items.ensures in
    let turn =
    YieldsList-turn (yields_pieces _ c.args.bytes.now c.into_iter-line-iterator.ensures.into_iter_gives items.rest items.closure (λ x b q k. search (rules, tests)))
    c.loop-line.yielded _ c.loop-line.yielded_by _ _ c.in-Some.line c.in-Some.is c.next.ensures.steps in
    let read : c.ended_line.result ≡ Some c.in_ok-ends.ends = grind arith in
    let ends = told_some _ _ (sym read ∙ c.ended_line.ensures) in
    rw (c.put_ends.ensures, length_push c.loop-line.yielded c.in-Some.line) (stored_more c.loop-line.invariant c.requires _ turn _ ends)

pub returns-in_err-ends : goal.returns-in_err-ends
returns-in_err-ends c =
    let items = c.split_inclusive-line-items.ensures in
    let turn =
    YieldsList-turn (yields_pieces _ c.args.bytes.now c.into_iter-line-iterator.ensures.into_iter_gives items.rest items.closure (λ x b q k. search (rules, tests)))
    c.loop-line.yielded _ c.loop-line.yielded_by _ _ c.in-Some.line c.in-Some.is c.next.ensures.steps in
    let gone : None ≡ c.ended_line.result = grind arith in
    let first : c.in_err-ends.field-0.0 ≡ MalformedLine (c.loop-line.count / 2 + 2) = grind arith in
    rw (err_is _ _ c.from_residual.ensures.1, first) (stored_malformed c.loop-line.invariant c.requires _ turn (told_none _ (gone ∙ c.ended_line.ensures)))

pub returns : goal.returns
returns c =
    let items = c.split_inclusive-line-items.ensures in
    let seen =
    YieldsList-end (yields_pieces _ c.args.bytes.now c.into_iter-line-iterator.ensures.into_iter_gives items.rest items.closure (λ x b q k. search (rules, tests)))
    c.loop-line.yielded _ c.loop-line.yielded_by _ _ c.in-None.is c.next.ensures.steps in
    stored_all c.loop-line.invariant c.requires seen.1
