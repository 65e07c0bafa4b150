-- `ends_in` meets its contract: one comma, and an end before and behind it. Assumes nothing.
use Prim.Native.Nat.{◌+◌}
use Rattle.reading.proofs.Parting.{to_the_end}
use Rattle.reading.proofs.ParsingSteps.{ends_unparted, ends_three, ends_no_first, ends_no_second, ends_both}
use Rattle.reading.proofs.ends_in.Goals as goal

pub returns-in_err-comma : goal.returns-in_err-comma
returns-in_err-comma c = rw c.from_residual.ensures (ends_unparted c.args.line.now c.in_err-comma.ensures)

pub returns-then-is_some : goal.returns-then-is_some
returns-then-is_some c =
    let i = c.in_ok-comma.comma in
    ends_three c.args.line.now _ i c.in_ok-comma.ensures (to_the_end c.args.line.now (i + 1)) _ c.find-2.ensures (cc)

pub returns-in_err-first : goal.returns-in_err-first
returns-in_err-first c =
    let i = c.in_ok-comma.comma in
    rw c.from_residual-in_err-first.ensures
    (ends_no_first c.args.line.now _ i c.in_ok-comma.ensures (to_the_end c.args.line.now (i + 1)) _ c.find-2.ensures (cc) c.in_err-first.ensures)

pub returns-in_err-second : goal.returns-in_err-second
returns-in_err-second c =
    let i = c.in_ok-comma.comma in
    rw c.from_residual-in_err-second.ensures
    (ends_no_second c.args.line.now _ i c.in_ok-comma.ensures (to_the_end c.args.line.now (i + 1)) _ c.find-2.ensures (cc) c.in_err-second.ensures)

pub returns : goal.returns
returns c =
    let i = c.in_ok-comma.comma in
    ends_both c.args.line.now _ i c.in_ok-comma.ensures (to_the_end c.args.line.now (i + 1)) _ c.find-2.ensures (cc) _ _ c.in_ok-first.ensures c.in_ok-second.ensures
