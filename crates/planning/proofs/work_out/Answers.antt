-- `planning::work_out` meets its contract: no parties, two neighbours on one side, or a plan. Assumes nothing.
use mathlib.Core.Path.{◌≡◌}
use native.Mathlib.Omega.{arith}
use Rattle.std.specs.Prelude.{Some, None}
use Rattle.appointments.specs.declared.Refusal.TheVariants.{OddRound}
use Rattle.appointments.proofs.AnswerLaws.{err_is}
use Rattle.two_color.proofs.Passing.{passed_can_color}
use Rattle.planning.proofs.WorkingOut.{two_colored, worked_none, worked_odd, worked_plan}
use Rattle.planning.proofs.work_out.Goals as goal

pub returns-then-p-eq0 : goal.returns-then-p-eq0
returns-then-p-eq0 c = worked_none c.requires.ready (omega arith)

pub two_sides-requires : goal.two_sides-requires
two_sides-requires c =
    let ready = c.requires.ready in
    passed_can_color _ ready.largest ready.checked

pub returns-in_err-left : goal.returns-in_err-left
returns-in_err-left c =
    let gone : c.two_sides.result ≡ None = grind arith in
    let odd : c.in_err-left.field-0.0 ≡ OddRound = grind arith in
    rw (err_is _ _ c.from_residual.ensures.1, odd) (worked_odd (rw gone at c.two_sides.ensures))

pub bipartite_edge_color_given_partition-requires : goal.bipartite_edge_color_given_partition-requires
bipartite_edge_color_given_partition-requires c =
    let found : c.two_sides.result ≡ Some c.in_ok-left.left = grind arith in
    record { sided = two_colored c.requires.ready (omega arith) (rw found at c.two_sides.ensures); list_in_bounds = c.requires.list_in_bounds }

pub returns : goal.returns
returns c =
    let found : c.two_sides.result ≡ Some c.in_ok-left.left = grind arith in
    worked_plan (rw found at c.two_sides.ensures) c.bipartite_edge_color_given_partition.ensures
