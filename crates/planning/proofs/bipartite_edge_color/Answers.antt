-- `planning::bipartite_edge_color` meets its contract: by the checks, and past them by what is worked out on the first W
-- words; demand 3 is the definitions' law. Assumes nothing.
use native.Mathlib.Omega.{arith}
use Rattle.appointments.proofs.AnswerLaws.{err_is}
use Rattle.appointments.specs.Lent.{lent}
use Rattle.planning.proofs.WorkingOut.{refused_stated, words_there, taken_length, words_fit, units_are, ready, slot_room, planned_stated}
use Rattle.planning.proofs.bipartite_edge_color.Goals as goal

pub returns-in_err-d : goal.returns-in_err-d
returns-in_err-d c =
    let a = c.args in
    let l = lent a.p a.list.now a.slots.now a.scratch.now in
    let stated = refused_stated l (rw c.from-parties.ensures at c.in_err-d.ensures) in
    rw (err_is _ _ c.from_residual.ensures.1) (record { answer = stated.0; slots = stated.1.0; scratch = stated.1.1.0; demand_3 = stated.1.1.1 })

pub scratch_words-w-requires : goal.scratch_words-w-requires
scratch_words-w-requires c =
    let a = c.args in
    let ok = rw c.from-parties.ensures at c.in_ok-d.ensures in
    rw c.from-parties.ensures (words_fit (lent a.p a.list.now a.slots.now a.scratch.now) ok)

pub slice_bounds-work_out_cleanly-end : goal.slice_bounds-work_out_cleanly-end
slice_bounds-work_out_cleanly-end c =
    let a = c.args in
    let l = lent a.p a.list.now a.slots.now a.scratch.now in
    let ok = rw c.from-parties.ensures at c.in_ok-d.ensures in
    let w = rw c.from-parties.ensures at c.scratch_words-w.ensures in
    words_there l ok _ (omega (arith, units_are l ok _ w))

pub slice_bounds-work_out_cleanly-end-2 : goal.slice_bounds-work_out_cleanly-end-2
slice_bounds-work_out_cleanly-end-2 c =
    let a = c.args in
    let l = lent a.p a.list.now a.slots.now a.scratch.now in
    let ok = rw c.from-parties.ensures at c.in_ok-d.ensures in
    let w = rw c.from-parties.ensures at c.scratch_words-w.ensures in
    taken_length l ok _ (omega (arith, units_are l ok _ w))

pub work_out_cleanly-requires : goal.work_out_cleanly-requires
work_out_cleanly-requires c =
    let a = c.args in
    let l = lent a.p a.list.now a.slots.now a.scratch.now in
    let ok = rw c.from-parties.ensures at c.in_ok-d.ensures in
    let w = rw c.from-parties.ensures at c.scratch_words-w.ensures in
    rw (c.from-parties.ensures, units_are l ok _ w)
    (record { ready = ready l ok; list_in_bounds = slot_room l ok })

pub returns : goal.returns
returns c =
    let a = c.args in
    let l = lent a.p a.list.now a.slots.now a.scratch.now in
    let ok = rw c.from-parties.ensures at c.in_ok-d.ensures in
    let w = rw c.from-parties.ensures at c.scratch_words-w.ensures in
    let worked = rw (c.from-parties.ensures, units_are l ok _ w) at c.work_out_cleanly.ensures in
    let stated = planned_stated l ok (worked.worked_out, worked.s_after) in
    rw (units_are l ok _ w)
    (record { answer = stated.0; slots = stated.1.0; scratch = stated.1.1.0; demand_3 = stated.1.1.1 })
