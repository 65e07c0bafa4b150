-- `Bases::pairs_at` meets its contract: the map is cleared, the rows, the representatives, no pairs, and one copy for each appointment.
-- Assumes nothing.
use Rattle.list_pairs.proofs.RowsLaws.{fit_cleared}
use Rattle.list_pairs.proofs.PairsMade.{rows_fit, reps_fit, started, pairs_made}
use Rattle.list_pairs.proofs.Bases.pairs_at.Goals as goal

pub fill_rows-requires : goal.fill_rows-requires
fill_rows-requires c =
    let a = c.args in
    fit_cleared c.clear.ensures (rows_fit a.list.now a.p a.d a.self a.u a.s.now c.requires)

pub rep_rows-requires : goal.rep_rows-requires
rep_rows-requires c =
    let a = c.args in
    reps_fit a.list.now a.p a.d a.self a.u a.s.now c.requires c.clear.new.s c.fill_rows.new.s c.clear.ensures c.fill_rows.ensures

pub add_appointments-requires : goal.add_appointments-requires
add_appointments-requires c =
    let a = c.args in
    started a.list.now a.p a.d a.self a.u a.s.now c.requires c.clear.new.s c.fill_rows.new.s c.clear.ensures c.fill_rows.ensures
    c.rep_rows.new.s c.head.new.s c.rep_rows.ensures c.head.ensures

pub returns : goal.returns
returns c =
    let a = c.args in
    pairs_made a.list.now a.p a.d a.self a.u a.s.now c.requires c.clear.new.s c.fill_rows.new.s c.clear.ensures c.fill_rows.ensures
    c.rep_rows.new.s c.head.new.s c.rep_rows.ensures c.head.ensures c.add_appointments.new.s c.add_appointments.ensures
