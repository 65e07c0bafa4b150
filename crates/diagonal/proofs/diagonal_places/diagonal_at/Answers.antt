-- `diagonal::diagonal_at` meets its contract: every place begins, then every pair is looked at. Assumes nothing.
use Rattle.multigraph.specs.Places.{size}
use Rattle.diagonal.specs.DiagonalPlaces.{Begun, Looked}
use Rattle.diagonal.proofs.DiagonalLaws.{diag_fit, diagonal_set}
use Rattle.diagonal.proofs.BeginLaws.{diag_ready}
use Rattle.diagonal.proofs.diagonal_places.diagonal_at.Goals as goal

pub begin_places-requires : goal.begin_places-requires
begin_places-requires c =
    let a = c.args in
    rw c.get-m.ensures.0 (diag_fit a.n a.at a.diag a.u a.s.now c.requires)

pub look_at_pairs-requires : goal.look_at_pairs-requires
look_at_pairs-requires c =
    let a = c.args in
    let e = c.get-m.ensures.0 in
    let fit = diag_fit a.n a.at a.diag a.u a.s.now c.requires in
    let x : Begun a.n a.at a.diag a.u (size a.s.now a.at.g) a.n a.s.now c.begin_places.new.s = rw e at c.begin_places.ensures in
    rw e (diag_ready a.n a.at a.diag a.u (size a.s.now a.at.g) a.s.now fit c.begin_places.new.s x)

pub returns : goal.returns
returns c =
    let a = c.args in
    let e = c.get-m.ensures.0 in
    let x : Begun a.n a.at a.diag a.u (size a.s.now a.at.g) a.n a.s.now c.begin_places.new.s = rw e at c.begin_places.ensures in
    let y : Looked a.n a.at a.diag (size a.s.now a.at.g) (size a.s.now a.at.g) c.begin_places.new.s c.look_at_pairs.new.s = rw e at c.look_at_pairs.ensures in
    diagonal_set a.n a.at a.diag a.u a.s.now c.requires c.begin_places.new.s c.look_at_pairs.new.s x y
