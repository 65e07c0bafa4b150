-- `checking::largest_load` meets its contract: the counters hold the loads, and the largest of them is D. Assumes nothing.
use mathlib.Core.Path.{◌≡◌, sym, ◌∙◌}
use native.Mathlib.Omega.{arith}
use lib.ListN.{length, take, length-take}
use lib.Seq.{get_or-take}
use Rattle.appointments.specs.Appointments.{appts}
use Rattle.appointments.proofs.Flat.{load_count}
use Rattle.words.proofs.Clearing.{zeros}
use Rattle.checking.proofs.Answering.{largest_is}
use Rattle.checking.proofs.largest_load.Goals as goal

pub count_loads-requires : goal.count_loads-requires
count_loads-requires c = record { list_len_bound = c.requires.1; by_index = zeros 1024 }

pub returns : goal.returns
returns c =
    let l = c.args.list.now in
    let loads = c.count_loads.new.loads in
    let counted = c.count_loads.ensures in
    let few : length (take c.args.p loads) ≡ c.args.p = omega (arith, length-take c.args.p loads, c.count_loads.auto.loads, c.requires.0) in
    (rw few at c.largest.ensures)
    ∙ largest_is c.args.p _ (appts l)
    (λ v h. get_or-take c.args.p loads v 0 h ∙ counted v (omega (arith, c.requires.0)) ∙ sym (load_count v l c.requires.2))
