-- `number_of` meets its contract: the place that `position` gives is the number. Assumes nothing.
use lib.Dec.{eqb}
use Rattle.std.proofs.Common.{rules, tests}
use Rattle.std.proofs.lemmas.Iterator.{YieldsList-from_slice}
use Rattle.std.proofs.lemmas.Iterator.Search.{position_from_yields_List}
use Rattle.calendar.specs.Calendar.{times}
use Rattle.calendar.proofs.Numbers.{place_numbered}
use Rattle.calendar.proofs.number_of.Goals as goal

pub returns : goal.returns
unfolding times
returns c =
    place_numbered times c.args.time c.position.result
    (position_from_yields_List (λ x. eqb x c.args.time) _ _ c.position.result c.position.ensures.ran (YieldsList-from_slice times (cc)) (λ x b q k. search (rules, tests)))
