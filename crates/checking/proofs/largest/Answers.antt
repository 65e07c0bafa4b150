-- `checking::largest` meets its contract: `max` gives the largest of them. Assumes nothing.
use mathlib.Core.Path.{◌∙◌, ap}
use Rattle.std.specs.Option.{unwrap_or}
use Rattle.std.proofs.lemmas.Iterator.{YieldsList-from_slice}
use Rattle.std.proofs.lemmas.Iterator.Consumers.{max_from_yields_List}
use Rattle.checking.proofs.Answering.{largest_of}
use Rattle.checking.proofs.largest.Goals as goal

pub returns : goal.returns
returns c =
    c.unwrap_or.ensures
    ∙ ap (λ o. unwrap_or o 0) (c.copied.ensures ∙ max_from_yields_List _ c.max.result c.max.ensures.ran (YieldsList-from_slice c.args.loads.now (cc)))
    ∙ largest_of c.args.loads.now
