-- `named` meets its contract: by the first end, else by the second. Assumes nothing.
use Rattle.naming.proofs.Ends.{named_first, named_second}
use Rattle.naming.proofs.named.Goals as goal

pub returns-then-first-party : goal.returns-then-first-party
returns-then-first-party c = let a = c.args in named_first a.party a.first a.second c.if-first-party.true

pub returns : goal.returns
returns c = let a = c.args in named_second a.party a.first a.second c.if-first-party.false
