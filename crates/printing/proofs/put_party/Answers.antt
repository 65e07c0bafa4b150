-- `put_party` meets its contract: the word, the party and its waiting. Assumes nothing.
use Rattle.words.specs.Ascii.{ascii}
use Rattle.printing.proofs.put_party.Goals as goal

pub put_line-requires : goal.put_line-requires
unfolding ascii
put_line-requires g c = rw (c.from.ensures, c.waiting_of-waits.ensures.waiting) c.requires

pub returns : goal.returns
unfolding ascii
returns g c = rw (c.from.ensures, c.waiting_of-waits.ensures.waiting) at c.put_line.ensures
