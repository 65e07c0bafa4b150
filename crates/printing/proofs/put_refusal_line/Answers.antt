-- `put_refusal_line` meets its contract: the word, the number and the place. Assumes nothing.
use Rattle.words.specs.Ascii.{ascii}
use Rattle.printing.specs.Printing.{refusal_line}
use Rattle.printing.proofs.put_refusal_line.Goals as goal

pub put_line-requires : goal.put_line-requires
unfolding ascii refusal_line
put_line-requires g c = c.requires

pub returns : goal.returns
unfolding ascii refusal_line
returns g c = c.put_line.ensures
