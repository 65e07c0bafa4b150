-- `evening::pad_sides` meets its contract: both sides are padded to the longer. Assumes nothing.
use Rattle.evening.proofs.PaddingWords.{sides_padded}
use Rattle.evening.proofs.pad_sides.Goals as goal

pub returns : goal.returns
returns c =
    let a = c.args in
    sides_padded a.p a.left a.l a.right a.r a.s.now c.requires c.max-n.result c.max-n.ensures c.pad_side.new.s c.pad_side-2.new.s c.pad_side.ensures c.pad_side-2.ensures
