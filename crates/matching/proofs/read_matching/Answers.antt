-- `matching::read_matching` meets its contract. Invariant: the first i numbers are written. Assumes nothing.
use Rattle.std.proofs.Common.{◌≡◌, ◌+◌, ◌*◌, arith}
use Rattle.words.specs.Words.{word, put_word}
use Rattle.matching.proofs.Reading.{reading_more, reading_done}
use Rattle.matching.proofs.read_matching.Goals as goal

pub loop-i-preserved : goal.loop-i-preserved
loop-i-preserved c =
    let a = c.args in
    let lp = c.loop-i in
    let words : c.put.new.s ≡ put_word lp.s (a.numbers.at + lp.i) (word lp.s (a.h + 2 + 2 * lp.i)) = rw (c.index.ensures, c.pair_at-e.ensures) at c.put.ensures in
    λ ends rows can. reading_more ends rows a.h a.numbers.n a.numbers.at lp.i a.s.now lp.s c.put.new.s can c.loop-i-test.true (lp.invariant ends rows can) words

pub returns : goal.returns
returns c =
    let a = c.args in
    let lp = c.loop-i in
    let e : lp.i ≡ a.numbers.n = omega arith in
    λ ends pairs rows can. reading_done ends pairs rows a.h a.numbers.n a.numbers.at a.s.now lp.s can (rw e at (lp.invariant ends rows can))
