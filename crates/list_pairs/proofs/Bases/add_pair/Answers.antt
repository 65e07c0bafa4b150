-- `Bases::add_pair` meets its contract: copies added, or a new pair. Assumes nothing.
use Rattle.std.proofs.Common.{◌≡◌, ◌+◌, ◌*◌, ◌%◌, ◌<◌, ◌≤◌, arith}
use Rattle.multigraph.specs.Places.{size, copies_of}
use Rattle.words.proofs.Puts.{put_is}
use Rattle.list_pairs.specs.Adding.{pushed}
use Rattle.list_pairs.proofs.PlainLaws.{pushed_words, added_there, added_new}
use Rattle.list_pairs.proofs.Bases.add_pair.Goals as goal

pub returns-then-i-m : goal.returns-then-i-m
returns-then-i-m c =
    let a = c.args in
    let g = a.self.g in
    λ h.
    let k : a.e.0 < size a.s.now g = omega arith in
    let sum : (copies_of a.s.now g a.e.0 + a.copies) % 18446744073709551616 ≡ copies_of a.s.now g a.e.0 + a.copies = omega (arith, h.light a.e.0 k) in
    added_there a.self.ends g a.e.0 a.l.0 a.r.0 a.copies a.s.now h k c.set_word.new.s
    (put_is (g + 3 + 2 * a.e.0) (copies_of a.s.now g a.e.0 + a.copies) a.s.now c.set_word.new.s (rw (c.word_at-c.ensures.0, c.index-i.ensures, sum) at c.set_word.ensures) (omega (arith, h.inside)) (h.light a.e.0 k))

pub returns : goal.returns
returns c =
    let a = c.args in
    let g = a.self.g in
    λ h.
    let k : size a.s.now g ≤ a.e.0 = omega arith in
    let w : c.push_pair.new.s ≡ pushed a.self.ends g (size a.s.now g) a.l.0 a.r.0 a.copies a.s.now = rw (c.new.ensures, c.word_at-m.ensures.0) at c.push_pair.ensures in
    added_new a.self.ends g a.e.0 a.l.0 a.r.0 a.copies a.s.now h k c.push_pair.new.s
    (rw w (pushed_words a.self.ends g (size a.s.now g) a.l.0 a.r.0 a.copies a.s.now h.after_ends h.inside h.small h.left_small h.right_small h.few))
