-- `checking::count_loads` meets its contract: the counters hold how often the part of the list that was passed names each
-- party. Assumes nothing.
use Prim.Native.Nat.{◌+◌}
use mathlib.Core.Path.{◌≡◌, refl, ◌∙◌, ap}
use native.Mathlib.Omega.{arith}
use lib.ListN.{length}
use Rattle.words.specs.Basics.{count}
use Rattle.words.specs.Words.{word, put_word}
use Rattle.words.proofs.Frames.{length_put}
use Rattle.appointments.proofs.Flat.{counted_more}
use Rattle.checking.proofs.count_loads.Goals as goal

pub loop-v-init : goal.loop-v-init
unfolding count
loop-v-init c = (refl, λ v h. c.requires.by_index v)

pub loop-v-preserved : goal.loop-v-preserved
loop-v-preserved c =
    let l = c.args.list.now in
    let i = c.loop-v.v-index in
    let s = c.loop-v.loads in
    let inv = c.loop-v.invariant in
    let e : c.put.new.s ≡ put_word s (word l i) (word s (word l i) + 1) = cc (c.put.ensures, c.get-load.ensures.0, c.from-v.ensures) in (
      ap length e ∙ length_put s (word l i) (word s (word l i) + 1) ∙ inv.0,
      rw e
          (counted_more (length c.args.loads.now) s l i c.requires.list_len_bound (omega arith) inv.0 inv.1),
    )
