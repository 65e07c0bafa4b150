-- A step more each turn; past the last party further steps change nothing.
use Rattle.std.proofs.Common.{◌≡◌, ◌≤◌, ◌+◌, ◌*◌, sym, ◌∙◌, ap, subst, arith}
use Rattle.walking.specs.Model.{Stage, Small, walk_m, step_m, begun}
use Rattle.walking.proofs.ModelLaws.{walk_more, walk_rests, small_step}
use Rattle.walking.proofs.euler_cycles.Goals as goal

pub returns-then-l-index : goal.returns-then-l-index
returns-then-l-index c =
    let l = c.loop in
    let a = c.args in
    let over : a.l.graph.parties ≤ l.w.next.0 = omega arith in
    let e : walk_m a.l a.l.graph.parties (2 * a.l.graph.m + a.l.graph.parties) (begun a.s.now) ≡ record { words = l.s; walk = l.w } =
    walk_rests a.l a.l.graph.parties (2 * a.l.graph.m + a.l.graph.parties) l.counter (begun a.s.now) _ (omega arith) l.invariant.walked over in
    (ap (λ (t : Stage). t.words) (sym e), ap (λ (t : Stage). t.walk.written) (sym e), omega (arith, l.invariant.small))

pub loop-preserved : goal.loop-preserved
loop-preserved c =
    let l = c.loop in
    let a = c.args in
    let t : Stage = record { words = l.s; walk = l.w } in
    let e : record { words = c.step-w.new.s; walk = c.step-w.result } ≡ step_m a.l a.l.graph.parties t = c.step-w.ensures in record {
      words = λ i. omega (arith, c.type_inv.s i);
      small = subst (λ (t : Stage). Small (l.counter + 1) t.walk) (sym e) (small_step a.l a.l.graph.parties l.counter t l.invariant.words l.invariant.small);
      walked = e ∙ ap (step_m a.l a.l.graph.parties) l.invariant.walked ∙ sym (walk_more a.l a.l.graph.parties l.counter (begun a.s.now));
    }
