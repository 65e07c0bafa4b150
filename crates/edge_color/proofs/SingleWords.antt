-- The colouring over words where the degree is 0 or 1: nothing to colour, or the graph is a matching and its numbers are
-- written out. Assumes nothing.
use Prim.Native.Nat.{ℕ, zero, suc, ◌*◌, ◌≤◌}
use mathlib.Core.Path.{◌≡◌, refl, sym, ◌∙◌, ap, subst}
use mathlib.Core.List.{List, [], ◌∷◌}
use native.Mathlib.Omega.{arith}
use native.Mathlib.Nat.{mul-one, mul-zero}
use lib.ListN.{length}
use Rattle.words.specs.Basics.{ran}
use Rattle.words.proofs.Ranges.{spares_refl, changes_behind}
use Rattle.words.proofs.PowersOfTwo.{no_power}
use Rattle.multigraph.specs.Multigraph.{Graph}
use Rattle.multigraph.specs.Regular.{Regular}
use Rattle.multigraph.specs.Stored.{graph_at, matching_at, matchings_at}
use Rattle.multigraph.specs.Places.{size}
use Rattle.multigraph.proofs.Sizes.{entries_one}
use Rattle.matching.specs.Searched.{lefts, rights, CanRead, ReadsMatching, MatchingRead}
use Rattle.matching.specs.declared.Table.{Table}
use Rattle.matching.proofs.Reading.{can_read}
use Rattle.coloring.specs.EdgeColor.{rbmg_edge_color_when_power_of_two, rbmg_edge_color}
use Rattle.edge_color.specs.Room.{Colorable, PowerFits, PowerColored, ColorFits, Colored}

pub color_none :
    (t : Table) (s : List ℕ) (used g n d out : ℕ) → ColorFits t s used g n d out → d ≡ 0 → Colored t s s used used g n d out
unfolding rbmg_edge_color matchings_at
color_none t s used g n d out f none =
    let w : n * d ≡ 0 = ap (λ (k : ℕ). n * k) none ∙ mul-zero n in
    record {
      colors = λ fuel le. rw none (go fuel);
      bounds = λ j h. absurd (omega arith);
      back = refl;
      spares = spares_refl _ _ _ _ _ s;
    }
  where
    go : (fuel : ℕ) → rbmg_edge_color fuel (2 * n) (lefts t n s) (rights t n s) 0 (graph_at s t.ends t.pairs g) ≡ ran []
    go zero = refl
    go (suc fuel) = refl

-- a graph of degree 1 that can be coloured can be read
colorable_read :
    (side : ℕ → ℕ) (pairs : ℕ) (s : List ℕ) (used ends g n d out : ℕ) → Colorable side pairs s used ends g n d out → d ≡ 1 →
    used ≤ length s → CanRead ends pairs g n out s
colorable_read side pairs s used ends g n d out c one room =
    let r : Regular (2 * n) side 1 (graph_at s ends pairs g) =
    subst (λ (k : ℕ). Regular (2 * n) side k (graph_at s ends pairs g)) one c.regular in
    let count : size s g ≡ n = entries_one s ends pairs g n side r c.positive in
    can_read side s ends pairs pairs g out n
    r c.positive c.numbers c.after_table (omega (arith, c.after_out, ap (λ (k : ℕ). n * k) one, mul-one n))
    (omega (arith, c.below, count)) c.short

pub power_read :
    (s t : List ℕ) (used ends g n d out : ℕ) → PowerFits s used ends g n d out → d ≡ 1 → ReadsMatching g n out s t →
    PowerColored s t used used ends g n d out
unfolding rbmg_edge_color_when_power_of_two matchings_at
power_read s t used ends g n d out f one reads =
    record {
      colors =
          λ pairs e p.
          let z : e ≡ 0 = no_power d e p (omega arith) in
          rw (z, one) (ap (λ (m : Graph). ran (m ∷ [])) (sym (done pairs).matching));
      bounds = λ bound below j h. rw ((done 0).numbers j (omega (arith, w))) (below j (omega (arith, w, can.sized)));
      back = refl;
      stays =
          record {
            len = (done 0).changes.len;
            under = λ i h k. (done 0).changes.under i k;
            over = λ i h k. changes_behind (done 0).changes i (omega (arith, w));
          };
    }
  where
    w : n * d ≡ n
    w = ap (λ (k : ℕ). n * k) one ∙ mul-one n

    can : CanRead ends f.pairs g n out s
    can = colorable_read f.side f.pairs s used ends g n d out f.graph one (omega (arith, f.room))

    done : (pairs : ℕ) → MatchingRead ends pairs g n out s t
    done pairs = reads ends pairs f.pairs can

pub color_read :
    (t : Table) (s u : List ℕ) (used g n d out : ℕ) → ColorFits t s used g n d out → d ≡ 1 → ReadsMatching g n out s u →
    Colored t s u used used g n d out
unfolding rbmg_edge_color matchings_at
color_read t s u used g n d out f one reads =
    record {
      colors = λ fuel le. rw one (go fuel (omega arith));
      bounds = λ j h. rw (done.numbers j (omega (arith, w))) (f.graph.numbers j (omega (arith, can.sized, w)));
      back = refl;
      spares =
          record {
            len = done.changes.len;
            under = λ i h k. done.changes.under i (omega (arith, f.after_places));
            between = λ i h k l. done.changes.under i l;
            over = λ i h k. changes_behind done.changes i (omega (arith, w));
          };
    }
  where
    w : n * d ≡ n
    w = ap (λ (k : ℕ). n * k) one ∙ mul-one n

    can : CanRead t.ends t.pairs g n out s
    can = colorable_read f.side t.pairs s used t.ends g n d out f.graph one (omega (arith, f.room))

    done : MatchingRead t.ends t.pairs g n out s u
    done = reads t.ends t.pairs t.pairs can

    go : (fuel : ℕ) → 1 ≤ fuel →
        rbmg_edge_color fuel (2 * n) (lefts t n s) (rights t n s) 1 (graph_at s t.ends t.pairs g)
        ≡ ran (matching_at u t.ends t.pairs out n ∷ [])
    go zero le = absurd (omega arith)
    go (suc fuel) le = ap (λ (m : Graph). ran (m ∷ [])) (sym done.matching)
