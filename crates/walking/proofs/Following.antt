-- What the rings hold while the walk goes on: each party's ring has the half-edges of the places that remain, and taking a
-- half-edge and its mate out takes the place out. Assumes nothing.
use Prim.Native.Nat.{ℕ, ◌+◌, ◌*◌, ◌%◌, ◌≤◌, ◌<◌}
use mathlib.Core.Path.{◌≡◌, refl, sym, ◌∙◌, ap, subst}
use mathlib.Core.Bool.{Bool, true, false, not}
use mathlib.Core.List.{List}
use native.Mathlib.Omega.{arith}
use native.Mathlib.Decide.{ℕ_discrete}
use borrow.Author.Tests.{ne_eqb}
use lib.Dec.{eqb}
use lib.ListN.{length}
use Rattle.words.specs.Basics.{All}
use Rattle.words.specs.Words.{word, put_word}
use Rattle.words.proofs.Sums.{all_map}
use Rattle.words.proofs.Frames.{here, away, length_put, keeps_trans}
use Rattle.multigraph.specs.Multigraph.{Pair}
use Rattle.rings.specs.declared.Rings.{Rings}
use Rattle.rings.specs.Model.{copies_m}
use Rattle.walking.specs.Model.{pop_m, unlink_m}
use Rattle.euler.proofs.Places.{keep_all, without, Falling}
use Rattle.rings.proofs.Chains.{Distinct, Has, after, prior, Chain, Between, between, Cut, chain_cut}
use Rattle.rings.proofs.Nodes.{edge, end, nodes, nodes_distinct, nodes_without, has_node, has_kept, has_below, keep_distinct, First}
use Rattle.euler.proofs.Odds.{Odd}
use Rattle.rings.proofs.Bases.{Laid, P, Node, Edge, edge_node, party_node, edge_is, end_below}
use Rattle.euler.proofs.Puts.{away2}
use Rattle.rings.proofs.Asides.{Aside, aside_trans, aside_two, SameNodes}
use Rattle.rings.proofs.Ringed.{Ringed, ringed_same}

module _ {l : Rings} {N m k : ℕ} {s₀ : List ℕ} (g : Laid l N m k s₀) (flag : ℕ → ℕ) where
  abbrev C : ℕ → ℕ
  C i = copies_m l s₀ i

  abbrev Q : ℕ → Pair
  Q i = P g flag i

  abbrev Nd : ℕ → Type 0
  Nd y = Node g y

  abbrev Ed : ℕ → Type 0
  Ed y = Edge g y

  -- ── the rings ──

  -- The rings hold the half-edges of the places is, which are odd entries.
  pub record Remaining (s : List ℕ) (is : List ℕ) : Type 0 where
    pub rung : Ringed g (λ v. nodes Q v is) s
    pub leads : (d : Bool) (i : ℕ) → Odd m C i → word s (l.b + 2 * edge d i + 3) ≡ end Q (not d) i
    pub below : All (λ (i : ℕ). i < m) is
    pub odds : All (λ (i : ℕ). C i % 2 ≡ 1) is

  -- nodes and leads that read the same
  pub remaining_same :
      (s t is : List ℕ) → SameNodes g s t →
      ((d : Bool) (i : ℕ) → i < m → word t (l.b + 2 * edge d i + 3) ≡ word s (l.b + 2 * edge d i + 3)) → Remaining s is → Remaining t is
  remaining_same s t is q f h =
      record {
        rung = ringed_same g (λ v. nodes Q v is) s t q h.rung;
        leads = λ d i o. f d i o.below ∙ h.leads d i o;
        below = h.below;
        odds = h.odds;
      }

  -- a place that remains is an odd entry
  pub has_odd : (s is : List ℕ) (i : ℕ) → Remaining s is → Has i is → Odd m C i
  has_odd s is i h a =
      record {
        below = has_below m i is h.below a;
        odd =
            elim (ℕ_discrete (C i % 2) 1) [
              | yes e ↦ e
              | no n ↦ absurd (a (all_map (λ y b e. n (ap (λ (z : ℕ). C z % 2) e ∙ b)) is h.odds))
            ];
      }

  -- ── a half-edge taken out ──

  -- the first of a ring goes out as any other
  pub pop_is : (s : List ℕ) (z x : ℕ) → prior l.b s x ≡ z → pop_m l s z x ≡ unlink_m l s x
  unfolding pop_m unlink_m
  pop_is s z x e = rw e

  unlinked :
      (s : List ℕ) (x : ℕ) → length s ≡ length s₀ → Between l.b Nd x s →
      Cut l.b x s (unlink_m l s x) × Aside g s (unlink_m l s x)
  unfolding unlink_m
  unlinked s x len w =
      let q : ℕ = after l.b s x in
      let p : ℕ = prior l.b s x in
      let qn : q < l.top + N = w.after_node.0 in
      let pn : p < l.top + N = w.prior_node.0 in
      let t : List ℕ = put_word s (l.b + 2 * p) q in
      let lt : length t ≡ length s = length_put s (l.b + 2 * p) q in
      let low : l.top + N ≤ 5 * k = omega (arith, g.place, g.parties) in
      let room : l.b + 12 * k ≤ length s = omega (arith, g.room) in
      let few : length s ≤ 4294967296 = omega (arith, g.small) in (
        record {
          from = w.from;
          to = w.to;
          on =
              away t (l.b + 2 * q + 1) (l.b + 2 * p) p (λ e. omega arith)
              ∙ here s (l.b + 2 * p) q (omega arith) (omega arith);
          back = here t (l.b + 2 * q + 1) p (omega arith) (omega arith);
          afters = λ y n. away2 s (l.b + 2 * p) q (l.b + 2 * q + 1) p (l.b + 2 * y) (λ e. n (omega arith)) (λ e. omega arith);
          priors = λ y n.
              away2 s (l.b + 2 * p) q (l.b + 2 * q + 1) p (l.b + 2 * y + 1) (λ e. omega arith) (λ e. n (omega arith));
        },
        aside_two g s p q q p w.prior_node w.after_node,
      )

  -- a half-edge of the ring of v stands between two nodes
  pub ringed_between :
      (R : ℕ → List ℕ) (s : List ℕ) (v x : ℕ) → v < N → Has x (R v) → Ringed g R s → Between l.b Nd x s
  ringed_between R s v x b a h =
      between l.b Nd s x (l.top + v) (R v) (l.top + v) (party_node g v b)
      (all_map (edge_node g) (R v) (h.edges v b)) (party_node g v b) a (h.rings v b)

  -- the rings go on without the half-edge x of the ring of v
  ringed_less :
      (R : ℕ → List ℕ) (s : List ℕ) (v x : ℕ) → v < N → Ed x → Has x (R v) →
      ((u : ℕ) → u < N → Distinct (R u)) → Ringed g R s →
      Ringed g (λ u. without x (R u)) (unlink_m l s x) × Aside g s (unlink_m l s x)
  ringed_less R s v x b xe a d h =
      let c = unlinked s x h.keeps.len (ringed_between R s v x b a h) in (
        record {
          keeps = keeps_trans h.keeps c.1.keeps;
          rings = λ u e.
              chain_cut l.b x s (unlink_m l s x) c.0 (l.top + u) (R u) (l.top + u) (λ q. omega (arith, xe.0)) (λ q. omega (arith, xe.0))
              (d u e) (h.rings u e);
          edges = λ u e. keep_all Ed (λ y. not (eqb x y)) (R u) (h.edges u e);
        },
        c.1,
      )

  module _ (v : ℕ) (s is : List ℕ) (b : v < N) (fall : Falling is) (h : Remaining s is) (f : First Q v is) where
    abbrev d : Bool
    d = f.side

    abbrev i : ℕ
    i = f.entry

    -- the half-edge, and its mate
    abbrev pub x : ℕ
    x = edge d i

    abbrev pub y : ℕ
    y = edge (not d) i

    -- the rings without it
    abbrev pub left : ℕ → List ℕ
    left u = without x (nodes Q u is)

    -- the words after the first half-edge of v went
    abbrev pub popped : List ℕ
    popped = pop_m l s (l.top + v) x

    -- its entry is odd
    pub is_odd : Odd m C i
    is_odd = has_odd s is i h f.has

    -- both are in their rings
    pub first_there : Has x (nodes Q v is)
    first_there = has_node Q d i v is f.own f.has

    pub mate_there : Has y (left (end Q (not d) i))
    mate_there =
        has_kept (λ z. not (eqb x z)) y (nodes Q (end Q (not d) i) is) (rw (ne_eqb x y (apart d i)))
        (has_node Q (not d) i (end Q (not d) i) is refl f.has)
      where
        apart : (d : Bool) (i : ℕ) → edge d i ≡ edge (not d) i → ⊥
        apart true i e = omega arith
        apart false i e = omega arith

    -- the first is taken out
    pub first_out : Ringed g left popped × Aside g s popped
    first_out =
        let first : prior l.b s x ≡ l.top + v =
        (subst (λ (ys : List ℕ). Chain l.b s (l.top + v) ys (l.top + v)) f.nodes_is (h.rung.rings v b)).1 in
        subst (λ (t : List ℕ). Ringed g left t × Aside g s t) (sym (pop_is s (l.top + v) x first))
        (ringed_less (λ u. nodes Q u is) s v x b (edge_is g d i is_odd.below) first_there (λ u c. nodes_distinct Q u is fall) h.rung)

    -- The place of the first half-edge of v is taken out.
    pub remaining_take : Remaining (unlink_m l popped y) (without i is) × Aside g s (unlink_m l popped y)
    remaining_take =
        let r₁ = first_out in
        let ib : i < m = is_odd.below in
        let r₂ =
        ringed_less left popped (end Q (not d) i) y (end_below g flag (not d) i ib) (edge_is g (not d) i ib)
        mate_there (λ u c. keep_distinct (λ z. not (eqb x z)) (nodes Q u is) (nodes_distinct Q u is fall)) r₁.0 in
        let t : List ℕ = unlink_m l popped y in (
          record {
            rung =
                record {
                  keeps = r₂.0.keeps;
                  rings = λ u c.
                      subst (λ (ys : List ℕ). Chain l.b t (l.top + u) ys (l.top + u)) (nodes_without Q d i u is) (r₂.0.rings u c);
                  edges = λ u c. subst (All Ed) (nodes_without Q d i u is) (r₂.0.edges u c);
                };
            leads = λ e j p.
                let jb : j < m = p.below in
                r₂.1.leads e j (omega (arith, g.entries)) ∙ r₁.1.leads e j (omega (arith, g.entries)) ∙ h.leads e j p;
            below = keep_all (λ j. j < m) (λ z. not (eqb i z)) is h.below;
            odds = keep_all (λ j. C j % 2 ≡ 1) (λ z. not (eqb i z)) is h.odds;
          },
          aside_trans g s popped t r₁.1 r₂.1,
        )
