-- `set_aside` over words: each call has what it asks, and together they are `set_aside`. Assumes nothing.
use Prim.Native.Nat.{ℕ, ◌+◌, ◌*◌, ◌-◌, ◌/◌, ◌%◌, ◌≤◌, ◌<◌}
use mathlib.Core.Path.{◌≡◌, ◌∙◌, ap, subst}
use mathlib.Core.List.{List}
use native.Mathlib.Omega.{arith}
use native.Mathlib.Nat.{mul-zero, mul-one, one-mul, mul-le-mul_left, mul-le-mul_right}
use borrow.Author.Tests.{eq-eqb, ne_eqb}
use Rattle.words.specs.Basics.{Run, ran, Ran}
use Rattle.words.specs.Words.{word}
use Rattle.words.proofs.Ranges.{spares_refl, spares_trans, spares_wide, changes_spares}
use Rattle.multigraph.specs.Multigraph.{Graph, remove_matching}
use Rattle.multigraph.specs.Stored.{graph_at, matching_at, matchings_at}
use Rattle.multigraph.specs.Places.{size, number, Removable, MatchingRemoved, RemovesMatching}
use Rattle.multigraph.proofs.Numbers.{matching_once, matching_present}
use Rattle.multigraph.proofs.Kept.{ends_kept, GraphKept, graph_spares}
use Rattle.multigraph.proofs.Sizes.{entries_few, entries_copies}
use Rattle.multigraph.proofs.SideBySide.{matching_kept}
use Rattle.perfect_matching.specs.Perfect.{Full, MatchingOf}
use Rattle.matching.specs.Searched.{lefts, rights, Tabled, MatchingFound}
use Rattle.matching.specs.declared.Table.{Table}
use Rattle.perfect_matching.proofs.MatchingLaws.{perfect_single, matching_law}
use Rattle.matching.proofs.Tables.{tabled_kept}
use Rattle.coloring.specs.EdgeColor.{SetAside, set_aside}
use Rattle.edge_color.specs.Room.{ColorFits, AsideStored}
use Rattle.coloring.proofs.Moving.{full}
use Rattle.coloring.proofs.SettingAside.{AsideOf, set_aside_law}

-- ── even degree: nothing happens ──

pub aside_none :
    (t : Table) (s : List ℕ) (used g n d out : ℕ) → ColorFits t s used g n d out → d % 2 ≡ 0 →
    AsideStored t s s used used g g n d out
unfolding set_aside matchings_at
aside_none t s used g n d out f even =
    let none : n * (d % 2) ≡ 0 = rw even (mul-zero n) in
    let not_one : d % 2 ≡ 1 → ⊥ = λ e. omega arith in
    let test = ne_eqb (d % 2) 1 not_one in
    record {
      aside = rw (test, even);
      bounds = λ j h. absurd (omega arith);
      numbers = f.graph.numbers;
      after_out = f.graph.after_out;
      below = f.graph.below;
      from = omega arith;
      to = omega arith;
      spares = spares_refl _ _ _ _ _ s;
    }

-- ── odd degree ──

module _ (t : Table) (s : List ℕ) (used g n d out : ℕ) (f : ColorFits t s used g n d out) (more : 1 < d) (odd : d % 2 ≡ 0 → ⊥) where
  -- the place of the matching, and its n words
  last : n * d ≡ n * (d - 1) + n
  last =
      let e : d ≡ d - 1 + 1 = omega arith in
      ap (λ (k : ℕ). n * k) e ∙ omega arith

  module _ (u : List ℕ) (mark : ℕ) (fd : MatchingFound t g n d (out + n * (d - 1)) used mark s u) where
    kept : GraphKept t.ends t.pairs s u g
    kept =
        let c = f.graph in
        graph_spares g (omega (arith, f.tabled.after_ends)) (omega (arith, f.after_places, c.after_out, c.below)) fd.spares
        (omega (arith, c.after_out, last)) (omega (arith, c.below)) c.numbers

    table : Tabled t n u
    table =
        let c = f.graph in
        tabled_kept t n s u f.tabled
        (λ i h. fd.spares.under i (omega (arith, f.after_places, c.after_out, c.below)) h)

    own : MatchingOf (2 * n) f.side (graph_at s t.ends t.pairs g) (matching_at u t.ends t.pairs (out + n * (d - 1)) n)
    own =
        let c = f.graph in
        subst (λ (r : Run Graph). Ran (MatchingOf (2 * n) f.side (graph_at s t.ends t.pairs g)) r) fd.found
        (matching_law (2 * n) f.side (lefts t n s) (rights t n s) d (graph_at s t.ends t.pairs g) c.regular c.positive
        f.partition more (omega (arith, c.some)))

    own_here : MatchingOf (2 * n) f.side (graph_at u t.ends t.pairs g) (matching_at u t.ends t.pairs (out + n * (d - 1)) n)
    own_here = rw (kept.same t.pairs) own

    numbers_here : (i : ℕ) → i < size u g → number u g i < t.pairs
    numbers_here i h = rw (kept.numbers i (omega (arith, kept.sizes))) (f.graph.numbers i (omega (arith, kept.sizes)))

    pub aside_removable : Removable t.ends t.pairs d t.places g mark (out + n * (d - 1)) n u
    aside_removable =
        let c = f.graph in
        let k = kept in
        let count : size s g ≤ n * d = entries_few s t.ends t.pairs g n f.side d c.regular c.positive in
        record {
          distinct = table.distinct;
          apart = rw (k.same t.pairs) c.regular.apart;
          positive = rw (k.same t.pairs) c.positive;
          laid =
              record {
                after_ends = omega (arith, f.tabled.after_ends);
                after_places = omega (arith, f.after_places, c.after_out);
              };
          stored =
              record {
                header = k.header ∙ f.header;
                numbers = numbers_here;
                copies =
                    λ i h.
                    rw (k.copies i (omega (arith, k.sizes)))
                    (entries_copies (2 * n) f.side d s t.ends t.pairs g c.regular i (omega (arith, k.sizes)));
                inside = omega (arith, k.sizes, c.below, f.room, fd.spares.len);
                small = omega (arith, k.sizes, c.below, f.room, c.short);
                light = omega (arith, small_degree);
              };
          graph_below = omega (arith, k.sizes, c.below, fd.marked);
          after_places = omega (arith, f.after_places);
          matching_below = omega (arith, last, c.after_out, c.below, fd.marked);
          inside = omega (arith, k.sizes, count, c.some, f.room, fd.marked, fd.spares.len);
          small = omega (arith, k.sizes, count, c.some, f.room, fd.marked, c.short);
          once = matching_once t.ends t.pairs (out + n * (d - 1)) n u own.perfect.regular.apart;
          present =
              matching_present t.ends t.pairs g (out + n * (d - 1)) n u table.distinct numbers_here fd.unflagged
              (λ x y. omega (arith, own_here.own x y, perfect_single (2 * n) f.side _ own_here.perfect x y));
        }
      where
        small_degree : d + 1 ≤ 1048576
        small_degree = omega (arith, mul-le-mul_right (d + 1) f.graph.some, one-mul (d + 1), f.sized)

    module _ (v : List ℕ) (rm : RemovesMatching t.places g mark (out + n * (d - 1)) n u v) where
      removed : MatchingRemoved t.ends t.pairs d t.places g mark (out + n * (d - 1)) n u v
      removed = rm t.ends t.pairs d aside_removable

      two_halves : n * (2 * (d / 2)) ≡ n * (d - 1)
      two_halves =
          let e : 2 * (d / 2) ≡ d - 1 = omega arith in
          ap (λ (k : ℕ). n * k) e

      one : d % 2 ≡ 1
      one = omega arith

      single : n * (d % 2) ≡ n
      single = ap (λ (k : ℕ). n * k) one ∙ mul-one n

      -- the matching stays where it is while the graph without it is written
      same_word : (j : ℕ) → j < n → word v (out + n * (d - 1) + j) ≡ word u (out + n * (d - 1) + j)
      same_word j h =
          let c = f.graph in
          removed.changes.between (out + n * (d - 1) + j) (omega (arith, f.after_places))
          (omega (arith, last, c.after_out, c.below, fd.marked))

      same_matching : matching_at v t.ends t.pairs (out + n * (d - 1)) n ≡ matching_at u t.ends t.pairs (out + n * (d - 1)) n
      same_matching =
          matching_kept (ends_kept t.ends t.pairs (omega (arith, f.tabled.after_ends)) removed.changes) t.pairs
          (out + n * (d - 1)) n same_word fd.unflagged

      aside_so :
          set_aside (2 * n) (lefts t n s) (rights t n s) d (graph_at s t.ends t.pairs g)
          ≡ ran (record {
            aside = matchings_at v t.ends t.pairs (out + n * (2 * (d / 2))) n (d % 2);
            graph = graph_at v t.ends t.pairs mark;
          })
      unfolding set_aside matchings_at
      aside_so =
          let graph : graph_at v t.ends t.pairs mark ≡ remove_matching (graph_at s t.ends t.pairs g) (matching_at u t.ends t.pairs (out + n * (d - 1)) n) =
          rw (kept.same t.pairs) at removed.graph in
          rw (eq-eqb (d % 2) 1 one, fd.found, two_halves, one, same_matching, graph)

      rest_full : Full (2 * n) f.side (2 * (d / 2)) (graph_at v t.ends t.pairs mark)
      rest_full =
          let c = f.graph in
          let law : AsideOf (2 * n) f.side d (graph_at s t.ends t.pairs g) (record {
            aside = matchings_at v t.ends t.pairs (out + n * (2 * (d / 2))) n (d % 2);
            graph = graph_at v t.ends t.pairs mark;
          }) =
          subst (λ (r : Run SetAside). Ran (AsideOf (2 * n) f.side d (graph_at s t.ends t.pairs g)) r) aside_so
          (set_aside_law (2 * n) f.side (lefts t n s) (rights t n s) d (graph_at s t.ends t.pairs g)
          (full c.regular c.positive) f.partition more (omega (arith, c.some))) in
          law.full

      pub aside_one : AsideStored t s v used (mark + 2 * (n * (d + 1))) g mark n d out
      aside_one =
          let c = f.graph in
          let count : size v mark ≤ n * (2 * (d / 2)) =
          entries_few v t.ends t.pairs mark n f.side (2 * (d / 2)) rest_full.regular rest_full.positive in
          record {
            aside = aside_so;
            bounds =
                λ j h.
                rw two_halves
                (rw (same_word j (omega (arith, single))) (fd.unflagged j (omega (arith, single))));
            numbers = removed.stored.numbers;
            after_out = omega (arith, c.after_out, c.below, fd.marked);
            below = omega (arith, count, two_halves, last, c.some);
            from = omega (arith, fd.marked);
            to = omega (arith, fd.marked);
            spares =
                spares_trans
                (spares_wide used (out + n * (2 * (d / 2))) (n * (d % 2)) (omega arith) (omega (arith, f.after_places))
                (omega (arith, two_halves)) (omega (arith, two_halves, single)) fd.spares)
                (changes_spares used (t.pairs + n) (out + n * (2 * (d / 2))) (n * (d % 2)) (omega (arith, fd.marked)) (omega arith)
                (omega (arith, f.after_places)) removed.changes);
          }

-- ── sums that fit ──

pub record Small (t : Table) (used g n d out : ℕ) : Type 0 where
  pub degree : d + 1 ≤ 1048576
  pub parties : n ≤ 1024
  pub less : n * (d - 1) ≤ n * (d + 1)
  pub half : n * (d / 2) ≤ n * (d + 1)
  pub wide : n * (d + 1) ≤ 1048576
  pub mark : used + 40 * (n * (d + 1)) ≤ 4294967296
  pub graph : g ≤ used
  pub output : out + n * d ≤ g
  pub map : t.places ≤ out
  pub some : 1 ≤ n * (d + 1)

pub small : (t : Table) (s : List ℕ) (used g n d out : ℕ) → ColorFits t s used g n d out → Small t used g n d out
small t s used g n d out f =
    let c = f.graph in
    let less : d - 1 ≤ d + 1 = omega arith in
    let half : d / 2 ≤ d + 1 = omega arith in
    let one : 1 ≤ d + 1 = omega arith in
    record {
      degree = omega (arith, mul-le-mul_right (d + 1) c.some, one-mul (d + 1), f.sized);
      parties = omega (arith, c.few);
      less = mul-le-mul_left n less;
      half = mul-le-mul_left n half;
      wide = f.sized;
      mark = omega (arith, f.room, c.short);
      graph = omega (arith, c.below);
      output = c.after_out;
      map = omega (arith, f.after_places);
      some = omega (arith, mul-le-mul_left n one, mul-one n, c.some);
    }
