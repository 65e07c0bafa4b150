-- `rbmg_edge_color` over words: each call has what it asks, and the parts are the colouring. Assumes nothing.
use Prim.Native.Nat.{ℕ, zero, suc, ◌+◌, ◌*◌, ◌-◌, ◌/◌, ◌%◌, ◌^◌, ◌≤◌, ◌<◌}
use mathlib.Core.Path.{◌≡◌, refl, sym, ◌∙◌, ap, subst}
use mathlib.Core.List.{List, ◌++◌}
use native.Mathlib.Omega.{arith}
use native.Mathlib.Decide.{dec_lt}
use lib.ListN.{length, take, drop}
use Rattle.words.specs.Basics.{Run, ran, Ran, and_then}
use Rattle.words.specs.Words.{word}
use Rattle.words.specs.Frames.{Spares}
use Rattle.words.proofs.Ranges.{spares_trans, spares_wide, keeps_spares, stays_spares, changes_spares}
use Rattle.multigraph.specs.Multigraph.{Graph}
use Rattle.multigraph.specs.Stored.{graph_at, matchings_at}
use Rattle.multigraph.specs.Places.{size, MatchingFits, MatchingAdded, AddsMatching}
use Rattle.multigraph.proofs.Kept.{EndsKept, ends_below, GraphKept, graph_spares}
use Rattle.multigraph.proofs.Sizes.{entries_few, entries_copies}
use Rattle.multigraph.proofs.SideBySide.{matchings_append, matchings_kept, matchings_take, matchings_drop}
use Rattle.euler.specs.Split.{rbmg_split_into_two}
use Rattle.euler.specs.Room.{Splits, HalvesStored}
use Rattle.words.specs.PowersOfTwo.{log_up}
use Rattle.perfect_matching.specs.Perfect.{Full}
use Rattle.matching.specs.Searched.{lefts, rights}
use Rattle.matching.specs.declared.Table.{Table}
use Rattle.matching.proofs.Tables.{SidesKept, sides_kept, tabled_kept}
use Rattle.coloring.specs.EdgeColor.{SetAside, set_aside, add_matchings, rbmg_edge_color_when_power_of_two, rbmg_edge_color}
use Rattle.coloring.specs.Coloring.{Coloring}
use Rattle.edge_color.specs.Room.{Colorable, PowerFits, PowerColored, ColorFits, AsideStored, Colored}
use Rattle.coloring.proofs.Moving.{full, add_matchings_law, add_matchings_words}
use Rattle.coloring.proofs.SettingAside.{AsideOf, set_aside_law}
use Rattle.coloring.proofs.ColorLaws.{Cut, cut_law, color_law}
use Rattle.edge_color.proofs.SplitHalves.{splits, Half, BothHalves, both_halves, half_kept, half_colorable}
use Rattle.edge_color.proofs.AsideWords.{small}
use Rattle.edge_color.proofs.CutSizes.{Cuts, cuts, second_room, second_below}

-- ── the definition, one round ──

color_step :
    (fuel N : ℕ) (left right : List ℕ) (d : ℕ) (g : Graph) → 1 < d →
    let k : ℕ = d / 2 in
    let e : ℕ = log_up k in
    rbmg_edge_color (suc fuel) N left right d g
    ≡ and_then (set_aside N left right d g) λ s.
    and_then (rbmg_split_into_two N s.graph) λ h.
    and_then (rbmg_edge_color fuel N left right k h.first_half) λ cs.
    and_then
    (rbmg_edge_color_when_power_of_two N e (add_matchings h.second_half (take (2 ^ e - k) cs))) λ ds.
    ran (ds ++ drop (2 ^ e - k) cs ++ s.aside)
unfolding rbmg_edge_color
color_step fuel N left right zero g more = absurd (omega arith)
color_step fuel N left right (suc zero) g more = absurd (omega arith)
color_step fuel N left right (suc (suc d)) g more = refl

-- ── one round over words ──

module _ (t : Table) (s : List ℕ) (used g n d out r : ℕ) (f : ColorFits t s used g n d out) (more : 1 < d) (er : r ≡ 2 ^ log_up (d / 2)) where
  cut : Cuts n d r
  cut = cuts n d r more er

  module _ (s₁ : List ℕ) (m₁ rest : ℕ) (a : AsideStored t s s₁ used m₁ g rest n d out) where
    rest_full : Full (2 * n) f.side (2 * (d / 2)) (graph_at s₁ t.ends t.pairs rest)
    rest_full =
        let c = f.graph in
        let law : AsideOf (2 * n) f.side d (graph_at s t.ends t.pairs g) (record {
          aside = matchings_at s₁ t.ends t.pairs (out + n * (2 * (d / 2))) n (d % 2);
          graph = graph_at s₁ t.ends t.pairs rest;
        }) =
        subst (λ (x : Run SetAside). Ran (AsideOf (2 * n) f.side d (graph_at s t.ends t.pairs g)) x) a.aside
        (set_aside_law (2 * n) f.side (lefts t n s) (rights t n s) d (graph_at s t.ends t.pairs g)
        (full c.regular c.positive) f.partition more (omega (arith, c.some))) in
        law.full

    rest_colorable : Colorable f.side t.pairs s₁ m₁ t.ends rest n (2 * (d / 2)) out
    rest_colorable =
        let c = f.graph in
        let z = cut in
        record {
          regular = rest_full.regular;
          positive = rest_full.positive;
          numbers = a.numbers;
          some = c.some;
          few = c.few;
          sized = omega (arith, f.sized);
          after_table = c.after_table;
          after_out = omega (arith, a.after_out);
          below = a.below;
          short = omega (arith, a.spares.len, c.short);
        }

    pub color_splits : Splits s₁ m₁ t.ends rest n d
    color_splits =
        splits f.side t.pairs s₁ m₁ t.ends rest n (2 * (d / 2)) (d / 2) out d rest_colorable refl (omega arith) (omega arith)
        (omega (arith, f.sized)) (omega (arith, a.to, a.spares.len, f.room))

    module _ (s₂ : List ℕ) (m₂ : ℕ) (st : HalvesStored s₁ s₂ m₁ m₂ t.ends rest n d) where
      halves : BothHalves f.side t.pairs s₂ m₁ t.ends n (d / 2) d
      halves = both_halves f.side t.pairs s₁ s₂ m₁ m₂ t.ends rest n (2 * (d / 2)) (d / 2) out d rest_colorable refl st

      low : t.places ≤ used
      low = omega (arith, f.after_places, f.graph.after_out, f.graph.below)

      table_low : (i : ℕ) → i < t.places → word s₂ i ≡ word s i
      table_low i h =
          let l = low in
          st.keeps.same i (omega (arith, a.from)) ∙ a.spares.under i (omega arith) h

      sides : SidesKept t n s s₂
      sides = sides_kept t n s s₂ f.tabled.after_ends table_low

      pub color_first : ColorFits t s₂ m₂ m₁ n (d / 2) (out + n * (d / 2))
      color_first =
          let c = f.graph in
          let z = cut in
          record {
            side = f.side;
            tabled = tabled_kept t n s s₂ f.tabled table_low;
            partition =
                rw (sides.left, sides.right) f.partition;
            graph =
                half_colorable f.side t.pairs s₂ m₂ t.ends m₁ n (d / 2) (out + n * (d / 2)) halves.first c.some c.few
                (omega (arith, f.sized)) (omega (arith, c.after_table)) (omega (arith, c.after_out, c.below, a.from))
                (omega (arith, st.above, c.some)) (omega (arith, st.keeps.len, a.spares.len, c.short));
            header = st.first_base;
            after_places = omega (arith, f.after_places);
            sized = omega (arith, f.sized);
            room = omega (arith, st.above, a.to, st.keeps.len, a.spares.len, f.room);
          }

      module _ (s₃ : List ℕ) (m₃ : ℕ) (b : Colored t s₂ s₃ m₂ m₃ m₁ n (d / 2) (out + n * (d / 2))) where
        cs : List Graph
        cs = matchings_at s₃ t.ends t.pairs (out + n * (d / 2)) n (d / 2)

        first_colored : (fuel : ℕ) → d / 2 ≤ fuel →
            rbmg_edge_color fuel (2 * n) (lefts t n s) (rights t n s) (d / 2) (graph_at s₂ t.ends t.pairs m₁) ≡ ran cs
        unfolding cs
        first_colored fuel le =
            rw (sides.left, sides.right) at (b.colors fuel le)

        first_coloring : Coloring (2 * n) f.side (d / 2) (graph_at s₂ t.ends t.pairs m₁) cs
        first_coloring =
            let e = first_colored (d / 2) (omega arith) in
            subst (λ (x : Run (List Graph)). Ran (Coloring (2 * n) f.side (d / 2) (graph_at s₂ t.ends t.pairs m₁)) x) e
            (color_law (d / 2) (2 * n) f.side (lefts t n s) (rights t n s) (d / 2) (graph_at s₂ t.ends t.pairs m₁)
            halves.first.regular halves.first.positive f.partition (omega (arith, f.graph.some)) (omega arith))

        second_kept : GraphKept t.ends t.pairs s₂ s₃ (m₁ + 2 * (n * (d + 1)))
        second_kept =
            graph_spares (m₁ + 2 * (n * (d + 1))) (omega (arith, f.tabled.after_ends)) (omega (arith, low, st.above, a.from)) b.spares
            (omega (arith, cut.whole, f.graph.after_out, f.graph.below, a.from))
            (omega (arith, cut.wide, st.above, halves.second.count, f.graph.some)) halves.second.numbers

        second_half : Half f.side t.pairs s₃ t.ends (m₁ + 2 * (n * (d + 1))) n (d / 2)
        second_half =
            half_kept f.side t.pairs s₂ s₃ t.ends (m₁ + 2 * (n * (d + 1))) n (d / 2) halves.second second_kept

        table₃ : (i : ℕ) → i < t.places → word s₃ i ≡ word s i
        table₃ i h =
            let l = low in
            b.spares.under i (omega (arith, st.above, a.from)) h ∙ table_low i h

        len₃ : length s₃ ≡ length s
        len₃ = b.spares.len ∙ st.keeps.len ∙ a.spares.len

        pub color_adds :
            MatchingFits t.ends t.pairs (d / 2) t.places (m₁ + 2 * (n * (d + 1))) (out + n * (d / 2)) (n * (r - d / 2)) s₃
        color_adds =
            let room : m₁ + 2 * (n * (d + 1)) + 2 + 2 * (size s₃ (m₁ + 2 * (n * (d + 1))) + n * (r - d / 2)) ≤ length s =
            second_room used m₁ (n * (d + 1)) (size s₃ (m₁ + 2 * (n * (d + 1)))) (n * (d / 2)) (n * (d % 2)) (n * (r - d / 2)) (n * r) n
            (length s) second_half.count cut.moved cut.under cut.wide a.to f.room f.graph.some in
            let y = second_half in
            record {
              distinct = (tabled_kept t n s s₃ f.tabled table₃).distinct;
              apart = y.regular.apart;
              after_ends = omega (arith, f.tabled.after_ends);
              after_places = omega (arith, f.after_places);
              before_graph = omega (arith, cut.moved, cut.under, cut.whole, f.graph.after_out, f.graph.below, a.from);
              stored =
                  record {
                    header = second_kept.header ∙ st.second_base;
                    numbers = y.numbers;
                    copies = entries_copies (2 * n) f.side (d / 2) s₃ t.ends t.pairs (m₁ + 2 * (n * (d + 1))) y.regular;
                    inside = omega (arith, room, len₃);
                    small = omega (arith, room, f.graph.short);
                    light = omega (arith, (small t s used g n d out f).degree);
                  };
              below = λ i h. b.bounds i (omega (arith, cut.moved, cut.under));
              fits = omega (arith, (small t s used g n d out f).degree, cut.moved, cut.under, cut.wide, f.sized);
            }

        module _ (s₄ : List ℕ) (ad : AddsMatching t.places (m₁ + 2 * (n * (d + 1))) (out + n * (d / 2)) (n * (r - d / 2)) s₃ s₄) where
          added : MatchingAdded t.ends t.pairs (d / 2) t.places (m₁ + 2 * (n * (d + 1))) (out + n * (d / 2)) (n * (r - d / 2)) s₃ s₄
          added = ad t.ends t.pairs (d / 2) color_adds

          raised :
              graph_at s₄ t.ends t.pairs (m₁ + 2 * (n * (d + 1)))
              ≡ add_matchings (graph_at s₂ t.ends t.pairs (m₁ + 2 * (n * (d + 1)))) (take (r - d / 2) cs)
          unfolding cs
          raised =
              rw (
                matchings_take s₃ t.ends t.pairs (out + n * (d / 2)) n (r - d / 2) (d / 2) cut.enough,
                add_matchings_words (graph_at s₂ t.ends t.pairs (m₁ + 2 * (n * (d + 1)))) s₃ t.ends t.pairs (out + n * (d / 2)) n (r - d / 2),
                ← second_kept.same t.pairs,
              )
              added.graph

          raised_full : Full (2 * n) f.side r (graph_at s₄ t.ends t.pairs (m₁ + 2 * (n * (d + 1))))
          raised_full =
              let z = cut in
              let k : Cut (2 * n) f.side (r - d / 2) (d / 2) (graph_at s₂ t.ends t.pairs m₁) cs =
              cut_law (2 * n) f.side (r - d / 2) (d / 2) (graph_at s₂ t.ends t.pairs m₁) cs z.enough first_coloring in
              let degrees : d / 2 + length (take (r - d / 2) cs) ≡ r = omega (arith, k.moved, z.reaches) in
              rw raised
              (subst (λ (x : ℕ). Full (2 * n) f.side x (add_matchings (graph_at s₂ t.ends t.pairs (m₁ + 2 * (n * (d + 1)))) (take (r - d / 2) cs))) degrees
              (add_matchings_law (2 * n) f.side (d / 2) (graph_at s₂ t.ends t.pairs (m₁ + 2 * (n * (d + 1)))) (take (r - d / 2) cs)
              (full halves.second.regular halves.second.positive) k.perfect_moved))

          pub color_power : PowerFits s₄ m₃ t.ends (m₁ + 2 * (n * (d + 1))) n r out
          color_power =
              let c = f.graph in
              let z = cut in
              let x = raised_full in
              let l = len₃ in
              let count : size s₄ (m₁ + 2 * (n * (d + 1))) ≤ n * r =
              entries_few s₄ t.ends t.pairs (m₁ + 2 * (n * (d + 1))) n f.side r x.regular x.positive in
              record {
                side = f.side;
                pairs = t.pairs;
                exponent = log_up (d / 2);
                power = er;
                graph =
                    record {
                      regular = x.regular;
                      positive = x.positive;
                      numbers = added.stored.numbers;
                      some = c.some;
                      few = c.few;
                      sized = omega (arith, f.sized);
                      after_table = c.after_table;
                      after_out = omega (arith, c.after_out, c.below, a.from);
                      below =
                          second_below m₁ (n * (d + 1)) (size s₄ (m₁ + 2 * (n * (d + 1)))) (n * (d / 2)) (n * (d % 2)) (n * r) n m₂ m₃ count
                          z.under z.wide st.above b.back c.some;
                      short = omega (arith, added.changes.len, c.short);
                    };
                room = omega (arith, b.back, st.above, a.to, added.changes.len, f.room);
              }

          module _ (s₅ : List ℕ) (m₅ : ℕ) (p : PowerColored s₄ s₅ m₃ m₅ t.ends (m₁ + 2 * (n * (d + 1))) n r out) where
            -- words of the result behind the second half's matchings stay since they were written
            kept_left : (i : ℕ) → out + n * r ≤ i → i < used → word s₅ i ≡ word s₃ i
            kept_left i h k =
                p.stays.over i (omega (arith, b.back, st.above, a.from)) h
                ∙ added.changes.between i (omega (arith, f.after_places)) (omega (arith, a.from))

            kept_aside : (i : ℕ) → out + n * (2 * (d / 2)) ≤ i → i < used → word s₅ i ≡ word s₁ i
            kept_aside i h k =
                let z = cut in
                kept_left i (omega arith) k
                ∙ b.spares.over i (omega (arith, st.above, a.from)) (omega arith)
                ∙ st.keeps.same i (omega (arith, a.from))

            under₅ : (i : ℕ) → i < t.places → word s₅ i ≡ word s₃ i
            under₅ i h =
                let l = low in
                p.stays.under i (omega (arith, b.back, st.above, a.from)) (omega (arith, f.after_places)) ∙ added.changes.under i h

            table₅₃ : EndsKept t.ends t.pairs s₃ s₅
            table₅₃ = ends_below t.ends t.pairs t.places (omega (arith, f.tabled.after_ends)) under₅

            table₅₁ : EndsKept t.ends t.pairs s₁ s₅
            table₅₁ =
                let l = low in
                ends_below t.ends t.pairs t.places (omega (arith, f.tabled.after_ends))
                (λ i h.
                under₅ i h ∙ b.spares.under i (omega (arith, st.above, a.from)) h ∙ st.keeps.same i (omega (arith, a.from)))

            -- what is left of the first half's
            left_kept :
                matchings_at s₅ t.ends t.pairs (out + n * r) n (d / 2 - (r - d / 2)) ≡ drop (r - d / 2) cs
            unfolding cs
            left_kept =
                let z = cut in
                let c = f.graph in
                let at : out + n * (d / 2) + n * (r - d / 2) ≡ out + n * r = omega arith in
                rw (matchings_drop s₃ t.ends t.pairs (out + n * (d / 2)) n (r - d / 2) (d / 2) z.enough, at)
                (matchings_kept table₅₃ t.pairs (out + n * r) n (d / 2 - (r - d / 2))
                (λ i h. kept_left (out + n * r + i) (omega arith) (omega (arith, c.after_out, c.below)))
                (λ i h.
                let q : out + n * (d / 2) + (n * (r - d / 2) + i) ≡ out + n * r + i = omega arith in
                rw q at (b.bounds (n * (r - d / 2) + i) (omega arith))))

            aside_kept :
                matchings_at s₅ t.ends t.pairs (out + n * (2 * (d / 2))) n (d % 2)
                ≡ matchings_at s₁ t.ends t.pairs (out + n * (2 * (d / 2))) n (d % 2)
            aside_kept =
                let z = cut in
                let c = f.graph in
                matchings_kept table₅₁ t.pairs (out + n * (2 * (d / 2))) n (d % 2)
                (λ i h. kept_aside (out + n * (2 * (d / 2)) + i) (omega arith) (omega (arith, c.after_out, c.below)))
                a.bounds

            joined :
                matchings_at s₅ t.ends t.pairs out n d
                ≡ matchings_at s₅ t.ends t.pairs out n r ++ drop (r - d / 2) cs
                ++ matchings_at s₁ t.ends t.pairs (out + n * (2 * (d / 2))) n (d % 2)
            joined =
                let z = cut in
                let e : d ≡ r + (d / 2 - (r - d / 2)) + d % 2 = sym z.whole_degree in
                let q : r + (d / 2 - (r - d / 2)) ≡ 2 * (d / 2) = omega arith in
                rw (← left_kept, ← aside_kept)
                (ap (matchings_at s₅ t.ends t.pairs out n) e
                ∙ matchings_append s₅ t.ends t.pairs out n (r + (d / 2 - (r - d / 2))) (d % 2)
                ∙ rw q
                (ap (λ (l : List Graph). l ++ matchings_at s₅ t.ends t.pairs (out + n * (2 * (d / 2))) n (d % 2))
                (ap (matchings_at s₅ t.ends t.pairs out n) (sym q) ∙ matchings_append s₅ t.ends t.pairs out n r (d / 2 - (r - d / 2)))))

            colors_so :
                (fuel : ℕ) → d ≤ fuel →
                rbmg_edge_color fuel (2 * n) (lefts t n s) (rights t n s) d (graph_at s t.ends t.pairs g)
                ≡ ran (matchings_at s₅ t.ends t.pairs out n d)
            colors_so zero le = absurd (omega arith)
            colors_so (suc fuel) le =
                let e = log_up (d / 2) in
                let first = first_colored fuel (omega arith) in
                let second : rbmg_edge_color_when_power_of_two (2 * n) (log_up (d / 2))
                (add_matchings (graph_at s₂ t.ends t.pairs (m₁ + 2 * (n * (d + 1)))) (take (r - d / 2) cs))
                ≡ ran (matchings_at s₅ t.ends t.pairs out n r) = rw raised at (p.colors t.pairs (log_up (d / 2)) er) in
                rw (
                  color_step fuel (2 * n) (lefts t n s) (rights t n s) d (graph_at s t.ends t.pairs g) more,
                  a.aside,
                  st.halves t.pairs,
                  first,
                  ← er,
                  second,
                  joined,
                )

            bounds_so : (j : ℕ) → j < n * d → word s₅ (out + j) < t.pairs
            bounds_so j h =
                let z = cut in
                let c = f.graph in
                elim (dec_lt j (n * r)) [
                  | yes y ↦ p.bounds t.pairs added.stored.numbers j y
                  | no y ↦
                      elim (dec_lt j (n * (2 * (d / 2)))) [
                        | yes x ↦
                            let q : out + n * (d / 2) + (j - n * (d / 2)) ≡ out + j = omega arith in
                            rw (kept_left (out + j) (omega arith) (omega (arith, c.after_out, c.below)))
                            (rw q at (b.bounds (j - n * (d / 2)) (omega arith)))
                        | no x ↦
                            let q : out + n * (2 * (d / 2)) + (j - n * (2 * (d / 2))) ≡ out + j = omega arith in
                            rw (kept_aside (out + j) (omega arith) (omega (arith, c.after_out, c.below)))
                            (rw q at (a.bounds (j - n * (2 * (d / 2))) (omega arith)))
                      ]
                ]

            spares_so : Spares used t.places (t.pairs + n) out (n * d) s s₅
            spares_so =
                let z = cut in
                let c = f.graph in
                spares_trans
                (spares_wide used out (n * d) (omega arith) f.after_places (omega arith) (omega arith) a.spares)
                (spares_trans (keeps_spares used t.places (t.pairs + n) out (n * d) a.from st.keeps)
                (spares_trans
                (spares_wide used out (n * d) (omega (arith, st.above, a.from)) f.after_places (omega arith) (omega arith) b.spares)
                (spares_trans
                (changes_spares used (t.pairs + n) out (n * d) (omega (arith, a.from)) (omega arith) f.after_places added.changes)
                (stays_spares used t.places (t.pairs + n) out (n * d) (omega (arith, b.back, st.above, a.from)) f.after_places
                (omega arith) (omega arith) p.stays))))

            pub color_joined : Colored t s s₅ used used g n d out
            color_joined = record { colors = colors_so; bounds = bounds_so; back = refl; spares = spares_so }
