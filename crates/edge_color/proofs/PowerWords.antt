-- `rbmg_edge_color_when_power_of_two` over words: each call has what it asks, and the parts are the colouring. Assumes nothing.
use Prim.Native.Nat.{ℕ, zero, suc, ◌+◌, ◌*◌, ◌-◌, ◌/◌, ◌^◌, ◌≤◌, ◌<◌}
use mathlib.Core.Path.{◌≡◌, refl, ◌∙◌, ap}
use mathlib.Core.List.{List, ◌++◌}
use native.Mathlib.Omega.{arith}
use native.Mathlib.Nat.{mul-le-mul_left, mul-one}
use native.Mathlib.Decide.{dec_lt}
use lib.ListN.{length}
use lib.Pow.{pow_pos}
use Rattle.words.specs.Basics.{ran}
use Rattle.words.specs.Words.{word}
use Rattle.words.specs.Frames.{Stays}
use Rattle.words.proofs.Frames.{stays_trans, stays_wide, keeps_stays}
use Rattle.words.proofs.PowersOfTwo.{two_pow}
use Rattle.multigraph.specs.Stored.{graph_at, matchings_at}
use Rattle.multigraph.specs.Places.{size, number}
use Rattle.multigraph.proofs.SideBySide.{matchings_append, matchings_kept}
use Rattle.multigraph.proofs.Kept.{stays_ends, GraphKept, graph_stays}
use Rattle.euler.specs.Room.{Splits, HalvesStored}
use Rattle.coloring.specs.EdgeColor.{rbmg_edge_color_when_power_of_two}
use Rattle.edge_color.specs.Room.{BoundsPass, PowerFits, PowerColored}
use Rattle.edge_color.proofs.SplitHalves.{splits, Half, numbers_pass, BothHalves, both_halves, half_kept, half_colorable}

-- ── the sizes ──

-- what the products n·h and n·(d + 1) are, with d = 2h
pub record Sized (n d : ℕ) : Type 0 where
  pub even : d ≡ 2 * (d / 2)
  pub halves : n * d ≡ n * (d / 2) + n * (d / 2)
  pub wide : n * (d + 1) ≡ n * (d / 2) + n * (d / 2) + n
  pub half_wide : n * (d / 2 + 1) ≡ n * (d / 2) + n
  pub some : n ≤ n * (d / 2)
  pub two : 2 ≤ d

pub sized : (n d e : ℕ) → d ≡ 2 ^ e → (d ≡ 1 → ⊥) → Sized n d
sized n d zero p more = absurd (more p)
sized n d (suc e) p more =
    let even : d ≡ 2 * (d / 2) = omega (arith, two_pow e) in
    let pos : 1 ≤ d / 2 = omega (arith, two_pow e, pow_pos e) in
    let twice : n * (2 * (d / 2)) ≡ n * (d / 2) + n * (d / 2) = omega arith in
    let whole : n * d ≡ n * (2 * (d / 2)) = ap (λ (k : ℕ). n * k) even in
    record {
      even = even;
      halves = whole ∙ twice;
      wide = omega (arith, whole, twice);
      half_wide = omega arith;
      some = omega (arith, mul-le-mul_left n pos, mul-one n);
      two = omega arith;
    }

-- ── two halves ──

module _ (s : List ℕ) (used ends g n d out : ℕ) (f : PowerFits s used ends g n d out) (more : d ≡ 1 → ⊥) where
  sizes : Sized n d
  sizes = sized n d f.exponent f.power more

  half_power : (e : ℕ) → d ≡ 2 ^ e → (k : ℕ) × (d / 2 ≡ 2 ^ k)
  half_power zero p = absurd (more p)
  half_power (suc k) p = (k, omega (arith, two_pow k))

  -- a half that lies between its output and a mark with room above it
  half_fits :
      (t : List ℕ) (mark h into : ℕ) → Half f.side f.pairs t ends h n (d / 2) → out ≤ into → into + n * (d / 2) ≤ h →
      h + 3 + 2 * (n * (d / 2)) ≤ mark → mark + 20 * (n * (d / 2 + 1)) ≤ length t → length t ≡ length s →
      PowerFits t mark ends h n (d / 2) into
  half_fits t mark h into a after above below room len =
      let c = f.graph in
      let z = sizes in
      let e = half_power f.exponent f.power in
      record {
        side = f.side;
        pairs = f.pairs;
        exponent = e.0;
        power = e.1;
        graph =
            half_colorable f.side f.pairs t mark ends h n (d / 2) into a c.some c.few (omega (arith, c.sized))
            (omega (arith, c.after_table)) above below (omega (arith, len, c.short));
        room = room;
      }

  pub power_splits : Splits s used ends g n d
  power_splits =
      splits f.side f.pairs s used ends g n d (d / 2) out d f.graph sizes.even (omega arith) sizes.two f.graph.sized
      (omega (arith, f.room))

  module _ (t : List ℕ) (mark : ℕ) (st : HalvesStored s t used mark ends g n d) where
    halves : BothHalves f.side f.pairs t used ends n (d / 2) d
    halves = both_halves f.side f.pairs s t used mark ends g n d (d / 2) out d f.graph sizes.even st

    -- the first half, into the first half of the output
    pub power_first : PowerFits t mark ends used n (d / 2) out
    power_first =
        let c = f.graph in
        let z = sizes in
        half_fits t mark used out halves.first (omega arith) (omega (arith, c.after_out, c.below)) (omega (arith, st.above, c.some))
        (omega (arith, st.above, st.keeps.len, f.room)) st.keeps.len

    module _ (u : List ℕ) (mark' : ℕ) (a : PowerColored t u mark mark' ends used n (d / 2) out) where
      second_kept : GraphKept ends f.pairs t u (used + 2 * (n * (d + 1)))
      second_kept =
          let c = f.graph in
          let z = sizes in
          graph_stays (used + 2 * (n * (d + 1))) c.after_table a.stays (omega (arith, c.after_out, c.below))
          (omega (arith, st.above, halves.second.count, c.some)) halves.second.numbers

      second_half : Half f.side f.pairs u ends (used + 2 * (n * (d + 1))) n (d / 2)
      second_half =
          half_kept f.side f.pairs t u ends (used + 2 * (n * (d + 1))) n (d / 2) halves.second second_kept

      -- the second half, into the second
      pub power_second : PowerFits u mark' ends (used + 2 * (n * (d + 1))) n (d / 2) (out + n * (d / 2))
      power_second =
          let c = f.graph in
          let z = sizes in
          half_fits u mark' (used + 2 * (n * (d + 1))) (out + n * (d / 2)) second_half (omega arith)
          (omega (arith, c.after_out, c.below)) (omega (arith, st.above, a.back, c.some))
          (omega (arith, st.above, a.back, st.keeps.len, a.stays.len, f.room)) (a.stays.len ∙ st.keeps.len)

      module _ (v : List ℕ) (mark'' : ℕ) (b : PowerColored u v mark' mark'' ends (used + 2 * (n * (d + 1))) n (d / 2) (out + n * (d / 2))) where
        stays_so : Stays used out (n * d) s v
        stays_so =
            let z = sizes in
            stays_trans (keeps_stays out (n * d) st.keeps)
            (stays_trans
            (stays_wide used out (n * d) (omega (arith, st.above)) (omega arith) (omega arith) a.stays)
            (stays_wide used out (n * d) (omega (arith, st.above, a.back)) (omega arith) (omega arith) b.stays))

        -- the first half's matchings stay while the second's are written
        first_stay : (j : ℕ) → j < n * (d / 2) → word v (out + j) ≡ word u (out + j)
        first_stay j h =
            let c = f.graph in
            let z = sizes in
            b.stays.under (out + j) (omega (arith, st.above, a.back, c.after_out, c.below)) (omega arith)

        first_bounds : (bound : ℕ) → ((i : ℕ) → i < size s g → number s g i < bound) → (j : ℕ) → j < n * (d / 2) → word u (out + j) < bound
        first_bounds bound below = a.bounds bound (numbers_pass s t g used bound st.first_numbers below)

        bounds_so : BoundsPass s v g out (n * d)
        bounds_so bound below j h =
            let z = sizes in
            elim (dec_lt j (n * (d / 2))) [
              | yes y ↦ rw (first_stay j y) (first_bounds bound below j y)
              | no y ↦
                  let q : out + n * (d / 2) + (j - n * (d / 2)) ≡ out + j = omega arith in
                  rw q at
                  (b.bounds bound
                  (λ i k. rw (second_kept.numbers i (omega (arith, second_kept.sizes))) (numbers_pass s t g (used + 2 * (n * (d + 1))) bound st.second_numbers below i (omega (arith, second_kept.sizes))))
                  (j - n * (d / 2)) (omega arith))
            ]

        firsts : (pairs : ℕ) → matchings_at v ends pairs out n (d / 2) ≡ matchings_at u ends pairs out n (d / 2)
        firsts pairs =
            let c = f.graph in
            matchings_kept
            (stays_ends {ends = ends} {rows = f.pairs} (omega (arith, c.after_table)) (omega (arith, st.above, a.back, c.after_out, c.below, sizes)) b.stays)
            pairs out n (d / 2) first_stay (first_bounds f.pairs c.numbers)

        colors_so : (pairs e : ℕ) → d ≡ 2 ^ e →
            rbmg_edge_color_when_power_of_two (2 * n) e (graph_at s ends pairs g) ≡ ran (matchings_at v ends pairs out n d)
        unfolding rbmg_edge_color_when_power_of_two
        colors_so pairs zero p = absurd (more p)
        colors_so pairs (suc e) p =
            let q : d / 2 ≡ 2 ^ e = omega (arith, two_pow e) in
            let first : rbmg_edge_color_when_power_of_two (2 * n) e (graph_at t ends pairs used) ≡ ran (matchings_at v ends pairs out n (d / 2)) = rw (firsts pairs) (a.colors pairs e q) in
            let second : rbmg_edge_color_when_power_of_two (2 * n) e (graph_at t ends pairs (used + 2 * (n * (d + 1)))) ≡ ran (matchings_at v ends pairs (out + n * (d / 2)) n (d / 2)) = rw (second_kept.same pairs) at (b.colors pairs e q) in
            let whole : matchings_at v ends pairs out n d ≡ matchings_at v ends pairs out n (d / 2) ++ matchings_at v ends pairs (out + n * (d / 2)) n (d / 2) =
            ap (matchings_at v ends pairs out n) (omega (arith, sizes.even)) ∙ matchings_append v ends pairs out n (d / 2) (d / 2) in
            rw (st.halves pairs, first, second, whole)

        pub power_joined : PowerColored s v used used ends g n d out
        power_joined = record { colors = colors_so; bounds = bounds_so; back = refl; stays = stays_so }

-- ── the degree that falls ──

pub power_falls :
    (s : List ℕ) (used ends g n d out t : ℕ) → PowerFits s used ends g n d out → d ≡ t → d / 2 < t
power_falls s used ends g n d out t f e = omega (arith, f.power, pow_pos f.exponent)
