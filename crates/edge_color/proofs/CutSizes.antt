-- The sizes of a round of `rbmg_edge_color`: how the degree is cut, that the sums fit words, and that the degree falls. Assumes
-- nothing.
use Prim.Native.Nat.{ℕ, ◌+◌, ◌*◌, ◌-◌, ◌/◌, ◌%◌, ◌^◌, ◌≤◌, ◌<◌}
use mathlib.Core.Path.{◌≡◌, sym, ◌∙◌, ap}
use mathlib.Core.List.{List}
use native.Mathlib.Omega.{arith}
use native.Mathlib.Nat.{mul-le-mul_left, mul-one}
use Rattle.multigraph.specs.Places.{size}
use Rattle.words.specs.PowersOfTwo.{log_up}
use Rattle.matching.specs.declared.Table.{Table}
use Rattle.words.proofs.PowersOfTwo.{log_up_law, log_up_under}
use Rattle.edge_color.specs.Room.{ColorFits}
use Rattle.edge_color.proofs.AsideWords.{small}

-- Products of n with the degree d, its half h, and the power of two r above h.
pub record Cuts (n d r : ℕ) : Type 0 where
  pub whole : n * d ≡ n * (d / 2) + n * (d / 2) + n * (d % 2)
  pub twice : n * (2 * (d / 2)) ≡ n * (d / 2) + n * (d / 2)
  pub wide : n * (d + 1) ≡ n * (d / 2) + n * (d / 2) + n * (d % 2) + n
  pub half_wide : n * (d / 2 + 1) ≡ n * (d / 2) + n
  pub even_wide : n * (2 * (d / 2) + 1) ≡ n * (d / 2) + n * (d / 2) + n
  pub power_wide : n * (r + 1) ≡ n * r + n
  pub some : n ≤ n * (d / 2)
  pub moved : n * (r - d / 2) + n * (d / 2) ≡ n * r
  pub left : n * (d / 2 - (r - d / 2)) + n * r ≡ n * (d / 2) + n * (d / 2)
  pub under : n * r + n ≤ n * (d / 2) + n * (d / 2)
  pub reaches : d / 2 ≤ r
  pub enough : r - d / 2 ≤ d / 2
  pub whole_degree : r + (d / 2 - (r - d / 2)) + d % 2 ≡ d
  pub less : d / 2 < d

pub cuts : (n d r : ℕ) → 1 < d → r ≡ 2 ^ log_up (d / 2) → Cuts n d r
cuts n d r more e =
    let above : d / 2 ≤ r = omega (arith, (log_up_law (d / 2)).reaches) in
    let below : r + 1 ≤ 2 * (d / 2) = omega (arith, log_up_under (d / 2) (omega arith)) in
    let pos : 1 ≤ d / 2 = omega arith in
    let split : d ≡ d / 2 + d / 2 + d % 2 = omega arith in
    let parts : n * (d / 2 + d / 2 + d % 2) ≡ n * (d / 2) + n * (d / 2) + n * (d % 2) = omega arith in
    let whole : n * d ≡ n * (d / 2) + n * (d / 2) + n * (d % 2) = ap (λ (k : ℕ). n * k) split ∙ parts in
    let sum : r - d / 2 + d / 2 ≡ r = omega arith in
    let sums : n * (r - d / 2 + d / 2) ≡ n * (r - d / 2) + n * (d / 2) = omega arith in
    let rest : d / 2 - (r - d / 2) + r ≡ 2 * (d / 2) = omega arith in
    let rests : n * (d / 2 - (r - d / 2) + r) ≡ n * (d / 2 - (r - d / 2)) + n * r = omega arith in
    let two : n * (2 * (d / 2)) ≡ n * (d / 2) + n * (d / 2) = omega arith in
    record {
      whole = whole;
      twice = two;
      wide = omega (arith, whole);
      half_wide = omega arith;
      even_wide = omega arith;
      power_wide = omega arith;
      some = omega (arith, mul-le-mul_left n pos, mul-one n);
      moved = sym sums ∙ ap (λ (k : ℕ). n * k) sum;
      left = sym rests ∙ ap (λ (k : ℕ). n * k) rest ∙ two;
      under = omega (arith, mul-le-mul_left n below, two);
      reaches = above;
      enough = omega arith;
      whole_degree = omega arith;
      less = omega arith;
    }

-- room for the second half with the matchings that are moved to it
pub second_room :
    (used m k size h o w x n len : ℕ) → size ≤ h → w + h ≡ x → x + n ≤ h + h → k ≡ h + h + o + n → m ≤ used + 2 * k →
    used + 40 * k ≤ len → 0 < n → m + 2 * k + 2 + 2 * (size + w) ≤ len
second_room used m k size h o w x n len a b c d e f g = omega arith

pub second_below :
    (m k size h o x n mark back : ℕ) → size ≤ x → x + n ≤ h + h → k ≡ h + h + o + n → mark ≡ m + 4 * k → back ≡ mark → 0 < n →
    m + 2 * k + 3 + 2 * size ≤ back
second_below m k size h o x n mark back a b c d e f = omega arith

-- ── sums that fit, and the degree that falls ──

pub record Sums (first n d r out places : ℕ) : Type 0 where
  pub second : first + 2 * (n * (d + 1)) < 4294967296
  pub into : out + n * (d / 2) < 4294967296
  pub moved : n * (r - d / 2) < 4294967296
  pub reaches : d / 2 ≤ r
  pub map : places < 4294967296

pub sums :
    (t : Table) (s : List ℕ) (used g n d out r : ℕ) → ColorFits t s used g n d out → 1 < d → r ≡ 2 ^ log_up (d / 2) →
    (first : ℕ) → first ≤ used + 2 * (n * (d + 1)) → Sums first n d r out t.places
sums t s used g n d out r f more er first to =
    let x = small t s used g n d out f in
    let some : 0 < n = f.graph.some in
    let one : 1 ≤ d + 1 = omega arith in
    let some_wide : n * 1 ≤ n * (d + 1) = mul-le-mul_left n one in
    record {
      second = omega (arith, x.mark, x.wide, some_wide);
      into = omega (arith, x.output, x.graph, x.mark, (cuts n d r more er).whole);
      moved = omega (arith, (cuts n d r more er).moved, (cuts n d r more er).under, (cuts n d r more er).whole, x.output, x.graph, x.mark);
      reaches = (cuts n d r more er).reaches;
      map = omega (arith, x.map, x.output, x.graph, x.mark);
    }

pub color_falls : (d t : ℕ) → 1 < d → d ≡ t → d / 2 < t
color_falls d t more e = omega arith
