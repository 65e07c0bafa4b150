-- At degree 2, the circuits from all parties on words, against the definition's tour. Assumes nothing.
use Prim.Native.Nat.{ℕ, zero, suc, ◌+◌, ◌*◌, ◌-◌, ◌/◌, ◌%◌, ◌≤◌, ◌<◌}
use mathlib.Core.Path.{◌≡◌, refl, sym, ◌∙◌, ap, subst}
use mathlib.Core.Bool.{Bool, true, false}
use mathlib.Core.List.{List, ◌∷◌, ◌++◌, map, map-append, reverse, reverse_aux, append_assoc}
use mathlib.Core.Logic.{⊎_elim}
use native.Mathlib.Omega.{arith}
use native.Mathlib.Decide.{ℕ_discrete}
use lib.Dec.{eqb}
use lib.ListN.{length, length-map, length-append, length-reverse}
use Rattle.words.specs.Basics.{is, total, iterate, All}
use Rattle.words.specs.Words.{word}
use Rattle.words.specs.Sides.{mate}
use Rattle.words.proofs.Sums.{total_const, all_counted}
use Rattle.multigraph.specs.Multigraph.{Pair}
use Rattle.circuits.specs.declared.Two.{Two}
use Rattle.euler.specs.Euler.{Tour}
use Rattle.euler.specs.Split.{every_other}
use Rattle.circuits.specs.Model.{Told, two_pair_m, two_circuit_m, two_from_m, two_walk_m}
use Rattle.circuits.specs.Bounds.{TwoCircuits, TwoFroms, TwoWalks}
use Rattle.euler.proofs.Taken.{ends}
use Rattle.euler.proofs.Trail.{aslant}
use Rattle.euler.proofs.Straight.{along, along_total, every_other_even}
use Rattle.circuits.proofs.CircuitTrails.{trace}
use Rattle.euler.proofs.StoredGraphs.{entries_length}
use Rattle.circuits.proofs.CircuitGraph as Graphs
use Rattle.circuits.proofs.CircuitEnds as Ends
use Rattle.circuits.proofs.CircuitTours as Tours
use Rattle.circuits.proofs.CircuitFill as Fill
use Rattle.circuits.proofs.CircuitFill.{Ground}
use Rattle.circuits.proofs.CircuitSteps as Steps
use Rattle.circuits.proofs.CircuitSteps.{double, numbers}
use Rattle.circuits.proofs.CircuitLists.{double_is, even_double, reverse_onto, map_numbers, every_other_map, every_other_length, every_other_all, numbers_all, onto_length, onto_all, trace_length}
use Rattle.circuits.proofs.ModelLaws.{two_circuit_back, two_circuit_on, two_from_none, two_from_some}

module _ {l : Two} {N m k u : ℕ} {s₀ : List ℕ} (g : Ground l N m k u s₀) (flag : ℕ → ℕ) (r : List Pair) (two : Ends.Twos (Steps.E g flag r) flag (Steps.es g flag r) r) where
  abbrev E : ℕ → ℕ
  E y = word s₀ (l.graph.ends + y)

  abbrev es : List ℕ
  es = Fill.odds_of s₀ l.graph.g m

  abbrev pr : ℕ → Pair
  pr y = Ends.pr E flag es y

  abbrev Half : ℕ → Type 0
  Half y = Ends.Half E flag es y

  abbrev late : ℕ → ℕ
  late v = Ends.late E flag es v

  abbrev next : ℕ → ℕ
  next y = Steps.next g flag r y

  abbrev Going : List ℕ → List ℕ → (ℕ → ℕ) → List ℕ → Type 0
  Going ds₁ ds₂ M s = Steps.Going g flag r ds₁ ds₂ M s

  abbrev wipe : List ℕ → (ℕ → ℕ) → ℕ → ℕ
  wipe hs M = Steps.wipe g flag r hs M

  -- the pairs dealt to one of the halves along a circuit
  abbrev dealt : Bool → List ℕ → List ℕ → List ℕ
  dealt b hs ds = reverse_aux (numbers (every_other b hs)) ds

  -- ── one circuit ──

  record Gone (ds₁ ds₂ : List ℕ) (M : ℕ → ℕ) (y₀ f : ℕ) (s : List ℕ) (at y n : ℕ) : Type 0 where
    fits : TwoCircuits l y₀ f s at y
    going :
        Going (dealt true (trace next (double n) y) ds₁) (dealt false (trace next (double n) y) ds₂)
        (wipe (trace next (double n) y) M)
        (two_circuit_m l y₀ f s at y).words
    number : (two_circuit_m l y₀ f s at y).number ≡ at + n

  gone :
      (n f : ℕ) (ds₁ ds₂ : List ℕ) (M : ℕ → ℕ) (y₀ : ℕ) (s : List ℕ) (at y : ℕ) → length ds₁ ≡ at → length ds₂ ≡ at → at + suc n ≤ m →
      suc n ≤ f → Going ds₁ ds₂ M s → Half y → iterate (double (suc n)) next y ≡ y₀ →
      ((j : ℕ) → 0 < j → j < suc n → (iterate (double j) next y ≡ y₀ → ⊥)) → Gone ds₁ ds₂ M y₀ f s at y (suc n)
  unfolding double trace every_other iterate Steps.wipe
  gone n zero ds₁ ds₂ M y₀ s at y e₁ e₂ room fuel q i back not = absurd (omega arith)
  gone zero (suc f) ds₁ ds₂ M y₀ s at y e₁ e₂ room fuel q i back not =
      let p : Steps.Paired g flag r two ds₁ ds₂ M s at y =
      Steps.paired g flag r two ds₁ ds₂ M s at y e₁ e₂ (omega arith) q i in
      let done : two_circuit_m l y₀ (suc f) s at y ≡ record { words = (two_pair_m l s at y).words; number = at + 1 } =
      two_circuit_back l y₀ (suc f) f s at y (two_pair_m l s at y) refl refl (p.is_next ∙ back) in
      record {
        fits = (p.fits_first, p.fits_second, λ n. absurd (n (p.is_next ∙ back)));
        going = rw done p.going;
        number = ap (λ (x : Told). x.number) done;
      }
  gone (suc n) (suc f) ds₁ ds₂ M y₀ s at y e₁ e₂ room fuel q i back not =
      let p : Steps.Paired g flag r two ds₁ ds₂ M s at y =
      Steps.paired g flag r two ds₁ ds₂ M s at y e₁ e₂ (omega arith) q i in
      let t : Told = two_pair_m l s at y in
      let z : ℕ = next (next y) in
      let on : t.number ≡ y₀ → ⊥ = λ e. not 1 (omega arith) (omega arith) (sym p.is_next ∙ e) in
      let rest : Gone (y / 2 ∷ ds₁) (next y / 2 ∷ ds₂) (Steps.wiped g flag r (next y) (Steps.wiped g flag r y M)) y₀ f t.words (at + 1) z (suc n) =
      gone n f (y / 2 ∷ ds₁) (next y / 2 ∷ ds₂) (Steps.wiped g flag r (next y) (Steps.wiped g flag r y M)) y₀ t.words (at + 1) z
      (omega (arith, e₁)) (omega (arith, e₂)) (omega arith) (omega arith) p.going p.half back
      (λ j lo hi. not (suc j) (omega arith) (omega arith)) in
      let here : two_circuit_m l y₀ (suc f) s at y ≡ two_circuit_m l y₀ f t.words (at + 1) z =
      two_circuit_on l y₀ (suc f) f s at y t refl refl on ∙ ap (two_circuit_m l y₀ f t.words (at + 1)) p.is_next in
      record {
        fits = (p.fits_first, p.fits_second, λ x. subst (TwoCircuits l y₀ f t.words (at + 1)) (sym p.is_next) rest.fits);
        going = rw here rest.going;
        number = ap (λ (x : Told). x.number) here ∙ rest.number ∙ omega arith;
      }

  -- ── all circuits ──

  module _ (side : ℕ → ℕ) (slant : total (aslant side) r ≡ 0) (copies : (i : ℕ) → i < m → Fill.C g i ≤ 2) where
    abbrev pn : ℕ → Pair
    pn e = Ends.pn E flag es e

    abbrev early : ℕ → ℕ
    early v = Ends.early E flag es v

    abbrev ps : List ℕ
    ps = Fill.evens_of s₀ l.graph.g m

    abbrev TourOrdered : ℕ → Tour → Type 0
    TourOrdered v t =
        Tours.TourOrdered r mate E pr early late Half (Steps.ended g flag r two) side slant two.even
        (Ends.first_is E flag es r two) v t

    abbrev Num : ℕ → Type 0
    Num e = Fill.Num g e

    -- the pairs of one half: those of 2 copies, and every other along the cycles
    abbrev DealtSo : Bool → List ℕ → Tour → Type 0
    DealtSo b ds t = map pn (reverse ds) ≡ map pn (reverse ps) ++ every_other b (along t.cycles)

    -- what the words hold before party v, and the definition's tour
    pub record Walked (v : ℕ) (w : Told) : Type 0 where
      pub tour : Tour
      pub ordered : TourOrdered v tour
      pub firsts : List ℕ
      pub seconds : List ℕ
      pub marks : ℕ → ℕ
      pub going : Going firsts seconds marks w.words
      pub spent : (x : ℕ) → x < N → total (ends x) tour.left ≡ 0 → marks x ≡ 0
      pub alive : (x : ℕ) → x < N → total (ends x) tour.left ≡ 2 → marks x ≡ late x + 1
      pub first_count : length firsts ≡ w.number
      pub second_count : length seconds ≡ w.number
      pub size : 2 * w.number ≡ 2 * length ps + length (along tour.cycles)
      pub first_pairs : DealtSo true firsts tour
      pub second_pairs : DealtSo false seconds tour
      pub first_nums : All Num firsts
      pub second_nums : All Num seconds

    -- no more than the graph has
    split_length : length ps + length es ≤ m
    split_length =
        omega (
          arith,
          Graphs.parts g 0 copies (λ p. 1) (λ p. refl) m (omega arith),
          total_const 1 ps,
          total_const 1 es,
          total_const 1 (Graphs.G g 0 m),
          entries_length s₀ l.graph.ends 0 l.graph.g 0 m,
        )

    few_along : (t : Tour) (v : ℕ) → TourOrdered v t → length (along t.cycles) ≤ length es
    few_along t v h =
        omega (
          arith,
          h.so_far.toured.whole (λ p. 1),
          along_total (λ p. 1) t.cycles,
          total_const 1 (along t.cycles),
          total_const 1 r,
          ap length two.places,
          length-reverse r,
          length-map es pn,
        )

    -- no half has more pairs than the graph
    pub walked_few : (v : ℕ) (w : Told) → Walked v w → w.number ≤ m
    walked_few v w h = omega (arith, h.size, few_along h.tour v h.ordered, split_length)

    -- the pairs of one half with a circuit dealt to it
    dealt_pairs :
        (b : Bool) (hs ds : List ℕ) (t t' : Tour) (cycle : List Pair) → length (along t.cycles) % 2 ≡ 0 → map pr hs ≡ cycle →
        along t'.cycles ≡ along t.cycles ++ cycle → DealtSo b ds t → DealtSo b (dealt b hs ds) t'
    dealt_pairs b hs ds t t' cycle even e more h =
        ap (map pn) (reverse_onto (numbers (every_other b hs)) ds)
        ∙ map-append pn (reverse ds) (numbers (every_other b hs))
        ∙ rw (h, map_numbers pn (every_other b hs), every_other_map pr b hs, e, more, every_other_even b (along t.cycles) cycle even)
        (append_assoc (map pn (reverse ps)) (every_other b (along t.cycles)) (every_other b cycle))

    dealt_count : (b : Bool) (n : ℕ) (hs ds : List ℕ) → length hs ≡ double n → length (dealt b hs ds) ≡ length ds + n
    dealt_count b n hs ds e =
        omega (arith, onto_length (numbers (every_other b hs)) ds, length-map (every_other b hs) (λ y. y / 2), every_other_length n hs e b)

    half_num : (y : ℕ) → Half y → Num (y / 2)
    half_num y i = all_counted Num (y / 2) es (Fill.those_nums g (λ c. eqb (c % 2) 1) m (omega arith)) i

    dealt_nums : (b : Bool) (hs ds : List ℕ) → All Half hs → All Num ds → All Num (dealt b hs ds)
    dealt_nums b hs ds h k =
        onto_all Num (numbers (every_other b hs)) ds (numbers_all Half Num half_num (every_other b hs) (every_other_all Half b hs h)) k

    -- the tour's next party
    abbrev Turned : ℕ → Tour → Type 0
    Turned v t =
        Tours.Turned r mate E pr early late Half (Steps.ended g flag r two) side slant two.even
        (Ends.first_is E flag es r two) v t

    turned : (v : ℕ) (t : Tour) → TourOrdered v t → Turned v t
    turned v t h =
        Tours.turned r mate E pr early late Half (Steps.ended g flag r two) side slant two.even
        (Ends.first_is E flag es r two) v t h

    abbrev Passed : Tour → Tour → Type 0
    Passed t t' =
        Tours.Passed r mate E pr early late Half (Steps.ended g flag r two) side slant two.even
        (Ends.first_is E flag es r two) t t'

    abbrev OneMore : ℕ → Tour → Tour → Type 0
    OneMore v t t' =
        Tours.OneMore r mate E pr early late Half (Steps.ended g flag r two) side slant two.even
        (Ends.first_is E flag es r two) v t t'

    -- what the outer loop needs at the party v
    pub record Onward (v : ℕ) (w : Told) : Type 0 where
      pub fits : TwoFroms l m w v
      pub walked : Walked (suc v) (two_from_m l m w v)

    passed : (v : ℕ) (w : Told) → v < N → (h : Walked v w) (t' : Tour) → TourOrdered (suc v) t' → total (ends v) h.tour.left ≡ 0 → Passed h.tour t' → Onward v w
    passed v w b h t' k z p =
        let none : word w.words (l.b + 2 * v) ≡ 0 = h.going.marks v b ∙ h.spent v b z in
        let here : w ≡ two_from_m l m w v = two_from_none l m w v (word w.words (l.b + 2 * v)) refl none in
        record {
          fits =
              record {
                party = omega (arith, h.going.keeps.len, g.room, g.parties, g.few);
                circuit = λ n. absurd (n none);
              };
          walked =
              subst (Walked (suc v)) here
              (record {
                tour = t';
                ordered = k;
                firsts = h.firsts;
                seconds = h.seconds;
                marks = h.marks;
                going = h.going;
                spent = λ x c e. h.spent x c (sym (p.left_same (ends x)) ∙ e);
                alive = λ x c e. h.alive x c (sym (p.left_same (ends x)) ∙ e);
                first_count = h.first_count;
                second_count = h.second_count;
                size = h.size ∙ ap (λ (q : List Pair). 2 * length ps + length q) (sym p.along_same);
                first_pairs =
                    h.first_pairs ∙ ap (λ (q : List Pair). map pn (reverse ps) ++ every_other true q) (sym p.along_same);
                second_pairs =
                    h.second_pairs ∙ ap (λ (q : List Pair). map pn (reverse ps) ++ every_other false q) (sym p.along_same);
                first_nums = h.first_nums;
                second_nums = h.second_nums;
              });
        }

    gone_circuit : (v : ℕ) (w : Told) → v < N → (h : Walked v w) (t' : Tour) → TourOrdered (suc v) t' → total (ends v) h.tour.left ≡ 2 → OneMore v h.tour t' → Onward v w
    gone_circuit v w b h t' after left o =
        let t : Tour = h.tour in
        let d : (n : ℕ) × (length o.cycle ≡ double (suc n)) = even_double (length o.cycle) o.size o.some in
        let n : ℕ = d.0 in
        let y : ℕ = late v in
        let hs : List ℕ = trace next (double (suc n)) y in
        let some : 0 < total (ends v) r = omega (arith, h.ordered.so_far.toured.whole (ends v)) in
        let twice : double (suc n) ≡ 2 * suc n = double_is (suc n) in
        let grown : length (along t'.cycles) ≡ length (along t.cycles) + length o.cycle =
        ap length o.along_more ∙ length-append (along t.cycles) o.cycle in
        let room : w.number + suc n ≤ m =
        omega (arith, h.size, grown, d.1, twice, few_along t' (suc v) after, split_length) in
        let half : Half y = ((Steps.ended g flag r two).late_half v some).0 in
        let back : iterate (double (suc n)) next y ≡ y = ap (λ (c : ℕ). iterate c next y) (sym d.1) ∙ o.circuit.closes in
        let not : (j : ℕ) → 0 < j → j < suc n → (iterate (double j) next y ≡ y → ⊥) =
        λ j lo hi e. o.circuit.inner (double j) (omega (arith, double_is j)) (omega (arith, double_is j, d.1, twice)) e in
        let q : Gone h.firsts h.seconds h.marks y m w.words w.number y (suc n) =
        gone n m h.firsts h.seconds h.marks y w.words w.number y h.first_count h.second_count room (omega arith) h.going
        half back not in
        let pairs : map pr hs ≡ o.cycle = ap (λ (c : ℕ). map pr (trace next c y)) (sym d.1) ∙ o.circuit.pairs in
        let all_half : All Half hs = subst (λ (c : ℕ). All Half (trace next c y)) d.1 o.circuit.halves in
        let seen : (x : ℕ) → total (ends x) o.cycle ≡ 2 * total (λ z. is x (Steps.leads_to g flag r z)) hs =
        λ x.
        o.circuit.visits x
        ∙ ap (λ (c : ℕ). 2 * total (λ z. is x (Steps.leads_to g flag r z)) (trace next c y)) d.1 in
        let long : length hs ≡ double (suc n) = trace_length next (double (suc n)) y in
        let even : length (along t.cycles) % 2 ≡ 0 = omega (arith, h.size) in
        let mark : word w.words (l.b + 2 * v) ≡ y + 1 = h.going.marks v b ∙ h.alive v b left in
        let first : word w.words (l.b + 2 * v) - 1 ≡ y = omega arith in
        let is_circuit : two_from_m l m w v ≡ two_circuit_m l y m w.words w.number y =
        sym (two_from_some l m w v (word w.words (l.b + 2 * v)) refl (λ z. omega arith))
        ∙ ap (λ (z : ℕ). two_circuit_m l z m w.words w.number z) first in
        record {
          fits =
              record {
                party = omega (arith, h.going.keeps.len, g.room, g.parties, g.few);
                circuit = λ z. subst (λ (x : ℕ). TwoCircuits l x m w.words w.number x) (sym first) q.fits;
              };
          walked =
              subst (Walked (suc v)) (sym is_circuit)
              (record {
                tour = t';
                ordered = after;
                firsts = dealt true hs h.firsts;
                seconds = dealt false hs h.seconds;
                marks = wipe hs h.marks;
                going = q.going;
                spent = λ x c e.
                    elim (ℕ_discrete (total (ends x) t.left) 0) [
                      | yes z ↦ Steps.wipe_zero g flag r hs h.marks x (h.spent x c z)
                      | no z ↦
                          Steps.wipe_hit g flag r hs h.marks x (omega (arith, o.left_less (ends x), seen x))
                    ];
                alive = λ x c e.
                    let full : total (ends x) t.left ≡ 2 =
                    omega (arith, o.left_less (ends x), h.ordered.so_far.toured.whole (ends x), two.few x) in
                    Steps.wipe_miss g flag r hs h.marks x (omega (arith, o.left_less (ends x), seen x)) ∙ h.alive x c full;
                first_count = dealt_count true (suc n) hs h.firsts long ∙ omega (arith, h.first_count, q.number);
                second_count = dealt_count false (suc n) hs h.seconds long ∙ omega (arith, h.second_count, q.number);
                size = omega (arith, q.number, h.size, grown, d.1, twice);
                first_pairs = dealt_pairs true hs h.firsts t t' o.cycle even pairs o.along_more h.first_pairs;
                second_pairs = dealt_pairs false hs h.seconds t t' o.cycle even pairs o.along_more h.second_pairs;
                first_nums = dealt_nums true hs h.firsts all_half h.first_nums;
                second_nums = dealt_nums false hs h.seconds all_half h.second_nums;
              });
        }

    onward : (v : ℕ) (w : Told) → v < N → Walked v w → Onward v w
    onward v w b h =
        let t : Turned v h.tour = turned v h.tour h.ordered in
        ⊎_elim (λ p. passed v w b h t.after t.ordered p.0 p.1)
        (λ p. gone_circuit v w b h t.after t.ordered p.0 p.1) t.by

    -- all parties below v
    pub walked_all : (v : ℕ) (w : Told) → v ≤ N → Walked 0 w → Walked v (two_walk_m l m v w)
    unfolding two_walk_m
    walked_all zero w b h = h
    walked_all (suc v) w b h = (onward v (two_walk_m l m v w) (omega arith) (walked_all v w (omega arith) h)).walked

    -- every place that the circuits touch is one
    pub walks_on : (w : Told) → Walked 0 w → TwoWalks l m N w
    walks_on w h =
        record {
          froms = λ v b. (onward v (two_walk_m l m v w) b (walked_all v w (omega arith) h)).fits;
          few = λ v b.
              omega (arith, walked_few v (two_walk_m l m v w) (walked_all v w (omega arith) h), g.room, g.small, g.entries);
        }
