-- The words after a split of a graph of degree 2 hold the halves of the definition. Assumes nothing.
use Prim.Native.Nat.{ℕ, ◌+◌, ◌*◌, ◌≤◌, ◌<◌, ◌%◌}
use mathlib.Core.Path.{◌≡◌, refl, sym, ◌∙◌, ap, subst}
use mathlib.Core.Bool.{Bool, true, false}
use mathlib.Core.List.{List, [], ◌∷◌, ◌++◌, map, reverse, reverse_aux, append-nil}
use native.Mathlib.Omega.{arith}
use native.Mathlib.Decide.{ℕ_discrete}
use lib.Dec.{leb, eqb}
use lib.ListN.{length}
use Rattle.words.specs.Basics.{pick, total, All, ran}
use Rattle.words.specs.Words.{word, put_word}
use Rattle.words.specs.Frames.{Keeps}
use Rattle.words.specs.Sides.{mate}
use Rattle.words.proofs.Sums.{total_reverse, total_map, all_right}
use Rattle.words.proofs.Frames.{length_put, keeps_then_put}
use Rattle.multigraph.specs.Multigraph.{Pair, Graph}
use Rattle.multigraph.specs.Stored.{entries, graph_at}
use Rattle.std.specs.Prelude.{Option, Some}
use Rattle.circuits.specs.declared.Two.{Two}
use Rattle.euler.specs.Euler.{Tour}
use Rattle.euler.specs.Split.{add_halves, rest, every_other, add_pairs, rbmg_split_into_two}
use Rattle.euler.specs.Room.{Splits, NumbersFrom, HalvesStored}
use Rattle.euler.specs.Entries.{head_m}
use Rattle.circuits.specs.Model.{Lies, Told, ApartSoFar, two_fill_m, two_filled_m, two_walk_m, split_two_m, copies_sum_m, few_sum_m, two_laid}
use Rattle.circuits.specs.Bounds.{TwoFills, TwoWalks, TwoSplits}
use Rattle.euler.proofs.Trail.{aslant}
use Rattle.euler.proofs.Straight.{along, along_total, split_along}
use Rattle.circuits.proofs.CircuitEnds as Ends
use Rattle.circuits.proofs.CircuitFill as Fill
use Rattle.circuits.proofs.CircuitHeld.{Held, held_same, Headed, head_away, headed, headed_below}
use Rattle.circuits.proofs.CircuitFill.{Ground}
use Rattle.circuits.proofs.CircuitWalk as Walk
use Rattle.circuits.proofs.CircuitGraph as Graphs
use Rattle.circuits.proofs.CircuitBegun as Begun
use Rattle.euler.proofs.Grounds.{apart_at, rest_slant, rest_evens}
use Rattle.circuits.proofs.ModelLaws.{few_sum_all}
use Rattle.multigraph.specs.Regular.{pairs_between}
use Rattle.euler.proofs.Taken.{ends}
use Rattle.euler.proofs.Places.{keep}
use Rattle.circuits.proofs.CircuitTours as Tours
use Rattle.circuits.proofs.CircuitSteps as Steps
use Rattle.circuits.proofs.CircuitGrounds as TwoGrounds

every_other_le : (f : Pair → ℕ) (b : Bool) (c : List Pair) → total f (every_other b c) ≤ total f c
unfolding every_other total
every_other_le f true [] = omega arith
every_other_le f false [] = omega arith
every_other_le f true (p ∷ c) = omega (arith, every_other_le f false c)
every_other_le f false (p ∷ c) = omega (arith, every_other_le f true c)

-- ── reversed lists of half-edges ──

onto_append : (xs ys zs : List ℕ) → reverse_aux (xs ++ ys) zs ≡ reverse_aux ys (reverse_aux xs zs)
onto_append [] ys zs = refl
onto_append (x ∷ xs) ys zs = onto_append xs ys (x ∷ zs)

keep_onto : (q : ℕ → Bool) (xs ys : List ℕ) → keep q (reverse_aux xs ys) ≡ reverse_aux (keep q xs) (keep q ys)
unfolding keep
keep_onto q [] ys = refl
keep_onto q (x ∷ xs) ys = keep_onto q xs (x ∷ ys) ∙ go (q x)
  where
    go : (b : Bool) → reverse_aux (keep q xs) (pick b (x ∷ keep q ys) (keep q ys)) ≡ reverse_aux (pick b (x ∷ keep q xs) (keep q xs)) (keep q ys)
    go true = refl
    go false = refl

map_plus_zero : (es : List ℕ) → map (λ e. 2 * e + 0) es ≡ map (λ e. 2 * e) es
map_plus_zero [] = refl
map_plus_zero (e ∷ es) = let z : 2 * e + 0 ≡ 2 * e = omega arith in rw (z, map_plus_zero es)

empty_list : (xs : List ℕ) → length xs ≡ 0 → xs ≡ []
empty_list [] e = refl
empty_list (x ∷ xs) e = absurd (omega arith)

module _ {s : List ℕ} {u table graph n width : ℕ} (q : Splits s u table graph n width) (sum : copies_sum_m graph (word s (graph + 1)) s ≡ 2 * n) where
  abbrev N : ℕ
  N = 2 * n

  abbrev k : ℕ
  k = n * (width + 1)

  abbrev m : ℕ
  m = word s (graph + 1)

  abbrev l : Two
  l = two_laid u k table graph m N (Begun.lies q)

  abbrev h₂ : ℕ
  h₂ = u + 2 * k

  abbrev E : ℕ → ℕ
  E y = word s (table + y)

  abbrev ground : Ground l N m k u s
  ground = Begun.ground q sum

  abbrev es : List ℕ
  es = Fill.odds_of s graph m

  abbrev ps : List ℕ
  ps = Fill.evens_of s graph m

  abbrev sifted : ApartSoFar
  sifted = Begun.sifted q sum

  abbrev s₄ : List ℕ
  s₄ = Begun.s₄ q sum

  -- ── the circuits ──

  module _ (pairs : ℕ) where
    abbrev flag : ℕ → ℕ
    flag e = pick (leb pairs e) 1 0

    abbrev G : Graph
    G = entries s table pairs graph 0 m

    abbrev r : Graph
    r = rest G

    abbrev pn : ℕ → Pair
    pn e = Ends.pn E flag es e

    copies : (i : ℕ) → i < m → word s (graph + 3 + 2 * i) ≤ 2
    copies i b = TwoGrounds.copies_two q (Begun.is_two q sum) pairs i b

    once : (a b : ℕ) → total (Graphs.btw a b) G ≤ 1
    once a b = TwoGrounds.once q (Begun.is_two q sum) pairs a b

    places_total : (f : Pair → ℕ) → total f r ≡ total (λ e. f (pn e)) es
    places_total f =
        sym (total_reverse f r) ∙ ap (total f) (Graphs.rest_are ground pairs m) ∙ total_map f pn es

    two : Ends.Twos E flag es r
    unfolding pairs_between
    two =
        record {
          places = Graphs.rest_are ground pairs m;
          few = TwoGrounds.rest_few q (Begun.is_two q sum) pairs;
          even = rest_evens q pairs;
          thin = TwoGrounds.rest_thin q (Begun.is_two q sum) pairs;
          once = λ a b.
              omega (
                arith,
                places_total (Graphs.btw a b),
                Graphs.parts ground pairs copies (Graphs.btw a b) (λ p. refl) m (omega arith),
                once a b,
              );
        }

    slant : total (aslant q.side) r ≡ 0
    slant = rest_slant q pairs

    -- a party's half-edges, the last first
    own_done : (v : ℕ) → Fill.at_party ground v (Begun.done q sum) ≡ reverse (Ends.own E flag es v)
    unfolding Ends.own keep
    own_done v =
        let q' : ℕ → Bool = λ y. eqb v (E y) in
        ap (λ (xs : List ℕ). keep q' (reverse_aux (map (λ e. 2 * e + 1) es) (reverse_aux xs []))) (map_plus_zero es)
        ∙ ap (keep q') (sym (onto_append (map (λ e. 2 * e) es) (map (λ e. 2 * e + 1) es) []))
        ∙ keep_onto q' (map (λ e. 2 * e) es ++ map (λ e. 2 * e + 1) es) []

    early_small : (v : ℕ) → 0 < total (ends v) r → Ends.early E flag es v < 4294967296
    early_small v some =
        let i : Ends.Half E flag es (Ends.early E flag es v) = ((Ends.two_ended E flag es r two).early_half v some).0 in
        omega (arith, (Steps.fine ground flag r two (Ends.early E flag es v) i).table, q.room, q.short)

    mark_none : (v : ℕ) → v < N → total (ends v) r ≡ 0 → word s₄ (l.b + 2 * v) ≡ 0
    mark_none v b z =
        (Begun.filled q sum).1.marks v b
        ∙ ap Fill.last_plus_one
        (own_done v ∙ ap reverse (empty_list (Ends.own E flag es v) (Ends.own_length E flag es r two v ∙ z)))

    mark_late : (v : ℕ) → v < N → total (ends v) r ≡ 2 → word s₄ (l.b + 2 * v) ≡ Ends.late E flag es v + 1
    mark_late v b z =
        (Begun.filled q sum).1.marks v b
        ∙ ap Fill.last_plus_one (own_done v ∙ ap reverse (Ends.own_two E flag es r two v (omega arith)))

    sum_is :
        (v : ℕ) → v < N → 0 < total (ends v) r →
        word s₄ (l.b + 2 * v + 1) ≡ (Ends.early E flag es v + Ends.late E flag es v) % 4294967296
    sum_is v b some =
        (Begun.filled q sum).1.sums v b
        ∙ ap Fill.cut_sum (own_done v ∙ ap reverse (Ends.own_two E flag es r two v some))
        ∙ cut (Ends.early E flag es v) (Ends.late E flag es v) (early_small v some)
      where
        cut : (a c : ℕ) → a < 4294967296 → ((0 + a) % 4294967296 + c) % 4294967296 ≡ (a + c) % 4294967296
        cut a c h = omega arith

    abbrev w₀ : Told
    w₀ = record { words = s₄; number = length ps }

    same_left : (v : ℕ) → total (ends v) (reverse r) ≡ total (ends v) r
    same_left v = total_reverse (ends v) r

    walk_begun : Walk.Walked ground flag r two q.side slant copies 0 w₀
    unfolding along every_other
    walk_begun =
        record {
          tour = record { cycles = []; left = reverse r };
          ordered =
              Tours.begun r mate E (Ends.pr E flag es) (Ends.early E flag es) (Ends.late E flag es) (Ends.Half E flag es)
              (Steps.ended ground flag r two) q.side slant two.even (Ends.first_is E flag es r two);
          firsts = ps;
          seconds = ps;
          marks = λ v. word s₄ (l.b + 2 * v);
          going =
              record {
                keeps =
                    record {
                      len = (Begun.filled q sum).1.len;
                      same = λ a b. (Begun.filled q sum).1.low a (omega arith) ∙ (Begun.sift q sum).keeps.same a b;
                    };
                first =
                    held_same sifted.words s₄ u ps
                    (λ a lo hi. (Begun.filled q sum).1.low a (omega (arith, Fill.those_length (λ c. leb 2 c) s graph m, ground.entries))) (Begun.sift q sum).first;
                second =
                    held_same sifted.words s₄ h₂ ps
                    (λ a lo hi. (Begun.filled q sum).1.low a (omega (arith, Fill.those_length (λ c. leb 2 c) s graph m, ground.entries))) (Begun.sift q sum).second;
                marks = λ v b. refl;
                sums = sum_is;
              };
          spent = λ v b z. mark_none v b (sym (same_left v) ∙ z);
          alive = λ v b z. mark_late v b (sym (same_left v) ∙ z);
          first_count = refl;
          second_count = refl;
          size = omega arith;
          first_pairs = sym (append-nil (map pn (reverse ps)));
          second_pairs = sym (append-nil (map pn (reverse ps)));
          first_nums = Fill.those_nums ground (λ c. leb 2 c) m (omega arith);
          second_nums = Fill.those_nums ground (λ c. leb 2 c) m (omega arith);
        }

    walk_done : Walk.Walked ground flag r two q.side slant copies N (two_walk_m l m N w₀)
    walk_done = Walk.walked_all ground flag r two q.side slant copies N w₀ (omega arith) walk_begun

    walk_fits : TwoWalks l m N w₀
    walk_fits = Walk.walks_on ground flag r two q.side slant copies w₀ walk_begun

    -- ── the halves ──

    abbrev w : Told
    w = two_walk_m l m N w₀

    abbrev c : ℕ
    c = w.number

    abbrev t : List ℕ
    t = head_m h₂ (head_m u w.words c) c

    abbrev tour : Tour
    tour = walk_done.tour

    len : length w.words ≡ length s
    len = walk_done.going.keeps.len

    few : c ≤ m
    few = Walk.walked_few ground flag r two q.side slant copies N w walk_done

    small_c : c < 4294967296
    small_c = omega (arith, few, ground.entries, q.room, q.short)

    -- where no two pairs have the same ends, a half is what is held
    behind :
        (b : Bool) (ds : List ℕ) → map pn (reverse ds) ≡ map pn (reverse ps) ++ every_other b (along tour.cycles) →
        add_pairs (add_halves [] G) (every_other b (along tour.cycles)) ≡ map pn (reverse ds)
    behind b ds e =
        let dealt : List Pair = every_other b (along tour.cycles) in
        ap (λ (x : Graph). add_pairs x dealt) (Graphs.halves_are ground pairs copies (apart_at q pairs))
        ∙ Graphs.add_pairs_behind (map pn (reverse ps)) dealt
        (all_right (λ (p : Pair). p.copies ≡ 1) (map pn (reverse ps)) dealt (subst (All (λ (p : Pair). p.copies ≡ 1)) e (ones (reverse ds))))
        (λ x y.
        omega (
          arith,
          total_map (Graphs.btw x y) pn (reverse ps),
          total_reverse (λ z. Graphs.btw x y (pn z)) ps,
          every_other_le (Graphs.btw x y) b (along tour.cycles),
          along_total (Graphs.btw x y) tour.cycles,
          walk_done.ordered.so_far.toured.whole (Graphs.btw x y),
          places_total (Graphs.btw x y),
          Graphs.parts ground pairs copies (Graphs.btw x y) (λ p. refl) m (omega arith),
          once x y,
        ))
        ∙ sym e
      where
        ones : (xs : List ℕ) → All (λ (p : Pair). p.copies ≡ 1) (map pn xs)
        ones [] = tt
        ones (x ∷ xs) = (refl, ones xs)

    splits_into :
        rbmg_split_into_two N G
        ≡ ran (record { first_half = map pn (reverse walk_done.firsts); second_half = map pn (reverse walk_done.seconds) })
    splits_into =
        split_along N G tour walk_done.ordered.so_far
        ∙ rw (behind true walk_done.firsts walk_done.first_pairs, behind false walk_done.seconds walk_done.second_pairs)

    -- ── the words ──

    kept : Keeps u s t
    kept =
        keeps_then_put (h₂ + 1) c (omega arith)
        (keeps_then_put h₂ h₂ (omega arith)
        (keeps_then_put (u + 1) c (omega arith) (keeps_then_put u u (omega arith) walk_done.going.keeps)))

    -- the first half, and the second one's head above it
    first : Headed t u walk_done.firsts
    first =
        headed_below (head_m u w.words c) u h₂ c walk_done.firsts (omega (arith, walk_done.first_count, few, ground.entries))
        (headed w.words u c walk_done.firsts walk_done.first_count (omega (arith, len, q.room, ground.entries)) (omega (arith, len, q.short))
        small_c walk_done.going.first)

    second : Headed t h₂ walk_done.seconds
    second =
        let before : length (head_m u w.words c) ≡ length s = length_put (put_word w.words u u) (u + 1) c ∙ length_put w.words u u ∙ len in
        headed (head_m u w.words c) h₂ c walk_done.seconds walk_done.second_count (omega (arith, q.room, ground.entries)) (omega (arith, q.short))
        small_c
        (held_same w.words (head_m u w.words c) h₂ walk_done.seconds
        (λ a lo hi. head_away u w.words c a (λ e. omega (arith, ground.entries)) (λ e. omega (arith, ground.entries)))
        walk_done.going.second)

    half_graph : (h : ℕ) (ds : List ℕ) → Headed t h ds → All (Fill.Num ground) ds → graph_at t table pairs h ≡ map pn (reverse ds)
    unfolding graph_at
    half_graph h ds d nums =
        ap (entries t table pairs h 0) d.number ∙ Graphs.held_graph ground pairs t h ds kept nums d.held

    stored :
        rbmg_split_into_two N (graph_at s table pairs graph)
        ≡ ran (record { first_half = graph_at t table pairs u; second_half = graph_at t table pairs h₂ })
    unfolding graph_at
    stored =
        splits_into
        ∙ rw (← half_graph u walk_done.firsts first walk_done.first_nums, ← half_graph h₂ walk_done.seconds second walk_done.second_nums)

    -- every number held is one of the graph's
    held_number :
        (h : ℕ) (ds : List ℕ) → Held t h ds → All (Fill.Num ground) ds → (j : ℕ) → j < length ds →
        (i : ℕ) × (i < m) × (word t (h + 2 + 2 * j) ≡ word s (graph + 2 + 2 * i))
    held_number h [] d a j b = absurd (omega arith)
    held_number h (e ∷ ds) d a j b =
        elim (ℕ_discrete j (length ds)) [
          | yes z ↦
              let x : Fill.Num ground e = a.0 in
              (x.place, x.below, ap (λ (i : ℕ). word t (h + 2 + 2 * i)) z ∙ d.0 ∙ x.is_there)
          | no z ↦ held_number h ds d.2 a.1 j (omega arith)
        ]

    half_numbers : (h : ℕ) (ds : List ℕ) → Headed t h ds → All (Fill.Num ground) ds → NumbersFrom s t graph h
    half_numbers h ds d nums = record { from = λ j b. held_number h ds d.held nums j (omega (arith, d.number)) }

  -- Module 4 of document 01, on the words of a graph of degree 2.
  two_stored : HalvesStored s (t 0) u (u + 4 * k) table graph n width
  two_stored =
      record {
        halves = stored;
        first_base = (first 0).base;
        second_base = (second 0).base;
        first_count = omega (arith, (first 0).number, (walk_done 0).first_count, few 0);
        second_count = omega (arith, (second 0).number, (walk_done 0).second_count, few 0);
        first_numbers = half_numbers 0 u (walk_done 0).firsts (first 0) (walk_done 0).first_nums;
        second_numbers = half_numbers 0 h₂ (walk_done 0).seconds (second 0) (walk_done 0).second_nums;
        above = refl;
        keeps = kept 0;
      }

  -- the words before the circuits, as the model has them
  filled_is : ◌≡◌ {A = Told} (record { words = two_filled_m l sifted; number = sifted.sifted.even }) (w₀ 0)
  filled_is = rw ((Begun.sift q sum).odd, (Begun.sift q sum).even)

  split_two_stored : HalvesStored s (split_two_m l m N s) u (u + 4 * k) table graph n width
  unfolding split_two_m
  split_two_stored =
      subst (λ (x : Told). HalvesStored s (head_m h₂ (head_m u (two_walk_m l m N x).words (two_walk_m l m N x).number) (two_walk_m l m N x).number) u (u + 4 * k) table graph n width)
      (sym filled_is) two_stored

  -- every place that it touches is one
  split_two_fits : TwoSplits l m N s
  split_two_fits =
      record {
        starts = omega (arith, q.room, ground.few);
        sifts =
            record {
              graph = omega (arith, ground.graph, q.room);
              first = omega (arith, ground.entries, q.room);
              second = omega (arith, ground.entries, q.room);
              notes = omega (arith, ground.entries, q.room);
            };
        firsts = subst (λ (x : ℕ). TwoFills l 0 x sifted.words) (sym (Begun.sift q sum).odd) (Begun.filled_first q sum).0;
        seconds = subst (λ (x : ℕ). TwoFills l 1 x (two_fill_m l 0 x sifted.words)) (sym (Begun.sift q sum).odd) (Begun.filled q sum).0;
        walks = subst (TwoWalks l m N) (sym filled_is) (walk_fits 0);
      }

-- ── for the code's proof ──

-- what `split_two` asks, and what its words hold
pub split_two_asks :
    {s : List ℕ} {u table graph n width m : ℕ} {r : Option ℕ} → Splits s u table graph n width →
    (f : Lies u (n * (width + 1)) table graph m (2 * n)) → m ≡ word s (graph + 1) → r ≡ few_sum_m graph m (2 * n) s → r ≡ Some (2 * n) →
    TwoSplits (two_laid u (n * (width + 1)) table graph m (2 * n) f) m (2 * n) s
split_two_asks {s = s} {u = u} {table = table} {graph = graph} {n = n} {width = width} {m = m} q f em er e =
    let sum : copies_sum_m graph m s ≡ 2 * n = few_sum_all graph m (2 * n) s (sym er ∙ e) in
    let k = n * (width + 1) in
    subst (λ (x : ℕ). (f : Lies u k table graph x (2 * n)) → TwoSplits (two_laid u k table graph x (2 * n) f) x (2 * n) s) (sym em)
    (λ f. rw (Begun.same_lies u k table graph (word s (graph + 1)) (2 * n) f (Begun.lies q)) (split_two_fits q (rw em at sum)))
    f

pub split_two_gives :
    {s t : List ℕ} {u table graph n width m : ℕ} {r : Option ℕ} (q : Splits s u table graph n width) (em : m ≡ word s (graph + 1)) →
    r ≡ few_sum_m graph m (2 * n) s → r ≡ Some (2 * n) →
    t ≡ split_two_m (two_laid u (n * (width + 1)) table graph m (2 * n) (Begun.lies_at q em)) m (2 * n) s →
    HalvesStored s t u (u + 4 * (n * (width + 1))) table graph n width
split_two_gives {s = s} {t = t} {u = u} {table = table} {graph = graph} {n = n} {width = width} {m = m} q em er e et =
    let sum : copies_sum_m graph m s ≡ 2 * n = few_sum_all graph m (2 * n) s (sym er ∙ e) in
    let k = n * (width + 1) in
    subst
    (λ (x : ℕ). (f : Lies u k table graph x (2 * n)) → t ≡ split_two_m (two_laid u k table graph x (2 * n) f) x (2 * n) s → HalvesStored s t u (u + 4 * k) table graph n width)
    (sym em)
    (λ f et. rw (et, Begun.same_lies u k table graph (word s (graph + 1)) (2 * n) f (Begun.lies q)) (split_two_stored q (rw em at sum)))
    (Begun.lies_at q em) et
