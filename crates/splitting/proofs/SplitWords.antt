-- The words after a split hold the halves of the definition, pair for pair and copy for copy. Assumes nothing.
use Prim.Native.Nat.{ℕ, ◌+◌, ◌*◌, ◌≤◌, ◌<◌}
use mathlib.Core.Path.{◌≡◌, refl, sym, ◌∙◌, ap, subst}
use mathlib.Core.Bool.{Bool, true, false}
use mathlib.Core.List.{List, [], map, reverse, append-nil}
use native.Mathlib.Omega.{arith}
use native.Mathlib.Decide.{dec_lt}
use native.Mathlib.Nat.{mul-le-mul_left, mul-le-mul_right}
use lib.Dec.{leb}
use lib.ListN.{length}
use Rattle.words.specs.Basics.{pick, total, count, ran}
use Rattle.words.specs.Words.{word}
use Rattle.words.specs.Frames.{Keeps}
use Rattle.words.proofs.Sums.{total_reverse}
use Rattle.words.proofs.Frames.{keeps_less, keeps_trans}
use Rattle.multigraph.specs.Multigraph.{Pair, Graph}
use Rattle.multigraph.specs.Stored.{entry, entries, graph_at}
use Rattle.rings.specs.declared.Rings.{Rings}
use Rattle.euler.specs.Split.{add_halves, rest, every_other, add_pairs, rbmg_split_into_two}
use Rattle.euler.specs.Room.{Splits, HalvesStored}
use Rattle.walking.specs.Bounds.{Walks}
use Rattle.splitting.specs.Bounds.{SplitFits}
use Rattle.rings.specs.Model.{fill_m}
use Rattle.std.proofs.Props.{props}
use Rattle.walking.specs.Model.{Stage}
use Rattle.splitting.specs.Model.{walked, half_m, Fits, laid, split_m}
use Rattle.euler.proofs.Taken.{ends}
use Rattle.euler.proofs.Straight.{along, along_total, SameTour, same_tour, split_along}
use Rattle.euler.proofs.Places.{keep}
use Rattle.rings.proofs.Bases.{Laid}
use Rattle.rings.proofs.Filling.{filled, fills_on}
use Rattle.rings.proofs.Columns.{column, column_same, mark_of}
use Rattle.walking.proofs.Stepping.{WalkedAll, walked_all, walks_on}
use Rattle.splitting.proofs.Parities.{dealt, dealt_all, dealt_count, every_other_dealt}
use Rattle.euler.proofs.HalfLaws.{ApartAt, bigs, one, halves_are, half_of, deal_all}
use Rattle.euler.proofs.StoredGraphs.{Only, SameEntry, entries_same}
use Rattle.splitting.proofs.Pushes.{Ready}
use Rattle.splitting.proofs.HalfWords.{HalfDone, half_done, half_fits}
use Rattle.euler.proofs.Grounds.{upto_entries, few_pairs, apart_at, ends_fit, rest_odd, rest_slant, rest_evens, places_once}

-- bases and sizes leave room for sums of them, which is so in one way
same_fits : (u k ends g m N : ℕ) (x y : Fits u k ends g m N) → x ≡ y
same_fits u k ends g m N = hlevel props

pub fits : {s : List ℕ} {u ends g n width : ℕ} → Splits s u ends g n width → Fits u (n * (width + 1)) ends g (word s (g + 1)) (2 * n)
fits {n = n} {width = width} q =
    let one : 1 * (width + 1) ≤ n * (width + 1) = mul-le-mul_right (width + 1) q.some in
    record {
      graph = omega (arith, q.graph, q.room, q.short);
      entries = omega (arith, q.graph, q.room, q.short);
      few = omega (arith, q.few);
      table = omega (arith, q.base, q.room, q.short);
      rings = omega (arith, q.room, q.short);
      own_nodes = omega (arith, q.size);
      columns = omega (arith, q.room, q.short);
    }

module _ {s : List ℕ} {u ends g n width : ℕ} (q : Splits s u ends g n width) (fit : (i : ℕ) → word s i < 4294967296) where
  abbrev N : ℕ
  N = 2 * n

  abbrev k : ℕ
  k = n * (width + 1)

  abbrev m : ℕ
  m = word s (g + 1)

  abbrev l : Rings
  l = laid u k ends g m N (fits q)

  abbrev h₂ : ℕ
  h₂ = u + 2 * k

  -- ── room ──

  -- where everything lies
  pub grounds : Laid l N m k s
  unfolding graph_at
  grounds =
      let kk : n * (width + 1) ≡ n * width + n = omega arith in
      let two : n * 2 ≤ n * width = mul-le-mul_left n q.two in
      record {
        place = refl;
        column = refl;
        room = omega (arith, q.room);
        small = q.short;
        parties = omega arith;
        few = q.few;
        entries = omega (arith, q.pairs, q.some);
        short = omega (arith, q.pairs, q.size);
        graph = omega (arith, q.graph);
        table = λ i b. omega (arith, q.table i b);
        fit = ends_fit q;
      }

  module _ (pairs : ℕ) where
    -- the graph's entries
    abbrev A : ℕ → Pair
    A i = entry s ends pairs g i

    abbrev flag : ℕ → ℕ
    flag i = pick (leb pairs (word s (g + 2 + 2 * i))) 1 0

    abbrev G : Graph
    G = entries s ends pairs g 0 m

    abbrev r : Graph
    r = rest G

    apart : ApartAt A m
    apart = apart_at q pairs

    tours : SameTour N r
    tours =
        same_tour q.side r (rest_slant q pairs)
        (rest_evens q pairs) N

    -- the walk on words, over filled rings
    abbrev ended : Stage
    ended = walked l m N s

    walk_done :
        WalkedAll grounds flag r q.side (rest_slant q pairs)
        (rest_evens q pairs) ended
    walk_done =
        walked_all grounds flag r q.side (rest_slant q pairs)
        (rest_evens q pairs) (fill_m l m N s) (filled grounds flag)
        (rest_odd q pairs)

    walks : Walks l N (2 * m + N) (fill_m l m N s)
    walks =
        walks_on grounds flag r q.side (rest_slant q pairs)
        (rest_evens q pairs) (fill_m l m N s) (2 * m + N) (filled grounds flag)
        (rest_odd q pairs)

    abbrev ws : List ℕ
    ws = walk_done.ws

    -- what is written is along the cycles
    along_is : along tours.tour.cycles ≡ reverse (map (one A) ws)
    along_is = sym tours.written ∙ ap reverse (sym walk_done.same)

    written_few : (f : Pair → ℕ) → total f (map (one A) ws) ≤ total f r
    written_few f =
        omega (
          arith,
          total_reverse f (map (one A) ws),
          ap (total f) along_is,
          along_total f tours.tour.cycles,
          tours.so_far.toured.whole f,
        )

    once : (i : ℕ) → count i ws ≤ 1
    once = places_once q pairs ws walk_done.places written_few

    -- ── the definition's halves ──

    -- both halves before the rest is dealt
    undealt : add_halves [] G ≡ half_of A m apart []
    unfolding keep count
    undealt =
        ap (add_halves []) (sym (upto_entries s ends g pairs m))
        ∙ halves_are A m apart m (omega arith)
        ∙ sym (append-nil (bigs A (λ i. 0) m))

    dealt_half : (b : Bool) → add_pairs (add_halves [] G) (every_other b (along tours.tour.cycles)) ≡ half_of A m apart (dealt (pick b 0 1) ws)
    dealt_half b =
        let cs : List ℕ = dealt (pick b 0 1) ws in
        ap (λ (x : List Pair). add_pairs (add_halves [] G) (every_other b x)) along_is
        ∙ ap (add_pairs (add_halves [] G)) (every_other_dealt (one A) b ws)
        ∙ ap (λ (x : Graph). add_pairs x (map (one A) cs)) undealt
        ∙ deal_all A m apart cs [] tt (dealt_all (λ i. i < m) (pick b 0 1) ws walk_done.places)
        (λ i. omega (arith, dealt_count i (pick b 0 1) ws, once i))

    splits_into :
        rbmg_split_into_two N G
        ≡ ran (record {
          first_half = half_of A m apart (dealt 0 ws);
          second_half = half_of A m apart (dealt 1 ws);
        })
    splits_into = split_along N G tours.tour tours.so_far ∙ rw (dealt_half true, dealt_half false)

    -- ── the words ──

    abbrev wr : ℕ
    wr = ended.walk.written

    abbrev s₂ : List ℕ
    s₂ = ended.words

    abbrev s₃ : List ℕ
    s₃ = half_m l u 0 m wr s₂

    abbrev s₄ : List ℕ
    s₄ = half_m l h₂ 1 m wr s₃

    less : m + 2 ≤ k
    less =
        let kk : n * (width + 1) ≡ n * width + n = omega arith in
        elim (dec_lt 1 n) [
          | yes p ↦ omega (arith, q.pairs)
          | no p ↦
              let one' : n ≡ 1 = omega (arith, q.some) in
              let all : n * (width + 1) ≡ 1 * (width + 1) = ap (λ (x : ℕ). x * (width + 1)) one' in
              omega (arith, few_pairs q (omega arith), q.two)
        ]

    -- where a half begins at h, over the words t
    ready :
        (h : ℕ) (t : List ℕ) → u ≤ h → h + 2 * k ≤ l.b → Keeps u s t → ((i : ℕ) → i < m → word t (l.b + 8 * i + 2) ≡ mark_of i ws) →
        column l false t wr ≡ ws → Ready l m k u h wr s t ws
    ready h t lo hi kept marks written =
        let len : length t ≡ length s = kept.len in
        record {
          graph = q.graph;
          table = q.table;
          fits = λ i b. fit (g + 3 + 2 * i);
          keeps = kept;
          marks = marks;
          written = written;
          places = walk_done.places;
          once = once;
          less = less;
          above = lo;
          under = hi;
          behind = omega arith;
          inside = omega (arith, q.room);
          marks_inside = omega (arith, q.room, less);
          column_inside = omega (arith, q.room, less, walk_done.few);
          small = omega (arith, q.short);
        }

    ready_first : Ready l m k u u wr s s₂ ws
    ready_first =
        ready u s₂ (omega arith) (omega arith) (keeps_less u (omega arith) walk_done.keeps) walk_done.marks walk_done.written

    first_done : HalfDone pairs 0 ready_first (omega arith) apart s₃ (half_of A m apart (dealt 0 ws))
    first_done = half_done pairs 0 ready_first (omega arith) apart

    ready_second : Ready l m k u h₂ wr s s₃ ws
    ready_second =
        let o : Only u (2 * k) s₂ s₃ = first_done.only in
        ready h₂ s₃ (omega arith) (omega arith) (keeps_trans ready_first.keeps (record { len = o.len; same = o.under }))
        (λ i b. o.over (l.b + 8 * i + 2) (omega arith) ∙ walk_done.marks i b)
        (column_same l false s₂ s₃ wr (λ j b. o.over (l.col + 2 * j + 1) (omega arith)) ∙ walk_done.written)

    second_done : HalfDone pairs 1 ready_second (omega arith) apart s₄ (half_of A m apart (dealt 1 ws))
    second_done = half_done pairs 1 ready_second (omega arith) apart

    -- the second half leaves the first
    first_word : (a : ℕ) → a < h₂ → word s₄ a ≡ word s₃ a
    first_word a b = second_done.only.under a b

    first_entry : (j : ℕ) → j < word s₃ (u + 1) → SameEntry ends u j s₃ s₄
    first_entry j b =
        let p : (i : ℕ) × (i < m) × (word s₃ (u + 2 + 2 * j) ≡ word s (g + 2 + 2 * i)) = first_done.numbers j b in
        let tb : ends + 2 * word s₃ (u + 2 + 2 * j) + 1 < u = rw p.2 (q.table p.0 p.1) in
        let few : word s₃ (u + 1) ≤ m = first_done.count_le in
        record {
          number = first_word (u + 2 + 2 * j) (omega (arith, less));
          copies = first_word (u + 3 + 2 * j) (omega (arith, less));
          first = first_word (ends + 2 * word s₃ (u + 2 + 2 * j)) (omega arith);
          second = first_word (ends + 2 * word s₃ (u + 2 + 2 * j) + 1) (omega arith);
        }

    first_count_is : word s₄ (u + 1) ≡ word s₃ (u + 1)
    first_count_is = first_word (u + 1) (omega (arith, less))

    first_graph : graph_at s₄ ends pairs u ≡ half_of A m apart (dealt 0 ws)
    unfolding graph_at
    first_graph =
        ap (entries s₄ ends pairs u 0) first_count_is
        ∙ entries_same ends pairs u 0 (word s₃ (u + 1)) s₃ s₄ (λ j lo hi. first_entry j (omega arith))
        ∙ first_done.graph

    -- the words hold the halves
    pub stored :
        rbmg_split_into_two N (graph_at s ends pairs g)
        ≡ ran (record { first_half = graph_at s₄ ends pairs u; second_half = graph_at s₄ ends pairs h₂ })
    unfolding graph_at
    stored = splits_into ∙ rw (← first_graph, ← second_done.graph)

  -- Module 4 of document 01, on words.
  split_stored : HalvesStored s (split_m l u 0 h₂ 1 m N s) u (u + 4 * k) ends g n width
  unfolding split_m
  split_stored =
      record {
        halves = stored;
        first_base = first_word 0 u (omega (arith, less 0)) ∙ (first_done 0).header;
        second_base = (second_done 0).header;
        first_count = rw (first_count_is 0) (first_done 0).count_le;
        second_count = (second_done 0).count_le;
        first_numbers =
            record {
              from = λ j b.
                  let c : j < word (s₃ 0) (u + 1) = rw (first_count_is 0) at b in
                  let p : (i : ℕ) × (i < m) × (word (s₃ 0) (u + 2 + 2 * j) ≡ word s (g + 2 + 2 * i)) = (first_done 0).numbers j c in
                  (p.0, p.1, (first_entry 0 j c).number ∙ p.2);
            };
        second_numbers = record { from = (second_done 0).numbers };
        above = refl;
        keeps =
            keeps_trans (ready_second 0).keeps
            (record { len = (second_done 0).only.len; same = λ i b. (second_done 0).only.under i (omega arith) });
      }

  -- every place that it touches is one
  split_fits : SplitFits l u 0 h₂ 1 m N s
  split_fits =
      record {
        fills = fills_on grounds (λ i. 0);
        walks = walks 0;
        first = half_fits 0 0 (ready_first 0) (omega arith) (apart 0);
        second = half_fits 0 1 (ready_second 0) (omega arith) (apart 0);
      }

-- ── for the code's proof ──

-- a pair's number fits beside a party's
pub width_small : (s : List ℕ) (u ends g n width : ℕ) → Splits s u ends g n width → width + 1 ≤ 2097152
width_small s u ends g n width q =
    let one : 1 * (width + 1) ≤ n * (width + 1) = mul-le-mul_right (width + 1) q.some in
    omega (arith, q.size)

-- what `split_words` asks, and what its words hold
pub split_asks :
    {s : List ℕ} {u ends g n width m : ℕ} → Splits s u ends g n width → (f : Fits u (n * (width + 1)) ends g m (2 * n)) →
    ((i : ℕ) → word s i < 4294967296) → m ≡ word s (g + 1) →
    SplitFits (laid u (n * (width + 1)) ends g m (2 * n) f) u 0 (u + 2 * (n * (width + 1))) 1 m (2 * n) s
split_asks {s = s} {u = u} {ends = ends} {g = g} {n = n} {width = width} q f words em =
    let k = n * (width + 1) in
    subst (λ (x : ℕ). (f : Fits u k ends g x (2 * n)) → SplitFits (laid u k ends g x (2 * n) f) u 0 (u + 2 * k) 1 x (2 * n) s) (sym em)
    (λ f. rw (same_fits u k ends g (word s (g + 1)) (2 * n) f (fits q)) (split_fits q words))
    f

pub split_gives :
    {s t : List ℕ} {u ends g n width m : ℕ} → Splits s u ends g n width → (f : Fits u (n * (width + 1)) ends g m (2 * n)) →
    ((i : ℕ) → word s i < 4294967296) → m ≡ word s (g + 1) →
    t ≡ split_m (laid u (n * (width + 1)) ends g m (2 * n) f) u 0 (u + 2 * (n * (width + 1))) 1 m (2 * n) s →
    HalvesStored s t u (u + 4 * (n * (width + 1))) ends g n width
split_gives {s = s} {t = t} {u = u} {ends = ends} {g = g} {n = n} {width = width} q f words em et =
    let k = n * (width + 1) in
    subst
    (λ (x : ℕ). (f : Fits u k ends g x (2 * n)) → t ≡ split_m (laid u k ends g x (2 * n) f) u 0 (u + 2 * k) 1 x (2 * n) s → HalvesStored s t u (u + 4 * k) ends g n width)
    (sym em)
    (λ f et. rw (et, same_fits u k ends g (word s (g + 1)) (2 * n) f (fits q)) (split_stored q words))
    f et
