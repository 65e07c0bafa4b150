-- The functions of circuits, the split of a graph of degree 2, on the list of words, each with the same steps in the same order.
-- Assumes nothing.
use Rattle.std.specs.Prelude.{ℕ, zero, suc, ◌+◌, ◌*◌, ◌-◌, ◌/◌, ◌%◌, ◌<◌, List, Option, None, Some, eqb, ltb}
use Rattle.words.specs.Basics.{pick}
use Rattle.words.specs.Words.{word, put_word, word_limit}
use Rattle.words.specs.Sides.{mate}
use Rattle.circuits.specs.declared.Two.{Two}
use Rattle.circuits.specs.declared.Sifted.{Sifted}
use Rattle.euler.specs.Entries.{push_m, many_m, head_m}

-- the words, and a number
pub record Told : Type 0 where
  pub words : List ℕ
  pub number : ℕ

-- the words, and how many entries were sifted out as even and as odd
pub record ApartSoFar : Type 0 where
  pub words : List ℕ
  pub sifted : Sifted

-- one copy of the pair e at the place `at` of the half h
abbrev pub push_one_m : ℕ → List ℕ → ℕ → ℕ → List ℕ
push_one_m h s at e = push_m h s at e 1

-- ── even and odd entries ──

-- no half-edge yet, at any party below v
unfoldable pub two_start_m : Two → ℕ → List ℕ → List ℕ
two_start_m l zero s = s
two_start_m l (suc v) s = put_word (put_word (two_start_m l v s) (l.b + 2 * v) 0) (l.b + 2 * v + 1) 0

-- Entry i, written to both halves and noted in any case; what doesn't count is written over by the next.
unfoldable pub two_sift_m : Two → ApartSoFar → ℕ → ApartSoFar
two_sift_m l t i =
    let s = t.words in
    let n = t.sifted in
    let e = word s (l.graph.g + 2 + 2 * i) in
    let c = word s (l.graph.g + 3 + 2 * i) in
    record {
      words = put_word (push_one_m l.second (push_one_m l.first s n.even e) n.even e) (l.notes + n.odd) e;
      sifted = record { even = n.even + many_m c; odd = n.odd + c % 2 };
    }

-- the first i entries, in order
unfoldable pub two_sift_all_m : Two → ℕ → List ℕ → ApartSoFar
two_sift_all_m l zero s = record { words = s; sifted = record { even = 0; odd = 0 } }
two_sift_all_m l (suc i) s = two_sift_m l (two_sift_all_m l i s) i

-- ── the half-edges of each party ──

-- the half-edge, on one side, of the pair noted at the place j
abbrev pub half_edge_m : Two → ℕ → List ℕ → ℕ → ℕ
half_edge_m l side s j = 2 * word s (l.notes + j) + side

-- its party remembers it, plus 1, and adds it to the sum of its half-edges
unfoldable pub two_note_m : Two → ℕ → List ℕ → ℕ → List ℕ
two_note_m l side s j =
    let y = half_edge_m l side s j in
    let z = l.b + 2 * word s (l.graph.ends + y) in
    put_word (put_word s z (y + 1)) (z + 1) (word s (z + 1) + y)

-- those noted below the place j, from the last down
unfoldable pub two_fill_m : Two → ℕ → ℕ → List ℕ → List ℕ
two_fill_m l side zero s = s
two_fill_m l side (suc j) s = two_fill_m l side j (two_note_m l side s j)

-- ── the circuits ──

-- The pair of the half-edge y goes to the half h; the party to which it leads is visited, and its other half-edge is next.
unfoldable pub two_step_m : Two → ℕ → List ℕ → ℕ → ℕ → Told
two_step_m l h s at y =
    let t = push_one_m h s at (y / 2) in
    let z = l.b + 2 * word t (l.graph.ends + mate y) in
    record {
      words = put_word t z 0;
      number = (word t (z + 1) + word_limit - mate y) % word_limit;
    }

-- two steps, one for each half
unfoldable pub two_pair_m : Two → List ℕ → ℕ → ℕ → Told
two_pair_m l s at y = let p = two_step_m l l.first s at y in two_step_m l l.second p.words at p.number

-- until back at the half-edge y₀; the number is how many pairs each half has
unfoldable pub two_circuit_m : Two → ℕ → ℕ → List ℕ → ℕ → ℕ → Told
two_circuit_m l y₀ zero s at y = record { words = s; number = at }
two_circuit_m l y₀ (suc n) s at y =
    let q = two_pair_m l s at y in
    pick (eqb q.number y₀) (record { words = q.words; number = at + 1 }) (two_circuit_m l y₀ n q.words (at + 1) q.number)

-- the circuit from the party v, unless it has no pairs or was visited
unfoldable pub two_from_m : Two → ℕ → Told → ℕ → Told
two_from_m l m t v =
    let y = word t.words (l.b + 2 * v) in
    pick (eqb y 0) t (two_circuit_m l (y - 1) m t.words t.number (y - 1))

-- the circuits from the parties below v
unfoldable pub two_walk_m : Two → ℕ → ℕ → Told → Told
two_walk_m l m zero t = t
two_walk_m l m (suc v) t = two_from_m l m (two_walk_m l m v t) v

-- ── the split ──

-- each party's half-edges, from both sides of the noted pairs
abbrev pub two_filled_m : Two → ApartSoFar → List ℕ
two_filled_m l t = two_fill_m l 1 t.sifted.odd (two_fill_m l 0 t.sifted.odd t.words)

-- both halves of a graph of degree 2
unfoldable pub split_two_m : Two → ℕ → ℕ → List ℕ → List ℕ
split_two_m l m parties s =
    let t = two_sift_all_m l m (two_start_m l parties s) in
    let w = two_walk_m l m parties (record { words = two_filled_m l t; number = t.sifted.even }) in
    head_m l.second (head_m l.first w.words w.number) w.number

-- the copies of the first m entries of the graph at g
unfoldable pub copies_sum_m : ℕ → ℕ → List ℕ → ℕ
copies_sum_m g zero s = 0
copies_sum_m g (suc i) s = copies_sum_m g i s + word s (g + 3 + 2 * i)

-- those of all m entries, if they are no more than the parties
abbrev pub few_sum_m : ℕ → ℕ → ℕ → List ℕ → Option ℕ
few_sum_m g m parties s = pick (ltb parties m) None (Some (copies_sum_m g m s))

-- bases and sizes that leave room for sums of them, for a mark u, k = n·(width + 1), and a graph of m entries on N parties
pub record Lies (u k ends g m N : ℕ) : Type 0 where
  pub graph : g < word_limit
  pub entries : m < word_limit
  pub parties : N < word_limit
  pub table : ends < word_limit
  pub first : u < word_limit
  pub second : u + 2 * k < word_limit
  pub marks : u + 4 * k < word_limit
  pub notes : u + 8 * k < word_limit

-- where its words lie
abbrev pub two_laid : (u k ends g m N : ℕ) → Lies u k ends g m N → Two
two_laid u k ends g m N lies =
    record {
      graph =
          record {
            g = g;
            m = m;
            parties = N;
            ends = ends;
            graph_small = lies.graph;
            entries_few = lies.entries;
            parties_few = lies.parties;
            ends_small = lies.table;
          };
      first = u;
      second = u + 2 * k;
      b = u + 4 * k;
      notes = u + 8 * k;
      first_small = lies.first;
      second_small = lies.second;
      marks_small = lies.marks;
      notes_small = lies.notes;
    }
