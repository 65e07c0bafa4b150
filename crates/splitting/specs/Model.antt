-- The functions of splitting on the list of words, each with the same steps in the same order. Assumes nothing.
use Rattle.std.specs.Prelude.{ℕ, zero, suc, ◌+◌, ◌*◌, ◌-◌, ◌/◌, ◌<◌, List, eqb}
use Rattle.words.specs.Basics.{pick}
use Rattle.words.specs.Words.{word, word_limit}
use Rattle.euler.specs.Entries.{push_m, many_m, head_m}
use Rattle.rings.specs.declared.Rings.{Rings}
use Rattle.rings.specs.Model.{Counted, copies_m, fill_m}
use Rattle.walking.specs.Model.{Stage, walk_m, begun}

-- ── the halves ──

-- 1 where the mark says that the entry is dealt to this half
abbrev pub more_m : ℕ → ℕ → ℕ
more_m mark parity = pick (eqb mark (2 + parity)) 1 0

-- written in any case, and counted where it has 2 copies or more
unfoldable pub entry_m : Rings → ℕ → ℕ → Counted → ℕ → Counted
entry_m l h parity t i =
    let s = t.words in
    let c = copies_m l s i in
    record {
      words =
          push_m h s t.count (word s (l.graph.g + 2 + 2 * i)) (c / 2 + more_m (word s (l.b + 8 * i + 2)) parity);
      count = t.count + many_m c;
    }

-- the first i entries, in order
unfoldable pub entries_m : Rings → ℕ → ℕ → ℕ → List ℕ → Counted
entries_m l h parity zero s = record { words = s; count = 0 }
entries_m l h parity (suc i) s = entry_m l h parity (entries_m l h parity i s) i

-- written in any case, and counted where it has one copy
unfoldable pub single_m : Rings → ℕ → Counted → ℕ → Counted
single_m l h t j =
    let s = t.words in
    let i = word s (l.col + 2 * j + 1) in
    record {
      words = push_m h s t.count (word s (l.graph.g + 2 + 2 * i)) 1;
      count = t.count + (1 - many_m (copies_m l s i));
    }

-- the first k places of this parity, in the order of writing
unfoldable pub singles_m : Rings → ℕ → ℕ → ℕ → Counted → Counted
singles_m l h parity zero t = t
singles_m l h parity (suc k) t = single_m l h (singles_m l h parity k t) (parity + 2 * k)

-- one half, whole
unfoldable pub half_m : Rings → ℕ → ℕ → ℕ → ℕ → List ℕ → List ℕ
half_m l h parity m written s =
    let t = singles_m l h parity ((written + 1 - parity) / 2) (entries_m l h parity m s) in
    head_m h t.words t.count

-- ── the split ──

-- bases and sizes that leave room for sums of them, for a mark u, k = n·(width + 1), and a graph of m entries on N parties
pub record Fits (u k ends g m N : ℕ) : Type 0 where
  pub graph : g < word_limit
  pub entries : m < word_limit
  pub few : N < word_limit
  pub table : ends < word_limit
  pub rings : u + 2 * k + 2 * k < word_limit
  pub own_nodes : 4 * k < 8589934592
  pub columns : u + 2 * k + 2 * k + 10 * k < word_limit

-- where its words lie
abbrev pub laid : (u k ends g m N : ℕ) → Fits u k ends g m N → Rings
laid u k ends g m N fits =
    record {
      graph =
          record {
            g = g;
            m = m;
            parties = N;
            ends = ends;
            graph_small = fits.graph;
            entries_few = fits.entries;
            parties_few = fits.few;
            ends_small = fits.table;
          };
      b = u + 2 * k + 2 * k;
      top = 4 * k;
      col = u + 2 * k + 2 * k + 10 * k;
      rings_small = fits.rings;
      own_nodes_small = fits.own_nodes;
      columns_small = fits.columns;
    }

-- the words and the walk once it has ended
abbrev pub walked : Rings → ℕ → ℕ → List ℕ → Stage
walked l m parties s = walk_m l parties (2 * m + parties) (begun (fill_m l m parties s))

-- both halves of a graph, each of the places of its parity
unfoldable pub split_m : Rings → ℕ → ℕ → ℕ → ℕ → ℕ → ℕ → List ℕ → List ℕ
split_m l h₁ parity₁ h₂ parity₂ m parties s =
    let t = walked l m parties s in
    half_m l h₂ parity₂ m t.walk.written (half_m l h₁ parity₁ m t.walk.written t.words)
