-- What the steps from a list on two sides to its slots ask and do: where things lie in scratch, and what each step hands to the next.
-- Assumes nothing.
use Rattle.std.specs.Prelude.{ℕ, ◌+◌, ◌*◌, ◌-◌, ◌/◌, ◌<◌, ◌≤◌, max, ◌≡◌, List, [], length}
use Rattle.words.specs.Basics.{ran}
use Rattle.words.specs.Words.{word, region}
use Rattle.appointments.specs.Appointments.{appts, largest_load}
use Rattle.appointments.specs.Answers.{over}
use Rattle.appointments.specs.Checks.{passed, checks}
use Rattle.appointments.specs.TwoSides.{TwoSides}
use Rattle.multigraph.specs.Stored.{graph_at}
use Rattle.multigraph.specs.Places.{size, HasEnds}
use Rattle.matching.specs.Searched.{lefts, rights}
use Rattle.matching.specs.declared.Table.{Table}
use Rattle.edge_color.specs.Room.{ColorFits}
use Rattle.regular_graph.specs.Evening.{add_appointments, padded, even_out}
use Rattle.list_pairs.specs.Contract.{first_of, second_of}
use Rattle.given_partition.specs.GivenPartition.{bipartite_edge_color_given_partition}

-- ── where things lie ──
--
-- Scratch is counted in units of q = P·(D + 1) words, of which W has 128: the left parties, the right ones and the diagonal's
-- numbers in the first three, then the ends of the pairs, the map of places, each appointment's pair, the matchings, the graph.
-- Above all this is the first mark.

abbrev pub ends_at : ℕ → ℕ
ends_at q = 3 * q

abbrev pub places_at : ℕ → ℕ
places_at q = 7 * q

abbrev pub apair_at : ℕ → ℕ
apair_at q = 9 * q

abbrev pub out_at : ℕ → ℕ
out_at q = 10 * q

abbrev pub graph_base : ℕ → ℕ
graph_base q = 11 * q

abbrev pub first_mark : ℕ → ℕ
first_mark q = 15 * q

-- the table of ends, for so many pairs
abbrev pub table : ℕ → ℕ → ℕ → Table
table P q pairs = record { ends = ends_at q; places = places_at q; diag = 2 * P; pairs = pairs }

-- ── what the steps hand on ──

-- The list has passed checks 1 to 8, D is its largest load, and W words are lent.
pub record Ready (P D q : ℕ) (list s : List ℕ) : Type 0 where
  pub checked : checks P list (length (appts list)) (length s) ≡ passed
  pub largest : D ≡ largest_load P (appts list)
  pub unit : q ≡ P * (D + 1)
  pub whole : length s ≡ 128 * q

-- The sides as `two_color` writes them: l parties on the left, from word 0 on, and the others on the right, from word P on.
abbrev pub left_side : List ℕ → ℕ → List ℕ
left_side s l = region s 0 l

abbrev pub right_side : List ℕ → ℕ → ℕ → List ℕ
right_side s P l = region s P (P - l)

-- Such a list, on two sides: no appointment is between two parties of one.
pub record Sided (P D q l : ℕ) (list s : List ℕ) : Type 0 where
  pub ready : Ready P D q list s
  pub some : 0 < P
  pub few : l ≤ P
  pub side : ℕ → ℕ
  pub two : TwoSides P (appts list) side (left_side s l) (right_side s P l)

-- The graph of a list on these sides is evened out and can be coloured: n parties a side, and the number of each appointment's pair.
pub record Prepared (P D q n : ℕ) (list left right s : List ℕ) : Type 0 where
  pub ready : Ready P D q list s
  pub longer : n ≡ max (length left) (length right)
  pub evened :
      even_out D (add_appointments [] (appts list)) (padded P n left) (padded P n right)
      ≡ ran (graph_at s (ends_at q) (size s (graph_base q)) (graph_base q))
  pub lefts_are : lefts (table P q (size s (graph_base q))) n s ≡ padded P n left
  pub rights_are : rights (table P q (size s (graph_base q))) n s ≡ padded P n right
  pub fits : ColorFits (table P q (size s (graph_base q))) s (first_mark q) (graph_base q) n D (out_at q)
  pub number_of : (i : ℕ) → i < length list / 2 → word s (apair_at q + i) < size s (graph_base q)
  pub ends_of :
      (i : ℕ) → i < length list / 2 →
      HasEnds s (ends_at q) (word s (apair_at q + i)) (first_of list i) (second_of list i)

-- The slots of a list on the sides that s has stand first in the slot buffer; later entries stay. Scratch is as long as it was.
pub record SlotsPlanned (P l : ℕ) (list slots slots' s t : List ℕ) : Type 0 where
  pub slots_of : List ℕ
  pub found : bipartite_edge_color_given_partition P (appts list) (left_side s l) (right_side s P l) ≡ ran slots_of
  pub held : slots' ≡ over slots_of slots
  pub len : length t ≡ length s
