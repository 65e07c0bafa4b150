-- What `pairs_from_list` requires and what it does. Throughout this crate s are the words before a step and t those
-- after it, and u is the mark: from there on words are free. Assumes nothing.
use Rattle.std.specs.Prelude.{ℕ, ◌+◌, ◌*◌, ◌/◌, ◌%◌, ◌<◌, ◌≤◌, ◌≡◌, List, [], length}
use Rattle.words.specs.Basics.{All}
use Rattle.words.specs.Words.{word, word_limit}
use Rattle.words.specs.Frames.{ChangesThree}
use Rattle.appointments.specs.Appointments.{appts, load}
use Rattle.multigraph.specs.Stored.{graph_at}
use Rattle.multigraph.specs.Places.{size, number, DistinctEnds, HasEnds}
use Rattle.regular_graph.specs.Evening.{add_appointments}
use Rattle.list_pairs.specs.declared.Bases.{Bases}

-- the header is the base, each entry's number is its place, and no two pairs have the same ends
pub record Plain (ends g : ℕ) (s : List ℕ) : Type 0 where
  pub header : word s g ≡ g
  pub numbers : (e : ℕ) → e < size s g → number s g e ≡ e
  pub distinct : DistinctEnds ends (size s g) s

-- the first end of appointment i
abbrev pub first_of : List ℕ → ℕ → ℕ
first_of list i = word list (2 * i)

-- its second end
abbrev pub second_of : List ℕ → ℕ → ℕ
second_of list i = word list (2 * i + 1)

-- The list has passed checks 1 to 6 with d for D. The table of ends, each appointment's pair and the graph lie below the mark u,
-- each with room for as many pairs as there are appointments, and there is room above the mark.
pub record CanPair (list : List ℕ) (p d : ℕ) (at : Bases) (u : ℕ) (s : List ℕ) : Type 0 where
  pub short : length list ≤ 8192
  pub even : length list % 2 ≡ 0
  pub listed : All (λ x. (x.first < p) × (x.second < p)) (appts list)
  pub loads : (v : ℕ) → v < p → load v (appts list) ≤ d
  pub after_ends : at.ends + 2 * (length list / 2) ≤ at.apair
  pub after_apair : at.apair + length list / 2 ≤ at.g
  pub after_graph : at.g + 2 + 2 * (length list / 2) ≤ u
  pub room : u + p + d * p + p ≤ length s
  pub low : u + p + d * p + p < word_limit

-- The graph at `at.g` has the pairs of the list, and at `at.apair` stands the number of each appointment's pair.
pub record Paired (list : List ℕ) (at : Bases) (s : List ℕ) : Type 0 where
  pub graph : (pairs : ℕ) → size s at.g ≤ pairs → graph_at s at.ends pairs at.g ≡ add_appointments [] (appts list)
  pub plain : Plain at.ends at.g s
  pub few : size s at.g ≤ length list / 2
  pub number_of : (i : ℕ) → i < length list / 2 → word s (at.apair + i) < size s at.g
  pub ends_of : (i : ℕ) → i < length list / 2 → HasEnds s at.ends (word s (at.apair + i)) (first_of list i) (second_of list i)
  pub every : (e : ℕ) → e < size s at.g → (i : ℕ) × (i < length list / 2) × (word s (at.apair + i) ≡ e)

-- The pairs of the list are made, and the mark is where it was.
pub record PairsMade (list : List ℕ) (at : Bases) (u : ℕ) (s : List ℕ) (u' : ℕ) (t : List ℕ) : Type 0 where
  pub paired : Paired list at t
  pub mark : u' ≡ u
  pub changes : ChangesThree at.ends (2 * (length list / 2)) at.apair (length list / 2) at.g (2 + 2 * (length list / 2)) u s t
