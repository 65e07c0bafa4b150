-- What `pad_sides` and `even_out` require and what they do. Throughout this crate s are the words before a step and t those
-- after it, and u is the mark: from there on words are free. Assumes nothing.
use Rattle.std.specs.Prelude.{ℕ, ◌+◌, ◌*◌, ◌/◌, ◌%◌, ◌<◌, ◌≤◌, max, ◌≡◌, List, length}
use Rattle.words.specs.Basics.{All, ran}
use Rattle.words.specs.Words.{word, region, word_limit}
use Rattle.words.specs.Frames.{Changes, ChangesThree}
use Rattle.appointments.specs.Appointments.{appts, load}
use Rattle.multigraph.specs.Multigraph.{pair}
use Rattle.multigraph.specs.Regular.{Across, Partition}
use Rattle.multigraph.specs.Stored.{graph_at}
use Rattle.multigraph.specs.Places.{size, copies_of, HasEnds}
use Rattle.regular_graph.specs.Evening.{padded, even_out}
use Rattle.list_pairs.specs.declared.Bases.{Bases}
use Rattle.list_pairs.specs.Contract.{Plain, first_of, second_of, Paired}

-- ── `pad_sides` ──

-- l parties stand at `left` and r at `right`; each side has room for as many as the longer one.
pub record CanPad (p left l right r : ℕ) (s : List ℕ) : Type 0 where
  pub few : p + max l r ≤ word_limit
  pub before_right : left + max l r ≤ right
  pub room : right + max l r ≤ length s
  pub small : right + max l r ≤ word_limit

-- Both sides now have n parties, the longer one's number: new ones, numbered on from p, come after those of the shorter side.
pub record SidesPadded (p left l right r n : ℕ) (s t : List ℕ) : Type 0 where
  pub longer : n ≡ max l r
  pub lefts : region t left n ≡ padded p n (region s left l)
  pub rights : region t right n ≡ padded p n (region s right r)
  pub changes : Changes left n right n s t

-- ── `even_out` ──

-- The pairs of the list stand at `at.g`; n parties on each side stand at `at.left` and at `at.right`, below the table of ends, and the
-- appointments go across. The table and the graph have room for n·(d + 1) pairs, and there is room above the mark u.
pub record CanEven (list : List ℕ) (d n : ℕ) (at : Bases) (u : ℕ) (s : List ℕ) : Type 0 where
  pub short : length list ≤ 8192
  pub even : length list % 2 ≡ 0
  pub paired : Paired list at s
  pub side : ℕ → ℕ
  pub partition : Partition (n + n) side (region s at.left n) (region s at.right n)
  pub crosses : All (λ x. Across (n + n) side (pair x.first x.second 1 0)) (appts list)
  pub loads : (v : ℕ) → v < n + n → load v (appts list) ≤ d
  pub few : d < 2147483648
  pub after_left : at.left + n ≤ at.ends
  pub after_right : at.right + n ≤ at.ends
  pub after_ends : at.ends + 2 * (n * d + n) ≤ at.apair
  pub after_apair : at.apair + length list / 2 ≤ at.g
  pub after_graph : at.g + 2 + 2 * (n * d + n) ≤ u
  pub room : u + (n + n) + d * (n + n) ≤ length s
  pub low : u + (n + n) + d * (n + n) < word_limit

-- The graph at `at.g` is evened out; no pair has more than d copies, and each appointment's pair is the one that it was.
pub record EvenedOut (list : List ℕ) (d n : ℕ) (at : Bases) (u : ℕ) (s : List ℕ) (u' : ℕ) (t : List ℕ) : Type 0 where
  pub graph :
      (pairs : ℕ) → size t at.g ≤ pairs →
      even_out d (graph_at s at.ends pairs at.g) (region s at.left n) (region s at.right n) ≡ ran (graph_at t at.ends pairs at.g)
  pub plain : Plain at.ends at.g t
  pub grown : size s at.g ≤ size t at.g
  pub few : size t at.g ≤ n * d
  pub copies : (e : ℕ) → e < size t at.g → copies_of t at.g e ≤ d
  pub number_of : (i : ℕ) → i < length list / 2 → word t (at.apair + i) < size t at.g
  pub ends_of : (i : ℕ) → i < length list / 2 → HasEnds t at.ends (word t (at.apair + i)) (first_of list i) (second_of list i)
  pub mark : u' ≡ u
  pub changes : ChangesThree at.ends (2 * (n * d + n)) at.g (2 + 2 * (n * d + n)) u 0 u s t
