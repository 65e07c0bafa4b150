-- The pairs of the list, one appointment after the other (`src/from_list.rt`). Assumes nothing.
use Rattle.std.specs.Prelude.{ℕ, ◌+◌, ◌*◌, ◌/◌, ◌<◌, ◌≤◌, ◌≡◌, List, [], ltb, length, take}
use Rattle.words.specs.Basics.{pick}
use Rattle.words.specs.Frames.{ChangesThree}
use Rattle.words.specs.Words.{word, word_limit}
use Rattle.appointments.specs.Appointments.{appts}
use Rattle.multigraph.specs.Places.{size, HasEnds}
use Rattle.regular_graph.specs.Evening.{add_appointments}
use Rattle.list_pairs.specs.Contract.{first_of, second_of, Plain}
use Rattle.list_pairs.specs.Adding.{plain_graph}
use Rattle.list_pairs.specs.Representatives.{Rep}
use Rattle.list_pairs.specs.declared.Bases.{Bases}

-- The pair of appointment i, for which its representative stands at `apair`: that of an earlier one, or the next number.
abbrev pub pair_of : ℕ → ℕ → ℕ → List ℕ → ℕ
pair_of g apair i s =
    pick (ltb (word s (apair + i)) i) (word s (apair + word s (apair + i))) (size s g)

-- The first k appointments have their pairs; the others still have their representatives at `apair`.
pub record Building (list : List ℕ) (at : Bases) (k : ℕ) (s : List ℕ) : Type 0 where
  pub graph : plain_graph s at.ends at.g ≡ add_appointments [] (take k (appts list))
  pub plain : Plain at.ends at.g s
  pub few : size s at.g ≤ k
  pub number_of : (i : ℕ) → i < k → word s (at.apair + i) < size s at.g
  pub ends_of : (i : ℕ) → i < k → HasEnds s at.ends (word s (at.apair + i)) (first_of list i) (second_of list i)
  pub every : (e : ℕ) → e < size s at.g → (i : ℕ) × (i < k) × (word s (at.apair + i) ≡ e)
  pub reps : (i : ℕ) → k ≤ i → i < length list / 2 → Rep list i (word s (at.apair + i))
  pub after_ends : at.ends + 2 * (length list / 2) ≤ at.apair
  pub after_apair : at.apair + length list / 2 ≤ at.g
  pub inside : at.g + 2 + 2 * (length list / 2) ≤ length s
  pub small : at.g + 2 + 2 * (length list / 2) < word_limit
  pub short : length list ≤ 8192

-- below the mark nothing changes but the table of ends, the appointments' pairs and the graph, as long as the list can make them
abbrev pub PairsChange : List ℕ → Bases → ℕ → List ℕ → List ℕ → Type 0
PairsChange list at mark s t =
    ChangesThree at.ends (2 * (length list / 2)) at.apair (length list / 2) at.g (2 + 2 * (length list / 2)) mark s t

-- The first k appointments have their pairs, and nothing else below the mark has changed.
pub record Built (list : List ℕ) (at : Bases) (k : ℕ) (s t : List ℕ) : Type 0 where
  pub building : Building list at k t
  pub changes : (mark : ℕ) → PairsChange list at mark s t
