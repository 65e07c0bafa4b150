-- What the code of `two_color` requires, and what it does. Assumes nothing.
use Rattle.std.specs.Prelude.{ℕ, Option, Some, None, ◌+◌, ◌*◌, ◌-◌, ◌<◌, ◌≤◌, ◌≡◌, List, length}
use Rattle.words.specs.Basics.{All}
use Rattle.words.specs.Words.{region}
use Rattle.words.specs.Frames.{Keeps}
use Rattle.appointments.specs.Appointments.{appts, load}
use Rattle.bipartition.specs.TwoColor.{sides, not_bipartite, two_color}

-- The list has passed checks 1 to 6 with d for D, and there is room above the mark u.
pub record CanColor (p d u : ℕ) (list s : List ℕ) : Type 0 where
  pub few : p ≤ 1024
  pub short : length list ≤ 8192
  pub listed : All (λ x. (x.first < p) × (x.second < p)) (appts list)
  pub loads : (v : ℕ) → v < p → load v (appts list) ≤ d
  pub narrow : d * p ≤ 8192
  pub low : u < 2147483648
  pub room : u + (11 * p + d * p) ≤ length s

-- The answer is that of the definition: l parties on the left, from u on, and the others on the right, from u + p on.
abbrev pub Answers : ℕ → List ℕ → ℕ → List ℕ → Option ℕ → Type 0
Answers p list u t (Some l) = (l ≤ p) × (two_color p (appts list) ≡ sides (region t u l) (region t (u + p) (p - l)))
Answers p list u t None = two_color p (appts list) ≡ not_bipartite

-- From mark u and words s to mark u' and words t: the answer, the new mark, and every word below the old one as it was.
pub record Colored (p : ℕ) (list : List ℕ) (u : ℕ) (s : List ℕ) (u' : ℕ) (t : List ℕ) (r : Option ℕ) : Type 0 where
  pub answers : Answers p list u t r
  pub mark : u' ≡ u + 2 * p
  pub keeps : Keeps u s t
