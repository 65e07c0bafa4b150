-- What the functions of splitting, which read and write without a test, ask of the words: that each place they touch is one.
-- Assumes nothing.
use Rattle.std.specs.Prelude.{ℕ, ◌+◌, ◌*◌, ◌-◌, ◌/◌, ◌<◌, ◌≤◌, List, length}
use Rattle.words.specs.Words.{word}
use Rattle.rings.specs.declared.Rings.{Rings}
use Rattle.rings.specs.Model.{Counted, fill_m}
use Rattle.rings.specs.Bounds.{Fills}
use Rattle.walking.specs.Bounds.{Walks}
use Rattle.splitting.specs.Model.{entries_m, singles_m, half_m, walked}

-- entry i can be written to the place `at` of a half
pub record EntryFits (l : Rings) (h : ℕ) (s : List ℕ) (at i : ℕ) : Type 0 where
  pub graph : l.graph.g + 3 + 2 * i < length s
  pub mark : l.b + 8 * i + 2 < length s
  pub place : h + 3 + 2 * at < length s

-- all of m entries can, at places of which none is above the entry's own number
pub record EntriesFit (l : Rings) (h m : ℕ) (s : List ℕ) : Type 0 where
  pub graph : l.graph.g + 3 + 2 * m ≤ length s
  pub marks : l.b + 8 * m ≤ length s
  pub places : h + 2 + 2 * m ≤ length s

-- the entry written down at the place j of the walk can be written to the place `at` of a half
pub record SingleFits (l : Rings) (h : ℕ) (s : List ℕ) (at j : ℕ) : Type 0 where
  pub written : l.col + 2 * j + 1 < length s
  pub graph : l.graph.g + 3 + 2 * word s (l.col + 2 * j + 1) < length s
  pub place : h + 3 + 2 * at < length s

-- n of them can, every other from `parity` on
pub record SinglesFit (l : Rings) (h parity n : ℕ) (t : Counted) : Type 0 where
  pub singles :
      (k : ℕ) → k < n →
      SingleFits l h (singles_m l h parity k t).words (singles_m l h parity k t).count (parity + 2 * k)

-- a half can be written
pub record HalfFits (l : Rings) (h parity m written : ℕ) (s : List ℕ) : Type 0 where
  pub entries : EntriesFit l h m s
  pub singles : SinglesFit l h parity ((written + 1 - parity) / 2) (entries_m l h parity m s)

-- rings, walk and both halves can
pub record SplitFits (l : Rings) (h₁ parity₁ h₂ parity₂ m parties : ℕ) (s : List ℕ) : Type 0 where
  pub fills : Fills l m parties s
  pub walks : Walks l parties (2 * m + parties) (fill_m l m parties s)
  pub first :
      HalfFits l h₁ parity₁ m (walked l m parties s).walk.written (walked l m parties s).words
  pub second :
      HalfFits l h₂ parity₂ m (walked l m parties s).walk.written
      (half_m l h₁ parity₁ m (walked l m parties s).walk.written (walked l m parties s).words)
