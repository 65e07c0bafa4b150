-- What the functions of rings, which read and write without a test, ask of the words: that each place they touch is one.
-- Assumes nothing.
use Rattle.std.specs.Prelude.{ℕ, zero, suc, ◌+◌, ◌*◌, ◌-◌, ◌<◌, ◌≤◌, List, length}
use Rattle.words.specs.Words.{word, put_word}
use Rattle.rings.specs.declared.Rings.{Rings}
use Rattle.rings.specs.Model.{end_m, start_m, sift_all_m, noted_m, ring_end_m, ends_m}

-- x can be put last into the ring of the party v
pub record Appends (l : Rings) (s : List ℕ) (v x : ℕ) : Type 0 where
  pub own : l.b + 2 * (l.top + v) + 1 < length s
  pub here : l.b + 2 * x + 1 < length s
  pub last : l.b + 2 * word s (l.b + 2 * (l.top + v) + 1) < length s

-- entry i can be noted at the place `odd`
pub record Sifts (l : Rings) (s : List ℕ) (i odd : ℕ) : Type 0 where
  pub copies : l.graph.g + 3 + 2 * i < length s
  pub mark : l.b + 8 * i + 2 < length s
  pub note : l.col + 2 * odd < length s

-- all of m entries can, at places of which none is above the entry's own number
pub record SiftsAll (l : Rings) (m : ℕ) (s : List ℕ) : Type 0 where
  pub copies : l.graph.g + 3 + 2 * m ≤ length s
  pub marks : l.b + 8 * m ≤ length s
  pub notes : l.col + 2 * m ≤ length s

-- the entry noted at the place j can be put into the ring of its end
pub record RingsEnd (l : Rings) (side : ℕ) (s : List ℕ) (j : ℕ) : Type 0 where
  pub note : l.col + 2 * j < length s
  pub number : l.graph.g + 2 + 2 * noted_m l s j < length s
  pub end : l.graph.ends + 2 * word s (l.graph.g + 2 + 2 * noted_m l s j) + side < length s
  pub words : l.b + 8 * noted_m l s j + 7 < length s
  pub appends :
      Appends l
      (put_word s (l.b + 8 * noted_m l s j + 7 - 4 * side) (end_m l side s (noted_m l s j)))
      (end_m l side s (noted_m l s j))
      (4 * noted_m l s j + 2 * side)

-- all entries noted below the place j can
abbrev pub FillsEnds : Rings → ℕ → ℕ → List ℕ → Type 0
FillsEnds l side zero s = Unit {0}
FillsEnds l side (suc j) s = RingsEnd l side s j × FillsEnds l side j (ring_end_m l side s j)

-- the rings can be filled, sifting and both sides
pub record Fills (l : Rings) (m parties : ℕ) (s : List ℕ) : Type 0 where
  pub sifts : SiftsAll l m (start_m l parties s)
  pub firsts :
      FillsEnds l 0 (sift_all_m l m (start_m l parties s)).count (sift_all_m l m (start_m l parties s)).words
  pub seconds :
      FillsEnds l 1 (sift_all_m l m (start_m l parties s)).count
      (ends_m l 0 (sift_all_m l m (start_m l parties s)).count (sift_all_m l m (start_m l parties s)).words)
