-- What the functions of circuits, the split of a graph of degree 2, ask of the words: that each place they touch is one.
-- Assumes nothing.
use Rattle.std.specs.Prelude.{ℕ, zero, suc, ◌+◌, ◌*◌, ◌-◌, ◌/◌, ◌<◌, ◌≤◌, ◌≡◌, List, length}
use Rattle.words.specs.Words.{word, word_limit}
use Rattle.words.specs.Sides.{mate}
use Rattle.circuits.specs.declared.Two.{Two}
use Rattle.circuits.specs.declared.Sifted.{Sifted}
use Rattle.circuits.specs.Model.{Told, push_one_m, half_edge_m, two_note_m, two_start_m, two_sift_all_m, two_fill_m, two_filled_m, two_step_m, two_pair_m, two_walk_m}

-- entry i can be sifted
pub record TwoSifts (l : Two) (s : List ℕ) (n : Sifted) (i : ℕ) : Type 0 where
  pub graph : l.graph.g + 3 + 2 * i < length s
  pub first : l.first + 3 + 2 * n.even < length s
  pub second : l.second + 3 + 2 * n.even < length s
  pub note : l.notes + n.odd < length s

-- all of m entries can, at places of which none is above the entry's own number
pub record TwoSiftsAll (l : Two) (m : ℕ) (s : List ℕ) : Type 0 where
  pub graph : l.graph.g + 3 + 2 * m ≤ length s
  pub first : l.first + 3 + 2 * m ≤ length s
  pub second : l.second + 3 + 2 * m ≤ length s
  pub notes : l.notes + m ≤ length s

-- the half-edge of the pair noted at the place j can be noted at its party
pub record TwoNotes (l : Two) (side : ℕ) (s : List ℕ) (j : ℕ) : Type 0 where
  pub note : l.notes + j < length s
  pub end : l.graph.ends + half_edge_m l side s j < length s
  pub party : l.b + 2 * word s (l.graph.ends + half_edge_m l side s j) + 1 < length s

-- all below the place j can
abbrev pub TwoFills : Two → ℕ → ℕ → List ℕ → Type 0
TwoFills l side zero s = Unit {0}
TwoFills l side (suc j) s = TwoNotes l side s j × TwoFills l side j (two_note_m l side s j)

-- a step can be made
pub record TwoSteps (l : Two) (h : ℕ) (s : List ℕ) (at y : ℕ) : Type 0 where
  pub place : h + 3 + 2 * at < length s
  pub end : l.graph.ends + mate y < length s
  pub party : l.b + 2 * word (push_one_m h s at (y / 2)) (l.graph.ends + mate y) + 1 < length s

-- n times two steps, or fewer
abbrev pub TwoCircuits : Two → ℕ → ℕ → List ℕ → ℕ → ℕ → Type 0
TwoCircuits l y₀ zero s at y = Unit {0}
TwoCircuits l y₀ (suc n) s at y =
    TwoSteps l l.first s at y
    × TwoSteps l l.second (two_step_m l l.first s at y).words at (two_step_m l l.first s at y).number
    × (((two_pair_m l s at y).number ≡ y₀ → ⊥) → TwoCircuits l y₀ n (two_pair_m l s at y).words (at + 1) (two_pair_m l s at y).number)

-- the circuit from the party v can be gone
pub record TwoFroms (l : Two) (m : ℕ) (t : Told) (v : ℕ) : Type 0 where
  pub party : l.b + 2 * v < length t.words
  pub circuit :
      (word t.words (l.b + 2 * v) ≡ 0 → ⊥) →
      TwoCircuits l (word t.words (l.b + 2 * v) - 1) m t.words t.number (word t.words (l.b + 2 * v) - 1)

-- the circuits from all parties can
pub record TwoWalks (l : Two) (m parties : ℕ) (t : Told) : Type 0 where
  pub froms : (v : ℕ) → v < parties → TwoFroms l m (two_walk_m l m v t) v
  pub few : (v : ℕ) → v < parties → (two_walk_m l m v t).number + m < word_limit

-- all of it can
pub record TwoSplits (l : Two) (m parties : ℕ) (s : List ℕ) : Type 0 where
  pub starts : l.b + 2 * parties ≤ length s
  pub sifts : TwoSiftsAll l m s
  pub firsts :
      TwoFills l 0 (two_sift_all_m l m (two_start_m l parties s)).sifted.odd (two_sift_all_m l m (two_start_m l parties s)).words
  pub seconds :
      TwoFills l 1 (two_sift_all_m l m (two_start_m l parties s)).sifted.odd
      (two_fill_m l 0 (two_sift_all_m l m (two_start_m l parties s)).sifted.odd (two_sift_all_m l m (two_start_m l parties s)).words)
  pub walks :
      TwoWalks l m parties
      (record {
        words = two_filled_m l (two_sift_all_m l m (two_start_m l parties s));
        number = (two_sift_all_m l m (two_start_m l parties s)).sifted.even;
      })
