-- What the functions of walking, which read and write without a test, ask of the words: that each place they touch is one.
-- Assumes nothing.
use Rattle.std.specs.Prelude.{ℕ, ◌+◌, ◌*◌, ◌-◌, ◌/◌, ◌<◌, ◌≡◌, List, length}
use Rattle.words.specs.Words.{word}
use Rattle.rings.specs.declared.Rings.{Rings}
use Rattle.walking.specs.declared.Walk.{Walk}
use Rattle.walking.specs.Model.{pop_m, mate_m, walk_m, begun}

-- the node x, first of the ring of the node z, can be taken out
pub record Pops (l : Rings) (s : List ℕ) (z x : ℕ) : Type 0 where
  pub own : l.b + 2 * z < length s
  pub here : l.b + 2 * x < length s
  pub next : l.b + 2 * word s (l.b + 2 * x) + 1 < length s

-- the node x can be taken out
pub record Unlinks (l : Rings) (s : List ℕ) (x : ℕ) : Type 0 where
  pub here : l.b + 2 * x + 1 < length s
  pub before : l.b + 2 * word s (l.b + 2 * x + 1) < length s
  pub next : l.b + 2 * word s (l.b + 2 * x) + 1 < length s

-- the half-edge x can be taken and followed
pub record Takes (l : Rings) (s : List ℕ) (w : Walk) (x : ℕ) : Type 0 where
  pub leads : l.b + 2 * x + 3 < length s
  pub pops : Pops l s (l.top + w.at.0) x
  pub unlinks : Unlinks l (pop_m l s (l.top + w.at.0) x) (mate_m x)
  pub stack : l.col + 2 * w.height < length s

-- the walk can step back
pub record Backs (l : Rings) (s : List ℕ) (w : Walk) : Type 0 where
  pub stack : l.col + 2 * (w.height - 1) < length s
  pub mark : l.b + 8 * (word s (l.col + 2 * (w.height - 1)) / 2048) + 2 < length s
  pub column : l.col + 2 * w.written + 1 < length s

-- the walk can go on
pub record Steps (l : Rings) (s : List ℕ) (w : Walk) : Type 0 where
  pub here : l.b + 2 * (l.top + w.at.0) < length s
  pub takes :
      (word s (l.b + 2 * (l.top + w.at.0)) ≡ l.top + w.at.0 → ⊥) → Takes l s w (word s (l.b + 2 * (l.top + w.at.0)))
  pub backs : 0 < w.height → Backs l s w

-- n steps can be made
pub record Walks (l : Rings) (parties n : ℕ) (s : List ℕ) : Type 0 where
  pub steps :
      (j : ℕ) → j < n → (walk_m l parties j (begun s)).walk.next.0 < parties →
      Steps l (walk_m l parties j (begun s)).words (walk_m l parties j (begun s)).walk
