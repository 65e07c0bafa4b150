-- The functions of rings on the list of words, each with the same steps in the same order. Assumes nothing.
use Rattle.std.specs.Prelude.{ℕ, zero, suc, ◌+◌, ◌*◌, ◌-◌, ◌%◌, List}
use Rattle.words.specs.Words.{word, put_word}
use Rattle.rings.specs.declared.Rings.{Rings}

-- the words, and how many of what is being written stand there
pub record Counted : Type 0 where
  pub words : List ℕ
  pub count : ℕ

-- ── the graph's entries ──

-- the copies of entry i
abbrev pub copies_m : Rings → List ℕ → ℕ → ℕ
copies_m l s i = word s (l.graph.g + 3 + 2 * i)

-- the party at one end of an entry, the first (side 0) or the second (side 1)
abbrev pub end_m : Rings → ℕ → List ℕ → ℕ → ℕ
end_m l side s i = word s (l.graph.ends + 2 * word s (l.graph.g + 2 + 2 * i) + side)

-- ── filling the rings ──

-- an empty ring for the party v: its own node comes after and before itself
abbrev pub start_ring_m : Rings → List ℕ → ℕ → List ℕ
start_ring_m l s v = put_word (put_word s (l.b + 2 * (l.top + v)) (l.top + v)) (l.b + 2 * (l.top + v) + 1) (l.top + v)

-- empty rings for the parties below v
unfoldable pub start_m : Rings → ℕ → List ℕ → List ℕ
start_m l zero s = s
start_m l (suc v) s = start_ring_m l (start_m l v s) v

-- the half-edge x becomes the last of the ring of v
unfoldable pub append_m : Rings → List ℕ → ℕ → ℕ → List ℕ
append_m l s v x =
    let z = l.top + v in
    let p = word s (l.b + 2 * z + 1) in
    put_word
    (put_word (put_word (put_word s (l.b + 2 * p) x) (l.b + 2 * x + 1) p) (l.b + 2 * x) z)
    (l.b + 2 * z + 1)
    x

-- Entry i: its mark cleared, and its number noted in the stack's column, at the place `count`; the note of an entry of even
-- copies is written over by the next.
unfoldable pub sift_m : Rings → Counted → ℕ → Counted
sift_m l t i =
    let s = t.words in
    record {
      words = put_word (put_word s (l.b + 8 * i + 2) 0) (l.col + 2 * t.count) i;
      count = t.count + copies_m l s i % 2;
    }

-- the first i entries, in order
unfoldable pub sift_all_m : Rings → ℕ → List ℕ → Counted
sift_all_m l zero s = record { words = s; count = 0 }
sift_all_m l (suc i) s = sift_m l (sift_all_m l i s) i

-- the entry noted at the place j
abbrev pub noted_m : Rings → List ℕ → ℕ → ℕ
noted_m l s j = word s (l.col + 2 * j)

-- The half-edge, on one side, of the entry noted at the place j: its mate is told to which party it leads, and it becomes the
-- last of that party's ring.
unfoldable pub ring_end_m : Rings → ℕ → List ℕ → ℕ → List ℕ
ring_end_m l side s j =
    let i = noted_m l s j in
    let v = end_m l side s i in
    append_m l (put_word s (l.b + 8 * i + 7 - 4 * side) v) v (4 * i + 2 * side)

-- the entries noted below the place j, from the last down
unfoldable pub ends_m : Rings → ℕ → ℕ → List ℕ → List ℕ
ends_m l side zero s = s
ends_m l side (suc j) s = ends_m l side j (ring_end_m l side s j)

-- the rings of all parties: first ends, then second ends
unfoldable pub fill_m : Rings → ℕ → ℕ → List ℕ → List ℕ
fill_m l m parties s =
    let t = sift_all_m l m (start_m l parties s) in
    ends_m l 1 t.count (ends_m l 0 t.count t.words)
