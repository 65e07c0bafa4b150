-- The functions of walking on the list of words, each with the same steps in the same order. Assumes nothing.
use Rattle.std.specs.Prelude.{ℕ, ◌+◌, ◌*◌, ◌-◌, ◌/◌, ◌%◌, ◌≤◌, List, eqb, ltb, leb}
use Rattle.words.specs.Basics.{pick, iterate}
use Rattle.words.specs.Words.{word, put_word, word_limit}
use Rattle.words.specs.declared.NodeIndex.{NodeIndex}
use Rattle.rings.specs.declared.Rings.{Rings}
use Rattle.walking.specs.declared.Walk.{Walk}

-- the party of a number
abbrev pub party : ℕ → NodeIndex
party v = record { 0 = v }

-- the numbers of a walk are small
pub record Small (k : ℕ) (w : Walk) : Type 0 where
  pub next : w.next.0 ≤ k
  pub at : w.at.0 ≤ k + word_limit
  pub height : w.height ≤ k
  pub written : w.written ≤ k

-- the words and the walk
pub record Stage : Type 0 where
  pub words : List ℕ
  pub walk : Walk

-- x, the first of the ring of the node z, goes out of it
unfoldable pub pop_m : Rings → List ℕ → ℕ → ℕ → List ℕ
pop_m l s z x = let q = word s (l.b + 2 * x) in put_word (put_word s (l.b + 2 * z) q) (l.b + 2 * q + 1) z

-- x goes out of its ring, wherever it stands
unfoldable pub unlink_m : Rings → List ℕ → ℕ → List ℕ
unlink_m l s x =
    let q = word s (l.b + 2 * x) in
    let p = word s (l.b + 2 * x + 1) in
    put_word (put_word s (l.b + 2 * p) q) (l.b + 2 * q + 1) p

-- the other half-edge of the same entry
abbrev pub mate_m : ℕ → ℕ
mate_m x = x / 4 * 4 + (x + 2) % 4

-- x is taken and followed, its mate goes too, and the stack has one place more
unfoldable pub take_m : Rings → List ℕ → Walk → ℕ → Stage
take_m l s w x =
    record {
      words =
          put_word (unlink_m l (pop_m l s (l.top + w.at.0) x) (mate_m x)) (l.col + 2 * w.height) (x / 4 * 2048 + w.at.0);
      walk =
          record {
            next = w.next;
            at = party (word s (l.b + 2 * x + 3));
            height = w.height + 1;
            written = w.written;
          };
    }

-- a step back: the place on top of the stack is written down, and its entry marked with the parity
unfoldable pub back_m : Rings → List ℕ → Walk → Stage
back_m l s w =
    let x = word s (l.col + 2 * (w.height - 1)) in
    record {
      words =
          put_word (put_word s (l.b + 8 * (x / 2048) + 2) (2 + w.written % 2)) (l.col + 2 * w.written + 1) (x / 2048);
      walk = record { next = w.next; at = party (x % 2048); height = w.height - 1; written = w.written + 1 };
    }

-- stuck: back, or on to the next party
unfoldable pub stuck_m : Rings → List ℕ → Walk → Stage
stuck_m l s w =
    pick (ltb 0 w.height) (back_m l s w)
    (record { words = s; walk = record { next = party (w.next.0 + 1); at = party (w.next.0 + 1); height = 0; written = w.written } })

-- one step; past the last party nothing happens
unfoldable pub step_m : Rings → ℕ → Stage → Stage
step_m l parties t =
    let s = t.words in
    let w = t.walk in
    let z = l.top + w.at.0 in
    let x = word s (l.b + 2 * z) in
    pick (leb parties w.next.0) t (pick (eqb x z) (stuck_m l s w) (take_m l s w x))

-- k steps
abbrev pub walk_m : Rings → ℕ → ℕ → Stage → Stage
walk_m l parties k t = iterate k (step_m l parties) t

-- before the first step
abbrev pub begun : List ℕ → Stage
begun s = record { words = s; walk = record { next = party 0; at = party 0; height = 0; written = 0 } }
