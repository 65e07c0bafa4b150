-- An entry of a half and the head of a half, on the list of words, as the functions of this crate and `multigraph::head` write them.
-- Assumes nothing.
use Rattle.std.specs.Prelude.{ℕ, ◌+◌, ◌*◌, List, ltb}
use Rattle.words.specs.Basics.{pick}
use Rattle.words.specs.Words.{put_word}
pub use Rattle.multigraph.specs.Stored.{head_m}

-- 1 for 2 copies or more
abbrev pub many_m : ℕ → ℕ
many_m copies = pick (ltb copies 2) 0 1

-- an entry of a half, at its place
abbrev pub push_m : ℕ → List ℕ → ℕ → ℕ → ℕ → List ℕ
push_m h s at e copies = put_word (put_word s (h + 2 + 2 * at) e) (h + 3 + 2 * at) copies
