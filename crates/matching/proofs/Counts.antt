-- Flagged pairs and flagged copies of a graph that lies in words, counted entry by entry; and the least power of two. Assumes nothing.
use Prim.Native.Nat.{ℕ, zero, suc, ◌+◌, ◌*◌, ◌/◌, ◌^◌, ◌≤◌, ◌<◌, max}
use mathlib.Core.Path.{◌≡◌, refl, ◌∙◌, ap}
use mathlib.Core.Bool.{Bool, true, false}
use mathlib.Core.List.{List}
use native.Mathlib.Omega.{arith}
use native.Mathlib.Nat.{one-mul, zero-mul, add-zero}
use native.Mathlib.Numerals.{add-one}
use native.Mathlib.Decide.{dec_le}
use lib.Dec.{leb}
use lib.Pow.{pow_pos, pow_mono}
use Rattle.std.specs.Int.{IsPowerOfTwo}
use lib.ListN.{take, drop}
use lib.Seq.{get_or-take, get_or-drop}
use Rattle.words.specs.Basics.{pick, sum_below}
use Rattle.words.specs.Words.{word}
use Rattle.words.proofs.Sums.{sum_below_cong}
use Rattle.words.proofs.PowersOfTwo.{two_pow, log_up_law}
use Rattle.multigraph.specs.Multigraph.{Graph}
use Rattle.multigraph.specs.Stored.{entry, graph_at}
use Rattle.multigraph.specs.Places.{size, number, copies_of}
use Rattle.multigraph.proofs.Spans.{graph_span, total_span}
use Rattle.perfect_matching.specs.Matching.{flagged_pairs, flagged_copies}
use Rattle.words.specs.PowersOfTwo.{log_up}
use Rattle.matching.specs.declared.Count.{Count}
use Rattle.matching.specs.declared.Count.TheVariants.{FlaggedPairs, FlaggedCopies}
use Rattle.matching.specs.Choosing.{flagged_by, flagged_entry, fewer, Chooses, InsideBoth, SideBySide}

-- ── entry by entry ──

pub flagged_sum :
    (by : Count) (s : List ℕ) (ends pairs g : ℕ) →
    flagged_by by (graph_at s ends pairs g) ≡ sum_below (flagged_entry by s pairs g) (size s g)
unfolding flagged_pairs flagged_copies
flagged_sum FlaggedPairs s ends pairs g =
    rw (graph_span s ends pairs g) (total_span (λ p. p.bad) (entry s ends pairs g) (size s g))
flagged_sum FlaggedCopies s ends pairs g =
    rw (graph_span s ends pairs g)
    (total_span (λ p. p.bad * p.copies) (entry s ends pairs g) (size s g)
    ∙ sum_below_cong (size s g) (λ i h. go (leb pairs (number s g i)) (copies_of s g i)))
  where
    go : (t : Bool) (c : ℕ) → pick t 1 0 * c ≡ pick t c 0
    go true c = one-mul c
    go false c = zero-mul c

-- one more entry
pub flagged_more :
    (by : Count) (s : List ℕ) (pairs g i : ℕ) →
    sum_below (flagged_entry by s pairs g) (i + 1) ≡ sum_below (flagged_entry by s pairs g) i + flagged_entry by s pairs g i
unfolding sum_below
flagged_more by s pairs g i = rw add-one

pub flagged_none : (by : Count) (s : List ℕ) (pairs g : ℕ) → sum_below (flagged_entry by s pairs g) 0 ≡ 0
unfolding sum_below
flagged_none by s pairs g = refl

-- ── a part of the words ──

-- the words from a on, so many of them
abbrev pub part : List ℕ → ℕ → ℕ → List ℕ
part s a w = take w (drop a s)

pub part_word : (s : List ℕ) (a w i : ℕ) → i < w → word (part s a w) i ≡ word s (a + i)
part_word s a w i h = rw (get_or-take, get_or-drop)

-- A graph in a part of the words has as many flagged as where it lies.
pub part_flagged :
    (by : Count) (s : List ℕ) (ends pairs a w : ℕ) → 2 + 2 * size s a ≤ w →
    flagged_by by (graph_at (part s a w) ends pairs 0) ≡ flagged_by by (graph_at s ends pairs a)
part_flagged by s ends pairs a w h =
    rw (flagged_sum by (part s a w) ends pairs 0, flagged_sum by s ends pairs a, sized)
    (sum_below_cong (size s a) same)
  where
    sized : word (part s a w) 1 ≡ size s a
    sized = part_word s a w 1 (omega arith)

    same : (i : ℕ) → i < size s a → flagged_entry by (part s a w) pairs 0 i ≡ flagged_entry by s pairs a i
    same i k =
        let e : word (part s a w) (2 + 2 * i) ≡ number s a i = part_word s a w (2 + 2 * i) (omega arith) ∙ ap (word s) (omega arith) in
        let c : word (part s a w) (3 + 2 * i) ≡ copies_of s a i = part_word s a w (3 + 2 * i) (omega arith) ∙ ap (word s) (omega arith) in
        rw (e, c)

-- ── the half that goes on ──

-- what is read of the chosen one
pub fewer_map {ℓ κ} :
    {A : Type ℓ} {B : Type κ} (f : A → B) (by : Count) (g h : Graph) (a b : A) →
    f (fewer by g h a b) ≡ fewer by g h (f a) (f b)
fewer_map f by g h a b = go (leb (flagged_by by g) (flagged_by by h))
  where
    go : (t : Bool) → f (pick t a b) ≡ pick t (f a) (f b)
    go true = refl
    go false = refl

-- what both have, the chosen one has
pub fewer_is {ℓ} :
    {A : Type ℓ} (P : A → Type 0) (by : Count) (g h : Graph) (a b : A) → P a → P b → P (fewer by g h a b)
fewer_is P by g h a b p q = go (leb (flagged_by by g) (flagged_by by h))
  where
    go : (t : Bool) → P (pick t a b)
    go true = p
    go false = q

-- Of two parts side by side, each with the words of a half: the first word of the chosen one is its header.
pub chooses :
    (first room pairs : ℕ) (by : Count) (s l : List ℕ) → 0 < room →
    2 + 2 * size s first ≤ room → 2 + 2 * size s (first + room) ≤ room →
    ((ends : ℕ) →
    l ≡ fewer by (graph_at (part s first room) ends pairs 0) (graph_at (part s (first + room) room) ends pairs 0)
    (part s first room) (part s (first + room) room)) →
    Chooses first room pairs by s (word l 0)
chooses first room pairs by s l pos a b is ends =
    ap (λ (x : List ℕ). word x 0) (is ends)
    ∙ fewer_map (λ (x : List ℕ). word x 0) by (graph_at (part s first room) ends pairs 0)
    (graph_at (part s (first + room) room) ends pairs 0) (part s first room) (part s (first + room) room)
    ∙ rw (
      part_flagged by s ends pairs first room a,
      part_flagged by s ends pairs (first + room) room b,
      part_word s first room 0 pos,
      part_word s (first + room) room 0 pos,
      add-zero,
      add-zero,
    )

-- The chosen half lies inside the words, and so does its copy at h.
pub chosen_inside :
    (first room pairs h : ℕ) (by : Count) (s : List ℕ) (r : ℕ) → SideBySide first room h s →
    Chooses first room pairs by s r → InsideBoth r h (size s r) s
chosen_inside first room pairs h by s r halves is =
    rw (is 0)
    (fewer_is (λ (x : ℕ). InsideBoth x h (size s x) s) by (graph_at s 0 pairs first) (graph_at s 0 pairs (first + room))
    (word s first) (word s (first + room)) (rw halves.first_base (omega (arith, halves)))
    (rw halves.second_base (omega (arith, halves))))

-- ── the least power of two ──

-- std's next power of two has the exponent `log_up`
pub next_power : (m p : ℕ) → IsPowerOfTwo p → m ≤ p → p / 2 < max 1 m → p ≡ 2 ^ log_up m
next_power m p power above below =
    let low : log_up m ≤ power.0 = (log_up_law m).least power.0 (rw power.1 at above) in
    elim (dec_le power.0 (log_up m)) [
      | yes k ↦
          let same : power.0 ≡ log_up m = omega arith in
          rw same at power.1
      | no k ↦ absurd (past power.0 power.1 (omega arith))
    ]
  where
    past : (e : ℕ) → p ≡ 2 ^ e → log_up m < e → ⊥
    past zero is l = omega arith
    past (suc e) is l =
        omega (
          arith,
          is,
          two_pow e,
          pow_mono {i = log_up m} {j = e} (omega arith),
          (log_up_law m).reaches,
          pow_pos (log_up m),
          below,
        )
