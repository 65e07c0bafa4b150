-- A loop over the appointments of a flat list with its slots beside it, as `list.as_chunks::<2>().0.iter().zip(slots)` gives them: what a
-- turn sees, and how many turns there are; and the same where `enumerate` numbers the turns. Assumes nothing.
use Prim.Native.Nat.{ℕ, ◌+◌, ◌*◌, ◌/◌, ◌<◌, min}
use mathlib.Core.Path.{◌≡◌, ap, ◌∙◌}
use mathlib.Core.List.{List, [], ◌∷◌}
use native.Mathlib.Omega.{arith}
use lib.ListN.{length, get_or}
use Rattle.std.proofs.Common.{Bor, Iter}
use Rattle.std.specs.Prelude.{Option, Some, None}
use Rattle.std.specs.List.{zip, enumerate_from}
use Rattle.std.specs.declared.iter.Enumerate.{Enumerate}
use Rattle.std.specs.declared.iter.Zip.{Zip}
use Rattle.std.specs.Iterator.{Yields}
use Rattle.std.specs.Iterator.Adapters.{zip_first, zip_second, enumerate_source, enumerate_count, enumerate_steps}
use Rattle.std.specs.Slice.Iter.{iter_rest}
use Rattle.std.proofs.iter.Yields.{fronts}
use Rattle.std.proofs.lemmas.Grind.{get_or_default_zero}
use Rattle.std.proofs.lemmas.Iterator.{YieldsList, YieldsList-from_slice, YieldsList-from_zip, zips}
use Rattle.std.proofs.lemmas.Iterator.Consumers.{YieldsList-at, YieldsList-from_enumerate, YieldsList-turn, YieldsList-end}
use Rattle.std.proofs.lemmas.List.FromFn.{length-enumerate_from, get_or-enumerate_from}
use Rattle.std.proofs.lemmas.Slice.Zip.{length-zip, get_or-zip}
use Rattle.words.specs.Words.{word}
use Rattle.appointments.proofs.Chunks.{chunks_of, chunks_count, chunk_at}

-- What turn i sees: the ends of the appointment at position i, and its slot.
pub record ChunkTurn (list slots : List ℕ) (i : ℕ) (p : Bor (List ℕ) × Bor ℕ) : Type 0 where
  pub inside : i < length list / 2
  pub ends : p.0.now ≡ word list (2 * i) ∷ word list (2 * i + 1) ∷ []
  pub slot : p.1.now ≡ word slots i

-- what a turn's item reads
abbrev read : Bor (List ℕ) × Bor ℕ → List ℕ × ℕ
read p = (p.0.now, p.1.now)

-- An iterator that gives the chunks, each with its slot.
pub record ChunkWalk (list slots : List ℕ) (s : Zip (Iter (List ℕ)) (Iter ℕ)) : Type 0 where
  pub gives : YieldsList (zips fronts fronts) read s (zip (chunks_of list) slots)

-- so does the one that the code's calls made: the chunks were cut, an iterator of them was made, the slots were put beside it
pub chunk_start :
    {list slots : List ℕ} {cut : List (List ℕ)} {made : Iter (List ℕ)} {zipped s : Zip (Iter (List ℕ)) (Iter ℕ)} →
    cut ≡ chunks_of list → iter_rest made ≡ cut → zip_first zipped ≡ made → iter_rest (zip_second zipped) ≡ slots → s ≡ zipped →
    ChunkWalk list slots s
chunk_start front rest first second is =
    record { gives = YieldsList-at is (YieldsList-from_zip (YieldsList-at first (YieldsList-from_slice _ (rest ∙ front))) (YieldsList-from_slice _ second)) }

-- as many turns as there are appointments with a slot
turns : (list slots : List ℕ) → length (zip (chunks_of list) slots) ≡ min (length list / 2) (length slots)
turns list slots = omega (arith, length-zip (chunks_of list) slots, chunks_count (length list / 2) list)

module _ {list slots : List ℕ} where
  turn_at : (i : ℕ) (p : Bor (List ℕ) × Bor ℕ) → i < length (zip (chunks_of list) slots) → read p ≡ get_or (zip (chunks_of list) slots) i (read p) → ChunkTurn list slots i p
  turn_at i p within reads =
      let inside : i < length list / 2 = omega (arith, within, turns list slots) in
      let beside : i < length slots = omega (arith, within, turns list slots) in
      let both = reads ∙ get_or-zip (chunks_of list) slots i (read p) (omega (arith, inside, chunks_count (length list / 2) list)) beside in
      record {
        inside = inside;
        ends = ap (λ (q : List ℕ × ℕ). q.0) both ∙ chunk_at (length list / 2) list i p.0.now inside (omega arith);
        slot = ap (λ (q : List ℕ × ℕ). q.1) both ∙ get_or_default_zero slots i p.1.now beside;
      }

  module _ {s : Zip (Iter (List ℕ)) (Iter ℕ)} (walk : ChunkWalk list slots s)
      (xs : List (Bor (List ℕ) × Bor ℕ)) (t u : Zip (Iter (List ℕ)) (Iter ℕ)) (r : Option (Bor (List ℕ) × Bor ℕ)) (y : Yields (zips fronts fronts) s xs t) (h : zips fronts fronts t r u) where
    -- the turn behind those that came
    pub chunk_turn : (p : Bor (List ℕ) × Bor ℕ) → r ≡ Some p → ChunkTurn list slots (length xs) p
    chunk_turn p e = let turn = YieldsList-turn walk.gives xs t y r u p e h in turn_at (length xs) p turn.0 turn.1

    -- after the last as many came as there are appointments with a slot
    pub chunks_end : r ≡ None → length xs ≡ min (length list / 2) (length slots)
    chunks_end e = (YieldsList-end walk.gives xs t y r u e h).1 ∙ turns list slots

-- ── numbered ──

-- The same, numbered from 0 on.
pub record NumberedWalk (list slots : List ℕ) (s : Enumerate (Zip (Iter (List ℕ)) (Iter ℕ))) : Type 0 where
  pub gives : YieldsList (enumerate_steps (zips fronts fronts)) (λ p. (p.0, read p.1)) s (enumerate_from 0 (zip (chunks_of list) slots))

pub numbered_start :
    {list slots : List ℕ} {cut : List (List ℕ)} {made : Iter (List ℕ)} {zipped : Zip (Iter (List ℕ)) (Iter ℕ)} {numbered s : Enumerate (Zip (Iter (List ℕ)) (Iter ℕ))} →
    cut ≡ chunks_of list → iter_rest made ≡ cut → zip_first zipped ≡ made → iter_rest (zip_second zipped) ≡ slots →
    enumerate_source numbered ≡ zipped → enumerate_count numbered ≡ 0 → s ≡ numbered →
    NumberedWalk list slots s
numbered_start front rest first second source count is =
    let walk = chunk_start front rest first second source in record { gives = YieldsList-at is (YieldsList-from_enumerate walk.gives count) }

-- A turn's number is its position.
pub record NumberedTurn (list slots : List ℕ) (i : ℕ) (p : ℕ × (Bor (List ℕ) × Bor ℕ)) : Type 0 where
  pub number : p.0 ≡ i
  pub turn : ChunkTurn list slots i p.1

module _ {list slots : List ℕ} {s : Enumerate (Zip (Iter (List ℕ)) (Iter ℕ))} (walk : NumberedWalk list slots s)
    (xs : List (ℕ × (Bor (List ℕ) × Bor ℕ))) (t u : Enumerate (Zip (Iter (List ℕ)) (Iter ℕ))) (r : Option (ℕ × (Bor (List ℕ) × Bor ℕ))) (y : Yields (enumerate_steps (zips fronts fronts)) s xs t)
    (h : enumerate_steps (zips fronts fronts) t r u) where
  pub numbered_turn : (p : ℕ × (Bor (List ℕ) × Bor ℕ)) → r ≡ Some p → NumberedTurn list slots (length xs) p
  numbered_turn p e =
      let turn = YieldsList-turn walk.gives xs t y r u p e h in
      let within : length xs < length (zip (chunks_of list) slots) = omega (arith, turn.0, length-enumerate_from 0 (zip (chunks_of list) slots)) in
      let both = turn.1 ∙ get_or-enumerate_from 0 (zip (chunks_of list) slots) (length xs) (p.0, read p.1) within in
      let first : p.0 ≡ 0 + length xs = ap (λ (q : ℕ × (List ℕ × ℕ)). q.0) both in
      record { number = omega (arith, first); turn = turn_at (length xs) p.1 within (ap (λ (q : ℕ × (List ℕ × ℕ)). q.1) both) }

  pub numbered_end : r ≡ None → length xs ≡ min (length list / 2) (length slots)
  numbered_end e = (YieldsList-end walk.gives xs t y r u e h).1 ∙ length-enumerate_from 0 (zip (chunks_of list) slots) ∙ turns list slots
