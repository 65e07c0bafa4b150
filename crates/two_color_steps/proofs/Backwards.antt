-- A list's appointments from the last to the first, as `list.as_chunks::<2>().0.iter().rev()` gives them, and the rows they fill. Assumes nothing.
use Prim.Native.Nat.{ℕ, zero, suc, ◌+◌, ◌*◌, ◌/◌, ◌<◌, ◌≤◌}
use mathlib.Core.Path.{◌≡◌, refl, sym, ap, ◌∙◌}
use mathlib.Core.List.{List, [], ◌∷◌, ◌++◌}
use native.Mathlib.Omega.{arith}
use native.Mathlib.Nat.{add-zero}
use lib.ListN.{length, length-append}
use Rattle.std.specs.Simd.{first_chunks}
use Rattle.words.specs.Words.{word}
use Rattle.two_color_steps.specs.Model.{push_end_m, fill_rows_m}
use Rattle.two_color_steps.specs.Bounds.{CanPush, CanFill}

-- the last of some chunks holds the two numbers of the last appointment, the others are those before it
record LastEnds (k : ℕ) (list : List ℕ) (before : List (List ℕ)) (ends : List ℕ) : Type 0 where
  before_is : before ≡ first_chunks 2 k list
  ends_are : ends ≡ word list (2 * k) ∷ word list (2 * k + 1) ∷ []

last_ends :
    (k : ℕ) (list : List ℕ) (before : List (List ℕ)) (ends : List ℕ) → 2 * suc k ≤ length list →
    before ++ (ends ∷ []) ≡ first_chunks 2 (suc k) list → LastEnds k list before ends
last_ends k [] before ends l e = absurd (omega arith)
last_ends k (a ∷ []) before ends l e = absurd (omega arith)
last_ends zero (a ∷ b ∷ rest) [] ends l e =
    let same : ends ∷ [] ≡ (a ∷ b ∷ []) ∷ [] = e in
    let it : ends ≡ a ∷ b ∷ [] = cc in
    record { before_is = refl; ends_are = it }
last_ends zero (a ∷ b ∷ rest) (x ∷ before) ends l e = absurd (omega (arith, ap length e, length-append before (ends ∷ [])))
last_ends (suc k) (a ∷ b ∷ rest) [] ends l e = absurd (omega (arith, ap length e))
last_ends (suc k) (a ∷ b ∷ rest) (x ∷ before) ends l e =
    let same : x ∷ (before ++ (ends ∷ [])) ≡ (a ∷ b ∷ []) ∷ first_chunks 2 (suc k) rest = e in
    let here : x ≡ a ∷ b ∷ [] = cc in
    let on : before ++ (ends ∷ []) ≡ first_chunks 2 (suc k) rest = cc in
    let h = last_ends k rest before ends (omega arith) on in
    let first : 2 * suc k ≡ suc (suc (2 * k)) = omega arith in
    let second : suc (suc (2 * k)) + 1 ≡ suc (suc (2 * k + 1)) = omega arith in
    record { before_is = rw (h.before_is, here) refl; ends_are = rw (first, second) h.ends_are }

-- one of the two
end_at : (k o : ℕ) (list : List ℕ) → o < 2 → word (word list (2 * k) ∷ word list (2 * k + 1) ∷ []) o ≡ word list (2 * k + o)
end_at k zero list h = rw (add-zero (2 * k)) refl
end_at k (suc zero) list h = refl
end_at k (suc (suc o)) list h = absurd (omega arith)

-- the appointments whose ends are still to come are the first ones, and what they make of the words is what all make of those at entry
pub record Filling (u p near far : ℕ) (list first : List ℕ) (rest : List (List ℕ)) (s : List ℕ) : Type 0 where
  pub left : ℕ
  pub inside : 2 * left ≤ length list
  pub rest_is : rest ≡ first_chunks 2 left list
  pub can_fill : CanFill u p list near far left s
  pub filled : fill_rows_m u p list near far left s ≡ fill_rows_m u p list near far (length list / 2) first

-- the last of them goes into its row
pub record Pushing (u p near far : ℕ) (list first : List ℕ) (before : List (List ℕ)) (ends s : List ℕ) : Type 0 where
  pub can_push : CanPush u p (word ends near) s
  pub more : Filling u p near far list first before (push_end_m u p (word ends near) (word ends far) s)

module _ {u p near far : ℕ} {list first : List ℕ} {rest : List (List ℕ)} {s : List ℕ} where
  pub push_last :
      {before : List (List ℕ)} {ends : List ℕ} → near < 2 → far < 2 → rest ≡ before ++ (ends ∷ []) →
      Filling u p near far list first rest s → Pushing u p near far list first before ends s
  unfolding fill_rows_m
  push_last {before} {ends} a b e h = some h.left h.inside (sym e ∙ h.rest_is) h.can_fill h.filled
    where
      some :
          (k : ℕ) → 2 * k ≤ length list → before ++ (ends ∷ []) ≡ first_chunks 2 k list → CanFill u p list near far k s →
          fill_rows_m u p list near far k s ≡ fill_rows_m u p list near far (length list / 2) first →
          Pushing u p near far list first before ends s
      some zero i c can is = absurd (omega (arith, ap length c, length-append before (ends ∷ [])))
      some (suc k) i c can is =
          let l = last_ends k list before ends i c in
          let own : word ends near ≡ word list (2 * k + near) = rw l.ends_are (end_at k near list a) in
          let other : word ends far ≡ word list (2 * k + far) = rw l.ends_are (end_at k far list b) in
          record {
            can_push = rw own can.0;
            more = rw (own, other) (record { left = k; inside = omega arith; rest_is = l.before_is; can_fill = can.1; filled = is });
          }

  -- none is left
  pub push_none :
      length rest ≡ 0 → Filling u p near far list first rest s → s ≡ fill_rows_m u p list near far (length list / 2) first
  unfolding fill_rows_m
  push_none e h = some h.left (sym (ap length h.rest_is) ∙ e) h.filled
    where
      some :
          (k : ℕ) → length (first_chunks 2 k list) ≡ 0 →
          fill_rows_m u p list near far k s ≡ fill_rows_m u p list near far (length list / 2) first →
          s ≡ fill_rows_m u p list near far (length list / 2) first
      some zero l is = is
      some (suc k) l is = absurd (omega arith)
