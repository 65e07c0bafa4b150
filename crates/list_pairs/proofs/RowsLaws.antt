-- The rows of half-edges: what one more half-edge does. Assumes nothing.
use Prim.Native.Nat.{ℕ, ◌+◌, ◌*◌, ◌≤◌, ◌<◌}
use mathlib.Core.Path.{◌≡◌, refl, ◌∙◌, ap}
use mathlib.Core.List.{List}
use native.Mathlib.Omega.{arith}
use native.Mathlib.Decide.{ℕ_discrete}
use lib.ListN.{length, take}
use Rattle.words.specs.Basics.{is, count}
use Rattle.words.specs.Words.{word, put_word}
use Rattle.words.specs.Clearing.{Cleared}
use Rattle.words.proofs.Sums.{is_same, is_ne, count_take_le}
use Rattle.words.proofs.Frames.{keeps_trans, keeps_less}
use Rattle.words.proofs.Below.{rows_apart, row_inside}
use Rattle.appointments.proofs.Flat.{count_more}
use Rattle.list_pairs.specs.declared.rows.RowBases.{RowBases}
use Rattle.list_pairs.specs.Rows.{row, counter, Pushes, row_pushed, RowsFit, RowsFilled}
use Rattle.words.proofs.Puts.{Put, put_is}

-- ── clearing ──

-- there is room for the rows also after some words were cleared
pub fit_cleared :
    {list : List ℕ} {rs : RowBases} {b n : ℕ} {s t : List ℕ} → Cleared b n s t → RowsFit list rs s → RowsFit list rs t
fit_cleared c h =
    record {
      ends = h.ends;
      loads = h.loads;
      after = h.after;
      inside = omega (arith, h.inside, c.keeps.len);
      small = h.small;
      short = h.short;
    }

-- rows filled where some words, none of them below the counters, were cleared before
pub filled_cleared :
    {list : List ℕ} {rs : RowBases} {k b n : ℕ} {s t u : List ℕ} → rs.counts ≤ b → Cleared b n s t → RowsFilled list rs k t u →
    RowsFilled list rs k s u
filled_cleared {list} {rs} above c x =
    record { filled = x.filled; keeps = keeps_trans (keeps_less rs.counts above c.keeps) x.keeps }

-- ── one half-edge more ──

-- the words after half-edge h has gone to the end of the row of v
pub record RowPushed (rs : RowBases) (v h : ℕ) (s t : List ℕ) : Type 0 where
  pub len : length t ≡ length s
  pub under : (i : ℕ) → i < rs.counts → word t i ≡ word s i
  pub own_len : counter t rs v ≡ counter s rs v + 1
  pub other_len : (w : ℕ) → w < rs.parties → (w ≡ v → ⊥) → counter t rs w ≡ counter s rs w
  pub last : row t rs v (counter s rs v) ≡ h
  pub own_row : (x : ℕ) → x < counter s rs v → row t rs v x ≡ row s rs v x
  pub other_row : (w x : ℕ) → w < rs.parties → (w ≡ v → ⊥) → x < rs.d → row t rs w x ≡ row s rs w x

-- where the row has a place left
pub row_pushed_is :
    (rs : RowBases) (v h : ℕ) (s t : List ℕ) → v < rs.parties → counter s rs v < rs.d → rs.counts + rs.parties ≤ rs.rows →
    rs.rows + rs.d * rs.parties ≤ length s →
    rs.rows + rs.d * rs.parties ≤ 4294967296 → h < 4294967296 →
    t ≡ row_pushed rs v h s → RowPushed rs v h s t
row_pushed_is rs v h s t party short after inside small fits e =
    record {
      len = q.len ∙ p.len;
      under = λ i a. q.else i (λ x. omega arith) ∙ p.else i (λ x. omega arith);
      own_len = q.new;
      other_len = λ w a n. q.else (rs.counts + w) (λ x. n (omega arith)) ∙ p.else (rs.counts + w) (λ x. omega arith);
      last = q.else at (λ x. omega arith) ∙ p.new;
      own_row = λ x a. q.else (rs.rows + rs.d * v + x) (λ y. omega arith) ∙ p.else (rs.rows + rs.d * v + x) (λ y. omega arith);
      other_row =
          λ w x a n k.
          q.else (rs.rows + rs.d * w + x) (λ y. omega arith)
          ∙ p.else (rs.rows + rs.d * w + x) (λ y. rows_apart rs.d w x v l k short n (omega arith));
    }
  where
    l : ℕ
    l = counter s rs v

    at : ℕ
    at = rs.rows + rs.d * v + l

    in_row : rs.d * v + l < rs.d * rs.parties
    in_row = row_inside rs.d v l rs.parties party short

    p : Put at h s (put_word s at h)
    p = put_is at h s (put_word s at h) refl (omega (arith, in_row)) fits

    q : Put (rs.counts + v) (l + 1) (put_word s at h) t
    q = put_is (rs.counts + v) (l + 1) (put_word s at h) t e (omega (arith, p.len, in_row)) (omega (arith, in_row))

module _ (list : List ℕ) (rs : RowBases) (s : List ℕ) (h : RowsFit list rs s) where
  -- with all counters 0 no half-edge is in a row
  pub filled_none : (t : List ℕ) → Cleared rs.counts rs.parties s t → RowsFilled list rs 0 s t
  unfolding count
  filled_none t x =
      record {
        filled =
            record {
              lens = λ v a. x.zero v a;
              below = λ v i a k. absurd (omega (arith, x.zero v a));
              named = λ v i a k. absurd (omega (arith, x.zero v a));
              order = λ v i j a k l. absurd (omega (arith, x.zero v a));
              there = λ e a. absurd (omega arith);
            };
        keeps = x.keeps;
      }

  module _ (k : ℕ) (t : List ℕ) (inside : k < length list) (x : RowsFilled list rs k s t) where
    abbrev v : ℕ
    v = word list k

    v_party : v < rs.parties
    v_party = h.ends k inside

    more : (w : ℕ) → count w (take (k + 1) list) ≡ count w (take k list) + is w (word list k)
    more w = count_more w list k inside

    own_count : counter t rs v + 1 ≡ count v (take (k + 1) list)
    own_count = omega (arith, x.filled.lens v v_party, more v, is_same v)

    lens_le : (w : ℕ) → w < rs.parties → counter t rs w ≤ rs.d
    lens_le w a = omega (arith, x.filled.lens w a, count_take_le w list k, h.loads w a)

    v_short : counter t rs v < rs.d
    v_short = omega (arith, own_count, count_take_le v list (k + 1), h.loads v v_party)

    -- it has a place in its row
    pub pushes : Pushes rs v t
    pushes =
        record {
          count = omega (arith, v_party, h.after, h.inside, x.keeps.len);
          next = omega (arith, row_inside rs.d v (counter t rs v) rs.parties v_party v_short, h.inside, x.keeps.len);
        }

    module _ (u : List ℕ) (e : u ≡ row_pushed rs v k t) where
      p : RowPushed rs v k t u
      p =
          row_pushed_is rs v k t u v_party v_short h.after (omega (arith, h.inside, x.keeps.len)) (omega (arith, h.small))
          (omega (arith, h.short)) e

      lens' : (w : ℕ) → w < rs.parties → counter u rs w ≡ count w (take (k + 1) list)
      lens' w a =
          elim (ℕ_discrete w v) [
            | yes y ↦ rw y (p.own_len ∙ own_count)
            | no y ↦ p.other_len w a y ∙ omega (arith, x.filled.lens w a, more w, is_ne {u = w} {v = word list k} y)
          ]

      -- a place of a row is as before, or the new last one
      each :
          (P : ℕ → ℕ → Type 0) → P v k → ((w i : ℕ) → w < rs.parties → i < counter t rs w → P w (row t rs w i)) → (w i : ℕ) →
          w < rs.parties → i < counter u rs w → P w (row u rs w i)
      each P new old w i a l =
          elim (ℕ_discrete w v) [
            | yes y ↦
                rw y
                (elim (ℕ_discrete i (counter t rs v)) [
                  | yes z ↦ rw (z, p.last) new
                  | no z ↦
                      let i_old : i < counter t rs v = omega (arith, p.own_len, ap (λ n. counter u rs n) y) in
                      rw (p.own_row i i_old) (old v i v_party i_old)
                ])
            | no y ↦
                let i_old : i < counter t rs w = omega (arith, p.other_len w a y) in
                rw (p.other_row w i a y (omega (arith, lens_le w a))) (old w i a i_old)
          ]

      below' : (w i : ℕ) → w < rs.parties → i < counter u rs w → row u rs w i < k + 1
      below' = each (λ w f. f < k + 1) (omega arith) (λ w i a l. omega (arith, x.filled.below w i a l))

      order' : (w i j : ℕ) → w < rs.parties → i < j → j < counter u rs w → row u rs w i < row u rs w j
      order' w i j a l m =
          elim (ℕ_discrete w v) [
            | yes y ↦
                let i_old : i < counter t rs v = omega (arith, p.own_len, ap (λ n. counter u rs n) y) in
                rw y
                (elim (ℕ_discrete j (counter t rs v)) [
                  | yes z ↦ rw (p.own_row i i_old, z, p.last) (x.filled.below v i v_party i_old)
                  | no z ↦
                      let j_old : j < counter t rs v = omega (arith, p.own_len, ap (λ n. counter u rs n) y) in
                      rw (p.own_row i i_old, p.own_row j j_old) (x.filled.order v i j v_party l j_old)
                ])
            | no y ↦
                let j_old : j < counter t rs w = omega (arith, p.other_len w a y) in
                rw (p.other_row w i a y (omega (arith, lens_le w a)), p.other_row w j a y (omega (arith, lens_le w a)))
                (x.filled.order w i j a l j_old)
          ]

      there' : (f : ℕ) → f < k + 1 → (i : ℕ) × (i < counter u rs (word list f)) × (row u rs (word list f) i ≡ f)
      there' f a =
          elim (ℕ_discrete f k) [
            | yes y ↦ rw y (counter t rs v, omega (arith, p.own_len), p.last)
            | no y ↦
                let old = x.filled.there f (omega arith) in
                let f_party : word list f < rs.parties = h.ends f (omega arith) in
                elim (ℕ_discrete (word list f) v) [
                  | yes z ↦
                      let i_old : old.0 < counter t rs v = rw z at old.1 in
                      (old.0, rw z (omega (arith, p.own_len, i_old)), rw z (p.own_row old.0 i_old) ∙ rw z at old.2)
                  | no z ↦ (
                    old.0,
                    omega (arith, p.other_len (word list f) f_party z, old.1),
                    p.other_row (word list f) old.0 f_party z (omega (arith, lens_le (word list f) f_party, old.1)) ∙ old.2,
                  )
                ]
          ]

      pub filled_more : RowsFilled list rs (k + 1) s u
      filled_more =
          record {
            filled = record { lens = lens'; below = below'; named = each (λ w f. word list f ≡ w) refl x.filled.named; order = order'; there = there' };
            keeps = keeps_trans x.keeps (record { len = p.len; same = p.under });
          }

    -- where the party has been read
    module _ (w : ℕ) (read : w ≡ v) where
      pub has_place : Pushes rs w t
      has_place = rw read pushes

      -- one half-edge more is in its row
      pub filled_on : (u : List ℕ) → u ≡ row_pushed rs w k t → RowsFilled list rs (k + 1) s u
      filled_on u e = filled_more u (rw read at e)
