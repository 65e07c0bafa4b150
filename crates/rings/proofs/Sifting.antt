-- Sifting: the odd entries are noted in the stack's column, and every mark is cleared. Assumes nothing.
use Prim.Native.Nat.{ℕ, zero, suc, ◌+◌, ◌*◌, ◌%◌, ◌≤◌, ◌<◌}
use mathlib.Core.Path.{◌≡◌, refl, sym, ◌∙◌, ap, subst}
use mathlib.Core.Bool.{true}
use mathlib.Core.List.{List, ◌∷◌}
use native.Mathlib.Omega.{arith}
use native.Mathlib.Decide.{ℕ_discrete}
use borrow.Author.Tests.{eq-eqb, ne_eqb}
use lib.Dec.{eqb}
use lib.ListN.{length}
use Rattle.words.specs.Words.{word, put_word}
use Rattle.words.specs.Frames.{Keeps}
use Rattle.words.proofs.Frames.{here, away, length_put, keeps_refl, keeps_trans}
use Rattle.rings.specs.declared.Rings.{Rings}
use Rattle.rings.specs.Model.{Counted, copies_m, sift_m, sift_all_m}
use Rattle.rings.specs.Bounds.{SiftsAll}
use Rattle.euler.proofs.Places.{keep, keep_yes, keep_no, descend}
use Rattle.euler.proofs.Odds.{odds, odds_length}
use Rattle.rings.proofs.Bases.{Laid, copies_kept}
use Rattle.euler.proofs.Puts.{away2}
use Rattle.rings.proofs.Asides.{SameNodes, same_mark, same_high, same_trans}
use Rattle.euler.proofs.Notes.{Noted, noted_same}
use Rattle.rings.proofs.Columns.{slot}

module _ {l : Rings} {N m k : ℕ} {s₀ : List ℕ} (g : Laid l N m k s₀) where
  abbrev C : ℕ → ℕ
  C i = copies_m l s₀ i

  -- the odd ones of the first j entries, newest first
  abbrev first_odds : ℕ → List ℕ
  first_odds j = odds C (descend j)

  -- after the first j entries, from the words s on
  pub record SiftDone (j : ℕ) (s : List ℕ) (t : Counted) : Type 0 where
    pub same : SameNodes g s t.words
    pub marks : (i : ℕ) → i < j → word t.words (l.b + 8 * i + 2) ≡ 0
    pub noted : Noted (slot true l) t.words (first_odds j)
    pub counted : t.count ≡ length (first_odds j)

  -- the words after entry j, noted at the place n
  abbrev put_note : List ℕ → ℕ → ℕ → List ℕ
  put_note s j n = put_word (put_word s (l.b + 8 * j + 2) 0) (l.col + 2 * n) j

  note_same : (s : List ℕ) (j n : ℕ) → j < k → SameNodes g s (put_note s j n)
  note_same s j n b =
      let t : List ℕ = put_word s (l.b + 8 * j + 2) 0 in
      same_trans g s t (put_note s j n) (same_mark g s j 0 b)
      (same_high g t (l.col + 2 * n) j (omega (arith, g.column)))

  note_marks :
      (s : List ℕ) (j n : ℕ) → length s ≡ length s₀ → j < k →
      ((i : ℕ) → i < j → word s (l.b + 8 * i + 2) ≡ 0) → (i : ℕ) → i < suc j → word (put_note s j n) (l.b + 8 * i + 2) ≡ 0
  note_marks s j n len b old i c =
      away (put_word s (l.b + 8 * j + 2) 0) (l.col + 2 * n) (l.b + 8 * i + 2) j (λ e. omega (arith, g.column))
      ∙ elim (ℕ_discrete i j) [
        | yes e ↦ rw e (here s (l.b + 8 * j + 2) 0 (omega (arith, g.room)) (omega arith))
        | no q ↦ away s (l.b + 8 * j + 2) (l.b + 8 * i + 2) 0 (λ e. q (omega arith)) ∙ old i (omega arith)
      ]

  -- the notes below stay, and the new one stands above them
  note_noted :
      (s : List ℕ) (j : ℕ) (xs : List ℕ) → length s ≡ length s₀ → j < m → length xs < k → Noted (slot true l) s xs →
      Noted (slot true l) (put_note s j (length xs)) (j ∷ xs)
  note_noted s j xs len b c h =
      let n : ℕ = length xs in
      let t : List ℕ = put_word s (l.b + 8 * j + 2) 0 in
      let lt : length t ≡ length s = length_put s (l.b + 8 * j + 2) 0 in (
        here t (l.col + 2 * n) j (omega (arith, g.column, g.room)) (omega (arith, g.short)),
        noted_same (slot true l) s (put_note s j n) xs
            (λ i e.
            away2 s (l.b + 8 * j + 2) 0 (l.col + 2 * n) j (l.col + 2 * i) (λ q. omega (arith, g.column, g.entries)) (λ q. omega arith))
            h,
      )

  sift_step :
      (s : List ℕ) → Keeps l.b s₀ s → (j : ℕ) (t : Counted) → j < m → SiftDone j s t → SiftDone (suc j) s (sift_m l t j)
  unfolding sift_m descend
  sift_step s kept j t b h =
      let w : List ℕ = t.words in
      let jk : j < k = omega (arith, g.entries) in
      let now' : Keeps l.b s₀ w = keeps_trans kept h.same.keeps in
      let c : copies_m l w j % 2 ≡ C j % 2 = ap (λ (x : ℕ). x % 2) (copies_kept g w now' j b) in
      let at : put_note w j t.count ≡ put_note w j (length (first_odds j)) = rw h.counted in
      let new : Noted (slot true l) (put_note w j t.count) (j ∷ first_odds j) =
      subst (λ (z : List ℕ). Noted (slot true l) z (j ∷ first_odds j)) (sym at) (note_noted w j (first_odds j) now'.len b (omega (arith, odds_length C j)) h.noted) in
      let same : SameNodes g s (put_note w j t.count) =
      same_trans g s w (put_note w j t.count) h.same (note_same w j t.count jk) in
      let marks : (i : ℕ) → i < suc j → word (put_note w j t.count) (l.b + 8 * i + 2) ≡ 0 =
      note_marks w j t.count now'.len jk h.marks in
      elim (ℕ_discrete (C j % 2) 1) [
        | yes e ↦
            let list : first_odds (suc j) ≡ j ∷ first_odds j =
            keep_yes (λ i. eqb (C i % 2) 1) j (descend j) (eq-eqb (C j % 2) 1 e) in
            record {
              same = same;
              marks = marks;
              noted = subst (Noted (slot true l) (put_note w j t.count)) (sym list) new;
              counted = omega (arith, h.counted, ap length list);
            }
        | no n ↦
            let list : first_odds (suc j) ≡ first_odds j =
            keep_no (λ i. eqb (C i % 2) 1) j (descend j) (ne_eqb (C j % 2) 1 n) in
            record {
              same = same;
              marks = marks;
              noted = subst (Noted (slot true l) (put_note w j t.count)) (sym list) new.1;
              counted = omega (arith, h.counted, ap length list);
            }
      ]

  -- so it is, entry by entry
  pub sift_done : (s : List ℕ) → Keeps l.b s₀ s → (j : ℕ) → j ≤ m → SiftDone j s (sift_all_m l j s)
  unfolding sift_all_m descend keep
  sift_done s kept zero b =
      record {
        same = record { keeps = keeps_refl l.b s; afters = λ y n. refl; priors = λ y n. refl };
        marks = λ i c. absurd (omega arith);
        noted = tt;
        counted = refl;
      }
  sift_done s kept (suc j) b = sift_step s kept j (sift_all_m l j s) (omega arith) (sift_done s kept j (omega arith))

  -- every place that the sifting touches is one
  pub sifts_on : (s : List ℕ) → length s ≡ length s₀ → SiftsAll l m s
  sifts_on s len =
      record {
        copies = omega (arith, g.graph, g.room);
        marks = omega (arith, g.entries, g.room);
        notes = omega (arith, g.column, g.entries, g.room);
      }
