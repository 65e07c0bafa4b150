-- Representatives: going through a party's row with a map from the other ends to appointments finds for each appointment whether
-- an earlier one has its ends. Assumes nothing.
use Prim.Native.Nat.{ℕ, ◌+◌, ◌*◌, ◌/◌, ◌%◌, ◌≤◌, ◌<◌}
use mathlib.Core.Path.{◌≡◌, refl, sym, ◌∙◌, ap}
use mathlib.Core.List.{List}
use mathlib.Core.Logic.{inl, inr, ⊎_elim}
use native.Mathlib.Omega.{arith}
use native.Mathlib.Decide.{ℕ_discrete, dec_lt}
use lib.ListN.{length}
use Rattle.words.specs.Words.{word, put_word}
use Rattle.words.specs.Sides.{mate}
use Rattle.words.specs.Frames.{Changes}
use Rattle.words.proofs.Frames.{here, away, length_put}
use Rattle.words.proofs.Ranges.{changes_trans, changes_put, changes_put_low}
use Rattle.words.proofs.Below.{row_inside}
use Rattle.multigraph.specs.Regular.{SameEnds}
use Rattle.multigraph.proofs.Ends.{same_ends_sym, same_ends_trans}
use Rattle.list_pairs.specs.Contract.{first_of, second_of}
use Rattle.list_pairs.specs.declared.rows.RowBases.{RowBases}
use Rattle.list_pairs.specs.Rows.{row, counter}
use Rattle.list_pairs.specs.Ends.{Earlier}
use Rattle.list_pairs.specs.Representatives.{Same, Rep, candidate, Finds, RepFound, RepsFit, RowDone, RepsDone}

-- ── the two ends ──

-- a half-edge and its mate are the ends of their appointment
pub half_ends :
    (list : List ℕ) (h : ℕ) → SameEnds (word list h) (word list (mate h)) (first_of list (h / 2)) (second_of list (h / 2))
half_ends list h =
    elim (ℕ_discrete (h % 2) 0) [
      | yes e ↦
          let a : 2 * (h / 2) ≡ h = omega arith in
          let b : 2 * (h / 2) + 1 ≡ mate h = omega arith in
          inl (ap (λ n. word list n) a, ap (λ n. word list n) b)
      | no e ↦
          let a : 2 * (h / 2) ≡ mate h = omega arith in
          let b : 2 * (h / 2) + 1 ≡ h = omega arith in
          inr (ap (λ n. word list n) a, ap (λ n. word list n) b)
    ]

-- an appointment with the ends v and w has a half-edge of v, whose mate is one of w
pub record Half (list : List ℕ) (k v w h : ℕ) : Type 0 where
  pub of : h / 2 ≡ k
  pub own : word list h ≡ v
  pub other : word list (mate h) ≡ w

-- that half-edge
pub half_of :
    (list : List ℕ) (k v w : ℕ) → SameEnds v w (first_of list k) (second_of list k) → (h : ℕ) × Half list k v w h
half_of list k v w e =
    ⊎_elim
    (λ i.
    let m : mate (2 * k) ≡ 2 * k + 1 = omega arith in
    (2 * k, record { of = omega arith; own = i.0; other = ap (λ n. word list n) m ∙ i.1 }))
    (λ i.
    let m : mate (2 * k + 1) ≡ 2 * k = omega arith in
    (2 * k + 1, record { of = omega arith; own = i.1; other = ap (λ n. word list n) m ∙ i.0 }))
    e

-- ── what is written ──

-- the words after it: representative j for appointment i, candidate c for party w
pub record RepWritten (map apair w i j c : ℕ) (s t : List ℕ) : Type 0 where
  pub rep : word t (apair + i) ≡ j
  pub its_map : word t (map + w) ≡ c
  pub elsewhere : (n : ℕ) → (n ≡ apair + i → ⊥) → (n ≡ map + w → ⊥) → word t n ≡ word s n

-- what is known of a half-edge that has been passed
pub record Passed (list : List ℕ) (map apair h : ℕ) (s : List ℕ) : Type 0 where
  pub rep : Rep list (h / 2) (word s (apair + h / 2))
  pub le : candidate list map h s ≤ h / 2
  pub same : Same list (candidate list map h s) (h / 2)

-- The first k half-edges of the row of v have been passed, and representatives found before are kept.
pub record Going (list : List ℕ) (rs : RowBases) (map apair v k : ℕ) (s₀ s : List ℕ) : Type 0 where
  pub passed : (t : ℕ) → t < k → Passed list map apair (row s₀ rs v t) s
  pub kept : (i : ℕ) → i < length list / 2 → Rep list i (word s₀ (apair + i)) → Rep list i (word s (apair + i))
  pub changes : Changes apair (length list / 2) map rs.parties s₀ s

module _ (list : List ℕ) (rs : RowBases) (map apair : ℕ) (s₀ : List ℕ) (fit : RepsFit list rs map apair s₀) (v : ℕ)
    (party : v < rs.parties) where
  abbrev h_at : ℕ → ℕ
  h_at t = row s₀ rs v t

  abbrev len : ℕ
  len = counter s₀ rs v

  h_below : (t : ℕ) → t < len → h_at t < length list
  h_below t a = fit.in_rows.below v t party a

  mate_below : (h : ℕ) → h < length list → mate h < length list
  mate_below h a = omega (arith, fit.even)

  apair_low : apair + length list / 2 ≤ map
  apair_low = omega (arith, fit.before, fit.after, fit.after_rows)

  -- the row is as it was
  pub row_kept : (k t : ℕ) (s : List ℕ) → t < len → Going list rs map apair v k s₀ s → row s rs v t ≡ h_at t
  row_kept k t s a g =
      g.changes.between (rs.rows + rs.d * v + t) (omega (arith, fit.before, fit.after))
      (omega (arith, fit.after_rows, row_inside rs.d v t rs.parties party (omega (arith, fit.lens v party))))

  module _ (k : ℕ) (s : List ℕ) (inside : k < len) (g : Going list rs map apair v k s₀ s) where
    abbrev h : ℕ
    h = h_at k

    abbrev i : ℕ
    i = h / 2

    abbrev w : ℕ
    w = word list (mate h)

    own : word list h ≡ v
    own = fit.in_rows.named v k party inside

    i_below : i < length list / 2
    i_below = omega (arith, h_below k inside, fit.even)

    w_party : w < rs.parties
    w_party = fit.ends (mate h) (mate_below h (h_below k inside))

    -- where an earlier appointment has the same ends, its half-edge at v has been passed
    seen : (j : ℕ) → j < i → Same list j i → (word s (map + w) ≤ j) × Same list (word s (map + w)) j
    seen j less e =
        let f = half_of list j (word list h) w (same_ends_trans (half_ends list h) (same_ends_sym e)) in
        let x : ℕ = f.0 in
        let x_of : x / 2 ≡ j = f.1.of in
        let x_own : word list x ≡ v = f.1.own ∙ own in
        let at = fit.in_rows.there x (omega (arith, h_below k inside)) in
        let at_below : at.0 < len = rw x_own at at.1 in
        let at_is : h_at at.0 ≡ x = rw x_own at at.2 in
        let before : at.0 < k = earlier_place at.0 at_below (omega arith) in
        let old = g.passed at.0 before in
        let le : candidate list map x s ≤ x / 2 = rw at_is at old.le in
        let same : Same list (candidate list map x s) (x / 2) = rw at_is at old.same in
        (rw (f.1.other, x_of) at le, rw (f.1.other, x_of) at same)
      where
        earlier_place : (t : ℕ) → t < len → h_at t < h → t < k
        earlier_place t a less' =
            elim (dec_lt t k) [
              | yes y ↦ y
              | no y ↦
                  elim (ℕ_discrete t k) [
                    | yes z ↦ absurd (omega (arith, ap h_at z))
                    | no z ↦ absurd (omega (arith, fit.in_rows.order v k t party (omega arith) a))
                  ]
            ]

    module _ (j c : ℕ) (t : List ℕ) (is_rep : Rep list i j) (is_c : c ≤ i) (c_same : Same list c i)
        (others : (x : ℕ) → x < k → word list (mate (h_at x)) ≡ w → c ≡ word s (map + w)) (wr : RepWritten map apair w i j c s t)
        (ch : Changes apair (length list / 2) map rs.parties s t) where
      rep_kept : (n : ℕ) → n < length list / 2 → Rep list n (word s (apair + n)) → Rep list n (word t (apair + n))
      rep_kept n a r =
          elim (ℕ_discrete n i) [
            | yes e ↦ rw (e, wr.rep) is_rep
            | no e ↦
                rw (wr.elsewhere (apair + n) (λ x. e (omega arith)) (λ x. omega (arith, apair_low))) r
          ]

      -- the map for the other end of a half-edge that was passed before
      map_kept : (x : ℕ) → x < k → candidate list map (h_at x) t ≡ candidate list map (h_at x) s
      map_kept x a =
          elim (ℕ_discrete (word list (mate (h_at x))) w) [
            | yes e ↦ rw e (wr.its_map ∙ others x a e)
            | no e ↦
                wr.elsewhere (map + word list (mate (h_at x))) (λ y. omega (arith, apair_low, i_below)) (λ y. e (omega arith))
          ]

      passed_more : (x : ℕ) → x < k + 1 → Passed list map apair (h_at x) t
      passed_more x a =
          elim (ℕ_discrete x k) [
            | yes e ↦
                rw e (record { rep = rw wr.rep is_rep; le = rw wr.its_map is_c; same = rw wr.its_map c_same })
            | no e ↦
                let old = g.passed x (omega arith) in
                record {
                  rep = rep_kept (h_at x / 2) (omega (arith, h_below x (omega arith), fit.even)) old.rep;
                  le = rw (map_kept x (omega arith)) old.le;
                  same = rw (map_kept x (omega arith)) old.same;
                }
          ]

      stepped : Going list rs map apair v (k + 1) s₀ t
      stepped =
          record {
            passed = passed_more;
            kept = λ n a r. rep_kept n a (g.kept n a r);
            changes = changes_trans g.changes ch;
          }

    own_ends : SameEnds (word list h) w (first_of list i) (second_of list i)
    own_ends = half_ends list h

    s_len : length s ≡ length s₀
    s_len = g.changes.len

    i_small : i < 4294967296
    i_small = omega (arith, i_below, fit.short)

    i_inside : apair + i < length s
    i_inside = omega (arith, i_below, apair_low, fit.inside, s_len)

    -- the next half-edge, its mate and their places
    pub finds : Finds list map apair h s
    finds =
        record {
          half = h_below k inside;
          other = mate_below h (h_below k inside);
          rep = i_inside;
          candidate = omega (arith, w_party, fit.inside, s_len);
        }

    going_found :
        (t : List ℕ) → Earlier list (word s (map + w)) i (word list h) w → t ≡ put_word s (apair + i) (word s (map + w)) →
        Going list rs map apair v (k + 1) s₀ t
    going_found t e q =
        let c : ℕ = word s (map + w) in
        stepped c c t
        (record {
          le = e.0;
          same = same_ends_trans (same_ends_sym e.1) own_ends;
          first = λ x m less sm. omega (arith, (seen m less sm).0);
        })
        e.0 (same_ends_trans (same_ends_sym e.1) own_ends) (λ x a y. refl)
        (rw q
        (record {
          rep = here s (apair + i) c i_inside (omega (arith, e.0, i_small));
          its_map = away s (apair + i) (map + w) c (λ x. omega (arith, apair_low, i_below));
          elsewhere = λ n x y. away s (apair + i) n c x;
        }))
        (rw q (changes_put_low apair (length list / 2) map rs.parties s (apair + i) c apair_low (omega arith)
        (omega (arith, i_below))))

    -- a half-edge passed before with the same other end would have given a candidate
    not_met : (Earlier list (word s (map + w)) i (word list h) w → ⊥) → (x : ℕ) → x < k → word list (mate (h_at x)) ≡ w → ⊥
    not_met n x a q =
        let old = g.passed x a in
        let less : h_at x < h = fit.in_rows.order v x k party a inside in
        let le : word s (map + w) ≤ h_at x / 2 = rw q at old.le in
        let same : Same list (word s (map + w)) (h_at x / 2) = rw q at old.same in
        let named : word list (h_at x) ≡ word list h = fit.in_rows.named v x party (omega arith) ∙ sym own in
        let ends : SameEnds (word list h) w (first_of list (h_at x / 2)) (second_of list (h_at x / 2)) =
        rw (named, q) at (half_ends list (h_at x)) in
        n (omega arith, same_ends_trans ends (same_ends_sym same))

    going_new :
        (t : List ℕ) → (Earlier list (word s (map + w)) i (word list h) w → ⊥) →
        t ≡ put_word (put_word s (apair + i) i) (map + w) i → Going list rs map apair v (k + 1) s₀ t
    going_new t n q =
        let u : List ℕ = put_word s (apair + i) i in
        let u_len : length u ≡ length s = length_put s (apair + i) i in
        stepped i i t
        (record {
          le = omega arith;
          same = inl (refl, refl);
          first =
              λ x m less sm.
              let y = seen m less sm in
              n (omega (arith, y.0), same_ends_trans own_ends (same_ends_sym (same_ends_trans y.1 sm)));
        })
        (omega arith) (inl (refl, refl)) (λ x a y. absurd (not_met n x a y))
        (rw q
        (record {
          rep = away u (map + w) (apair + i) i (λ x. omega (arith, apair_low, i_below)) ∙ here s (apair + i) i i_inside i_small;
          its_map = here u (map + w) i (omega (arith, w_party, fit.inside, s_len, u_len)) i_small;
          elsewhere = λ m x y. away u (map + w) m i y ∙ away s (apair + i) m i x;
        }))
        (rw q
        (changes_trans
        (changes_put_low apair (length list / 2) map rs.parties s (apair + i) i apair_low (omega arith) (omega (arith, i_below)))
        (changes_put apair (length list / 2) map rs.parties u (map + w) i apair_low (omega arith) (omega (arith, w_party)))))

    pub going_more : (t : List ℕ) → RepFound list map apair h s t → Going list rs map apair v (k + 1) s₀ t
    going_more t f = ⊎_elim (λ x. going_found t x.0 x.1) (λ x. going_new t x.0 x.1) f

    -- it is what is read now
    module _ (x : ℕ) (read : x ≡ row s rs v k) where
      is_next : x ≡ h
      is_next = read ∙ row_kept k k s inside g

      -- one half-edge more
      pub going_on : (t : List ℕ) → RepFound list map apair x s t → Going list rs map apair v (k + 1) s₀ t
      going_on t f = going_more t (rw is_next at f)

  -- the whole row has been gone through
  pub row_done : (s : List ℕ) → Going list rs map apair v len s₀ s → RowDone list rs.parties map apair v s₀ s
  row_done s g =
      record {
        reps = λ h a e. one h (fit.in_rows.there h a) e;
        kept = g.kept;
        changes = g.changes;
      }
    where
      one :
          (h : ℕ) → (t : ℕ) × (t < counter s₀ rs (word list h)) × (row s₀ rs (word list h) t ≡ h) → word list h ≡ v →
          Rep list (h / 2) (word s (apair + h / 2))
      one h at e =
          let inside : at.0 < len = rw e at at.1 in
          let is : h_at at.0 ≡ h = rw e at at.2 in
          rw is at (g.passed at.0 inside).rep

-- ── all rows ──

module _ (list : List ℕ) (rs : RowBases) (map apair : ℕ) (s₀ : List ℕ) (fit : RepsFit list rs map apair s₀) where
  -- what the search writes is neither a row nor a length
  pub reps_fit_kept : (s : List ℕ) → Changes apair (length list / 2) map rs.parties s₀ s → RepsFit list rs map apair s
  reps_fit_kept s ch =
      record {
        in_rows =
            record {
              lens = λ v a. len_same v a ∙ fit.in_rows.lens v a;
              below = λ v t a l. rw (row_same v t a (old v t a l)) (fit.in_rows.below v t a (old v t a l));
              named = λ v t a l. rw (row_same v t a (old v t a l)) (fit.in_rows.named v t a (old v t a l));
              order =
                  λ v t u a x l.
                  rw (row_same v t a (omega (arith, old v u a l)), row_same v u a (old v u a l))
                  (fit.in_rows.order v t u a x (old v u a l));
              there = λ h a. there h a (fit.in_rows.there h a);
            };
        lens = λ v a. rw (len_same v a) (fit.lens v a);
        ends = fit.ends;
        even = fit.even;
        short = fit.short;
        before = fit.before;
        after = fit.after;
        after_rows = fit.after_rows;
        inside = omega (arith, fit.inside, ch.len);
        small = fit.small;
      }
    where
      len_same : (v : ℕ) → v < rs.parties → counter s rs v ≡ counter s₀ rs v
      len_same v a = ch.between (rs.counts + v) (omega (arith, fit.before)) (omega (arith, fit.after, fit.after_rows))

      old : (v t : ℕ) → v < rs.parties → t < counter s rs v → t < counter s₀ rs v
      old v t a l = omega (arith, len_same v a)

      row_same : (v t : ℕ) → v < rs.parties → t < counter s₀ rs v → row s rs v t ≡ row s₀ rs v t
      row_same v t a l =
          ch.between (rs.rows + rs.d * v + t) (omega (arith, fit.before, fit.after))
          (omega (arith, fit.after_rows, row_inside rs.d v t rs.parties a (omega (arith, fit.lens v a))))

      there :
          (h : ℕ) → h < length list → (t : ℕ) × (t < counter s₀ rs (word list h)) × (row s₀ rs (word list h) t ≡ h) →
          (t : ℕ) × (t < counter s rs (word list h)) × (row s rs (word list h) t ≡ h)
      there h a x =
          let party : word list h < rs.parties = fit.ends h a in
          (x.0, omega (arith, x.1, len_same (word list h) party), row_same (word list h) x.0 party x.1 ∙ x.2)

  -- one row more
  pub reps_more :
      (v : ℕ) (s t : List ℕ) → v < rs.parties → RepsDone list rs.parties map apair v s₀ s →
      RowDone list rs.parties map apair v s t →
      RepsDone list rs.parties map apair (v + 1) s₀ t
  reps_more v s t a x y =
      record {
        reps = λ h l e. one h l e;
        changes = changes_trans x.changes y.changes;
      }
    where
      one : (h : ℕ) → h < length list → word list h < v + 1 → Rep list (h / 2) (word t (apair + h / 2))
      one h l e =
          elim (ℕ_discrete (word list h) v) [
            | yes q ↦ y.reps h l q
            | no q ↦ y.kept (h / 2) (omega (arith, fit.even)) (x.reps h l (omega arith))
          ]

  -- every appointment has its representative
  pub rep_of :
      (t : List ℕ) → RepsDone list rs.parties map apair rs.parties s₀ t → (i : ℕ) → i < length list / 2 →
      Rep list i (word t (apair + i))
  rep_of t x i a =
      let h : 2 * i < length list = omega arith in
      let e : 2 * i / 2 ≡ i = omega arith in
      rw e at (x.reps (2 * i) h (fit.ends (2 * i) h))
