-- The rows of neighbours as the code fills them: from the newest appointment down, first the second ends into the rows of the
-- first ends, then the other way round. That is document 01's order itself, and each row has room for what it gets. Assumes nothing.
use Prim.Native.Nat.{ℕ, zero, suc, ◌+◌, ◌*◌, ◌≤◌, ◌<◌}
use mathlib.Core.Path.{◌≡◌, refl, sym, ◌∙◌, ap}
use mathlib.Core.Bool.{Bool, true, false}
use mathlib.Core.List.{List, [], ◌∷◌, ◌++◌, append-nil, append_assoc}
use native.Mathlib.Omega.{arith}
use native.Mathlib.Decide.{ℕ_discrete, dec_lt}
use borrow.Author.Tests.{eq-eqb, ne_eqb}
use lib.Dec.{eqb}
use lib.ListN.{length, length-append}
use Rattle.words.specs.Basics.{pick, All}
use Rattle.words.specs.Words.{word}
use Rattle.words.specs.Frames.{Keeps}
use Rattle.words.proofs.Frames.{keeps_trans}
use Rattle.words.proofs.Below.{row_end}
use Rattle.appointments.specs.Appointments.{Appt, appt}
use Rattle.appointments.proofs.Loads.{Listed}
use Rattle.bipartition.specs.TwoColor.{far_ends}
use Rattle.two_color_steps.specs.Model.{Small, row_count, row_start, row_place, append_m, push_end_m, fill_rows_m}
use Rattle.two_color_steps.specs.Bounds.{CanPush, CanFill}
use Rattle.words.proofs.Regions.{Same}
use Rattle.two_color.proofs.Held.{Held, held_same, held_more, Appended, append_does, Rows}
use Rattle.two_color.proofs.Backwards.{backwards}

-- w at the end of the row of v
abbrev pushed : ℕ → ℕ → ℕ → ℕ → ℕ → List ℕ → List ℕ
pushed u p d v w s = append_m (row_count u p v) (row_place u p d v) w s

-- the rows hold the lists that f gives, and nothing below the rows' words has changed
pub record Filled (u p d : ℕ) (s₀ : List ℕ) (f : ℕ → List ℕ) (s : List ℕ) : Type 0 where
  pub frame : Keeps (u + 4 * p + 5) s₀ s
  pub rows : Rows u p d f s

pub filled_as : {u p d : ℕ} {s₀ s : List ℕ} (f g : ℕ → List ℕ) → ((v : ℕ) → f v ≡ g v) → Filled u p d s₀ f s → Filled u p d s₀ g s
filled_as f g e x = record { frame = x.frame; rows = record { starts = x.rows.starts; held = λ v h. rw (e v) at (x.rows.held v h) } }

-- `near` and `far` are the places of an appointment's ends
pub record Ends (p : ℕ) (list : List ℕ) (near far : ℕ) (nearOf farOf : Appt → ℕ) : Type 0 where
  pub near_is : (i : ℕ) → word list (2 * i + near) ≡ nearOf (appt (word list (2 * i)) (word list (2 * i + 1)))
  pub far_is : (i : ℕ) → word list (2 * i + far) ≡ farOf (appt (word list (2 * i)) (word list (2 * i + 1)))
  pub near_low : (x : Appt) → Listed p x → nearOf x < p
  pub far_low : (x : Appt) → Listed p x → farOf x < p

fed : (l : List ℕ) (t : Bool) (w : ℕ) (rest : List ℕ) → (l ++ pick t (w ∷ []) []) ++ rest ≡ l ++ pick t (w ∷ rest) rest
fed l true w rest = append_assoc l (w ∷ []) rest
fed l false w rest = rw (append-nil l)

module _ (u p d : ℕ) (small : Small u p) (s₀ : List ℕ) (fits : u + 6 * p + 5 + d * p ≤ length s₀) (narrow : d * p ≤ 8192) where
  -- ── one word ──

  module _ (f : ℕ → List ℕ) (s : List ℕ) (x : Filled u p d s₀ f s) (wide : (v : ℕ) → v < p → length (f v) ≤ d) (v w : ℕ) (below : v < p) (room : length (f v) < d) (w_low : w < 4294967296) where
    appended : Appended (row_count u p v) (row_place u p d v) (length (f v)) w s (pushed u p d v w s)
    appended =
        let e : d * v + d ≤ d * p = row_end d v p below in
        append_does (row_count u p v) (row_place u p d v) (length (f v)) w s (x.rows.held v below).count (omega (arith, x.frame.len)) (omega (arith, x.frame.len)) (λ q. omega arith) (omega arith) w_low

    -- it has a place in its row
    pushes : CanPush u p v s
    pushes =
        let len : length s ≡ length s₀ = x.frame.len in
        let end : d * v + d ≤ d * p = row_end d v p below in
        record {
          start = omega arith;
          appends = record { count = omega arith; next = omega (arith, x.rows.starts v below, (x.rows.held v below).count) };
        }

    -- another row is not met
    row_other : (y : ℕ) → y < p → (y ≡ v → ⊥) → Same (row_place u p d y) (length (f y)) s (pushed u p d v w s)
    row_other y h n i g l =
        appended.other i (λ q. omega arith)
        (λ q.
        elim (dec_lt y v) [
          | yes less ↦ omega (arith, row_end d y v less, wide y h)
          | no more ↦ omega (arith, row_end d v y (omega arith), wide y h)
        ])

    push_held : (y : ℕ) → y < p → Held (row_count u p y) (row_place u p d y) (pushed u p d v w s) (f y ++ pick (eqb y v) (w ∷ []) [])
    push_held y h =
        elim (ℕ_discrete y v) [
          | yes e ↦
              rw (eq-eqb y v e, e)
              (held_more (pushed u p d v w s) w appended.count appended.last (λ i g l. appended.other i (λ q. omega arith) (λ q. omega arith)) (x.rows.held v below))
          | no n ↦
              rw (ne_eqb y v n, append-nil (f y))
              (held_same (pushed u p d v w s) (appended.other (row_count u p y) (λ q. n (omega arith)) (λ q. omega arith)) (row_other y h n) (x.rows.held y h))
        ]

    push_filled : Filled u p d s₀ (λ y. f y ++ pick (eqb y v) (w ∷ []) []) (pushed u p d v w s)
    push_filled =
        record {
          frame = keeps_trans x.frame (record { len = appended.len; same = λ i h. appended.other i (λ q. omega arith) (λ q. omega arith) });
          rows = record {
            starts = λ y h. appended.other (row_start u p y) (λ q. omega arith) (λ q. omega arith) ∙ x.rows.starts y h;
            held = push_held;
          };
        }

  -- ── all appointments ──

  module _ (list : List ℕ) (near far : ℕ) (nearOf farOf : Appt → ℕ) (q : Ends p list near far nearOf farOf) where
    abbrev ends : ℕ → List Appt → List ℕ
    ends v xs = far_ends nearOf farOf v xs

    pub fill_filled :
        (n : ℕ) (f : ℕ → List ℕ) (s : List ℕ) → All (Listed p) (backwards list n) →
        ((v : ℕ) → v < p → length (f v) + length (ends v (backwards list n)) ≤ d) → Filled u p d s₀ f s →
        Filled u p d s₀ (λ v. f v ++ ends v (backwards list n)) (fill_rows_m u p list near far n s) × CanFill u p list near far n s
    unfolding fill_rows_m backwards push_end_m far_ends
    fill_filled zero f s listed wide x = (filled_as f _ (λ v. sym (append-nil (f v))) x, tt)
    fill_filled (suc i) f s listed wide x =
        let m : Appt = appt (word list (2 * i)) (word list (2 * i + 1)) in
        let rest : List Appt = backwards list i in
        let v : ℕ = nearOf m in
        let w : ℕ = farOf m in
        let below : v < p = q.near_low m listed.0 in
        let w_low : w < p = q.far_low m listed.0 in
        let g : ℕ → List ℕ = λ y. f y ++ pick (eqb y v) (w ∷ []) [] in
        let same : (y : ℕ) → g y ++ ends y rest ≡ f y ++ ends y (m ∷ rest) = λ y. fed (f y) (eqb y v) w (ends y rest) in
        let lengths : (y : ℕ) → y < p → length (g y) + length (ends y rest) ≤ d =
        λ y h. omega (arith, wide y h, length-append (g y) (ends y rest), length-append (f y) (ends y (m ∷ rest)), ap length (same y)) in
        let room : length (f v) < d = own v w f (ends v rest) (lengths v below) in
        let short : (y : ℕ) → y < p → length (f y) ≤ d = λ y h. omega (arith, wide y h) in
        let low : w < 4294967296 = omega (arith, small.few) in
        let more : Filled u p d s₀ g (pushed u p d v w s) = push_filled f s x short v w below room low in
        let later = fill_filled i g (pushed u p d v w s) listed.1 lengths more in
        rw (q.near_is i, q.far_is i, x.rows.starts v below) (
          filled_as (λ y. g y ++ ends y rest) _ same later.0,
          (pushes f s x short v w below room low, later.1),
        )
      where
        own : (v w : ℕ) (f : ℕ → List ℕ) (later : List ℕ) → length (f v ++ pick (eqb v v) (w ∷ []) []) + length later ≤ d → length (f v) < d
        own v w f later h = omega (arith, length-append (f v) (w ∷ []), rw (eq-eqb v v refl) at h)
