-- The answers as rows of three: where the row of a query stands, how long they are, and one more of them put from the table. Assumes nothing.
use Prim.Native.Nat.{ℕ, zero, suc, ◌+◌, ◌*◌, ◌≤◌, ◌<◌}
use mathlib.Core.Path.{◌≡◌, refl}
use mathlib.Core.List.{List, [], ◌∷◌, ◌++◌, append-nil}
use native.Mathlib.Omega.{arith}
use lib.ListN.{length, take, drop}
use Rattle.words.specs.Words.{word, filled}
use Rattle.words.proofs.Filling.{filled_all, RowAt, row_on, filled_row}
use Rattle.appointments.specs.Appointments.{Appt, load}
use Rattle.appointments.specs.Answers.{over}
use Rattle.asking.specs.PartySlots.{slots_of, lowest, highest}
use Rattle.asking_many.specs.Many.{or_none, asked_of_one, asked_of_all}
use Rattle.asking_many.specs.Tables.{row_of, put_three}
use Rattle.asking_many.specs.declared.Row.{Row}

module _ (xs : List Appt) (slots : List ℕ) where
  pub answers_length : (queries : List ℕ) → length (asked_of_all xs slots queries) ≡ 3 * length queries
  unfolding asked_of_all
  answers_length [] = refl
  answers_length (v ∷ queries) = omega (arith, answers_length queries)

  -- the row of query j is that of the party that it asks for
  abbrev AskedAt : List ℕ → ℕ → ℕ → Type 0
  AskedAt answers j v =
      RowAt answers j (load v xs) (or_none (load v xs) (lowest (slots_of v xs slots))) (or_none (load v xs) (highest (slots_of v xs slots)))

  asked_at : (queries : List ℕ) (j : ℕ) → j < length queries → AskedAt (asked_of_all xs slots queries) j (word queries j)
  unfolding asked_of_all
  asked_at [] j h = absurd (omega arith)
  asked_at (v ∷ queries) zero h = record { first_at = refl; second_at = refl; third_at = refl }
  asked_at (v ∷ queries) (suc j) h = row_on _ _ _ (asked_of_all xs slots queries) j _ _ _ (asked_at queries j (omega arith))

  module _ (queries out₀ : List ℕ) (room : 3 * length queries ≤ length out₀) where
    -- one query more
    pub answered_more :
        (j : ℕ) (row : Row) (out : List ℕ) → j < length queries → row ≡ row_of xs slots (word queries j) →
        out ≡ filled (asked_of_all xs slots queries) (3 * j) out₀ →
        put_three out j row ≡ filled (asked_of_all xs slots queries) (3 * (j + 1)) out₀
    answered_more j row out h k e =
        rw (e, k)
        (filled_row (asked_of_all xs slots queries) j _ _ _ out₀ (asked_at queries j h) (omega (arith, answers_length queries)) (omega arith))

    -- all of them, and behind them what was there
    pub answered_all : (j : ℕ) → j ≡ length queries → filled (asked_of_all xs slots queries) (3 * j) out₀ ≡ over (asked_of_all xs slots queries) out₀
    answered_all j e =
        let long : 3 * j ≡ length (asked_of_all xs slots queries) = omega (arith, answers_length queries) in
        rw long (filled_all (asked_of_all xs slots queries) _ out₀ refl)

-- ── each as by itself ──

-- the entries of query j, whatever comes behind them
pub entries_at :
    (xs : List Appt) (slots queries rest : List ℕ) (j : ℕ) → j < length queries →
    take 3 (drop (3 * j) (asked_of_all xs slots queries ++ rest)) ≡ asked_of_one xs slots (word queries j)
unfolding asked_of_all
entries_at xs slots [] rest j h = absurd (omega arith)
entries_at xs slots (v ∷ queries) rest zero h = refl
entries_at xs slots (v ∷ queries) rest (suc j) h =
    let on : 3 * suc j ≡ suc (suc (suc (3 * j))) = omega arith in
    rw on (entries_at xs slots queries rest j (omega arith))

-- of one query alone they are all
pub one_alone : (xs : List Appt) (slots : List ℕ) (v : ℕ) → asked_of_all xs slots (v ∷ []) ≡ asked_of_one xs slots v
unfolding asked_of_all
one_alone xs slots v = append-nil (asked_of_one xs slots v)
