-- The pairs of a list over words: one appointment more is one `add_edge` more. Assumes nothing.
use Prim.Native.Nat.{ℕ, ◌+◌, ◌*◌, ◌/◌, ◌≤◌, ◌<◌}
use mathlib.Core.Path.{◌≡◌, sym, ◌∙◌, ap}
use mathlib.Core.List.{List}
use mathlib.Core.Logic.{inl, inr}
use native.Mathlib.Omega.{arith}
use native.Mathlib.Decide.{ℕ_discrete, dec_lt}
use borrow.Author.Tests.{lt-ltb, le-ltb}
use lib.ListN.{length, take, length-take}
use Rattle.words.specs.Words.{word, put_word}
use Rattle.words.proofs.Ranges.{three_trans, three_within, three_outer}
use Rattle.appointments.specs.Appointments.{appts}
use Rattle.appointments.proofs.Flat.{appts_count}
use Rattle.multigraph.specs.Multigraph.{add_edge}
use Rattle.multigraph.specs.Places.{size, HasEnds}
use Rattle.multigraph.proofs.Ends.{same_ends_sym, same_ends_trans}
use Rattle.list_pairs.specs.Contract.{first_of, second_of}
use Rattle.list_pairs.specs.Adding.{HasPlace, ItsNumber, PairFits, PairAdded}
use Rattle.list_pairs.specs.Representatives.{Rep}
use Rattle.list_pairs.specs.FromList.{pair_of, PairsChange, Building, Built}
use Rattle.list_pairs.proofs.PlainLaws.{newest, GraphKept, graph_kept, plain_kept, graph_kept_by}
use Rattle.multigraph.proofs.TableLaws.{has_ends_new}
use Rattle.list_pairs.proofs.Listed.{add_appointments_more, copies_few}
use Rattle.list_pairs.specs.declared.Bases.{Bases}
use Rattle.words.proofs.Puts.{Put, put_is}

-- ── one appointment more ──

module _ (list : List ℕ) (at : Bases) (k : ℕ) (s : List ℕ) (h : Building list at k s) (inside : k < length list / 2) where
  abbrev x : ℕ
  x = first_of list k

  abbrev y : ℕ
  y = second_of list k

  abbrev e : ℕ
  e = pair_of at.g at.apair k s

  rep : Rep list k (word s (at.apair + k))
  rep = h.reps k (omega arith) inside

  -- the pair of an earlier appointment with the same ends
  old_number : word s (at.apair + k) < k → (e < size s at.g) × HasEnds s at.ends e x y
  old_number a =
      rw (lt-ltb (word s (at.apair + k)) k a) (
        h.number_of (word s (at.apair + k)) a,
        same_ends_trans (same_ends_sym rep.same) (h.ends_of (word s (at.apair + k)) a),
      )

  -- or no pair has these ends
  new_number : k ≤ word s (at.apair + k) → (e ≡ size s at.g) × ((f : ℕ) → f < size s at.g → HasEnds s at.ends f x y → ⊥)
  new_number a = (rw (le-ltb (word s (at.apair + k)) k a), none)
    where
      none : (f : ℕ) → f < size s at.g → HasEnds s at.ends f x y → ⊥
      none f b z =
          let i = h.every f b in
          let own : HasEnds s at.ends f (first_of list i.0) (second_of list i.0) = rw i.2 at (h.ends_of i.0 i.1) in
          rep.first (omega (arith, rep.le)) i.0 i.1 (same_ends_trans own (same_ends_sym z))

  e_cases : ItsNumber at.ends at.g e x y s
  e_cases = elim (dec_lt (word s (at.apair + k)) k) [ yes a ↦ inl (old_number a) | no a ↦ inr (new_number (omega arith)) ]

  -- the next pair has a place
  pub has_place : HasPlace at.ends at.g s
  has_place =
      record {
        row = omega (arith, h.few, h.after_ends, h.after_apair, h.inside);
        entry = omega (arith, h.few, h.inside);
      }

  -- the next copy can be added
  pub fits : x < 4294967296 → y < 4294967296 → PairFits at.ends at.g e x y 1 s
  fits sx sy =
      record {
        plain = h.plain;
        its = e_cases;
        after_ends = omega (arith, h.few, h.after_ends, h.after_apair);
        inside = omega (arith, h.few, h.inside);
        small = omega (arith, h.few, h.small);
        left_small = sx;
        right_small = sy;
        light =
            λ f a.
            omega (
              arith,
              copies_few at.ends at.g s (take k (appts list)) h.graph f a,
              length-take k (appts list),
              appts_count list,
              h.short,
            );
        few = omega arith;
      }

  module _ (fit : PairFits at.ends at.g e x y 1 s) (t u : List ℕ) (add : PairAdded at.ends at.g e x y 1 s t)
      (written : u ≡ put_word t (at.apair + k) e) where
    e_small : e < 4294967296
    e_small = omega (arith, add.its_number, add.by_one, h.few, h.small)

    put : Put (at.apair + k) e t u
    put = put_is (at.apair + k) e t u written (omega (arith, add.changes.len, h.inside, h.after_apair)) e_small

    t_few : size t at.g ≤ k + 1
    t_few = omega (arith, add.by_one, h.few)

    -- the pairs of the earlier appointments stay
    old_pair : (i : ℕ) → (i ≡ k → ⊥) → i < length list / 2 → word u (at.apair + i) ≡ word s (at.apair + i)
    old_pair i z b =
        put.else (at.apair + i) (λ q. z (omega arith))
        ∙ add.changes.between (at.apair + i) (omega (arith, h.few, h.after_ends)) (omega (arith, h.after_apair))

    kept_t : GraphKept at.ends at.g t u
    kept_t =
        graph_kept_by at.ends at.g (k + 1) t u t_few (omega (arith, h.after_ends, h.after_apair))
        (λ i a b. put.else i (λ q. omega (arith, h.after_ends))) (λ i a b. put.else i (λ q. omega (arith, h.after_apair)))

    old_ends : (f l r : ℕ) → f < size s at.g → HasEnds s at.ends f l r → HasEnds u at.ends f l r
    old_ends f l r a z =
        has_ends_new at.ends (size t at.g) t u kept_t.table f l r (omega (arith, add.grown))
        (has_ends_new at.ends (size s at.g) s t (λ i lo hi. add.changes.under i (omega arith)) f l r a z)

    number_of' : (i : ℕ) → i < k + 1 → word u (at.apair + i) < size u at.g
    number_of' i a =
        elim (ℕ_discrete i k) [
          | yes z ↦ rw z (omega (arith, put.new, add.its_number, kept_t.count))
          | no z ↦ omega (arith, old_pair i z (omega arith), h.number_of i (omega arith), add.grown, kept_t.count)
        ]

    ends_of' : (i : ℕ) → i < k + 1 → HasEnds u at.ends (word u (at.apair + i)) (first_of list i) (second_of list i)
    ends_of' i a =
        elim (ℕ_discrete i k) [
          | yes z ↦ rw (z, put.new) (has_ends_new at.ends (size t at.g) t u kept_t.table e x y add.its_number add.its_ends)
          | no z ↦
              rw (old_pair i z (omega arith))
              (old_ends (word s (at.apair + i)) (first_of list i) (second_of list i) (h.number_of i (omega arith))
              (h.ends_of i (omega arith)))
        ]

    every' : (f : ℕ) → f < size u at.g → (i : ℕ) × (i < k + 1) × (word u (at.apair + i) ≡ f)
    every' f a =
        elim (dec_lt f (size s at.g)) [
          | yes z ↦
              let i = h.every f z in
              (i.0, omega (arith, i.1), old_pair i.0 (λ q. omega (arith, i.1)) (omega (arith, i.1)) ∙ i.2)
          | no z ↦
              (k, omega arith, put.new ∙ newest at.ends at.g e x y 1 s fit t add f (omega arith) (omega (arith, kept_t.count)))
        ]

    building' : Building list at (k + 1) u
    building' =
        record {
          graph = graph_kept at.ends at.g t u kept_t ∙ add.graph ∙ ap (λ l. add_edge l x y 1 0) h.graph
              ∙ sym (add_appointments_more list k inside);
          plain = plain_kept at.ends at.g t u kept_t add.plain;
          few = omega (arith, kept_t.count, t_few);
          number_of = number_of';
          ends_of = ends_of';
          every = every';
          reps = λ i a b. rw (old_pair i (λ q. omega arith) b) (h.reps i (omega arith) b);
          after_ends = h.after_ends;
          after_apair = h.after_apair;
          inside = omega (arith, h.inside, add.changes.len, put.len);
          small = h.small;
          short = h.short;
        }

    changed : (mark : ℕ) → PairsChange list at mark s u
    changed mark =
        three_trans
        (three_outer at.ends (2 * (length list / 2)) at.apair (length list / 2) at.g (2 + 2 * (length list / 2)) mark
        (omega arith)
        (omega (arith, h.few)) h.after_ends h.after_apair (omega arith) (omega (arith, h.few)) add.changes)
        (three_within at.ends (2 * (length list / 2)) at.apair (length list / 2) at.g
        (2 + 2 * (length list / 2)) mark t u h.after_ends
        h.after_apair put.len (λ i m a b c. put.else i (λ q. b (omega arith) (omega arith))))

    -- and then one appointment more has its pair
    pub built : Built list at (k + 1) s u
    built = record { building = building'; changes = changed }

-- ── all appointments ──

-- one appointment after the others
pub built_more :
    (list : List ℕ) (at : Bases) (k : ℕ) (s t u : List ℕ) → Built list at k s t → Built list at (k + 1) t u →
    Built list at (k + 1) s u
built_more list at k s t u x y =
    record { building = y.building; changes = λ mark. three_trans (x.changes mark) (y.changes mark) }
