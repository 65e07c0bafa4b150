-- The pairs of a list over words: rows and representatives are ready, and after all appointments the graph is the list's. Assumes
-- nothing.
use Prim.Native.Nat.{ℕ, ◌+◌, ◌*◌, ◌/◌, ◌≤◌, ◌<◌}
use mathlib.Core.Path.{◌≡◌, refl, sym, ◌∙◌, ap}
use mathlib.Core.List.{List, []}
use native.Mathlib.Omega.{arith}
use lib.ListN.{length, take}
use lib.Seq.{take_all}
use Rattle.words.specs.Basics.{count}
use Rattle.words.specs.Words.{word, put_word}
use Rattle.words.specs.Clearing.{Cleared}
use Rattle.words.proofs.Ranges.{changes_stays, three_trans, three_keeps, three_within, three_middle}
use Rattle.appointments.specs.Appointments.{appts}
use Rattle.appointments.proofs.Flat.{appts_count, load_count}
use Rattle.multigraph.specs.Steps.{span}
use Rattle.regular_graph.specs.Evening.{add_appointments}
use Rattle.list_pairs.specs.Contract.{CanPair, PairsMade}
use Rattle.list_pairs.specs.Rows.{rows_from, RowsFit, RowsFilled}
use Rattle.list_pairs.specs.Representatives.{RepsFit, RepsDone}
use Rattle.list_pairs.specs.FromList.{PairsChange, Building, Built}
use Rattle.list_pairs.proofs.PlainLaws.{plain_is}
use Rattle.list_pairs.proofs.RowsLaws.{filled_cleared}
use Rattle.list_pairs.proofs.RepsLaws.{rep_of}
use Rattle.list_pairs.proofs.Listed.{listed_half}
use Rattle.list_pairs.specs.declared.Bases.{Bases}
use Rattle.words.proofs.Puts.{Put, put_is}

module _ (list : List ℕ) (p d : ℕ) (at : Bases) (u : ℕ) (s : List ℕ)
    (h : CanPair list p d at u s) where
  halves : (f : ℕ) → f < length list → word list f < p
  halves = listed_half list p h.even h.listed

  counts : (v : ℕ) → v < p → count v list ≤ d
  counts v a = omega (arith, h.loads v a, load_count v list h.even)

  -- there is room for the rows
  pub rows_fit : RowsFit list (rows_from p d u) s
  rows_fit =
      record {
        ends = halves;
        loads = counts;
        after = omega arith;
        inside = omega (arith, h.room);
        small = omega (arith, h.low);
        short = h.short;
      }

  module _ (k t : List ℕ) (c : Cleared (u + p + d * p) p s k) (w : RowsFilled list (rows_from p d u) (length list) k t) where
    x : RowsFilled list (rows_from p d u) (length list) s t
    x = filled_cleared (omega arith) c w

    -- with the map cleared and the rows filled the representatives can be found
    pub reps_fit : RepsFit list (rows_from p d u) (u + p + d * p) at.apair t
    reps_fit =
        record {
          in_rows = x.filled;
          lens = λ v a. omega (arith, x.filled.lens v a, ap (count v) (take_all (length list) list (omega arith)), counts v a);
          ends = halves;
          even = h.even;
          short = h.short;
          before = omega (arith, h.after_apair, h.after_graph);
          after = omega arith;
          after_rows = omega arith;
          inside = omega (arith, h.room, x.keeps.len);
          small = omega (arith, h.low);
        }

    module _ (r o : List ℕ) (y : RepsDone list p (u + p + d * p) at.apair p t r)
        (z : o ≡ put_word (put_word r at.g at.g) (at.g + 1) 0) where
      mid : List ℕ
      mid = put_word r at.g at.g

      r_len : length r ≡ length s
      r_len = y.changes.len ∙ x.keeps.len

      -- the graph's header and its size are written
      header : Put at.g at.g r mid
      unfolding mid
      header =
          put_is at.g at.g r mid refl (omega (arith, h.after_graph, h.room, r_len)) (omega (arith, h.after_graph, h.low))

      no_size : Put (at.g + 1) 0 mid o
      unfolding mid
      no_size = put_is (at.g + 1) 0 mid o z (omega (arith, h.after_graph, h.room, r_len, header.len)) (omega arith)

      o_len : length o ≡ length s
      o_len = no_size.len ∙ header.len ∙ r_len

      o_away : (i : ℕ) → (i ≡ at.g → ⊥) → (i ≡ at.g + 1 → ⊥) → word o i ≡ word r i
      o_away i a b = no_size.else i b ∙ header.else i a

      -- with the representatives found and a graph without pairs, the first appointment is next
      pub started : Building list at 0 o
      unfolding span add_appointments
      started =
          record {
            graph = rw no_size.new;
            plain =
                record {
                  header = no_size.else at.g (λ q. omega arith) ∙ header.new;
                  numbers = λ e a. absurd (omega (arith, no_size.new));
                  distinct = record { distinct = λ e f a b k. absurd (omega (arith, no_size.new)) };
                };
            few = omega (arith, no_size.new);
            number_of = λ i a. absurd (omega arith);
            ends_of = λ i a. absurd (omega arith);
            every = λ e a. absurd (omega (arith, no_size.new));
            reps =
                λ i a b.
                rw (o_away (at.apair + i) (λ q. omega (arith, h.after_apair)) (λ q. omega (arith, h.after_apair)))
                (rep_of list (rows_from p d u) (u + p + d * p) at.apair t reps_fit r y i b);
            after_ends = h.after_ends;
            after_apair = h.after_apair;
            inside = omega (arith, o_len, h.after_graph, h.room);
            small = omega (arith, h.after_graph, h.low);
            short = h.short;
          }

      -- up to here
      prepared : PairsChange list at u s o
      prepared =
          three_trans (three_keeps at.ends (2 * (length list / 2)) at.apair (length list / 2) at.g
          (2 + 2 * (length list / 2)) x.keeps)
          (three_trans
          (three_middle at.ends (2 * (length list / 2)) at.g (2 + 2 * (length list / 2)) h.after_ends h.after_apair
          (changes_stays u (omega arith) y.changes))
          (three_within at.ends (2 * (length list / 2)) at.apair (length list / 2) at.g
          (2 + 2 * (length list / 2)) u r o h.after_ends h.after_apair
          (o_len ∙ sym r_len)
          (λ i m a b c. o_away i (λ q. c (omega arith) (omega arith)) (λ q. c (omega arith) (omega arith)))))

      -- after the last appointment the pairs are made
      pub pairs_made : (e : List ℕ) → Built list at (length list / 2) o e → PairsMade list at u s u e
      pairs_made e b =
          record {
            paired =
                record {
                  graph = λ pairs few. plain_is at.ends pairs at.g e b.building.plain few ∙ b.building.graph
                      ∙ ap (add_appointments []) whole;
                  plain = b.building.plain;
                  few = b.building.few;
                  number_of = b.building.number_of;
                  ends_of = b.building.ends_of;
                  every = b.building.every;
                };
            mark = refl;
            changes = three_trans prepared (b.changes u);
          }
        where
          whole : take (length list / 2) (appts list) ≡ appts list
          whole = take_all (length list / 2) (appts list) (omega (arith, appts_count list))
