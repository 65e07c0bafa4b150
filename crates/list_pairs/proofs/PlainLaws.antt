-- A graph in which a pair's number is its place: what it is as a list of pairs, and that adding a pair whose number is known is
-- `add_edge`. Assumes nothing.
use Prim.Native.Nat.{ℕ, ◌+◌, ◌*◌, ◌≤◌, ◌<◌}
use mathlib.Core.Path.{◌≡◌, refl, sym, ◌∙◌}
use mathlib.Core.Bool.{false}
use mathlib.Core.List.{List}
use mathlib.Core.Logic.{◌⊎◌, inl, inr, ⊎_elim}
use native.Mathlib.Omega.{arith}
use native.Mathlib.Decide.{ℕ_discrete}
use borrow.Author.Tests.{lt-leb}
use lib.ListN.{length}
use Rattle.words.specs.Words.{word, put_word}
use Rattle.multigraph.specs.Multigraph.{pair, joins, add_edge}
use Rattle.multigraph.specs.Stored.{entry, graph_at}
use Rattle.multigraph.specs.Places.{size, number, copies_of, Alike, DistinctEnds, HasEnds}
use Rattle.multigraph.specs.Steps.{span}
use Rattle.multigraph.proofs.Ends.{true_joins, same_ends_sym, same_ends_trans}
use Rattle.multigraph.proofs.Spans.{graph_span, span_same, span_snoc, not_joins, add_last, add_there}
use Rattle.list_pairs.specs.Contract.{Plain}
use Rattle.list_pairs.specs.Adding.{plain_pair, plain_graph, pushed, PairFits, PairAdded}
use Rattle.words.proofs.Puts.{Put, put_is}
use Rattle.multigraph.proofs.TableLaws.{TableSame, first_same, second_same, has_ends_new, has_ends_old, distinct_same}

-- as `graph_at`, where no number is a flagged one
pub plain_is :
    (ends pairs g : ℕ) (s : List ℕ) → Plain ends g s → size s g ≤ pairs → graph_at s ends pairs g ≡ plain_graph s ends g
plain_is ends pairs g s h few =
    graph_span s ends pairs g ∙ span_same (plain_pair s ends g) (entry s ends pairs g) 0 (size s g) (λ e a b. one e (omega arith))
  where
    one : (e : ℕ) → e < size s g → entry s ends pairs g e ≡ plain_pair s ends g e
    one e a = rw (h.numbers e a, lt-leb pairs e (omega arith))

-- words that are the same give the same pair, and the same graph
pair_same :
    (ends g : ℕ) (s t : List ℕ) → TableSame ends (size s g) s t → (e : ℕ) → e < size s g → copies_of t g e ≡ copies_of s g e →
    plain_pair t ends g e ≡ plain_pair s ends g e
pair_same ends g s t table e a k =
    rw (first_same ends (size s g) s t table e a, second_same ends (size s g) s t table e a, k)

-- and the same graph
pub plain_same :
    (ends g : ℕ) (s t : List ℕ) → size t g ≡ size s g → TableSame ends (size s g) s t →
    ((e : ℕ) → e < size s g → copies_of t g e ≡ copies_of s g e) → plain_graph t ends g ≡ plain_graph s ends g
plain_same ends g s t n table k =
    rw n (span_same (plain_pair s ends g) (plain_pair t ends g) 0 (size s g)
    (λ e x y. pair_same ends g s t table e (omega arith) (k e (omega arith))))

-- ── what is written ──

-- the words after a new pair m with the ends l and r
pub record Pushed (ends g m l r copies : ℕ) (s t : List ℕ) : Type 0 where
  pub len : length t ≡ length s
  pub first : word t (ends + 2 * m) ≡ l
  pub second : word t (ends + 2 * m + 1) ≡ r
  pub its_number : number t g m ≡ m
  pub its_copies : copies_of t g m ≡ copies
  pub new_size : size t g ≡ m + 1
  pub elsewhere :
      (i : ℕ) → (i ≡ ends + 2 * m → ⊥) → (i ≡ ends + 2 * m + 1 → ⊥) → (i ≡ g + 2 + 2 * m → ⊥) → (i ≡ g + 3 + 2 * m → ⊥) →
      (i ≡ g + 1 → ⊥) → word t i ≡ word s i

module _ (ends g m l r copies : ℕ) (s : List ℕ) where
  u1 : List ℕ
  u1 = put_word s (ends + 2 * m) l

  u2 : List ℕ
  u2 = put_word u1 (ends + 2 * m + 1) r

  u3 : List ℕ
  u3 = put_word u2 (g + 2 + 2 * m) m

  u4 : List ℕ
  u4 = put_word u3 (g + 3 + 2 * m) copies

  u5 : List ℕ
  u5 = put_word u4 (g + 1) (m + 1)

  -- five words written
  pub pushed_words :
      ends + 2 * (m + 1) ≤ g → g + 2 + 2 * (m + 1) ≤ length s → g + 2 + 2 * (m + 1) ≤ 4294967296 → l < 4294967296 → r < 4294967296 →
      copies < 4294967296 → Pushed ends g m l r copies s (pushed ends g m l r copies s)
  unfolding u1 u2 u3 u4 u5
  pushed_words low inside small sl sr sc =
      let p1 : Put (ends + 2 * m) l s u1 = put_is (ends + 2 * m) l s u1 refl (omega arith) sl in
      let p2 : Put (ends + 2 * m + 1) r u1 u2 = put_is (ends + 2 * m + 1) r u1 u2 refl (omega (arith, p1.len)) sr in
      let len2 : length u2 ≡ length s = p2.len ∙ p1.len in
      let p3 : Put (g + 2 + 2 * m) m u2 u3 = put_is (g + 2 + 2 * m) m u2 u3 refl (omega (arith, len2)) (omega arith) in
      let len3 : length u3 ≡ length s = p3.len ∙ len2 in
      let p4 : Put (g + 3 + 2 * m) copies u3 u4 = put_is (g + 3 + 2 * m) copies u3 u4 refl (omega (arith, len3)) sc in
      let len4 : length u4 ≡ length s = p4.len ∙ len3 in
      let p5 : Put (g + 1) (m + 1) u4 u5 = put_is (g + 1) (m + 1) u4 u5 refl (omega (arith, len4)) (omega arith) in
      record {
        len = p5.len ∙ len4;
        first =
            p5.else (ends + 2 * m) (omega arith) ∙ p4.else (ends + 2 * m) (omega arith) ∙ p3.else (ends + 2 * m) (omega arith)
            ∙ p2.else (ends + 2 * m) (omega arith) ∙ p1.new;
        second =
            p5.else (ends + 2 * m + 1) (omega arith) ∙ p4.else (ends + 2 * m + 1) (omega arith)
            ∙ p3.else (ends + 2 * m + 1) (omega arith) ∙ p2.new;
        its_number = p5.else (g + 2 + 2 * m) (omega arith) ∙ p4.else (g + 2 + 2 * m) (omega arith) ∙ p3.new;
        its_copies = p5.else (g + 3 + 2 * m) (omega arith) ∙ p4.new;
        new_size = p5.new;
        elsewhere = λ i a b c d e. p5.else i e ∙ p4.else i d ∙ p3.else i c ∙ p2.else i b ∙ p1.else i a;
      }

-- ── what it is for the graph ──

module _ (ends g e l r copies : ℕ) (s : List ℕ) (h : PairFits ends g e l r copies s) where
  there : e < size s g → HasEnds s ends e l r
  there a = ⊎_elim (λ c. c.1) (λ c. absurd (omega (arith, c.0))) h.its

  new : size s g ≤ e → (f : ℕ) → f < size s g → HasEnds s ends f l r → ⊥
  new a = ⊎_elim (λ c. absurd (omega (arith, c.0))) (λ c. c.1) h.its

  next : e ≤ size s g
  next = ⊎_elim (λ c. omega (arith, c.0)) (λ c. omega (arith, c.0)) h.its

  -- a pair that the graph did not have is number e
  pub newest : (t : List ℕ) → PairAdded ends g e l r copies s t → (f : ℕ) → size s g ≤ f → f < size t g → e ≡ f
  newest t x f a b =
      ⊎_elim (λ c. absurd (omega (arith, x.same_size c.0))) (λ c. omega (arith, c.0, x.by_one)) h.its

  -- only pair e can have the ends
  others : (f : ℕ) → e < size s g → f < size s g → (f ≡ e → ⊥) → joins l r (plain_pair s ends g f) ≡ false
  others f a b x =
      not_joins l r (plain_pair s ends g f)
      (λ k. x (h.plain.distinct.distinct f e b a (same_ends_trans (same_ends_sym k) (there a))))

  none : (f : ℕ) → size s g ≤ e → f < size s g → joins l r (plain_pair s ends g f) ≡ false
  none f a b = not_joins l r (plain_pair s ends g f) (λ k. new a f b k)

  module _ (a : e < size s g) (t : List ℕ) (b : Put (g + 3 + 2 * e) (copies_of s g e + copies) s t) where
    there_table : TableSame ends (size s g) s t
    there_table i x y = b.else i (λ q. omega (arith, h.after_ends))

    there_size : size t g ≡ size s g
    there_size = b.else (g + 1) (λ y. omega arith)

    there_graph : plain_graph t ends g ≡ add_edge (plain_graph s ends g) l r copies 0
    there_graph =
        rw there_size
        (sym
        (add_there l r copies 0 e (plain_pair s ends g) (plain_pair t ends g) 0 (size s g) (omega arith) (omega arith)
        (true_joins l r (plain_pair s ends g e) (there a)) (λ f x y. others f a (omega arith) (λ q. omega arith))
        (rw (first_same ends (size s g) s t there_table e a, second_same ends (size s g) s t there_table e a, b.new))
        (λ f x y z. pair_same ends g s t there_table f (omega arith) (b.else (g + 3 + 2 * f) (λ q. z (omega arith))))))

    there_distinct : DistinctEnds ends (size t g) t
    there_distinct = rw there_size (distinct_same ends (size s g) s t there_table h.plain.distinct)

    -- Pair e is there: its copies have grown.
    pub added_there : PairAdded ends g e l r copies s t
    added_there =
        record {
          graph = there_graph;
          plain =
              record {
                header = b.else g (λ y. omega arith) ∙ h.plain.header;
                numbers = λ f x. b.else (g + 2 + 2 * f) (λ y. omega arith) ∙ h.plain.numbers f (omega (arith, there_size));
                distinct = there_distinct;
              };
          grown = omega (arith, there_size);
          by_one = omega (arith, there_size);
          same_size = λ x. there_size;
          new_size = λ x. absurd (omega arith);
          its_number = omega (arith, there_size);
          its_ends = has_ends_new ends (size s g) s t there_table e l r a (there a);
          changes =
              record {
                len = b.len;
                under = λ i x. b.else i (λ y. omega (arith, h.after_ends));
                between = λ i x z. b.else i (λ y. omega arith);
                over = λ i x. b.else i (λ y. omega arith);
              };
        }

  module _ (a : size s g ≤ e) (t : List ℕ) (b : Pushed ends g (size s g) l r copies s t) where
    its : e ≡ size s g
    its = omega (arith, next)

    old :
        (i : ℕ) → (i < ends + 2 * size s g) ⊎ (ends + 2 * (size s g + 1) ≤ i) → (i ≡ g + 1 → ⊥) →
        (i < g + 2 + 2 * size s g) ⊎ (g + 2 + 2 * (size s g + 1) ≤ i) → word t i ≡ word s i
    old i x y z =
        b.elsewhere i (λ q. ⊎_elim (λ k. omega arith) (λ k. omega arith) x) (λ q. ⊎_elim (λ k. omega arith) (λ k. omega arith) x)
        (λ q. ⊎_elim (λ k. omega arith) (λ k. omega arith) z) (λ q. ⊎_elim (λ k. omega arith) (λ k. omega arith) z) y

    old_table : TableSame ends (size s g) s t
    old_table i x y = old i (inl (omega arith)) (λ q. omega (arith, h.after_ends)) (inl (omega (arith, h.after_ends)))

    old_copies : (f : ℕ) → f < size s g → copies_of t g f ≡ copies_of s g f
    old_copies f x = old (g + 3 + 2 * f) (inr (omega (arith, h.after_ends))) (λ q. omega arith) (inl (omega arith))

    old_number : (f : ℕ) → f < size s g → number t g f ≡ f
    old_number f x =
        old (g + 2 + 2 * f) (inr (omega (arith, h.after_ends))) (λ q. omega arith) (inl (omega arith)) ∙ h.plain.numbers f x

    new_graph : plain_graph t ends g ≡ add_edge (plain_graph s ends g) l r copies 0
    new_graph =
        let before : span (plain_pair t ends g) 0 (size s g) ≡ span (plain_pair s ends g) 0 (size s g) =
        span_same (plain_pair s ends g) (plain_pair t ends g) 0 (size s g)
        (λ f x y. pair_same ends g s t old_table f (omega arith) (old_copies f (omega arith))) in
        let last : plain_pair t ends g (size s g) ≡ pair l r copies 0 = rw (b.first, b.second, b.its_copies) in
        rw (b.new_size, span_snoc (plain_pair t ends g) (size s g), before, last)
        (sym (add_last l r copies 0 (plain_pair s ends g) 0 (size s g) (λ f x y. none f a (omega arith))))

    -- the last pair has ends that no other has
    not_last : (f : ℕ) → f < size s g → HasEnds t ends f l r → ⊥
    not_last f x k = new a f x (has_ends_old ends (size s g) s t old_table f l r x k)

    last_ends : HasEnds t ends (size s g) l r
    last_ends = inl (b.first, b.second)

    new_distinct : (x y : ℕ) → x < size s g + 1 → y < size s g + 1 → Alike t ends x y → x ≡ y
    new_distinct x y i j k =
        elim (ℕ_discrete x (size s g)) [
          | yes p ↦
              elim (ℕ_discrete y (size s g)) [
                | yes q ↦ p ∙ sym q
                | no q ↦ absurd (not_last y (omega arith) (same_ends_trans last_ends (rw p at k)))
              ]
          | no p ↦
              elim (ℕ_discrete y (size s g)) [
                | yes q ↦ absurd (not_last x (omega arith) (same_ends_trans last_ends (same_ends_sym (rw q at k))))
                | no q ↦ (distinct_same ends (size s g) s t old_table h.plain.distinct).distinct x y (omega arith) (omega arith) k
              ]
        ]

    new_numbers : (f : ℕ) → f < size s g + 1 → number t g f ≡ f
    new_numbers f x =
        elim (ℕ_discrete f (size s g)) [ yes p ↦ rw p b.its_number | no p ↦ old_number f (omega arith) ]

    -- Pair e is new: it is the last one.
    pub added_new : PairAdded ends g e l r copies s t
    added_new =
        record {
          graph = new_graph;
          plain =
              record {
                header = old g (inr h.after_ends) (λ y. omega arith) (inl (omega arith)) ∙ h.plain.header;
                numbers = λ f x. new_numbers f (omega (arith, b.new_size));
                distinct = record { distinct = λ x y i j k. new_distinct x y (omega (arith, b.new_size)) (omega (arith, b.new_size)) k };
              };
          grown = omega (arith, b.new_size);
          by_one = omega (arith, b.new_size);
          same_size = λ x. absurd (omega arith);
          new_size = λ x. b.new_size;
          its_number = omega (arith, b.new_size, its);
          its_ends = rw its last_ends;
          changes =
              record {
                len = b.len;
                under = λ i x. old i (inl x) (λ q. omega (arith, h.after_ends)) (inl (omega (arith, h.after_ends)));
                between = λ i x z. old i (inr (omega arith)) (λ q. omega arith) (inl (omega arith));
                over = λ i x. old i (inr (omega (arith, h.after_ends))) (λ q. omega arith) (inr (omega arith));
              };
        }

-- ── words that are the same ──

-- the words of the graph and of its rows in the table
pub record GraphKept (ends g : ℕ) (s t : List ℕ) : Type 0 where
  pub header : word t g ≡ word s g
  pub count : size t g ≡ size s g
  pub table : TableSame ends (size s g) s t
  pub numbers : (e : ℕ) → e < size s g → number t g e ≡ number s g e
  pub copies : (e : ℕ) → e < size s g → copies_of t g e ≡ copies_of s g e

module _ (ends g : ℕ) (s t : List ℕ) (k : GraphKept ends g s t) where
  -- the graph is the same
  pub graph_kept : plain_graph t ends g ≡ plain_graph s ends g
  graph_kept = plain_same ends g s t k.count k.table k.copies

  -- and numbers are still places
  pub plain_kept : Plain ends g s → Plain ends g t
  plain_kept h =
      record {
        header = k.header ∙ h.header;
        numbers = λ e a. k.numbers e (omega (arith, k.count)) ∙ h.numbers e (omega (arith, k.count));
        distinct = rw k.count (distinct_same ends (size s g) s t k.table h.distinct);
      }

-- where the words below `at` that are not the table's and the graph's own don't matter
pub graph_kept_by :
    (ends g rows : ℕ) (s t : List ℕ) → size s g ≤ rows → ends + 2 * rows ≤ g →
    TableSame ends rows s t →
    ((i : ℕ) → g ≤ i → i < g + 2 + 2 * rows → word t i ≡ word s i) → GraphKept ends g s t
graph_kept_by ends g rows s t few low table own =
    record {
      header = own g (omega arith) (omega arith);
      count = own (g + 1) (omega arith) (omega arith);
      table = λ i a b. table i a (omega arith);
      numbers = λ e a. own (g + 2 + 2 * e) (omega arith) (omega arith);
      copies = λ e a. own (g + 3 + 2 * e) (omega arith) (omega arith);
    }
