-- What is written only to nodes' words, and what is written beside them. Assumes nothing.
use Prim.Native.Nat.{ℕ, ◌+◌, ◌*◌, ◌%◌, ◌≤◌, ◌<◌}
use mathlib.Core.Path.{◌≡◌, sym, ◌∙◌}
use mathlib.Core.Bool.{Bool, true, false}
use mathlib.Core.List.{List}
use native.Mathlib.Omega.{arith}
use Rattle.words.specs.Words.{word, put_word}
use Rattle.words.specs.Frames.{Keeps}
use Rattle.words.proofs.Frames.{away, keeps_refl, keeps_trans, keeps_then_put}
use Rattle.rings.specs.declared.Rings.{Rings}
use Rattle.rings.proofs.Chains.{after, prior}
use Rattle.rings.proofs.Nodes.{edge}
use Rattle.rings.proofs.Bases.{Laid, Node}

odd_not_even : (p j : ℕ) → p ≡ 2 * j + 1 → p % 2 ≡ 0 → ⊥
odd_not_even p j e h = omega arith

module _ {l : Rings} {N m k : ℕ} {s₀ : List ℕ} (g : Laid l N m k s₀) where
  abbrev Nd : ℕ → Type 0
  Nd y = Node g y

  -- ── words beside the nodes ──

  -- a mark, and an end to which a half-edge leads, are no words of a node
  pub mark_beside : (p i : ℕ) → Nd p → i < k → l.b + 8 * i + 2 ≡ l.b + 2 * p → ⊥
  mark_beside p i n b e = odd_not_even p (2 * i) (omega arith) (n.1 (omega (arith, g.place)))

  pub lead_beside : (d : Bool) (p i : ℕ) → Nd p → i < k → l.b + 2 * edge d i + 3 ≡ l.b + 2 * p + 1 → ⊥
  lead_beside true p i n b e = odd_not_even p (2 * i) (omega arith) (n.1 (omega (arith, g.place)))
  lead_beside false p i n b e = odd_not_even p (2 * i + 1) (omega arith) (n.1 (omega (arith, g.place)))

  -- what is written only to nodes' words leaves
  pub record Aside (s t : List ℕ) : Type 0 where
    pub keeps : Keeps l.b s t
    pub marks : (i : ℕ) → i < k → word t (l.b + 8 * i + 2) ≡ word s (l.b + 8 * i + 2)
    pub leads : (d : Bool) (i : ℕ) → i < k → word t (l.b + 2 * edge d i + 3) ≡ word s (l.b + 2 * edge d i + 3)
    pub high : (a : ℕ) → l.b + 10 * k ≤ a → word t a ≡ word s a

  -- one word of a node written
  aside_after : (s : List ℕ) (y x : ℕ) → Nd y → Aside s (put_word s (l.b + 2 * y) x)
  aside_after s y x n =
      record {
        keeps = keeps_then_put (l.b + 2 * y) x (omega arith) (keeps_refl l.b s);
        marks = λ i b. away s (l.b + 2 * y) (l.b + 8 * i + 2) x (mark_beside y i n b);
        leads = λ d i b. away s (l.b + 2 * y) (l.b + 2 * edge d i + 3) x (λ e. omega arith);
        high = λ a b. away s (l.b + 2 * y) a x (λ e. omega (arith, n.0, g.place, g.parties));
      }

  aside_prior : (s : List ℕ) (y x : ℕ) → Nd y → Aside s (put_word s (l.b + 2 * y + 1) x)
  aside_prior s y x n =
      record {
        keeps = keeps_then_put (l.b + 2 * y + 1) x (omega arith) (keeps_refl l.b s);
        marks = λ i b. away s (l.b + 2 * y + 1) (l.b + 8 * i + 2) x (λ e. omega arith);
        leads = λ d i b. away s (l.b + 2 * y + 1) (l.b + 2 * edge d i + 3) x (lead_beside d y i n b);
        high = λ a b. away s (l.b + 2 * y + 1) a x (λ e. omega (arith, n.0, g.place, g.parties));
      }

  -- one after the other
  pub aside_trans : (s t u : List ℕ) → Aside s t → Aside t u → Aside s u
  aside_trans s t u x y =
      record {
        keeps = keeps_trans x.keeps y.keeps;
        marks = λ i b. y.marks i b ∙ x.marks i b;
        leads = λ d i b. y.leads d i b ∙ x.leads d i b;
        high = λ a b. y.high a b ∙ x.high a b;
      }

  -- one word of each of two nodes
  pub aside_two :
      (s : List ℕ) (p q x y : ℕ) → Nd p → Nd q → Aside s (put_word (put_word s (l.b + 2 * p) x) (l.b + 2 * q + 1) y)
  aside_two s p q x y a b =
      let t : List ℕ = put_word s (l.b + 2 * p) x in
      aside_trans s t (put_word t (l.b + 2 * q + 1) y) (aside_after s p x a) (aside_prior t q y b)

  -- nodes' words as they were
  pub record SameNodes (s t : List ℕ) : Type 0 where
    pub keeps : Keeps l.b s t
    pub afters : (y : ℕ) → Nd y → after l.b t y ≡ after l.b s y
    pub priors : (y : ℕ) → Nd y → prior l.b t y ≡ prior l.b s y

  -- a mark written leaves the nodes
  pub same_mark : (s : List ℕ) (i x : ℕ) → i < k → SameNodes s (put_word s (l.b + 8 * i + 2) x)
  same_mark s i x b =
      record {
        keeps = keeps_then_put (l.b + 8 * i + 2) x (omega arith) (keeps_refl l.b s);
        afters = λ y n. away s (l.b + 8 * i + 2) (l.b + 2 * y) x (λ e. mark_beside y i n b (sym e));
        priors = λ y n. away s (l.b + 8 * i + 2) (l.b + 2 * y + 1) x (λ e. omega arith);
      }

  -- and so does an end to which a half-edge leads
  pub same_lead : (s : List ℕ) (d : Bool) (i x : ℕ) → i < k → SameNodes s (put_word s (l.b + 2 * edge d i + 3) x)
  same_lead s d i x b =
      record {
        keeps = keeps_then_put (l.b + 2 * edge d i + 3) x (omega arith) (keeps_refl l.b s);
        afters = λ y n. away s (l.b + 2 * edge d i + 3) (l.b + 2 * y) x (λ e. omega arith);
        priors = λ y n. away s (l.b + 2 * edge d i + 3) (l.b + 2 * y + 1) x (λ e. lead_beside d y i n b (sym e));
      }

  -- and what is written to the columns
  pub same_high : (s : List ℕ) (a x : ℕ) → l.b + 10 * k ≤ a → SameNodes s (put_word s a x)
  same_high s a x b =
      record {
        keeps = keeps_then_put a x (omega arith) (keeps_refl l.b s);
        afters = λ y n. away s a (l.b + 2 * y) x (λ e. omega (arith, n.0, g.place, g.parties));
        priors = λ y n. away s a (l.b + 2 * y + 1) x (λ e. omega (arith, n.0, g.place, g.parties));
      }

  -- one after the other
  pub same_trans : (s t u : List ℕ) → SameNodes s t → SameNodes t u → SameNodes s u
  same_trans s t u x y =
      record {
        keeps = keeps_trans x.keeps y.keeps;
        afters = λ z n. y.afters z n ∙ x.afters z n;
        priors = λ z n. y.priors z n ∙ x.priors z n;
      }
