-- Rings of nodes in words, each node with the one after it and the one before it: what taking a node out and putting one in
-- last make of them. Assumes nothing.
use Prim.Native.Nat.{ℕ, ◌+◌, ◌*◌}
use mathlib.Core.Path.{◌≡◌, sym, ◌∙◌, ap, subst}
use mathlib.Core.List.{List, [], ◌∷◌, ◌++◌}
use native.Mathlib.Decide.{ℕ_discrete}
use Rattle.words.specs.Basics.{All}
use Rattle.words.specs.Words.{word}
use Rattle.euler.proofs.Places.{keep, without, without_first, without_other}

-- no member stands twice
abbrev pub Distinct : List ℕ → Type 0
Distinct [] = Unit {0}
Distinct (x ∷ xs) = All (λ (y : ℕ). x ≡ y → ⊥) xs × Distinct xs

-- x is a member
abbrev pub Has : ℕ → List ℕ → Type 0
Has x xs = All (λ (y : ℕ). x ≡ y → ⊥) xs → ⊥

module _ (b : ℕ) where
  -- the node after x, and the one before it
  abbrev pub after : List ℕ → ℕ → ℕ
  after s x = word s (b + 2 * x)

  abbrev pub prior : List ℕ → ℕ → ℕ
  prior s x = word s (b + 2 * x + 1)

  -- from the node u over the nodes ys to the node z; a ring has z = u
  abbrev pub Chain : List ℕ → ℕ → List ℕ → ℕ → Type 0
  Chain s u [] z = (after s u ≡ z) × (prior s z ≡ u)
  Chain s u (y ∷ ys) z = (after s u ≡ y) × (prior s y ≡ u) × Chain s y ys z

  -- a chain whose nodes read the same
  pub chain_same :
      (Node : ℕ → Type 0) (s t : List ℕ) → ((y : ℕ) → Node y → after t y ≡ after s y) →
      ((y : ℕ) → Node y → prior t y ≡ prior s y) → (u : ℕ) (ys : List ℕ) (z : ℕ) → Node u → All Node ys → Node z →
      Chain s u ys z → Chain t u ys z
  chain_same Node s t f p u [] z nu ns nz h = (f u nu ∙ h.0, p z nz ∙ h.1)
  chain_same Node s t f p u (y ∷ ys) z nu ns nz h =
      (f u nu ∙ h.0, p y ns.0 ∙ h.1, chain_same Node s t f p y ys z ns.0 ns.1 nz h.2)

  -- ── a node in its place ──

  -- x stands between two nodes
  pub record Between (Node : ℕ → Type 0) (x : ℕ) (s : List ℕ) : Type 0 where
    pub from : after s (prior s x) ≡ x
    pub to : prior s (after s x) ≡ x
    pub prior_node : Node (prior s x)
    pub after_node : Node (after s x)

  -- what comes after the first node of a chain has it before
  first_next :
      (Node : ℕ → Type 0) (s : List ℕ) (u : ℕ) (ys : List ℕ) (z : ℕ) → All Node ys → Node z → Chain s u ys z →
      (prior s (after s u) ≡ u) × Node (after s u)
  first_next Node s u [] z ns nz h = (ap (prior s) h.0 ∙ h.1, subst Node (sym h.0) nz)
  first_next Node s u (y ∷ ys) z ns nz h = (ap (prior s) h.0 ∙ h.1, subst Node (sym h.0) ns.0)

  between_first :
      (Node : ℕ → Type 0) (s : List ℕ) (u x : ℕ) (ys : List ℕ) (z : ℕ) → Node u → All Node ys → Node z →
      Chain s u (x ∷ ys) z → Between Node x s
  between_first Node s u x ys z nu ns nz h =
      let n : (prior s (after s x) ≡ x) × Node (after s x) = first_next Node s x ys z ns nz h.2 in
      record {
        from = ap (after s) h.1 ∙ h.0;
        to = n.0;
        prior_node = subst Node (sym h.1) nu;
        after_node = n.1;
      }

  -- every member of a chain stands so
  pub between :
      (Node : ℕ → Type 0) (s : List ℕ) (x u : ℕ) (ys : List ℕ) (z : ℕ) → Node u → All Node ys → Node z → Has x ys →
      Chain s u ys z → Between Node x s
  between Node s x u [] z nu ns nz m h = absurd (m tt)
  between Node s x u (y ∷ ys) z nu ns nz m h =
      elim (ℕ_discrete x y) [
        | yes e ↦
            subst (λ (a : ℕ). Between Node a s) (sym e) (between_first Node s u y ys z nu ns.1 nz h)
        | no n ↦ between Node s x y ys z ns.0 ns.1 nz (λ a. m (n, a)) h.2
      ]

  -- the last node of a chain
  pub chain_last : (s : List ℕ) (u : ℕ) (ys : List ℕ) (z : ℕ) → Chain s u ys z → after s (prior s z) ≡ z
  chain_last s u [] z h = ap (after s) h.1 ∙ h.0
  chain_last s u (y ∷ ys) z h = chain_last s y ys z h.2

  -- and it is a node
  pub last_node :
      (Node : ℕ → Type 0) (s : List ℕ) (u : ℕ) (ys : List ℕ) (z : ℕ) → Node u → All Node ys → Chain s u ys z → Node (prior s z)
  last_node Node s u [] z nu ns h = subst Node (sym h.1) nu
  last_node Node s u (y ∷ ys) z nu ns h = last_node Node s y ys z ns.0 ns.1 h.2

  -- ── a node taken out ──

  -- x was taken out: its neighbours know each other, and all else is as it was
  pub record Cut (x : ℕ) (s t : List ℕ) : Type 0 where
    pub from : after s (prior s x) ≡ x
    pub to : prior s (after s x) ≡ x
    pub on : after t (prior s x) ≡ after s x
    pub back : prior t (after s x) ≡ prior s x
    pub afters : (y : ℕ) → (y ≡ prior s x → ⊥) → after t y ≡ after s y
    pub priors : (y : ℕ) → (y ≡ after s x → ⊥) → prior t y ≡ prior s y

  -- Every chain of different nodes, whether x is in it or not, goes on without x.
  pub chain_cut :
      (x : ℕ) (s t : List ℕ) → Cut x s t → (u : ℕ) (ys : List ℕ) (z : ℕ) → (u ≡ x → ⊥) → (z ≡ x → ⊥) → Distinct ys →
      Chain s u ys z → Chain t u (without x ys) z
  unfolding keep
  chain_cut x s t c u [] z nu nz d h = (
    c.afters u (λ e. nz (sym h.0 ∙ ap (after s) e ∙ c.from)) ∙ h.0,
    c.priors z (λ e. nu (sym h.1 ∙ ap (prior s) e ∙ c.to)) ∙ h.1,
  )
  chain_cut x s t c u (y ∷ []) z nu nz d h =
      elim (ℕ_discrete x y) [
        | yes e ↦
            let f : without x (y ∷ []) ≡ [] = ap (λ (a : ℕ). without a (y ∷ [])) e ∙ without_first y [] in
            let before : prior s x ≡ u = ap (prior s) e ∙ h.1 in
            let next : after s x ≡ z = ap (after s) e ∙ h.2.0 in
            subst (λ (l : List ℕ). Chain t u l z) (sym f)
            (ap (after t) (sym before) ∙ c.on ∙ next, ap (prior t) (sym next) ∙ c.back ∙ before)
        | no n ↦
            subst (λ (l : List ℕ). Chain t u l z) (sym (without_other x y [] n)) (
              c.afters u (λ e. n (sym (sym h.0 ∙ ap (after s) e ∙ c.from))) ∙ h.0,
              c.priors y (λ e. nu (sym h.1 ∙ ap (prior s) e ∙ c.to)) ∙ h.1,
              chain_cut x s t c y [] z (λ e. n (sym e)) nz tt h.2,
            )
      ]
  chain_cut x s t c u (y ∷ w ∷ ws) z nu nz d h =
      elim (ℕ_discrete x y) [
        | yes e ↦
            let n : x ≡ w → ⊥ = λ q. d.0.0 (sym e ∙ q) in
            let f : without x (y ∷ w ∷ ws) ≡ w ∷ without x ws =
            ap (λ (a : ℕ). without x (a ∷ w ∷ ws)) (sym e) ∙ without_first x (w ∷ ws) ∙ without_other x w ws n in
            let before : prior s x ≡ u = ap (prior s) e ∙ h.1 in
            let next : after s x ≡ w = ap (after s) e ∙ h.2.0 in
            subst (λ (l : List ℕ). Chain t u l z) (sym f) (
              ap (after t) (sym before) ∙ c.on ∙ next,
              ap (prior t) (sym next) ∙ c.back ∙ before,
              chain_cut x s t c w ws z (λ q. n (sym q)) nz d.1.1 h.2.2,
            )
        | no n ↦
            subst (λ (l : List ℕ). Chain t u l z) (sym (without_other x y (w ∷ ws) n)) (
              c.afters u (λ e. n (sym (sym h.0 ∙ ap (after s) e ∙ c.from))) ∙ h.0,
              c.priors y (λ e. nu (sym h.1 ∙ ap (prior s) e ∙ c.to)) ∙ h.1,
              chain_cut x s t c y (w ∷ ws) z (λ e. n (sym e)) nz d.1 h.2,
            )
      ]

  -- ── a node put in last ──

  -- x comes before z, in the ring of z
  pub record Joined (x z : ℕ) (s t : List ℕ) : Type 0 where
    pub from : after s (prior s z) ≡ z
    pub on : after t (prior s z) ≡ x
    pub back : prior t x ≡ prior s z
    pub last : after t x ≡ z
    pub newest : prior t z ≡ x
    pub afters : (y : ℕ) → (y ≡ prior s z → ⊥) → (y ≡ x → ⊥) → after t y ≡ after s y
    pub priors : (y : ℕ) → (y ≡ x → ⊥) → (y ≡ z → ⊥) → prior t y ≡ prior s y

  -- the ring of z with x put in
  pub chain_joined :
      (x z : ℕ) (s t : List ℕ) → Joined x z s t → (u : ℕ) (ys : List ℕ) → (x ≡ u → ⊥) → All (λ (y : ℕ). x ≡ y → ⊥) ys →
      All (λ (y : ℕ). z ≡ y → ⊥) ys → Chain s u ys z → Chain t u (ys ++ (x ∷ [])) z
  chain_joined x z s t j u [] nu nx nz h = (
    ap (after t) (sym h.1) ∙ j.on,
    j.back ∙ h.1,
    (j.last, j.newest),
  )
  chain_joined x z s t j u (y ∷ ys) nu nx nz h = (
    j.afters u (λ e. nz.0 (sym (sym h.0 ∙ ap (after s) e ∙ j.from))) (λ e. nu (sym e)) ∙ h.0,
    j.priors y (λ e. nx.0 (sym e)) (λ e. nz.0 (sym e)) ∙ h.1,
    chain_joined x z s t j y ys nx.0 nx.1 nz.1 h.2,
  )

  -- another ring is as it was
  pub chain_beside :
      (x z : ℕ) (s t : List ℕ) → Joined x z s t → (u : ℕ) (ys : List ℕ) (w : ℕ) → (x ≡ u → ⊥) → (x ≡ w → ⊥) → (z ≡ w → ⊥) →
      All (λ (y : ℕ). x ≡ y → ⊥) ys → All (λ (y : ℕ). z ≡ y → ⊥) ys → Chain s u ys w → Chain t u ys w
  chain_beside x z s t j u [] w nu nw zw nx nz h = (
    j.afters u (λ e. zw (sym (sym h.0 ∙ ap (after s) e ∙ j.from))) (λ e. nu (sym e)) ∙ h.0,
    j.priors w (λ e. nw (sym e)) (λ e. zw (sym e)) ∙ h.1,
  )
  chain_beside x z s t j u (y ∷ ys) w nu nw zw nx nz h = (
    j.afters u (λ e. nz.0 (sym (sym h.0 ∙ ap (after s) e ∙ j.from))) (λ e. nu (sym e)) ∙ h.0,
    j.priors y (λ e. nx.0 (sym e)) (λ e. nz.0 (sym e)) ∙ h.1,
    chain_beside x z s t j y ys w nx.0 nw zw nx.1 nz.1 h.2,
  )
