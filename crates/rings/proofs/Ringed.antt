-- Rings of half-edges, one for each party: begun empty, and grown by one half-edge at the end. Assumes nothing.
use Prim.Native.Nat.{ℕ, zero, suc, ◌+◌, ◌*◌, ◌≤◌, ◌<◌}
use mathlib.Core.Path.{◌≡◌, refl, sym, ◌∙◌, subst}
use mathlib.Core.List.{List, [], ◌∷◌, ◌++◌}
use native.Mathlib.Omega.{arith}
use native.Mathlib.Decide.{ℕ_discrete}
use lib.ListN.{length}
use Rattle.words.specs.Basics.{All}
use Rattle.words.specs.Words.{word, put_word}
use Rattle.words.specs.Frames.{Keeps}
use Rattle.words.proofs.Sums.{all_append, all_map}
use Rattle.words.proofs.Frames.{here, away, length_put, keeps_refl, keeps_trans, keeps_then_put}
use Rattle.rings.specs.declared.Rings.{Rings}
use Rattle.rings.specs.Model.{start_ring_m, start_m, append_m}
use Rattle.rings.specs.Bounds.{Appends}
use Rattle.rings.proofs.Chains.{after, prior, Chain, chain_same, chain_last, last_node, Joined, chain_joined, chain_beside}
use Rattle.rings.proofs.Bases.{Laid, Node, Edge, edge_node, party_node}
use Rattle.euler.proofs.Puts.{away2, away3}
use Rattle.rings.proofs.Asides.{Aside, aside_trans, aside_two, SameNodes}

module _ {l : Rings} {N m k : ℕ} {s₀ : List ℕ} (g : Laid l N m k s₀) where
  abbrev Nd : ℕ → Type 0
  Nd y = Node g y

  abbrev Ed : ℕ → Type 0
  Ed y = Edge g y

  -- ── rings ──

  -- the ring of each party v has the half-edges R v
  pub record Ringed (R : ℕ → List ℕ) (s : List ℕ) : Type 0 where
    pub keeps : Keeps l.b s₀ s
    pub rings : (v : ℕ) → v < N → Chain l.b s (l.top + v) (R v) (l.top + v)
    pub edges : (v : ℕ) → v < N → All Ed (R v)

  -- nodes that read the same
  pub ringed_same : (R : ℕ → List ℕ) (s t : List ℕ) → SameNodes g s t → Ringed R s → Ringed R t
  ringed_same R s t q h =
      record {
        keeps = keeps_trans h.keeps q.keeps;
        rings = λ v b.
            chain_same l.b Nd s t q.afters q.priors (l.top + v) (R v) (l.top + v) (party_node g v b)
            (all_map (edge_node g) (R v) (h.edges v b)) (party_node g v b) (h.rings v b);
        edges = h.edges;
      }

  -- ── a half-edge put in last ──

  module _ (s : List ℕ) (len : length s ≡ length s₀) (v x p : ℕ) (vb : v < N) (xe : Ed x) (pn : Nd p) (n : x ≡ p → ⊥) (at : prior l.b s (l.top + v) ≡ p) where
    abbrev z : ℕ
    z = l.top + v

    abbrev s₁ : List ℕ
    s₁ = put_word s (l.b + 2 * p) x

    abbrev s₂ : List ℕ
    s₂ = put_word s₁ (l.b + 2 * x + 1) p

    abbrev s₃ : List ℕ
    s₃ = put_word s₂ (l.b + 2 * x) z

    abbrev s₄ : List ℕ
    s₄ = put_word s₃ (l.b + 2 * z + 1) x

    appended : append_m l s v x ≡ s₄
    unfolding append_m
    appended = rw at

    passed : (a : ℕ) → (a ≡ l.b + 2 * p → ⊥) → (a ≡ l.b + 2 * x + 1 → ⊥) → (a ≡ l.b + 2 * x → ⊥) → (a ≡ l.b + 2 * z + 1 → ⊥) → word s₄ a ≡ word s a
    passed a n₁ n₂ n₃ n₄ =
        away s₃ (l.b + 2 * z + 1) a x n₄ ∙ away3 s (l.b + 2 * p) x (l.b + 2 * x + 1) p (l.b + 2 * x) z a n₁ n₂ n₃

    joined : after l.b s p ≡ z → Joined l.b x z s s₄
    joined from =
        let e₁ : length s₁ ≡ length s = length_put s (l.b + 2 * p) x in
        let e₂ : length s₂ ≡ length s₁ = length_put s₁ (l.b + 2 * x + 1) p in
        let e₃ : length s₃ ≡ length s₂ = length_put s₂ (l.b + 2 * x) z in
        let top : l.top ≡ 4 * k = g.place in
        let room : l.b + 12 * k ≤ length s = omega (arith, g.room) in
        let few : length s ≤ 4294967296 = omega (arith, g.small) in
        let nk : N ≤ k = g.parties in
        let xb : x < l.top = xe.0 in
        let pb : p < l.top + N = pn.0 in
        record {
          from = rw at from;
          on =
              rw at
              (away3 s₁ (l.b + 2 * x + 1) p (l.b + 2 * x) z (l.b + 2 * z + 1) x (l.b + 2 * p)
              (λ e. omega arith) (λ e. n (omega arith)) (λ e. omega arith)
              ∙ here s (l.b + 2 * p) x (omega arith) (omega arith));
          back =
              away2 s₂ (l.b + 2 * x) z (l.b + 2 * z + 1) x (l.b + 2 * x + 1) (λ e. omega arith) (λ e. omega arith)
              ∙ here s₁ (l.b + 2 * x + 1) p (omega arith) (omega arith)
              ∙ sym at;
          last =
              away s₃ (l.b + 2 * z + 1) (l.b + 2 * x) x (λ e. omega arith)
              ∙ here s₂ (l.b + 2 * x) z (omega arith) (omega arith);
          newest = here s₃ (l.b + 2 * z + 1) x (omega arith) (omega arith);
          afters = λ y a c.
              passed (l.b + 2 * y) (λ e. a (omega (arith, at))) (λ e. omega arith) (λ e. c (omega arith)) (λ e. omega arith);
          priors = λ y a c.
              passed (l.b + 2 * y + 1) (λ e. omega arith) (λ e. a (omega arith)) (λ e. omega arith) (λ e. c (omega arith));
        }

    aside_joined : Aside g s s₄
    aside_joined =
        aside_trans g s s₂ s₄ (aside_two g s p x x p pn (edge_node g x xe)) (aside_two g s₂ x z z x (edge_node g x xe) (party_node g v vb))

  -- x, in no ring yet, becomes the last of the ring of v
  pub ringed_more :
      (R T : ℕ → List ℕ) (s : List ℕ) (v x : ℕ) → v < N → Ed x → Ringed R s →
      ((u : ℕ) → u < N → All (λ (y : ℕ). x ≡ y → ⊥) (R u)) → T v ≡ R v ++ (x ∷ []) →
      ((u : ℕ) → u < N → (u ≡ v → ⊥) → T u ≡ R u) → Ringed T (append_m l s v x) × Aside g s (append_m l s v x)
  ringed_more R T s v x b xe h fresh own other =
      let z : ℕ = l.top + v in
      let p : ℕ = prior l.b s z in
      let len : length s ≡ length s₀ = h.keeps.len in
      let off : x ≡ z → ⊥ = λ e. omega (arith, xe.0) in
      let pn : Nd p = last_node l.b Nd s z (R v) z (party_node g v b) (all_map (edge_node g) (R v) (h.edges v b)) (h.rings v b) in
      let n : x ≡ p → ⊥ = last_node l.b (λ y. x ≡ y → ⊥) s z (R v) z off (fresh v b) (h.rings v b) in
      let t : List ℕ = s₄ s len v x p b xe pn n refl in
      let j : Joined l.b x z s t = joined s len v x p b xe pn n refl (chain_last l.b s z (R v) z (h.rings v b)) in
      let a : Aside g s t = aside_joined s len v x p b xe pn n refl in
      let r : Ringed T t =
      record {
        keeps = keeps_trans h.keeps a.keeps;
        rings = λ u c.
            elim (ℕ_discrete u v) [
              | yes e ↦
                  subst (λ (w : ℕ). Chain l.b t (l.top + w) (T w) (l.top + w)) (sym e)
                  (subst (λ (ys : List ℕ). Chain l.b t z ys z) (sym own)
                  (chain_joined l.b x z s t j z (R v) off (fresh v b) (parties_out v (R v) (h.edges v b)) (h.rings v b)))
              | no q ↦
                  subst (λ (ys : List ℕ). Chain l.b t (l.top + u) ys (l.top + u)) (sym (other u c q))
                  (chain_beside l.b x z s t j (l.top + u) (R u) (l.top + u) (λ e. omega (arith, xe.0)) (λ e. omega (arith, xe.0))
                  (λ e. q (omega arith)) (fresh u c) (parties_out v (R u) (h.edges u c)) (h.rings u c))
            ];
        edges = λ u c.
            elim (ℕ_discrete u v) [
              | yes e ↦
                  subst (λ (w : ℕ). All Ed (T w)) (sym e)
                  (subst (All Ed) (sym own) (all_append Ed (R v) (x ∷ []) (h.edges v b) (xe, tt)))
              | no q ↦ subst (All Ed) (sym (other u c q)) (h.edges u c)
            ];
      } in
      let e : append_m l s v x ≡ t = appended s len v x p b xe pn n refl in
      subst (λ (w : List ℕ). Ringed T w × Aside g s w) (sym e) (r, a)
    where
      parties_out : (v : ℕ) (ys : List ℕ) → All Ed ys → All (λ (y : ℕ). l.top + v ≡ y → ⊥) ys
      parties_out v ys a = all_map (λ y c e. omega (arith, c.0)) ys a

  -- the last of a ring, or the party's own node
  pub ringed_appends : (R : ℕ → List ℕ) (s : List ℕ) (v x : ℕ) → v < N → Ed x → Ringed R s → Appends l s v x
  ringed_appends R s v x b xe h =
      let z : ℕ = l.top + v in
      let p : Nd (prior l.b s z) =
      last_node l.b Nd s z (R v) z (party_node g v b) (all_map (edge_node g) (R v) (h.edges v b)) (h.rings v b) in
      let len : length s ≡ length s₀ = h.keeps.len in
      record {
        own = omega (arith, g.place, g.parties, g.room);
        here = omega (arith, xe.0, g.place, g.room);
        last = omega (arith, p.0, g.place, g.parties, g.room);
      }

  -- ── empty rings ──

  started_more :
      (u : ℕ) (s : List ℕ) → u < N → length s ≡ length s₀ →
      ((v : ℕ) → v < u → Chain l.b s (l.top + v) [] (l.top + v)) → (v : ℕ) → v < suc u →
      Chain l.b (start_ring_m l s u) (l.top + v) [] (l.top + v)
  started_more u s b len h v c =
      let z : ℕ = l.top + u in
      let t : List ℕ = put_word s (l.b + 2 * z) z in
      let lt : length t ≡ length s = length_put s (l.b + 2 * z) z in
      let top : l.top ≡ 4 * k = g.place in
      let nk : N ≤ k = g.parties in
      let room : l.b + 12 * k ≤ length s = omega (arith, g.room) in
      let few : length s ≤ 4294967296 = omega (arith, g.small) in
      elim (ℕ_discrete v u) [
        | yes e ↦
            rw e (
              away t (l.b + 2 * z + 1) (l.b + 2 * z) z (λ q. omega arith) ∙ here s (l.b + 2 * z) z (omega arith) (omega arith),
              here t (l.b + 2 * z + 1) z (omega arith) (omega arith),
            )
        | no n ↦
            let old : Chain l.b s (l.top + v) [] (l.top + v) = h v (omega arith) in (
              away2 s (l.b + 2 * z) z (l.b + 2 * z + 1) z (l.b + 2 * (l.top + v)) (λ q. n (omega arith)) (λ q. omega arith) ∙ old.0,
              away2 s (l.b + 2 * z) z (l.b + 2 * z + 1) z (l.b + 2 * (l.top + v) + 1) (λ q. omega arith) (λ q. n (omega arith)) ∙ old.1,
            )
      ]

  -- empty rings for the parties below u
  pub started :
      (u : ℕ) → u ≤ N →
      Keeps l.b s₀ (start_m l u s₀) × ((v : ℕ) → v < u → Chain l.b (start_m l u s₀) (l.top + v) [] (l.top + v))
  unfolding start_m
  started zero b = (keeps_refl l.b s₀, λ v c. absurd (omega arith))
  started (suc u) b =
      let r = started u (omega arith) in (
        keeps_then_put (l.b + 2 * (l.top + u) + 1) (l.top + u) (omega arith)
            (keeps_then_put (l.b + 2 * (l.top + u)) (l.top + u) (omega arith) r.0),
        started_more u (start_m l u s₀) (omega arith) r.0.len r.1,
      )
