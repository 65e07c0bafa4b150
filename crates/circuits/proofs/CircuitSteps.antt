-- At degree 2, a circuit on words: each step deals the pair of its half-edge and goes on by the other half-edge of the party
-- it leads to, and after as many steps as the circuit is long it is back. Assumes nothing.
use Prim.Native.Nat.{ℕ, zero, suc, ◌+◌, ◌*◌, ◌-◌, ◌/◌, ◌%◌, ◌≤◌, ◌<◌}
use mathlib.Core.Path.{◌≡◌, refl, sym, ◌∙◌, ap, subst}
use mathlib.Core.Bool.{Bool, true, false}
use mathlib.Core.List.{List, [], ◌∷◌, map}
use mathlib.Core.Logic.{◌⊎◌, ⊎_elim}
use native.Mathlib.Omega.{arith}
use native.Mathlib.Decide.{ℕ_discrete}
use borrow.Author.Tests.{eq-eqb, ne_eqb}
use lib.Dec.{eqb}
use lib.ListN.{length}
use Rattle.words.specs.Basics.{pick, is, total}
use Rattle.words.specs.Words.{word, put_word}
use Rattle.words.specs.Frames.{Keeps}
use Rattle.words.specs.Sides.{mate}
use Rattle.words.proofs.Sums.{is_eq, is_ne, all_counted}
use Rattle.words.proofs.Frames.{here, away, length_put}
use Rattle.multigraph.specs.Multigraph.{Pair}
use Rattle.circuits.specs.declared.Two.{Two}
use Rattle.circuits.specs.Model.{Told, push_one_m, two_step_m, two_pair_m}
use Rattle.circuits.specs.Bounds.{TwoSteps}
use Rattle.euler.proofs.Taken.{ends}
use Rattle.circuits.proofs.CircuitTrails as Trails
use Rattle.circuits.proofs.CircuitEnds as Ends
use Rattle.circuits.proofs.CircuitFill as Fill
use Rattle.circuits.proofs.CircuitHeld.{Held, held_same, held_more, push_one_away}
use Rattle.circuits.proofs.CircuitFill.{Ground}
use Rattle.circuits.proofs.ModelLaws.{push_one_length}

-- twice
unfoldable pub double : ℕ → ℕ
double zero = zero
double (suc n) = suc (suc (double n))

-- the pairs of some half-edges
abbrev pub numbers : List ℕ → List ℕ
numbers hs = map (λ y. y / 2) hs

module _ {l : Two} {N m k u : ℕ} {s₀ : List ℕ} (g : Ground l N m k u s₀) (flag : ℕ → ℕ) (r : List Pair) where
  -- the party at a half-edge, the pairs of odd copies, and a party's two half-edges
  abbrev pub E : ℕ → ℕ
  E y = word s₀ (l.graph.ends + y)

  abbrev pub es : List ℕ
  es = Fill.odds_of s₀ l.graph.g m

  abbrev pub early : ℕ → ℕ
  early v = Ends.early E flag es v

  abbrev pub late : ℕ → ℕ
  late v = Ends.late E flag es v

  -- a half-edge of one of these pairs
  abbrev pub Half : ℕ → Type 0
  Half y = Ends.Half E flag es y

  -- the party to which a half-edge leads
  abbrev pub leads_to : ℕ → ℕ
  leads_to y = E (mate y)

  -- the half-edge that goes on from there
  abbrev pub next : ℕ → ℕ
  next y = Trails.next r mate E (Ends.pr E flag es) early late Half y

  -- the marks with those of visited parties wiped out
  abbrev pub wiped : ℕ → (ℕ → ℕ) → ℕ → ℕ
  wiped y M v = pick (eqb v (leads_to y)) 0 (M v)

  unfoldable pub wipe : List ℕ → (ℕ → ℕ) → ℕ → ℕ
  wipe [] M = M
  wipe (y ∷ hs) M = wipe hs (wiped y M)

  -- what is wiped out stays so
  pub wipe_zero : (hs : List ℕ) (M : ℕ → ℕ) (x : ℕ) → M x ≡ 0 → wipe hs M x ≡ 0
  unfolding wipe
  wipe_zero [] M x z = z
  wipe_zero (y ∷ hs) M x z = wipe_zero hs (wiped y M) x (go (eqb x (leads_to y)))
    where
      go : (b : Bool) → pick b 0 (M x) ≡ 0
      go true = refl
      go false = z

  -- a party visited has no mark
  pub wipe_hit : (hs : List ℕ) (M : ℕ → ℕ) (x : ℕ) → 0 < total (λ y. is x (leads_to y)) hs → wipe hs M x ≡ 0
  unfolding wipe total
  wipe_hit [] M x h = absurd (omega arith)
  wipe_hit (y ∷ hs) M x h =
      elim (ℕ_discrete x (leads_to y)) [
        | yes e ↦ wipe_zero hs (wiped y M) x (rw (eq-eqb x (leads_to y) e))
        | no n ↦ wipe_hit hs (wiped y M) x (omega (arith, is_ne {u = x} {v = leads_to y} n))
      ]

  -- and any other keeps it
  pub wipe_miss : (hs : List ℕ) (M : ℕ → ℕ) (x : ℕ) → total (λ y. is x (leads_to y)) hs ≡ 0 → wipe hs M x ≡ M x
  unfolding wipe total
  wipe_miss [] M x h = refl
  wipe_miss (y ∷ hs) M x h =
      wipe_miss hs (wiped y M) x (omega arith)
      ∙ rw (ne_eqb x (leads_to y) (λ e. omega (arith, is_eq {u = x} {v = leads_to y} e)))

  -- what the words hold while circuits are gone
  pub record Going (ds₁ ds₂ : List ℕ) (M : ℕ → ℕ) (s : List ℕ) : Type 0 where
    pub keeps : Keeps u s₀ s
    pub first : Held s u ds₁
    pub second : Held s (u + 2 * k) ds₂
    pub marks : (v : ℕ) → v < N → word s (l.b + 2 * v) ≡ M v
    pub sums :
        (v : ℕ) → v < N → 0 < total (ends v) r → word s (l.b + 2 * v + 1) ≡ (early v + late v) % 4294967296

  module _ (two : Ends.Twos E flag es r) where
    -- the circuits' law holds of these half-edges
    pub ended : Trails.TwoEnded r mate E (Ends.pr E flag es) early late Half
    ended = Ends.two_ended E flag es r two

    -- a half-edge's words are where they should be
    pub fine : (y : ℕ) → Half y → Fill.Fine g y
    fine y i =
        let n : Fill.Num g (y / 2) =
        all_counted (Fill.Num g) (y / 2) es (Fill.those_nums g (λ c. eqb (c % 2) 1) m (omega arith)) i in
        let e : 2 * (y / 2) + y % 2 ≡ y = omega arith in
        subst (Fill.Fine g) e (Fill.fine g (y / 2) (y % 2) (omega arith) n)

    half_small : (y : ℕ) → Half y → y < 4294967296
    half_small y i = omega (arith, (fine y i).table, g.room, g.small)

    -- ── one step ──

    -- the words after the pair of the half-edge y is dealt to the half h and the party to which y leads is visited
    abbrev dealt_to : ℕ → List ℕ → ℕ → ℕ → List ℕ
    dealt_to h s at y = put_word (push_one_m h s at (y / 2)) (l.b + 2 * leads_to y) 0

    record Stepped (h : ℕ) (s : List ℕ) (at y : ℕ) : Type 0 where
      fits : TwoSteps l h s at y
      is_words : (two_step_m l h s at y).words ≡ dealt_to h s at y
      is_next : (two_step_m l h s at y).number ≡ next y
      half : Half (next y)

    step_words :
        (h : ℕ) (s : List ℕ) (at y v : ℕ) → word (push_one_m h s at (y / 2)) (l.graph.ends + mate y) ≡ v →
        (two_step_m l h s at y).words ≡ put_word (push_one_m h s at (y / 2)) (l.b + 2 * v) 0
    unfolding two_step_m
    step_words h s at y v e = rw e

    step_number :
        (h : ℕ) (s : List ℕ) (at y v sum : ℕ) → word (push_one_m h s at (y / 2)) (l.graph.ends + mate y) ≡ v →
        word (push_one_m h s at (y / 2)) (l.b + 2 * v + 1) ≡ sum →
        (two_step_m l h s at y).number ≡ (sum + 4294967296 - mate y) % 4294967296
    unfolding two_step_m
    step_number h s at y v sum e f = rw (e, f)

    number_next : (y : ℕ) → Half y → ((early (leads_to y) + late (leads_to y)) % 4294967296 + 4294967296 - mate y) % 4294967296 ≡ next y
    unfolding Trails.next
    number_next y i =
        let v : ℕ = leads_to y in
        let j : Half (mate y) = ended.mate_half y i in
        let s : 0 < total (ends v) r = ended.some (mate y) j in
        let a : early v < 4294967296 = half_small (early v) (ended.early_half v s).0 in
        let b : late v < 4294967296 = half_small (late v) (ended.late_half v s).0 in
        other (early v) (late v) (mate y) a b (ended.one_of (mate y) j)
      where
        other :
            (a b c : ℕ) → a < 4294967296 → b < 4294967296 → (c ≡ a) ⊎ (c ≡ b) →
            ((a + b) % 4294967296 + 4294967296 - c) % 4294967296 ≡ a + b - c
        other a b c h k e = ⊎_elim (λ x. omega arith) (λ x. omega arith) e

    -- a word that dealing to the half h at the place `at` leaves
    low_word :
        (h : ℕ) (s : List ℕ) (at y a : ℕ) → a < l.b → (a ≡ h + 2 + 2 * at → ⊥) → (a ≡ h + 3 + 2 * at → ⊥) →
        word (dealt_to h s at y) a ≡ word s a
    low_word h s at y a b p q =
        away (push_one_m h s at (y / 2)) (l.b + 2 * leads_to y) a 0 (λ z. omega arith) ∙ push_one_away h s at (y / 2) a p q

    -- a step for the half h, at its place `at`
    module _ (h : ℕ) (ds₁ ds₂ : List ℕ) (M : ℕ → ℕ) (s : List ℕ) (at y : ℕ) (lo : u ≤ h) (hi : h ≤ u + 2 * k) (room : at < m) (q : Going ds₁ ds₂ M s) (i : Half y) where
      abbrev t : List ℕ
      t = push_one_m h s at (y / 2)

      -- the parties' words lie above both halves
      high_word : (a : ℕ) → l.b ≤ a → word t a ≡ word s a
      high_word a b =
          push_one_away h s at (y / 2) a (λ x. omega (arith, g.parties, g.entries)) (λ x. omega (arith, g.parties, g.entries))

      led : Fill.Fine g (mate y)
      led = fine (mate y) (ended.mate_half y i)

      stepped : Stepped h s at y
      stepped =
          let v : ℕ = leads_to y in
          let lt : length t ≡ length s = push_one_length h s at (y / 2) in
          let ev : word t (l.graph.ends + mate y) ≡ v =
          push_one_away h s at (y / 2) (l.graph.ends + mate y) (λ x. omega (arith, led.table)) (λ x. omega (arith, led.table))
          ∙ q.keeps.same (l.graph.ends + mate y) led.table in
          let sum : word t (l.b + 2 * v + 1) ≡ (early v + late v) % 4294967296 =
          high_word (l.b + 2 * v + 1) (omega arith) ∙ q.sums v led.party (ended.some (mate y) (ended.mate_half y i)) in
          record {
            fits =
                record {
                  place = omega (arith, q.keeps.len, g.room, g.entries);
                  end = omega (arith, led.table, q.keeps.len, g.room);
                  party = rw ev (omega (arith, led.party, q.keeps.len, g.room, g.parties, g.few));
                };
            is_words = step_words h s at y v ev;
            is_next = step_number h s at y v ((early v + late v) % 4294967296) ev sum ∙ number_next y i;
            half = Trails.next_half r mate E (Ends.pr E flag es) early late Half ended y i;
          }

      wiped_marks : (x : ℕ) → x < N → word (dealt_to h s at y) (l.b + 2 * x) ≡ wiped y M x
      wiped_marks x b =
          let lt : length t ≡ length s = push_one_length h s at (y / 2) in
          elim (ℕ_discrete x (leads_to y)) [
            | yes e ↦
                ap (λ (z : ℕ). word (dealt_to h s at y) (l.b + 2 * z)) e
                ∙ here t (l.b + 2 * leads_to y) 0 (omega (arith, led.party, q.keeps.len, g.room, g.parties, g.few)) (omega arith)
                ∙ rw (eq-eqb x (leads_to y) e)
            | no n ↦
                away t (l.b + 2 * leads_to y) (l.b + 2 * x) 0 (λ z. n (omega arith))
                ∙ high_word (l.b + 2 * x) (omega arith)
                ∙ q.marks x b
                ∙ rw (ne_eqb x (leads_to y) n)
          ]

      -- what both halves then hold is what is to be shown of each
      step_going :
          (es₁ es₂ : List ℕ) → Held (dealt_to h s at y) u es₁ → Held (dealt_to h s at y) (u + 2 * k) es₂ →
          Going es₁ es₂ (wiped y M) (dealt_to h s at y)
      step_going es₁ es₂ first second =
          record {
            keeps =
                record {
                  len = length_put t (l.b + 2 * leads_to y) 0 ∙ push_one_length h s at (y / 2) ∙ q.keeps.len;
                  same = λ a b. low_word h s at y a (omega (arith, g.parties)) (λ z. omega arith) (λ z. omega arith) ∙ q.keeps.same a b;
                };
            first = first;
            second = second;
            marks = wiped_marks;
            sums = λ x b p.
                away t (l.b + 2 * leads_to y) (l.b + 2 * x + 1) 0 (λ z. omega arith)
                ∙ high_word (l.b + 2 * x + 1) (omega arith)
                ∙ q.sums x b p;
          }

      -- the half that is dealt to
      step_held : (ds : List ℕ) → length ds ≡ at → Held s h ds → Held (dealt_to h s at y) h (y / 2 ∷ ds)
      step_held ds e d =
          subst (λ (n : ℕ). Held (dealt_to h s n y) h (y / 2 ∷ ds)) e
          (held_same (push_one_m h s (length ds) (y / 2)) (dealt_to h s (length ds) y) h (y / 2 ∷ ds)
          (λ a x z. away (push_one_m h s (length ds) (y / 2)) (l.b + 2 * leads_to y) a 0 (λ w. omega (arith, g.parties, g.entries)))
          (held_more s h (y / 2) ds (omega (arith, q.keeps.len, g.room, g.entries)) (omega (arith, half_small y i)) d))

    -- two steps
    pub record Paired (ds₁ ds₂ : List ℕ) (M : ℕ → ℕ) (s : List ℕ) (at y : ℕ) : Type 0 where
      pub fits_first : TwoSteps l l.first s at y
      pub fits_second :
          TwoSteps l l.second (two_step_m l l.first s at y).words at (two_step_m l l.first s at y).number
      pub going : Going (y / 2 ∷ ds₁) (next y / 2 ∷ ds₂) (wiped (next y) (wiped y M)) (two_pair_m l s at y).words
      pub is_next : (two_pair_m l s at y).number ≡ next (next y)
      pub half : Half (next (next y))

    pub paired :
        (ds₁ ds₂ : List ℕ) (M : ℕ → ℕ) (s : List ℕ) (at y : ℕ) → length ds₁ ≡ at → length ds₂ ≡ at → at < m → Going ds₁ ds₂ M s → Half y →
        Paired ds₁ ds₂ M s at y
    unfolding two_pair_m
    paired ds₁ ds₂ M s at y e₁ e₂ room q i =
        let a : Stepped l.first s at y =
        stepped l.first ds₁ ds₂ M s at y (omega (arith, g.first)) (omega (arith, g.first)) room q i in
        let w : List ℕ = dealt_to u s at y in
        let one : Going (y / 2 ∷ ds₁) ds₂ (wiped y M) w =
        step_going u ds₁ ds₂ M s at y (omega arith) (omega arith) room q i (y / 2 ∷ ds₁) ds₂
        (step_held u ds₁ ds₂ M s at y (omega arith) (omega arith) room q i ds₁ e₁ q.first)
        (held_same s w (u + 2 * k) ds₂
        (λ a lo hi. low_word u s at y a (omega (arith, g.parties, g.entries)) (λ z. omega (arith, g.entries)) (λ z. omega (arith, g.entries)))
        q.second) in
        let ew : (two_step_m l l.first s at y).words ≡ w =
        a.is_words ∙ ap (λ (h : ℕ). dealt_to h s at y) g.first in
        let en : (two_step_m l l.first s at y).number ≡ next y = a.is_next in
        let z : ℕ = next y in
        let b : Stepped l.second w at z =
        stepped l.second (y / 2 ∷ ds₁) ds₂ (wiped y M) w at z (omega (arith, g.second)) (omega (arith, g.second)) room one a.half in
        let x : List ℕ = dealt_to (u + 2 * k) w at z in
        let two' : Going (y / 2 ∷ ds₁) (z / 2 ∷ ds₂) (wiped z (wiped y M)) x =
        step_going (u + 2 * k) (y / 2 ∷ ds₁) ds₂ (wiped y M) w at z (omega arith) (omega arith) room one a.half (y / 2 ∷ ds₁) (z / 2 ∷ ds₂)
        (held_same w x u (y / 2 ∷ ds₁)
        (λ a lo hi. low_word (u + 2 * k) w at z a (omega (arith, g.parties, g.entries)) (λ z. omega (arith, g.entries)) (λ z. omega (arith, g.entries)))
        one.first)
        (step_held (u + 2 * k) (y / 2 ∷ ds₁) ds₂ (wiped y M) w at z (omega arith) (omega arith) room one a.half ds₂ e₂ one.second) in
        let to : (t : List ℕ) (n : ℕ) → t ≡ w → n ≡ z → two_step_m l l.second t at n ≡ two_step_m l l.second w at z = λ t n p q. rw (p, q) in
        let same : two_step_m l l.second (two_step_m l l.first s at y).words at (two_step_m l l.first s at y).number ≡ two_step_m l l.second w at z =
        to (two_step_m l l.first s at y).words (two_step_m l l.first s at y).number ew en in
        let fit : (t : List ℕ) (n : ℕ) → w ≡ t → z ≡ n → TwoSteps l l.second t at n =
        λ t n p q. subst (λ (x : ℕ). TwoSteps l l.second t at x) q (subst (λ (x : List ℕ). TwoSteps l l.second x at z) p b.fits) in
        record {
          fits_first = a.fits;
          fits_second = fit (two_step_m l l.first s at y).words (two_step_m l l.first s at y).number (sym ew) (sym en);
          going =
              subst (Going (y / 2 ∷ ds₁) (z / 2 ∷ ds₂) (wiped z (wiped y M)))
              (sym (ap (λ (x : Told). x.words) same ∙ b.is_words ∙ ap (λ (h : ℕ). dealt_to h w at z) g.second)) two';
          is_next = ap (λ (x : Told). x.number) same ∙ b.is_next;
          half = b.half;
        }
