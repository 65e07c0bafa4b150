-- What the table of ends and a graph keep while only other words change. Assumes nothing.
use Prim.Native.Nat.{ℕ, ◌+◌, ◌*◌, ◌≤◌, ◌<◌}
use mathlib.Core.Path.{◌≡◌}
use mathlib.Core.List.{List}
use native.Mathlib.Omega.{arith}
use Rattle.words.specs.Words.{word}
use Rattle.words.specs.Frames.{Stays, Spares, Changes}
use Rattle.multigraph.specs.Stored.{numbered, entry, graph_at}
use Rattle.multigraph.specs.Places.{size, number, copies_of, Alike}
use Rattle.multigraph.proofs.Spans.{graph_span, span_same}

-- ── the table of ends ──

-- the first `rows` rows are the same
pub record EndsKept (ends rows : ℕ) (s t : List ℕ) : Type 0 where
  pub firsts : (e : ℕ) → e < rows → word t (ends + 2 * e) ≡ word s (ends + 2 * e)
  pub seconds : (e : ℕ) → e < rows → word t (ends + 2 * e + 1) ≡ word s (ends + 2 * e + 1)

-- below all that changes
pub ends_below :
    {s t : List ℕ} (ends rows bound : ℕ) → ends + 2 * rows ≤ bound → ((i : ℕ) → i < bound → word t i ≡ word s i) →
    EndsKept ends rows s t
ends_below ends rows bound h same =
    record {
      firsts = λ e k. same (ends + 2 * e) (omega arith);
      seconds = λ e k. same (ends + 2 * e + 1) (omega arith);
    }

pub ends_kept :
    (ends rows : ℕ) {places v g w : ℕ} {s t : List ℕ} → ends + 2 * rows ≤ places → Changes places v g w s t →
    EndsKept ends rows s t
ends_kept ends rows {places = places} h ch = ends_below ends rows places h (λ i k. ch.under i k)

pub stays_ends :
    {ends rows mark o w : ℕ} {s t : List ℕ} → ends + 2 * rows ≤ o → o ≤ mark → Stays mark o w s t → EndsKept ends rows s t
stays_ends {ends} {rows} {mark} {o} a b st = ends_below ends rows o a (λ i k. st.under i (omega arith) k)

module _ {ends rows : ℕ} {s t : List ℕ} (k : EndsKept ends rows s t) where
  pub numbered_kept : (pairs e c : ℕ) → e < rows → numbered t ends pairs e c ≡ numbered s ends pairs e c
  numbered_kept pairs e c h = rw (k.firsts e h, k.seconds e h)

  pub alike_kept : (e f : ℕ) → e < rows → f < rows → Alike s ends e f → Alike t ends e f
  alike_kept e f h i x = rw (k.firsts e h, k.seconds e h, k.firsts f i, k.seconds f i) x

  pub alike_back : (e f : ℕ) → e < rows → f < rows → Alike t ends e f → Alike s ends e f
  alike_back e f h i x = rw (k.firsts e h, k.seconds e h, k.firsts f i, k.seconds f i) at x

  -- an entry whose number and copies are known
  pub entry_is :
      (pairs g i e c : ℕ) → number t g i ≡ e → copies_of t g i ≡ c → e < rows →
      entry t ends pairs g i ≡ numbered s ends pairs e c
  entry_is pairs g i e c x y h = rw (x, y) (numbered_kept pairs e c h)

  -- a graph whose own words are the same
  pub graph_kept :
      (pairs g : ℕ) → size t g ≡ size s g → ((i : ℕ) → i < size s g → number t g i ≡ number s g i) →
      ((i : ℕ) → i < size s g → copies_of t g i ≡ copies_of s g i) → ((i : ℕ) → i < size s g → number s g i < rows) →
      graph_at t ends pairs g ≡ graph_at s ends pairs g
  graph_kept pairs g n x y below =
      rw (graph_span t ends pairs g, graph_span s ends pairs g, n)
      (span_same (entry s ends pairs g) (entry t ends pairs g) 0 (size s g)
      (λ j a b.
      entry_is pairs g j (number s g j) (copies_of s g j) (x j (omega arith)) (y j (omega arith)) (below j (omega arith))))

-- ── a graph above the ranges that change ──

-- all words of a graph are the same, so it is the same
pub record GraphKept (ends rows : ℕ) (s t : List ℕ) (g : ℕ) : Type 0 where
  pub same : (pairs : ℕ) → graph_at t ends pairs g ≡ graph_at s ends pairs g
  pub header : word t g ≡ word s g
  pub sizes : size t g ≡ size s g
  pub numbers : (i : ℕ) → i < size s g → number t g i ≡ number s g i
  pub copies : (i : ℕ) → i < size s g → copies_of t g i ≡ copies_of s g i

pub kept_above :
    {ends rows : ℕ} {s t : List ℕ} (g : ℕ) → EndsKept ends rows s t → ((i : ℕ) → i < size s g → number s g i < rows) →
    ((i : ℕ) → g ≤ i → i < g + 2 + 2 * size s g → word t i ≡ word s i) → GraphKept ends rows s t g
kept_above {ends} {rows} {s} {t} g k below same =
    let count : size t g ≡ size s g = same (g + 1) (omega arith) (omega arith) in
    let num : (i : ℕ) → i < size s g → number t g i ≡ number s g i =
    λ i h. same (g + 2 + 2 * i) (omega arith) (omega arith) in
    let cop : (i : ℕ) → i < size s g → copies_of t g i ≡ copies_of s g i =
    λ i h. same (g + 3 + 2 * i) (omega arith) (omega arith) in
    record {
      same = λ pairs. graph_kept k pairs g count num cop below;
      header = same g (omega arith) (omega arith);
      sizes = count;
      numbers = num;
      copies = cop;
    }

pub graph_stays :
    {ends rows mark o w : ℕ} {s t : List ℕ} (g : ℕ) → ends + 2 * rows ≤ o → Stays mark o w s t → o + w ≤ g →
    g + 2 + 2 * size s g ≤ mark → ((i : ℕ) → i < size s g → number s g i < rows) → GraphKept ends rows s t g
graph_stays g a st b m below =
    kept_above g (stays_ends a (omega arith) st) below (λ i h k. st.over i (omega arith) (omega arith))

pub graph_spares :
    {ends rows mark a v b w : ℕ} {s t : List ℕ} (g : ℕ) → ends + 2 * rows ≤ a → a ≤ mark → Spares mark a v b w s t → b + w ≤ g →
    g + 2 + 2 * size s g ≤ mark → ((i : ℕ) → i < size s g → number s g i < rows) → GraphKept ends rows s t g
graph_spares {ends} {rows} {mark} {a} g p q st above m below =
    kept_above g (ends_below ends rows a p (λ i k. st.under i (omega arith) k)) below (λ i h k. st.over i (omega arith) (omega arith))
