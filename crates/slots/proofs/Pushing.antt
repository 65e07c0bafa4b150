-- The first pass: one matching after the other, each pair's slots become a chain, the highest first. Assumes nothing.
use Prim.Native.Nat.{ℕ, zero, suc, ◌+◌, ◌*◌, ◌%◌, ◌<◌, ◌≤◌}
use mathlib.Core.Path.{◌≡◌, refl, sym, ◌∙◌, ap}
use mathlib.Core.List.{List, ◌∷◌, ◌++◌}
use native.Mathlib.Omega.{arith}
use native.Mathlib.Decide.{ℕ_discrete}
use native.Mathlib.Nat.{mul-le-mul_right, one-mul, zero-add, add_assoc}
use lib.ListN.{length, replicate}
use lib.Seq.{get_or-set_same}
use Rattle.words.specs.Basics.{is}
use Rattle.words.specs.Words.{word, put_word}
use Rattle.words.specs.Frames.{Changes}
use Rattle.words.proofs.Sums.{is_eq, is_ne}
use Rattle.words.proofs.Frames.{here, away, length_put}
use Rattle.words.proofs.Ranges.{changes_refl, changes_trans, changes_put, changes_put_low}
use Rattle.words.proofs.Below.{row_end}
use Rattle.slot_chains.specs.Steps.{pushed, matching_pushed, all_pushed}
use Rattle.slots.proofs.Chains.{Chain, chain_keep, chain_cut, link_fits, slots_left}

-- how often the number e stands among the j words from m on
unfoldable pub seen : List ℕ → ℕ → ℕ → ℕ → ℕ
seen s m e zero = 0
seen s m e (suc j) = is e (word s (m + j)) + seen s m e j

-- how often a slot's matching, n numbers, has the pair e
abbrev pub has : List ℕ → ℕ → ℕ → ℕ → ℕ → ℕ
has s n out e slot = seen s (out + n * slot) e n

-- ── one pair ──

module _ (out links slot t : ℕ) (s : List ℕ) (after : out + t < links) (inside : links + word s (out + t) < length s) where
  abbrev number : ℕ
  number = word s (out + t)

  abbrev between : List ℕ
  between = put_word s (out + t) (word s (links + number))

  between_length : length between ≡ length s
  between_length = length_put s (out + t) (word s (links + number))

  -- the new first link
  pub pushed_first : slot * 16384 + t < 4294967296 → word (pushed out links slot t s) (links + number) ≡ slot * 16384 + t
  unfolding pushed
  pushed_first fits = here between (links + number) (slot * 16384 + t) (omega (arith, between_length)) fits

  -- leads to the one before
  pub pushed_next : word (pushed out links slot t s) (out + t) ≡ word s (links + number) % 4294967296
  unfolding pushed
  pushed_next =
      away between (links + number) (out + t) (slot * 16384 + t) (λ e. omega arith)
      ∙ get_or-set_same s (out + t) (word s (links + number) % 4294967296) 0 (omega arith)

  -- and no other word changes
  pub pushed_other :
      (i : ℕ) → (i ≡ out + t → ⊥) → (i ≡ links + number → ⊥) → word (pushed out links slot t s) i ≡ word s i
  unfolding pushed
  pushed_other i a b =
      away between (links + number) i (slot * 16384 + t) b ∙ away s (out + t) i (word s (links + number)) a

  pub pushed_changes :
      (size pairs : ℕ) → t < size → out + size ≤ links → number < pairs → Changes out size links pairs s (pushed out links slot t s)
  unfolding pushed
  pushed_changes size pairs a b c =
      changes_trans
      (changes_put_low out size links pairs s (out + t) (word s (links + number)) b (omega arith) (omega arith))
      (changes_put out size links pairs between (links + number) (slot * 16384 + t) b (omega arith) (omega arith))

-- ── all pairs ──

-- What the first pass asks: numbers below `pairs`, the words for the pairs above the matchings and inside.
pub record Pushable (pairs n d out links : ℕ) (first : List ℕ) : Type 0 where
  pub numbers : (t : ℕ) → t < n * d → word first (out + t) < pairs
  pub after : out + n * d ≤ links
  pub inside : links + pairs ≤ length first
  pub few : n * d ≤ 16384

module _ (pairs n d out links : ℕ) (first : List ℕ) where
  -- After the matchings of the slots below `slot` and j pairs of this slot's: later words are as they were, and each pair's
  -- slots so far are a chain.
  pub record Chained (slot j : ℕ) (s : List ℕ) : Type 0 where
    pub changes : Changes out (n * d) links pairs first s
    pub unread : (t : ℕ) → n * slot + j ≤ t → t < n * d → word s (out + t) ≡ word first (out + t)
    pub chains :
        (e : ℕ) → e < pairs →
        Chain (λ t. word s (out + t)) (n * slot + j) (word s (links + e))
        (replicate (seen first (out + n * slot) e j) slot ++ slots_left (has first n out e) slot)

  module _ (ok : Pushable pairs n d out links first) where
    chained_none : Chained 0 0 first
    unfolding seen slots_left
    chained_none =
        record { changes = changes_refl out (n * d) links pairs first; unread = λ t h k. refl; chains = λ e h. tt }

    -- one pair more
    module _ (slot j : ℕ) (s : List ℕ) (a : slot < d) (b : j < n) (h : Chained slot j s) where
      abbrev place : ℕ
      place = n * slot + j

      abbrev q : ℕ
      q = word s (out + place)

      abbrev after : List ℕ
      after = pushed out links slot place s

      abbrev so_far : ℕ → List ℕ
      so_far e = replicate (seen first (out + n * slot) e j) slot ++ slots_left (has first n out e) slot

      within : place < n * d
      within = omega (arith, row_end n slot d a)

      low : slot ≤ place
      low =
          let some : 1 ≤ n = omega arith in
          omega (arith, mul-le-mul_right slot some, one-mul slot)

      read : q ≡ word first (out + n * slot + j)
      read = h.unread place (omega arith) within ∙ ap (word first) (sym (add_assoc out (n * slot) j))

      below : q < pairs
      below = omega (arith, h.unread place (omega arith) within, ok.numbers place within)

      under : out + place < links
      under = omega (arith, within, ok.after)

      ends : links + q < length s
      ends = omega (arith, below, ok.inside, h.changes.len)

      keep :
          (w : ℕ) (zs : List ℕ) → Chain (λ t. word s (out + t)) place w zs →
          Chain (λ t. word after (out + t)) (n * slot + suc j) w zs
      keep w zs =
          chain_keep (λ t. word s (out + t)) (λ t. word after (out + t)) place (n * slot + suc j) w zs (omega arith)
          (λ t k.
          pushed_other out links slot place s under ends (out + t) (λ e. omega arith) (λ e. omega (arith, within, ok.after)))

      -- the pair itself: its chain gets one link more
      own :
          (zs : List ℕ) → Chain (λ t. word s (out + t)) place (word s (links + q)) zs →
          Chain (λ t. word after (out + t)) (n * slot + suc j) (word after (links + q)) (slot ∷ zs)
      own zs c = (
        place,
        pushed_first out links slot place s under ends (link_fits slot place low (omega (arith, within, ok.few))),
        low,
        omega arith,
        rw (pushed_next out links slot place s under ends)
            (keep (word s (links + q) % 4294967296) zs
            (chain_cut (λ t. word s (out + t)) place (word s (links + q)) zs (omega (arith, within, ok.few)) c)),
      )

      chains_more :
          (e : ℕ) → e < pairs →
          Chain (λ t. word after (out + t)) (n * slot + suc j) (word after (links + e))
          (replicate (seen first (out + n * slot) e (suc j)) slot ++ slots_left (has first n out e) slot)
      unfolding seen
      chains_more e k =
          elim (ℕ_discrete e q) [
            | yes x ↦
                let one : is e (word first (out + n * slot + j)) ≡ 1 = is_eq (x ∙ read) in
                let more : 1 + seen first (out + n * slot) e j ≡ suc (seen first (out + n * slot) e j) = omega arith in
                rw (one, more)
                (rw (ap (λ y. word after (links + y)) x)
                (own (so_far e) (rw (ap (λ y. word s (links + y)) x) at (h.chains e k))))
            | no x ↦
                let none : is e (word first (out + n * slot + j)) ≡ 0 = is_ne (λ y. x (y ∙ sym read)) in
                let same : word after (links + e) ≡ word s (links + e) =
                pushed_other out links slot place s under ends (links + e) (λ y. omega (arith, under)) (λ y. x (omega arith)) in
                rw (none, zero-add, same) (keep (word s (links + e)) (so_far e) (h.chains e k))
          ]

      pub push_one : Chained slot (suc j) after
      push_one =
          record {
            changes =
                changes_trans h.changes
                (pushed_changes out links slot place s under ends (n * d) pairs within ok.after below);
            unread = λ t x y.
                pushed_other out links slot place s under ends (out + t) (λ e. omega arith) (λ e. omega (arith, ok.after))
                ∙ h.unread t (omega arith) y;
            chains = chains_more;
          }

    push_matching : (slot j : ℕ) (s : List ℕ) → slot < d → j ≤ n → Chained slot 0 s →
        Chained slot j (matching_pushed n out links slot j s)
    unfolding matching_pushed
    push_matching slot zero s a b h = h
    push_matching slot (suc j) s a b h =
        push_one slot j (matching_pushed n out links slot j s) a (omega arith) (push_matching slot j s a (omega arith) h)

    -- a matching's end is the next one's start
    next_matching : (slot : ℕ) (s : List ℕ) → Chained slot n s → Chained (suc slot) 0 s
    unfolding seen slots_left
    next_matching slot s h =
        let same : n * suc slot + 0 ≡ n * slot + n = omega arith in
        record {
          changes = h.changes;
          unread = λ t x y. h.unread t (omega arith) y;
          chains = λ e k. rw same (h.chains e k);
        }

    pub push_all : (slot : ℕ) → slot ≤ d → Chained slot 0 (all_pushed n out links slot first)
    unfolding all_pushed
    push_all zero a = chained_none
    push_all (suc slot) a =
        let s : List ℕ = all_pushed n out links slot first in
        next_matching slot (matching_pushed n out links slot n s)
        (push_matching slot n s (omega arith) (omega arith) (push_all slot (omega arith)))
