-- Padding over words is `padded`. Assumes nothing.
use Prim.Native.Nat.{ℕ, zero, suc, ◌+◌, ◌-◌, ◌≤◌, ◌<◌, max}
use mathlib.Core.Path.{◌≡◌, refl, ◌∙◌, ap}
use mathlib.Core.List.{List, [], ◌∷◌, ◌++◌, append_assoc, append-nil}
use native.Mathlib.Omega.{arith}
use Rattle.words.specs.Words.{put_word, region}
use Rattle.words.proofs.Regions.{region_length, region_more, region_same}
use Rattle.regular_graph.specs.Evening.{new_parties, padded}
use Rattle.evening.specs.Contract.{CanPad, SidesPadded}
use Rattle.evening.specs.Sides.{CanPadSide, Padding}
use Rattle.words.proofs.Puts.{Put, put_is}

-- ── one side ──

-- one new party more comes last
pub new_parties_more : (v k : ℕ) → new_parties v (k + 1) ≡ new_parties v k ++ ((v + k) ∷ [])
unfolding new_parties
new_parties_more v zero = ap (λ x. x ∷ []) (omega arith)
new_parties_more v (suc k) =
    let e : v + 1 + k ≡ v + suc k = omega arith in
    let n : suc k + 1 ≡ suc (k + 1) = omega arith in
    rw n (ap (λ l. v ∷ l) (rw e at (new_parties_more (v + 1) k)))

module _ (at k n p : ℕ) (s : List ℕ) (h : CanPadSide at k n p s) where
  -- no party has been appended
  pub padding_none : Padding at k k p s s
  unfolding new_parties
  padding_none =
      let z : k - k ≡ 0 = omega arith in
      record {
        side = rw (z, append-nil);
        len = refl;
        under = λ j a. refl;
        over = λ j a. refl;
      }

  -- one party more has been appended
  pub padding_more :
      (i : ℕ) (t u : List ℕ) → k ≤ i → i < n → Padding at k i p s t → u ≡ put_word t (at + i) (p + (i - k)) →
      Padding at k (i + 1) p s u
  padding_more i t u low inside x e =
      record {
        side = rw (region_more u at i, same, put.new, x.side, append_assoc, one, new_parties_more p (i - k));
        len = put.len ∙ x.len;
        under = λ j a. put.else j (omega arith) ∙ x.under j a;
        over = λ j a. put.else j (omega arith) ∙ x.over j (omega arith);
      }
    where
      put : Put (at + i) (p + (i - k)) t u
      put = put_is (at + i) (p + (i - k)) t u e (omega (arith, x.len, h.room)) (omega (arith, h.few))

      same : region u at i ≡ region t at i
      same = region_same t u at i (λ j lo hi. put.else j (λ q. omega arith))

      one : i + 1 - k ≡ i - k + 1
      one = omega arith

-- ── both sides ──

module _ (p left l right r : ℕ) (s : List ℕ) (h : CanPad p left l right r s) where
  module _ (n : ℕ) (e : n ≡ max l r) where
    padded_is : (t u : List ℕ) (at k : ℕ) → Padding at k n p t u → region u at n ≡ padded p n (region t at k)
    padded_is t u at k x = rw (region_length t at k) x.side

    -- both sides padded, one after the other
    pub sides_padded :
        (t u : List ℕ) → Padding left l n p s t → Padding right r n p t u → SidesPadded p left l right r n s u
    sides_padded t u x y =
        let low : left + n ≤ right = omega (arith, h.before_right) in
        record {
          longer = e;
          lefts =
              region_same t u left n (λ i lo hi. y.under i (omega arith))
              ∙ padded_is s t left l x;
          rights =
              padded_is t u right r y
              ∙ ap (padded p n) (region_same s t right r (λ i lo hi. x.over i (omega arith)));
          changes =
              record {
                len = y.len ∙ x.len;
                under = λ i a. y.under i (omega arith) ∙ x.under i a;
                between = λ i a b. y.under i b ∙ x.over i a;
                over = λ i a. y.over i a ∙ x.over i (omega arith);
              };
        }
