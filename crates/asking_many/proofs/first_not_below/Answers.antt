-- `first_not_below` meets its contract: the place that `position` gives is the first of the definition. Assumes nothing.
use mathlib.Core.Path.{◌≡◌, refl, ◌∙◌, ap}
use mathlib.Core.Bool.{Bool, true, false, cond}
use mathlib.Core.List.{List, [], ◌∷◌}
use Prim.Native.Nat.{ℕ, ◌+◌}
use lib.Dec.{leb}
use Rattle.std.specs.Prelude.{Option, Some}
use Rattle.words.specs.Basics.{pick}
use Rattle.std.proofs.Common.{rules, tests}
use Rattle.std.specs.List.{position_from}
use Rattle.std.proofs.lemmas.Iterator.{YieldsList-from_slice}
use Rattle.std.proofs.lemmas.Iterator.Search.{position_from_yields_List}
use Rattle.std.proofs.lemmas.Iterator.Adapters.{position_from-zero}
use Rattle.appointments.specs.Checks.{First, at, first_of, first_from}
use Rattle.asking_many.proofs.first_not_below.Goals as goal

position_is_first : (test : ℕ → Bool) (k : ℕ) (xs : List ℕ) → first_of (position_from test k xs) ≡ first_from k test xs
unfolding first_from
position_is_first test k [] = refl
position_is_first test k (x ∷ xs) = go (test x) _ _ (position_is_first test (k + 1) xs)
  where
    go : (b : Bool) (later : Option ℕ) (rest : First) → first_of later ≡ rest → first_of (cond b (Some k) later) ≡ pick b (at k) rest
    go true later rest e = refl
    go false later rest e = e

pub returns : goal.returns
returns c =
    ap first_of
    (position_from_yields_List (leb c.args.p) _ _ c.position.result c.position.ensures.ran (YieldsList-from_slice c.args.queries.now (cc)) (λ x b q k. search (rules, tests))
    ∙ position_from-zero (leb c.args.p) c.args.queries.now)
    ∙ position_is_first (leb c.args.p) 0 c.args.queries.now
