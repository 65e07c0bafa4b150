-- What came of the input grows by what one more read gave. Assumes nothing.
use Rattle.std.proofs.Common.{◌≡◌, ℕ, ◌+◌, List, take, drop, sym, subst, take-add}
use Rattle.std.specs.declared.option.Option.{Option}
use Rattle.std.specs.Io.KnownBytes.{Consumes}
use Rattle.std.proofs.KnownBytes.{Consumes-trans}

-- f bytes that had come stand in ys as in xs, and n more that were read stand behind them
pub more_came :
    (a b c : Option (List ℕ)) (xs ys : List ℕ) (f n : ℕ) → take f ys ≡ take f xs → Consumes a b (take f xs) →
    Consumes b c (take n (drop f ys)) → Consumes a c (take (f + n) ys)
more_came a b c xs ys f n front before read =
    subst (Consumes a c) (sym (take-add f n ys)) (Consumes-trans a b c _ _ (subst (Consumes a b) (sym front) before) read)
