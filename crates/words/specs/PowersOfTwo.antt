-- Powers of two. Assumes nothing.
use Rattle.std.specs.Prelude.{ℕ, zero, suc, ◌+◌, ◌^◌, leb}
use Rattle.words.specs.Basics.{pick}

-- log2 of m rounded up: the exponent of the least power of two not below m (0 for m = 0)
unfoldable pub log_up : ℕ → ℕ
log_up zero = 0
log_up (suc m) = let e : ℕ = log_up m in pick (leb (suc m) (2 ^ e)) e (e + 1)
