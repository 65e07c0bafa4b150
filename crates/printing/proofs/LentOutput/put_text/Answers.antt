-- `put_text` into a lent slice meets its contract: what stands behind stays, the text is copied, and the byte stored behind it.
-- Assumes nothing.
use native.Mathlib.Omega.{arith}
use lib.ListN.{length-append}
use Rattle.std.proofs.lemmas.List.{drop-set-lt}
use Rattle.std.proofs.lemmas.Slice.{overwrites, drop-put_mid}
use Rattle.std.proofs.lemmas.Grind.{common_steps}
use Rattle.printing.proofs.PlacingSteps.{placed_slice}
use Rattle.printing.proofs.LentOutput.put_text.Goals as goal

pub returns : goal.returns
returns c =
    placed_slice _ _ _ _ _
    (grind (arith, drop-set-lt, drop-put_mid, length-append))
    (grind (arith, common_steps, overwrites))
    (grind (arith, length-append))
    (grind (arith, common_steps, overwrites))
    (grind arith)
