-- `put_field` meets its contract: std's digits are the definition's. Assumes nothing.
use mathlib.Core.Path.{◌≡◌, ◌∙◌}
use native.Mathlib.Omega.{arith}
use Rattle.printing.specs.Printing.{decimal}
use Rattle.printing.proofs.PlacingSteps.{decimal_std}
use Rattle.printing.proofs.put_field.Goals as goal

pub put_text-requires : goal.put_text-requires
put_text-requires g c =
    let digits : c.format.result.now ≡ decimal c.args.n = c.format.ensures.text ∙ decimal_std c.args.n (omega arith) in
    record { room = rw digits c.requires.room; one_byte = c.requires.one_byte }

pub returns : goal.returns
returns g c =
    let digits : c.format.result.now ≡ decimal c.args.n = c.format.ensures.text ∙ decimal_std c.args.n (omega arith) in
    rw digits at c.put_text.ensures
