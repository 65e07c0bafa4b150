-- The words are laid out, and `split_two` or `split_words` does the rest.
use Rattle.std.proofs.Common.{rules}
use Rattle.splitting.proofs.SplitWords.{split_asks, split_gives}
use Rattle.circuits.proofs.CircuitSplit.{split_two_asks, split_two_gives}
use Rattle.circuits.proofs.CircuitBegun.{any_lies}
use Rattle.splitting.proofs.split_at.Goals as goal

pub split_two-requires : goal.split_two-requires
split_two-requires c =
    split_two_asks c.requires _ c.get-m.ensures.0 c.copies_sum.ensures (search rules)

pub returns-then-eq : goal.returns-then-eq
returns-then-eq c =
    split_two_gives c.requires c.get-m.ensures.0 c.copies_sum.ensures (search rules)
    (any_lies _ _ _ c.split_two.ensures)

pub split_words-requires : goal.split_words-requires
split_words-requires c = split_asks c.requires _ (λ i. search rules) c.get-m.ensures.0

pub returns : goal.returns
returns c =
    split_gives c.requires _ (λ i. search rules) c.get-m.ensures.0
    c.split_words.ensures
