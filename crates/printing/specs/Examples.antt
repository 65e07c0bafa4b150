-- Worked examples of what is printed, each computed to the byte: document 01's plan, plans of no appointment and of no party, and
-- refusals. A wrong definition is refused here. Assumes nothing.
use Prim.Native.String.{String}
use Rattle.std.specs.Prelude.{◌≡◌, refl, [], ◌∷◌}
use Rattle.words.specs.Ascii.{ascii}
use Rattle.printing.specs.Printing.{Report, plan, refused, printed}
use Rattle.printing.specs.Computing.{computing}

abbrev Prints : Report → String → Type 0
Prints report output = printed report ≡ ascii output

plans :
    -- document 01's example
    Prints (plan 3 (0 ∷ 1 ∷ 1 ∷ 2 ∷ []) 2 (0 ∷ 1 ∷ [])) "plan 2\n0 0 1 0\n1 1 2 1\nparty 0 0\nparty 1 0\nparty 2 0\n"
    -- slot entries behind the list's aren't printed
    × Prints (plan 2 (0 ∷ 1 ∷ []) 1 (0 ∷ 7 ∷ 7 ∷ [])) "plan 1\n0 0 1 0\nparty 0 0\nparty 1 0\n"
    -- waiting goes by the slots: party 0 has 3 and 0 and waits in 1 and 2 (what is planned never has such a gap where D is 2)
    × Prints (plan 3 (0 ∷ 1 ∷ 0 ∷ 2 ∷ []) 2 (3 ∷ 0 ∷ [])) "plan 2\n0 0 1 3\n1 0 2 0\nparty 0 2\nparty 1 0\nparty 2 0\n"
    × Prints (plan 2 [] 0 []) "plan 0\nparty 0 0\nparty 1 0\n"
    × Prints (plan 0 [] 0 []) "plan 0\n"
unfolding computing
plans = (refl, refl, refl, refl, refl)

refusals :
    Prints (refused 10 1) "refused 10 1\n"
    × Prints (refused 4 0) "refused 4 0\n"
    × Prints (refused 5 1907) "refused 5 1907\n"
unfolding computing
refusals = (refl, refl, refl)
