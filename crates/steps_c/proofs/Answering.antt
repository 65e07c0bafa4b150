-- The three answers of `two_color`: a check refuses, sides, no sides. Assumes nothing.
use Prim.Native.Nat.{ℕ, ◌≤◌}
use mathlib.Core.Path.{◌≡◌, refl, sym, ◌∙◌}
use mathlib.Core.List.{List}
use native.Mathlib.Omega.{arith}
use native.Mathlib.Nat.{zero-add}
use lib.ListN.{length}
use Rattle.std.specs.Prelude.{Option, Some, None}
use Rattle.std.specs.Option.{ok_or}
use Rattle.appointments.specs.Answers.{Answer, refused, number_of, figure_of}
use Rattle.appointments.specs.Checks.{Check, passed, checks}
use Rattle.appointments.specs.Refusals.{told}
use Rattle.appointments.specs.declared.Refusal.TheVariants.{OddRound}
use Rattle.appointments.proofs.ChecksLaws.{refused_passed}
use Rattle.appointments.proofs.Causes.{refused_cause, cause_number}
use Rattle.two_color.specs.Contract.{Answers}
use Rattle.words.proofs.Regions.{region_length}
use Rattle.steps_c.specs.Compared.{TwoColored}

module _ (p : ℕ) (list before : List ℕ) where
  pub barred_says :
      (a : Answer ℕ) (n i : ℕ) → a ≡ refused n i → checks p list (length list) (length before) ≡ Check.refused n i →
      TwoColored p list before before (number_of a) (figure_of a) × (figure_of a ≤ p)
  barred_says a n i q e =
      let bounds = cause_number (refused_cause p list (length list) (length before) n i e) in
      rw q (
        record {
          number_is = rw e refl;
          left_is = rw e refl;
          placed = λ z. absurd (omega (arith, bounds.0));
          stays = λ m j h. refl;
        },
        omega arith,
      )

  module _ (after : List ℕ) (ok : checks p list (length list) (length before) ≡ passed) where
    pub sides_say : (left : ℕ) → Answers p list 0 after (Some left) → TwoColored p list before after 0 left
    sides_say left a =
        record {
          number_is = rw (ok, a.1);
          left_is = rw (ok, a.1) (sym (region_length after 0 left));
          placed = λ z. rw zero-add at a.1;
          stays = λ n i h. refused_passed n i (sym h ∙ ok);
        }

    pub not_bipartite_says : Answers p list 0 after None → TwoColored p list before after 9 0
    not_bipartite_says a =
        record {
          number_is = rw (ok, a);
          left_is = rw (ok, a);
          placed = λ z. absurd (omega arith);
          stays = λ n i h. refused_passed n i (sym h ∙ ok);
        }

    pub passed_says :
        (r : Option ℕ) → Answers p list 0 after r →
        let a = told (ok_or r OddRound) in
        TwoColored p list before after (number_of a) (figure_of a) × (figure_of a ≤ p)
    passed_says (Some left) a = (sides_say left a, a.0)
    passed_says None a = (not_bipartite_says a, omega arith)
