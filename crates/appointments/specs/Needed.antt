-- How much scratch a list needs: the call that says it, and how much is enough for every list. Assumes nothing.
use Rattle.std.specs.Prelude.{ℕ, ◌<◌, ◌≤◌, ◌≡◌, List, length}
use Rattle.appointments.specs.Appointments.{appts, largest_load, scratch_words}
use Rattle.appointments.specs.Checks.{Check, passed, checks_1_to_6, checks}
use Rattle.appointments.specs.declared.Needs.{Needs}
use Rattle.appointments.specs.Answers.{Answer, accepted, answer, figure}

-- what the call tells: D and W
abbrev pub needing : ℕ → ℕ → Needs
needing D W = record { d = D; words = W }

-- The answer: checks 1 to 6, then D and W.
unfoldable pub needs_answer : ℕ → List ℕ → Answer Needs
needs_answer P list =
    let D : ℕ = largest_load P (appts list) in
    answer (checks_1_to_6 P list passed) (needing D (scratch_words P D))

-- D and W of an answer, 0 for a refusal
abbrev pub d_of : Answer Needs → ℕ
d_of = figure (λ n. n.d)

abbrev pub words_of : Answer Needs → ℕ
words_of = figure (λ n. n.words)

-- That W is what check 8 asks: where the call gives W, and there is a slot entry for each appointment, W words or more
-- pass checks 1 to 8, and fewer are refused by 8.
pub record AsksW (P : ℕ) (list : List ℕ) (W slots scratch : ℕ) : Type 0 where
  pub passes : W ≤ scratch → checks P list slots scratch ≡ passed
  pub refuses : scratch < W → checks P list slots scratch ≡ Check.refused 8 0

abbrev pub Exact : ℕ → List ℕ → Type 0
Exact P list =
    (D W slots scratch : ℕ) → needs_answer P list ≡ accepted (needing D W) → length (appts list) ≤ slots → AsksW P list W slots scratch

-- Scratch that is enough for every list that passes check 6: 128 × (8,192 + 1,024) words. The header's
-- BIMTSURE_SCRATCH_WORDS.
abbrev pub scratch_enough : ℕ
scratch_enough = 1179648

-- That it is enough: where checks 1 to 6 pass, W is at most that, and scratch of that many words or more is never
-- refused by 8.
pub record Enough (P : ℕ) (list : List ℕ) : Type 0 where
  pub words : checks_1_to_6 P list passed ≡ passed → scratch_words P (largest_load P (appts list)) ≤ scratch_enough
  pub never_8 : (slots scratch place : ℕ) → scratch_enough ≤ scratch → checks P list slots scratch ≡ Check.refused 8 place → ⊥
