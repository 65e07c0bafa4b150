-- The appointments of the flat list, one by one, and that no pair of them has more copies than they are. Assumes nothing.
use Prim.Native.Nat.{ℕ, ◌+◌, ◌*◌, ◌/◌, ◌%◌, ◌≤◌, ◌<◌}
use mathlib.Core.Path.{◌≡◌, refl, ◌∙◌, ap}
use mathlib.Core.List.{List, [], ◌∷◌, ◌++◌}
use native.Mathlib.Omega.{arith}
use native.Mathlib.Numerals.{add-one}
use native.Mathlib.Nat.{mul-one}
use native.Mathlib.Decide.{ℕ_discrete}
use lib.ListN.{length, take}
use lib.Seq.{take-suc}
use Rattle.words.specs.Basics.{All}
use Rattle.words.specs.Words.{word}
use Rattle.words.proofs.Sums.{all_at, total_const}
use Rattle.appointments.specs.Appointments.{Appt, appt, appts}
use Rattle.appointments.proofs.Flat.{appts_count, appt_at}
use Rattle.multigraph.specs.Multigraph.{Pair, Graph, add_edge}
use Rattle.multigraph.specs.Regular.{weigh}
use Rattle.multigraph.specs.Places.{size, copies_of}
use Rattle.multigraph.proofs.Weights.{part_of_weight}
use Rattle.multigraph.proofs.Spans.{all_span}
use Rattle.regular_graph.specs.Evening.{add_appointments}
use Rattle.list_pairs.specs.Contract.{first_of, second_of}
use Rattle.list_pairs.specs.Adding.{plain_pair, plain_graph}
use Rattle.appointments.proofs.Loads.{weigh_appts}
use Rattle.regular_graph.proofs.Pairs.{weigh_list}

-- what is listed, by half-edges
pub listed_half :
    (list : List ℕ) (p : ℕ) → length list % 2 ≡ 0 → All (λ (x : Appt). (x.first < p) × (x.second < p)) (appts list) →
    (h : ℕ) → h < length list → word list h < p
listed_half list p even listed h inside =
    let a : h / 2 < length list / 2 = omega arith in
    let b : h / 2 < length (appts list) = omega (arith, appts_count list) in
    let both : (first_of list (h / 2) < p) × (second_of list (h / 2) < p) =
    rw (appt_at list (h / 2) (appt 0 0) a) at (all_at (λ (x : Appt). (x.first < p) × (x.second < p)) (appts list) (appt 0 0) listed (h / 2) b) in
    elim (ℕ_discrete (h % 2) 0) [
      | yes e ↦ let q : 2 * (h / 2) ≡ h = omega arith in rw q at both.0
      | no e ↦ let q : 2 * (h / 2) + 1 ≡ h = omega arith in rw q at both.1
    ]

add_appointments_append :
    (g : Graph) (xs ys : List Appt) → add_appointments g (xs ++ ys) ≡ add_appointments (add_appointments g xs) ys
unfolding add_appointments
add_appointments_append g [] ys = refl
add_appointments_append g (x ∷ xs) ys = add_appointments_append (add_edge g x.first x.second 1 0) xs ys

-- one appointment more is one copy more
pub add_appointments_more :
    (list : List ℕ) (k : ℕ) → k < length list / 2 →
    add_appointments [] (take (k + 1) (appts list))
    ≡ add_edge (add_appointments [] (take k (appts list))) (first_of list k) (second_of list k) 1 0
unfolding add_appointments
add_appointments_more list k h =
    let inside : k < length (appts list) = omega (arith, appts_count list) in
    rw (add-one k, take-suc (appts list) k (appt 0 0) inside, appt_at list k (appt 0 0) h)
    (add_appointments_append [] (take k (appts list)) (appt (first_of list k) (second_of list k) ∷ []))

-- ── copies are few ──

-- a pair of a list has at most as many copies as there are appointments
one : ℕ → ℕ → ℕ
one a b = 1

all_weigh_one : (xs : List Appt) → weigh one (add_appointments [] xs) ≡ length xs
unfolding weigh_appts one
all_weigh_one xs = weigh_list one (λ a b. refl) xs ∙ total_const 1 xs ∙ mul-one (length xs)

-- so no pair of the stored graph has more
pub copies_few :
    (ends g : ℕ) (s : List ℕ) (xs : List Appt) → plain_graph s ends g ≡ add_appointments [] xs →
    (e : ℕ) → e < size s g → copies_of s g e ≤ length xs
unfolding one
copies_few ends g s xs is e a =
    let part : (w : ℕ → ℕ → ℕ) →
    copies_of s g e * w (word s (ends + 2 * e)) (word s (ends + 2 * e + 1)) ≤ weigh w (plain_graph s ends g) =
    all_span (λ (p : Pair). (w : ℕ → ℕ → ℕ) → p.copies * w p.first p.second ≤ weigh w (plain_graph s ends g))
    (plain_pair s ends g) 0 (size s g) (part_of_weight (plain_graph s ends g)) e (omega arith) (omega arith) in
    omega (arith, part one, ap (weigh one) is, all_weigh_one xs, mul-one (copies_of s g e))
