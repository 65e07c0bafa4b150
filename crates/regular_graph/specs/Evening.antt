-- The first half of module 8 of document 01, `bipartite_edge_color_given_partition`: the pairs of a list, and how parties and copies are
-- added until every party has degree D. Assumes nothing.
use Rattle.std.specs.Prelude.{ℕ, zero, suc, ◌+◌, ◌-◌, ◌*◌, min, List, [], ◌∷◌, ◌++◌, eqb, length}
use Rattle.words.specs.Basics.{pick, iterate, Run, ran, failed}
use Rattle.appointments.specs.Appointments.{Appt}
use Rattle.multigraph.specs.Multigraph.{Graph, add_edge}
use Rattle.multigraph.specs.Regular.{degree}

-- The pairs of a list: one copy for each appointment, in list order.
unfoldable pub add_appointments : Graph → List Appt → Graph
add_appointments g [] = g
add_appointments g (x ∷ xs) = add_appointments (add_edge g x.first x.second 1 0) xs

-- k new parties, numbered from v on
unfoldable pub new_parties : ℕ → ℕ → List ℕ
new_parties v zero = []
new_parties v (suc k) = v ∷ new_parties (v + 1) k

-- New parties, numbered on from P, are appended to the shorter side until it has n.
abbrev pub padded : ℕ → ℕ → List ℕ → List ℕ
padded P n parties = parties ++ new_parties P (n - length parties)

-- Evening out: the graph so far, and the left and the right parties that are still to be filled.
pub record Evening : Type 0 where
  pub graph : Graph
  pub left : List ℕ
  pub right : List ℕ

-- a state by its three parts
abbrev pub evening : Graph → List ℕ → List ℕ → Evening
evening g left right = record { graph = g; left = left; right = right }

-- From the first left and the first right party below D, the smaller shortfall is added as copies (the left party as first
-- end if the pair is new), moving on when a party is full.
unfoldable pub even_out_pair : ℕ → Graph → ℕ → List ℕ → List ℕ → Evening
even_out_pair D g l left [] = evening g (l ∷ left) []
even_out_pair D g l left (r ∷ right) =
    pick (eqb (degree r g) D) (evening g (l ∷ left) right)
    (evening (add_edge g l r (min (D - degree l g) (D - degree r g)) 0) (l ∷ left) (r ∷ right))

-- The next left party is passed if it is full, else filled.
unfoldable pub even_out_next : ℕ → Graph → List ℕ → List ℕ → Evening
even_out_next D g [] right = evening g [] right
even_out_next D g (l ∷ left) right =
    pick (eqb (degree l g) D) (evening g left right) (even_out_pair D g l left right)

-- one step
abbrev pub even_out_step : ℕ → Evening → Evening
even_out_step D s = even_out_next D s.graph s.left s.right

-- all left parties are full
abbrev pub evened : Evening → List ℕ → Run Graph
evened s [] = ran s.graph
evened s (l ∷ left) = failed

-- Each party is filled once and passed once, so two steps for each suffice (a law).
unfoldable pub even_out : ℕ → Graph → List ℕ → List ℕ → Run Graph
even_out D g left right =
    let s : Evening = iterate (2 * (length left + length right)) (even_out_step D) (evening g left right) in
    evened s s.left
