-- `Halves::chosen` meets its contract: the chooser over the two halves, and the header of the one it gives back. Assumes nothing.
use Rattle.std.proofs.Common.{◌≡◌, ◌+◌, ℕ, List, ap}
use native.Mathlib.Nat.{add-sub_cancel_left}
use denote.Ref.{Bor}
use Rattle.multigraph.specs.Stored.{graph_at}
use Rattle.matching.specs.Choosing.{fewer}
use Rattle.matching.proofs.Counts.{part, fewer_map, chooses}
use Rattle.matching.proofs.Halves.chosen.Goals as goal

pub returns : goal.returns
returns c =
    let a = c.args in
    let fits = c.requires in
    let x = part a.s.now a.self.first a.self.room in
    let y = part a.s.now (a.self.first + a.self.room) a.self.room in
    -- the words of the half that the chooser gives back
    let part_is : (ends : ℕ) → c.fewer_flagged-r.result.now ≡ fewer a.self.count (graph_at x ends a.self.pairs 0) (graph_at y ends a.self.pairs 0) x y =
    λ ends. (let e = ap (λ (r : Bor (List ℕ)). r.now) (c.fewer_flagged-r.ensures ends) in rw (fewer_map (λ (r : Bor (List ℕ)). r.now), add-sub_cancel_left, add-sub_cancel_left) at e) in
    (rw c.get.ensures.0 (chooses a.self.first a.self.room a.self.pairs a.self.count a.s.now c.fewer_flagged-r.result.now a.self.some_room fits.first_fits fits.second_fits part_is), c.get.ensures.1)
